-- What a register stands for.
use Rattle.std.specs.Prelude.{◌≡◌, ℕ, List}

-- its values are the history, and nothing is fenced
abbrev pub Registered : List ℕ → List ℕ → ℕ → Type 0
Registered values h b = (h ≡ values) × (b ≡ 0)
