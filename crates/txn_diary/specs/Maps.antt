-- Maps by numbers.
use Rattle.std.specs.Prelude.{ℕ, nat_eq, if◌then◌else◌, Option}

-- the value at a number n, where that of this number is now this, else what was found there
abbrev pub value_at : {V : Type 0} → ℕ → ℕ → Option V → Option V → Option V
value_at n number value found = if nat_eq n number then value else found
