-- Clones of values.
use Rattle.std.specs.Prelude.{◌≡◌}

-- a clone is the same value
abbrev pub IsExactClone : {T : Type 0} → (T → T → Type 0) → Type 0
IsExactClone {T} is_clone = (value copy : T) → is_clone value copy → copy ≡ value
