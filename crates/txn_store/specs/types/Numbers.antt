-- The numbers of bases, and numbers within bounds.
use Rattle.std.specs.Prelude.{ℕ, nat_le, nat_lt, unwrap_or, Option, Bool, true, ◌&&◌}
use Rattle.std.specs.declared.ops.Bound.{Bound}
use Rattle.std.specs.declared.ops.Bound.TheVariants as bounds

-- the number of a base, 0 for none
abbrev pub number_of : Option ℕ → ℕ
number_of base = unwrap_or base 0

-- a number lies at or above a lower bound
abbrev pub is_from : Bound ℕ → ℕ → Bool
is_from (bounds.Included m) n = nat_le m n
is_from (bounds.Excluded m) n = nat_lt m n
is_from bounds.Unbounded n = true

-- a number lies at or below an upper bound
abbrev pub is_to : Bound ℕ → ℕ → Bool
is_to (bounds.Included m) n = nat_le n m
is_to (bounds.Excluded m) n = nat_lt n m
is_to bounds.Unbounded n = true

-- a number lies within both
abbrev pub is_within : Bound ℕ → Bound ℕ → ℕ → Bool
is_within from to n = is_from from n && is_to to n
