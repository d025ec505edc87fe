-- Lists that are counted from 1, and lists that ascend.
use Rattle.std.specs.Prelude.{◌≡◌, nat_eq, ℕ, zero, suc, Bool, List, Option, None, slice_get}
use Rattle.std.specs.Ordering.{nat_cmp}
use Rattle.std.specs.List.{list_any}
use Rattle.std.specs.List.Sorted.{IsStrictlySortedBy}

-- element n, counted from 1
abbrev pub numbered : {A : Type 0} → List A → ℕ → Option A
numbered xs zero = None
numbered xs (suc n) = slice_get xs n

-- the numbers that pass a test, each once and ascending
pub record AreAscending (is_one : ℕ → Bool) (ns : List ℕ) : Type 0 where
  pub ascending : IsStrictlySortedBy nat_cmp ns
  pub all : (n : ℕ) → list_any (nat_eq n) ns ≡ is_one n
