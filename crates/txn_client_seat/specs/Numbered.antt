-- What waits under numbers.
use Rattle.std.specs.Prelude.{ℕ, ◌==◌, not, if◌then◌else◌, List, [], ◌∷◌, Option, Some, None}
use Rattle.std.specs.List.{filter}

module _ {A : Type 0} where
  -- what waits under this number: the first, where there are more
  abbrev pub waits_at : ℕ → List (ℕ × A) → Option A
  waits_at number [] = None
  waits_at number (one ∷ rest) = if one.0 == number then Some one.1 else waits_at number rest

  -- what waits under other numbers
  abbrev pub without : ℕ → List (ℕ × A) → List (ℕ × A)
  without number waiting = filter (λ one. not (one.0 == number)) waiting

  -- what waits under this number from now on, where there is something
  abbrev pub as_waiting : ℕ → Option A → List (ℕ × A)
  as_waiting number None = []
  as_waiting number (Some value) = (number, value) ∷ []
