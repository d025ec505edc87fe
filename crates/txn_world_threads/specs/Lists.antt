-- Lists of what a function gives.
use Rattle.std.specs.Prelude.{◌≡◌, ◌<◌, ℕ, List, Some, length, slice_get}

-- so many elements: element k, counted from 0, is f k
pub record AreEach {A : Type 0} (f : ℕ → A) (n : ℕ) (xs : List A) : Type 0 where
  pub all : length xs ≡ n
  pub each : (k : ℕ) → k < n → slice_get xs k ≡ Some (f k)
