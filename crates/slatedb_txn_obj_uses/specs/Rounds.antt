-- The middle of figures.
use Rattle.std.specs.Prelude.{◌≡◌, ℕ, ◌/◌, List, length, slice_get, Some, IsPermutation, IsSorted}
use Rattle.std.specs.Ordering.{nat_cmp}

-- the figure that stands in the middle of the same figures in their order
abbrev pub IsMiddle : List ℕ → ℕ → Type 0
IsMiddle figures middle = (sorted : List ℕ) × IsPermutation figures sorted × IsSorted nat_cmp sorted × (slice_get sorted (length sorted / 2) ≡ Some middle)
