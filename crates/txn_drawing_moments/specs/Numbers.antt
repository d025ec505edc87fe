-- The numbers of moments.
use Rattle.std.specs.Prelude.{◌≡◌, ℕ, ◌+◌, ◌-◌, ◌<◌, List, [], ◌∷◌, ◌++◌, length, slice_index_or}
use Rattle.txn_drawing_moments.specs.declared.moment.Moment.{Moment}

-- Moments are numbered from 1, in their order.
abbrev pub IsNumbered : List Moment → Type 0
IsNumbered moments = (k : ℕ) (d : Moment) → k < length moments → (slice_index_or moments k d).number ≡ k + 1

-- The last moment, if there is one, leaves one more request in flight, and the moments before it stay.
abbrev pub LeavesLast : List Moment → List Moment → ℕ → Type 0
LeavesLast old new number =
    ((d : Moment) → 0 < length old → (slice_index_or new (length old - 1) d).left.items ≡ (slice_index_or old (length old - 1) d).left.items ++ number ∷ [])
    × ((k : ℕ) (d : Moment) → k + 1 < length old → slice_index_or new k d ≡ slice_index_or old k d)
