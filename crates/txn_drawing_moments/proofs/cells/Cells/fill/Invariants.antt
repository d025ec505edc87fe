use Rattle.std.proofs.Common.{◌≡◌, ℕ, ◌<◌, ◌≤◌, max, length, slice_index}
use Rattle.txn_drawing_moments.specs.Lines.{filled_place}
use Rattle.txn_drawing_moments.proofs.cells.Cells.fill.Given as goal

-- the places so far are filled, and the others stay
abbrev pub invariant-loop-at : goal.invariant-loop-at
invariant-loop-at l =
    (length l.self-inside.cells.items ≡ length l.fn.self)
    × ((k : ℕ) → k < l.from → slice_index l.self-inside.cells.items k ≡ slice_index l.fn.self k)
    × ((k : ℕ) → l.from ≤ k → k < l.at → slice_index l.self-inside.cells.items k ≡ filled_place l.sign l.crossed k (slice_index l.fn.self k))
    × ((k : ℕ) → l.at ≤ k → slice_index l.self-inside.cells.items k ≡ slice_index l.fn.self k)
    × (l.at ≤ max l.from l.at-end)
