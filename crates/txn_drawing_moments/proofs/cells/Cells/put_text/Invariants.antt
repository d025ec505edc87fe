use Rattle.std.proofs.Common.{◌≡◌, ℕ, ◌<◌, length, slice_index}
use Rattle.txn_drawing_moments.proofs.cells.Cells.put_text.Given as goal

-- the places before the text stay
abbrev pub invariant-loop-place : goal.invariant-loop-place
invariant-loop-place l = (length l.self ≡ length l.fn.self) × ((k : ℕ) → k < l.fn.at → slice_index l.self k ≡ slice_index l.fn.self k)
