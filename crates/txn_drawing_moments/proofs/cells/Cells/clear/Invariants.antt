use Rattle.std.proofs.Common.{◌≡◌, length, replicate, take}
use Rattle.txn_drawing_moments.proofs.cells.Cells.clear.Given as goal

-- the places so far are blanks
abbrev pub invariant-loop-cell : goal.invariant-loop-cell
invariant-loop-cell l = (length l.cell-items ≡ length l.fn.self) × (take l.cell-index l.cell-items ≡ replicate l.cell-index 32)
