use Rattle.std.proofs.Common.{◌≡◌, ◌≤◌, ◌++◌, take, replicate, string_bytes, encode_utf8_all}
use Rattle.txn_drawing_moments.proofs.cells.Cells.text.Given as goal

-- with the blanks that were passed over the text is what was read
abbrev pub invariant-loop-cell : goal.invariant-loop-cell
invariant-loop-cell l = (string_bytes l.text ++ replicate l.blanks 32 ≡ encode_utf8_all (take l.cell-index l.cell-items)) × (l.blanks ≤ l.cell-index)

-- so many of the blanks are written
abbrev pub invariant-loop : goal.invariant-loop
invariant-loop l = string_bytes l.text ≡ string_bytes l.initial.text ++ replicate l.counter 32
