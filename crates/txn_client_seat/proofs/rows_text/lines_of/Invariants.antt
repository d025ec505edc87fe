use Rattle.std.proofs.Common.{◌≡◌, ◌++◌, string_bytes, drop}
use Rattle.txn_client_seat.specs.Kept.{lines_of}
use Rattle.txn_client_seat.proofs.rows_text.lines_of.Given as goal

-- with the lines of the rows that are left the text is whole
abbrev pub invariant-loop-row : goal.invariant-loop-row
invariant-loop-row l = string_bytes l.text ++ lines_of (drop l.row-index l.rows) ≡ lines_of l.rows
