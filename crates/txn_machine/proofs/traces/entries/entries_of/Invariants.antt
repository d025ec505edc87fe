use Rattle.std.proofs.Common.{◌≡◌, map, take, Some}
use Rattle.txn_history.specs.History.{history}
use Rattle.txn_machine.proofs.traces.entries.entries_of.Given as goal

-- the entries of the rows so far
abbrev pub invariant-loop-row : goal.invariant-loop-row
invariant-loop-row g l = map Some l.entries.items ≡ history (g.C.ObjectCodec.decoded l.layout.codec) (take l.row-index l.rows)
