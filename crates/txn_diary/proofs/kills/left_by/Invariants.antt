use Rattle.std.proofs.Common.{◌≡◌, ◌+◌, ◌++◌, map, drop}
use Rattle.txn_history.specs.GoesOn.{all_left_loose}
use Rattle.txn_machine.specs.Machine.{seen_operations}
use Rattle.txn_client_journals.specs.Journals.{as_pair}
use Rattle.txn_diary.proofs.kills.left_by.Given as goal

-- with what the rest leaves it is what all leave
abbrev pub invariant-loop-operation : goal.invariant-loop-operation
invariant-loop-operation g l = (map as_pair l.lefts.items ++ all_left_loose l.fn.client l.op (seen_operations (drop l.operation-index l.operations)) ≡ all_left_loose l.fn.client l.fn.first (seen_operations l.operations)) × (l.op ≡ l.operation-index + l.fn.first)
