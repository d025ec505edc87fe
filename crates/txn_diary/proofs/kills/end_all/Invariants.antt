use Rattle.std.proofs.Common.{◌≡◌, ◌++◌, map, take, drop}
use Rattle.txn_machine.specs.Machine.{ended_by}
use Rattle.txn_diary.proofs.kills.end_all.Given as goal

-- those before this place have ended, where they are the client's
abbrev pub invariant-loop-place : goal.invariant-loop-place
invariant-loop-place g l = l.operations.items ≡ map (ended_by l.fn.client) (take l.place l.fn.operations.items) ++ drop l.place l.fn.operations.items
