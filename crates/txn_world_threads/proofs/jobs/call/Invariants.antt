use Rattle.txn_world_threads.proofs.Doing.{IsUnderWay}
use Rattle.txn_world_threads.proofs.jobs.call.Given as goal

-- one event at most for each turn, and whatever the rest lead to, all of them do
abbrev pub invariant-loop : goal.invariant-loop
invariant-loop g l = g.X.Caller.goes l.fn.worker.caller l.counter l.worker.caller × IsUnderWay g.X.Caller.took l.counter l.fn.worker.caller l.fn.call l.worker.caller l.next
