use Rattle.std.proofs.Common.{◌*◌, take}
use Rattle.txn_world_threads.specs.Done.{DoesJobs}
use Rattle.txn_world_threads.proofs.jobs.end_of.Given as goal

-- two calls at most for each job, and those before were done
abbrev pub invariant-loop-one : goal.invariant-loop-one
invariant-loop-one g l = g.X.Caller.goes l.fn.worker.caller (400 * l.one-index) l.worker.caller × DoesJobs g.X.Caller.took l.fn.worker.caller (take l.one-index l.jobs) l.worker.caller
