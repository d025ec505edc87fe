use Rattle.std.proofs.Common.{arith, ◌+◌, ◌*◌, length}
use Rattle.txn_world_threads.proofs.Doing.{does_next}
use Rattle.txn_world_threads.proofs.jobs.end_of.Goals as goal

pub returns-in-Err-clause-goes : goal.returns-in-Err-clause-goes
returns-in-Err-clause-goes g c = g.met.X.Caller.laws.further c.args.worker.now.caller c.loop-one.worker.caller c.do_job.new.worker.caller (400 * c.loop-one.one-index) 400 (400 * length c.args.jobs.now) c.loop-one.invariant.0 c.do_job.ensures.goes (omega arith)

pub returns-in-Err-clause-done : goal.returns-in-Err-clause-done
returns-in-Err-clause-done g c is = absurd (c.in-Err.ensures.stops is)

pub loop-one-preserved : goal.loop-one-preserved
loop-one-preserved g c = (
  g.met.X.Caller.laws.further c.args.worker.now.caller c.loop-one.worker.caller c.do_job.new.worker.caller (400 * c.loop-one.one-index) 400 (400 * (c.loop-one.one-index + 1)) c.loop-one.invariant.0 c.do_job.ensures.goes (omega arith),
  does_next g.X.Caller.took c.args.jobs.now c.loop-one.one-index c.one-item.result c.args.worker.now.caller c.loop-one.worker.caller c.do_job.new.worker.caller c.loop-one-test.true c.one-item.is c.loop-one.invariant.1 c.in-Ok.ensures.done,
)
