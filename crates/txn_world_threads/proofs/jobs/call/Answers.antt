use Rattle.std.proofs.Common.{arith, ◌+◌, subst}
use Rattle.txn_world_threads.proofs.Doing.{is_begun, goes_more, ends_now}
use Rattle.txn_world_threads.proofs.jobs.call.Goals as goal

pub loop-init : goal.loop-init
loop-init g c = (g.met.X.Caller.laws.none c.args.worker.now.caller 0, is_begun g.X.Caller.took c.args.worker.now.caller c.args.call)

pub returns-in_err-op-clause-goes : goal.returns-in_err-op-clause-goes
returns-in_err-op-clause-goes g c = g.met.X.Caller.laws.further c.args.worker.now.caller c.loop.worker.caller c.take.new.worker.caller c.loop.counter 1 200 c.loop.invariant.0 c.take.ensures.goes (omega arith)

pub returns-in-Ended-clause-goes : goal.returns-in-Ended-clause-goes
returns-in-Ended-clause-goes g c = g.met.X.Caller.laws.further c.args.worker.now.caller c.loop.worker.caller c.take.new.worker.caller c.loop.counter 1 200 c.loop.invariant.0 c.take.ensures.goes (omega arith)

pub returns-in-Ended-clause-made : goal.returns-in-Ended-clause-made
returns-in-Ended-clause-made g c = ends_now g.X.Caller.took c.loop.counter c.in-Ended.base c.args.worker.now.caller c.loop.worker.caller c.take.new.worker.caller c.args.call c.loop.next (omega arith) c.loop.invariant.1
    (subst (λ heard. g.X.Caller.took c.loop.worker.caller c.loop.next heard c.take.new.worker.caller) c.in-Ended.is c.in_ok-op.ensures.took)

pub loop-preserved : goal.loop-preserved
loop-preserved g c = (
  g.met.X.Caller.laws.further c.args.worker.now.caller c.loop.worker.caller c.take.new.worker.caller c.loop.counter 1 (c.loop.counter + 1) c.loop.invariant.0 c.take.ensures.goes (omega arith),
  goes_more g.X.Caller.took c.loop.counter c.in-Goes.op c.args.worker.now.caller c.loop.worker.caller c.take.new.worker.caller c.args.call c.loop.next c.loop.invariant.1
      (subst (λ heard. g.X.Caller.took c.loop.worker.caller c.loop.next heard c.take.new.worker.caller) c.in-Goes.is c.in_ok-op.ensures.took),
)
