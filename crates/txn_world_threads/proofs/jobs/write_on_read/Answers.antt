use Rattle.std.proofs.Common.{arith, inl, inr, subst}
use Rattle.txn_history.specs.declared.event.PlainCall.TheVariants as plain
use Rattle.txn_history.specs.declared.event.Call.TheVariants as calls
use Rattle.txn_world_threads.specs.Done.{MakesCall}
use Rattle.txn_world_threads.proofs.Doing.{none_by}
use Rattle.txn_world_threads.proofs.jobs.write_on_read.Goals as goal

pub returns-in_err-call-clause-goes : goal.returns-in_err-call-clause-goes
returns-in_err-call-clause-goes g c = g.met.X.Caller.laws.further c.args.worker.now.caller c.call.new.worker.caller c.call-in-Some.new.worker.caller 200 200 400 c.call.ensures.goes c.call-in-Some.ensures.goes (omega arith)

pub returns-in_ok-call-clause-goes : goal.returns-in_ok-call-clause-goes
returns-in_ok-call-clause-goes g c = g.met.X.Caller.laws.further c.args.worker.now.caller c.call.new.worker.caller c.call-in-Some.new.worker.caller 200 200 400 c.call.ensures.goes c.call-in-Some.ensures.goes (omega arith)

pub returns-in_ok-call-clause-done : goal.returns-in_ok-call-clause-done
returns-in_ok-call-clause-done g c = inr (
  c.in-Some.base,
  c.call.new.worker.caller,
  subst (λ base. MakesCall g.X.Caller.took c.args.worker.now.caller (calls.Plain plain.Read) base c.call.new.worker.caller) c.in-Some.is c.in_ok-base.ensures.made,
  (c.in_ok-call.field-0, c.in_ok-call.ensures.made),
)

pub returns-in_default-clause-done : goal.returns-in_default-clause-done
returns-in_default-clause-done g c = inl (subst (λ base. MakesCall g.X.Caller.took c.args.worker.now.caller (calls.Plain plain.Read) base c.call.new.worker.caller) (none_by c.in_ok-base.field-0 (λ base is. c.in_default.not-Some base is)) c.in_ok-base.ensures.made)
