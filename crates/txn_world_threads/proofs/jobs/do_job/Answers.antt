use Rattle.std.proofs.Common.{rules, ◌≡◌}
use Rattle.txn_world_threads.proofs.jobs.do_job.Goals as goal

pub returns-in_default-clause-goes : goal.returns-in_default-clause-goes
returns-in_default-clause-goes g c = g.met.X.Caller.laws.none c.args.worker.now.caller 400

pub returns-in_default-clone-clause-goes : goal.returns-in_default-clone-clause-goes
returns-in_default-clone-clause-goes g c = g.met.X.Caller.laws.none c.args.worker.now.caller 400

pub returns-in_ok-call-in-Call-clause-done : goal.returns-in_ok-call-in-Call-clause-done
returns-in_ok-call-in-Call-clause-done g c = rw (c.in-Call.is) (c.in_ok-call-in-Call.field-0, rw (← c.in-Ok.ensures) c.in_ok-call-in-Call.ensures.made)

pub returns-in-Ok-clone-clause-done : goal.returns-in-Ok-clone-clause-done
returns-in-Ok-clone-clause-done g c =
    let same : c.in-Ok-clone.value ≡ c.in-WriteOnRead.value = search rules in
    rw (c.in-WriteOnRead.is, ← same) c.write_on_read.ensures.done
