use Rattle.txn_world_threads.proofs.jobs.take.Goals as goal

pub returns-in_err-pass-clause-goes : goal.returns-in_err-pass-clause-goes
returns-in_err-pass-clause-goes g c = g.met.X.Caller.laws.none c.args.worker.now.caller 1
