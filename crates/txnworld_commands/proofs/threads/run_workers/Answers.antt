use Rattle.txnworld_commands.proofs.Ready.{shares_numbered}
use Rattle.txnworld_commands.proofs.threads.run_workers.Goals as goal

pub work_off-requires-clause-numbers : goal.work_off-requires-clause-numbers
work_off-requires-clause-numbers g c κs within = shares_numbered c.args.workers c.in_ok-kept.shares.items c.in_ok-kept.ensures.shares
