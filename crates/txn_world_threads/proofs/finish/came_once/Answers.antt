use Rattle.std.proofs.Common.{rules}
use Rattle.txn_world_threads.specs.Kept.{shares_of}
use Rattle.txn_world_threads.proofs.Shares.{one_further}
use Rattle.txn_world_threads.proofs.finish.came_once.Goals as goal

pub loop-before-preserved : goal.loop-before-preserved
loop-before-preserved c = one_further (shares_of c.args.shares.now) c.loop-before.before 1 c.loop-before.invariant (search rules)
