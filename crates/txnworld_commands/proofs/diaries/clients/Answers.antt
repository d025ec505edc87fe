use Rattle.std.proofs.Common.{rules}
use Rattle.txnworld_commands.proofs.Ready.{clients_more}
use Rattle.txnworld_commands.proofs.diaries.clients.Goals as goal

pub loop-before-preserved : goal.loop-before-preserved
loop-before-preserved c = clients_more _ _ _ _ c.loop-before.invariant c.in_ok-push.ensures.items (search rules)
