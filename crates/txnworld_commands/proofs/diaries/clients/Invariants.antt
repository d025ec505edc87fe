use Rattle.txnworld_commands.specs.Audits.{AreClients}
use Rattle.txnworld_commands.proofs.diaries.clients.Given as goal

-- the clients so far
abbrev pub invariant-loop-before : goal.invariant-loop-before
invariant-loop-before l = AreClients l.before l.clients.items
