use Rattle.std.proofs.Common.{◌++◌, ◌∷◌, []}
use Rattle.txnobj.specs.Claims.{Round}
use Rattle.txnobj.specs.Rounds.{Rounds}
use Rattle.txnobj.proofs.fenceable.claim.Given as goal

-- so far there were rounds alone
abbrev pub invariant-loop-attempt : goal.invariant-loop-attempt
invariant-loop-attempt g l = Rounds (Round g.P.TransactionalStorageProtocol.made g.P.TransactionalStorageProtocol.stopped g.P.TransactionalStorageProtocol.tells l.asked l.deadline.start l.timeout) l._attempt (record { view = l.fn.view; protocol = l.fn.protocol; readings = g.K.SystemClock.readings l.fn.clock ++ l.deadline.start ∷ [] }) (record { view = l.view; protocol = l.protocol; readings = g.K.SystemClock.readings l.clock })
