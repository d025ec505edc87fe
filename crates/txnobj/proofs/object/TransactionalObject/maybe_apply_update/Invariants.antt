use Rattle.std.specs.Fn.{FnReturnsAt}
use Rattle.txnobj.specs.Retrying.{Round}
use Rattle.txnobj.specs.Rounds.{Rounds}
use Rattle.txnobj.proofs.object.TransactionalObject.maybe_apply_update.Given as goal

-- so far there were rounds alone
abbrev pub invariant-loop-attempt : goal.invariant-loop-attempt
invariant-loop-attempt g l = Rounds (Round (λ object answer. FnReturnsAt g.F.Fn l.mutator object answer) g.Self.TransactionalObject.refreshes g.Self.TransactionalObject.updates) l._attempt (record { object = l.fn.self; protocol = l.fn.protocol }) (record { object = l.self; protocol = l.protocol })
