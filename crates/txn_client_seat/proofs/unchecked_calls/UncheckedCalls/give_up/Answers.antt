use Rattle.std.proofs.Common.{ℕ, ◌==◌, not, List, subst, sym}
use Rattle.std.proofs.lemmas.List.Elements.{All-filter}
use Rattle.txn_client_seat.specs.declared.unchecked_op.UncheckedOp.{UncheckedOp}
use Rattle.txn_client_seat.specs.UncheckedOps.{IsInRange}
use Rattle.txn_client_seat.specs.UncheckedCalls.{AreInRange}
use Rattle.txn_client_seat.proofs.unchecked_calls.UncheckedCalls.give_up.Goals as goal

pub invariant_of-self : goal.invariant_of-self
invariant_of-self c = (c.self.invariant.0, c.self.invariant.1, subst AreInRange (sym c.drop_at.ensures.items) (All-filter (λ one. not (one.0 == c.args.op)) (λ one. IsInRange one.1) c.self.inside.running.items c.self.invariant.2))
