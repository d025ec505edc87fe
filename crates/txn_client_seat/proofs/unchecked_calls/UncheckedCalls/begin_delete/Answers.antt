-- One more operation runs, a delete, of which nothing is asked.
use Rattle.std.proofs.Common.{◌≡◌, ◌∙◌, ◌+◌, ◌≤◌, ◌++◌, ◌∷◌, [], ℕ, List, ap, subst, sym, rules}
use Rattle.std.proofs.lemmas.List.Elements.{All-push}
use Rattle.txn_client_seat.specs.declared.unchecked_op.UncheckedOp.{UncheckedOp}
use Rattle.txn_client_seat.specs.declared.unchecked_op.UncheckedOp.TheVariants.{Delete}
use Rattle.txn_client_seat.specs.UncheckedOps.{IsInRange}
use Rattle.txn_client_seat.specs.UncheckedCalls.{AreInRange}
use Rattle.txn_client_seat.proofs.unchecked_calls.UncheckedCalls.begin_delete.Goals as goal

pub invariant_of-self-2 : goal.invariant_of-self-2
invariant_of-self-2 c =
    let more : c.self.inside.begun + 1 ≤ 9223372036854775807 = search rules in
    let item : ℕ × UncheckedOp = (9223372036854775808 + c.self.inside.begun, Delete c.in_ok-delete.delete) in
    let running = c.push_within.ensures.items ∙ ap (λ (l : List (ℕ × UncheckedOp)). l ++ item ∷ []) c.in_ok-reserve.ensures.items in
    (c.self.invariant.0, more, subst AreInRange (sym running) (All-push (λ one. IsInRange one.1) c.self.inside.running.items item c.self.invariant.2 tt))
