use Rattle.std.proofs.Common.{ℕ, ◌≡◌, ◌∙◌, ◌++◌, List, Some, ap, subst, sym}
use Rattle.txn_client_seat.specs.UncheckedCalls.{UncheckedState, TakesUnchecked, AreInRange, Suits, goes_on, unchecked_of}
use Rattle.txn_client_seat.specs.declared.unchecked_op.UncheckedOp.{UncheckedOp}
use Rattle.txn_client_seat.specs.Numbered.{waits_at, without}
use Rattle.txn_client_seat.proofs.Ranges.{found_in_range, left_in_range, suits_so}
use Rattle.txn_client_seat.proofs.unchecked_calls.UncheckedCalls.take.Goals as goal

found : (c : goal.After-take-arg-3-1) → waits_at c.args.op c.self.inside.running.items ≡ Some c.in-Some.operation
found c = ap (waits_at c.args.op) (sym c.reserve.ensures.items) ∙ sym c.take_out.ensures.found ∙ c.in-Some.is

left : (c : goal.After-go_on) → c.go_on.new.running.items ≡ without c.args.op c.self.inside.running.items ++ goes_on c.args.op c.take-answer.new.self c.take-answer.result
left c = c.go_on.ensures ∙ ap (λ l. l ++ goes_on c.args.op c.take-answer.new.self c.take-answer.result) (c.take_out.ensures.left ∙ ap (without c.args.op) c.reserve.ensures.items)

pub take-answer-requires-clause-range : goal.take-answer-requires-clause-range
take-answer-requires-clause-range c = found_in_range c.args.op c.self.inside.running.items c.in-Some.operation c.self.invariant.2 (found c)

pub invariant_of-self-2 : goal.invariant_of-self-2
invariant_of-self-2 c = (c.self.invariant.0, c.self.invariant.1, subst AreInRange (sym (left c)) (left_in_range c.args.op c.self.inside.running.items c.take-answer.new.self c.take-answer.result c.self.invariant.2 c.take-answer.ensures.range))

pub returns-clause-ok : goal.returns-clause-ok
returns-clause-ok c =
    subst (λ (s : UncheckedState). TakesUnchecked s c.args.op c.args.reply c.take-answer.result (unchecked_of c.self.inside.layout.page c.self.inside.begun c.go_on.new.running.items c.take-answer.new.cached)) c.self.view_is (record {
      operation = c.in-Some.operation;
      runs = ap (waits_at c.args.op) (sym c.reserve.ensures.items) ∙ sym c.take_out.ensures.found ∙ c.in-Some.is;
      kind = suits_so (waits_at c.args.op c.self.inside.running.items) c.args.reply c.in-Some.operation (subst (λ (l : List (ℕ × UncheckedOp)). Suits (waits_at c.args.op l) c.args.reply) c.as_slice.ensures.value c.in_ok-suits.ensures.ok) (ap (waits_at c.args.op) (sym c.reserve.ensures.items) ∙ sym c.take_out.ensures.found ∙ c.in-Some.is);
      next = c.take-answer.new.self;
      cached = c.take-answer.new.cached;
      turns = c.take-answer.ensures.turns;
      left = ap (λ l. unchecked_of c.self.inside.layout.page c.self.inside.begun l c.take-answer.new.cached) (left c);
    })
