use Rattle.std.proofs.Common.{◌∙◌, ap, sym, nat_eq, arith}
use Rattle.std.specs.HashMap.{get}
use Rattle.txn_machine.specs.Machine.{used_in}
use Rattle.txn_diary.proofs.Places.{used_at_number, used_past_numbers}
use Rattle.txn_diary.proofs.standing.StandingViewTable.used.Goals as goal

pub returns-then-number-self : goal.returns-then-number-self
returns-then-number-self g c = let t = c.args.self.now in sym (used_past_numbers (λ number. used_in (get nat_eq t.used number)) t.count c.args.number (omega (arith, c.if-number-self.true)))

pub returns-in-Some : goal.returns-in-Some
returns-in-Some g c =
    let t = c.args.self.now in
    c.as_ref.ensures.value ∙ (ap used_in c.in-Some.ensures.value ∙ sym (used_at_number (λ number. used_in (get nat_eq t.used number)) t.count c.args.number (omega (arith, c.if-number-eq0.false)) (omega (arith, c.if-number-self.false))))

pub returns-in-None : goal.returns-in-None
returns-in-None g c =
    let t = c.args.self.now in
    ap used_in c.in-None.ensures.value ∙ sym (used_at_number (λ number. used_in (get nat_eq t.used number)) t.count c.args.number (omega (arith, c.if-number-eq0.false)) (omega (arith, c.if-number-self.false)))
