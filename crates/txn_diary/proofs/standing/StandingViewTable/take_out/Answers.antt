use Rattle.std.proofs.Common.{◌≡◌, ◌∙◌, ap, sym, nat_eq, None, arith}
use Rattle.std.specs.HashMap.{get}
use Rattle.txn_machine.specs.Machine.{used_in}
use Rattle.txn_diary.proofs.Places.{used_at_number, used_past_numbers, numbers_out, numbers_set}
use Rattle.txn_diary.proofs.standing.StandingViewTable.take_out.Goals as goal

pub returns-then-number-self-clause-used : goal.returns-then-number-self-clause-used
returns-then-number-self-clause-used g c = let t = c.args.self.now in sym (used_past_numbers (λ number. used_in (get nat_eq t.used number)) t.count c.args.number (omega (arith, c.if-number-self.true)))

pub returns-then-number-self-clause-rest : goal.returns-then-number-self-clause-rest
returns-then-number-self-clause-rest g c = let t = c.args.self.now in sym (numbers_out (λ number. used_in (get nat_eq t.used number)) t.count c.args.number None (omega (arith, c.if-number-self.true)))

pub returns-clause-used : goal.returns-clause-used
returns-clause-used g c =
    let t = c.args.self.now in
    c.taken_from.ensures.taken ∙ sym (used_at_number (λ number. used_in (get nat_eq t.used number)) t.count c.args.number (omega (arith, c.requires)) (omega (arith, c.if-number-self.false)))

pub returns-clause-rest : goal.returns-clause-rest
returns-clause-rest g c =
    let t = c.args.self.now in
    numbers_set (λ number. used_in (get nat_eq t.used number)) (λ number. used_in (get nat_eq c.taken_from.new.map number)) t.count c.args.number None (omega (arith, c.requires))
    (λ n ne. ap used_in (c.taken_from.ensures.others n ne)) c.taken_from.ensures.left
