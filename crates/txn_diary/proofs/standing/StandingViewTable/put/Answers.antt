use Rattle.std.proofs.Common.{◌∙◌, ap, nat_eq, Some, None, arith}
use Rattle.std.specs.HashMap.{get}
use Rattle.txn_machine.specs.Machine.{used_in}
use Rattle.txn_diary.proofs.Places.{numbers_set, value_here, value_other}
use Rattle.txn_diary.proofs.standing.StandingViewTable.put.Goals as goal

pub returns-in-Some : goal.returns-in-Some
returns-in-Some g c =
    let t = c.args.self.now in
    rw c.in-Some.is (numbers_set (λ number. used_in (get nat_eq t.used number)) (λ number. used_in (get nat_eq c.put_into.new.map number)) t.count c.args.number (Some c.in-Some.used) (omega (arith, c.requires.some))
    (λ n ne. ap used_in (c.put_into.ensures.others n ne)) (ap used_in c.put_into.ensures.here))

pub returns-in-None : goal.returns-in-None
returns-in-None g c =
    let t = c.args.self.now in
    rw c.in-None.is (numbers_set (λ number. used_in (get nat_eq t.used number)) (λ number. used_in (get nat_eq c.remove.new.map number)) t.count c.args.number None (omega (arith, c.requires.some))
    (λ n ne. ap used_in (c.remove.ensures n ∙ value_other n c.args.number None (get nat_eq t.used n) ne)) (ap used_in (c.remove.ensures c.args.number ∙ value_here c.args.number None (get nat_eq t.used c.args.number))))
