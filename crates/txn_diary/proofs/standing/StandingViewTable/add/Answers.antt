use Rattle.std.proofs.Common.{◌∙◌, ap, nat_eq, Some, ◌+◌, arith}
use Rattle.std.specs.HashMap.{get}
use Rattle.txn_machine.specs.Machine.{used_in}
use Rattle.txn_diary.proofs.Places.{numbers_more, value_here, value_other}
use Rattle.txn_diary.proofs.standing.StandingViewTable.add.Goals as goal

pub returns : goal.returns
returns g c =
    let t = c.args.self.now in
    numbers_more (λ number. used_in (get nat_eq t.used number)) (λ number. used_in (get nat_eq c.insert_within.new.map number)) t.count (Some c.args.used)
    (λ n le. ap used_in (c.insert_within.ensures n ∙ value_other n (t.count + 1) (Some (Some c.args.used)) (get nat_eq t.used n) (omega (arith, le)))) (ap used_in (c.insert_within.ensures (t.count + 1) ∙ value_here (t.count + 1) (Some (Some c.args.used)) (get nat_eq t.used (t.count + 1))))
