use Rattle.std.proofs.Common.{rules, arith, ap, sym, ◌∙◌}
use Rattle.txn_folder.proofs.steps.Scanning.{front_settles, front_within}
use Rattle.txn_folder.proofs.steps.scan.thrice.Goals as goal

pub overflow_add-len : goal.overflow_add-len
overflow_add-len c =
    let most = front_within c.args.last c.args.first.items c.args.second.items c.args.third.items c.in-Some.count (search rules) in
    let small = c.args.second.small in let long = c.len.ensures in
    omega (arith, most, small, long)

pub returns : goal.returns
returns c = front_settles c.args.last c.args.first.items c.args.second.items c.args.third.items c.in-Some.count (search rules) c.truncate.new.self.items (search rules)
