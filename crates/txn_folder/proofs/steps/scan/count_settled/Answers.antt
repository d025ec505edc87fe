use Rattle.std.proofs.Common.{ℕ, length, option_map, ap, sym}
use Rattle.txn_folder.proofs.steps.Scanning.{settled_here, unsettled}
use Rattle.txn_folder.proofs.steps.scan.count_settled.Goals as goal

pub returns-in-Some : goal.returns-in-Some
returns-in-Some c = sym (ap (option_map (length {A = ℕ})) (settled_here c.args.last c.args.first.now c.args.second.now c.args.third.now c.in-Some.run'.now c.in-Some.ensures))

pub returns-in-None : goal.returns-in-None
returns-in-None c = sym (ap (option_map (length {A = ℕ})) (unsettled c.args.last c.args.first.now c.args.second.now c.args.third.now c.in-None.ensures))
