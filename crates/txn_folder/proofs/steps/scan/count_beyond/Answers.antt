use Rattle.std.proofs.Common.{ℕ, length, option_map, ap, sym}
use Rattle.txn_folder.proofs.steps.Scanning.{beyond_here, beyond_none}
use Rattle.txn_folder.proofs.steps.scan.count_beyond.Goals as goal

pub returns-in-Some : goal.returns-in-Some
returns-in-Some c = sym (ap (option_map (length {A = ℕ})) (beyond_here c.args.last c.args.these.now c.args.those.now c.in-Some.rest.now c.in-Some.ensures.0 c.in-Some.ensures.1))

pub returns-in-None : goal.returns-in-None
returns-in-None c = sym (ap (option_map (length {A = ℕ})) (beyond_none c.args.last c.args.these.now c.args.those.now c.in-None.ensures))
