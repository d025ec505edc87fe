use Rattle.std.proofs.Common.{unwrap_or}
use Rattle.txn_folder.proofs.steps.Scanning.{last_is}
use Rattle.txn_folder.proofs.steps.scan.last_of.Goals as goal

pub returns-in-Some : goal.returns-in-Some
returns-in-Some c = last_is (unwrap_or c.args.after 0) c.in-Some.id.now c.args.ids.now c.in-Some.ensures.value
