use Rattle.txn_folder.proofs.steps.Moments.{moment}
use Rattle.txn_folder.proofs.steps.scans.settled_scans_tell_a_moment.Goals as goal

pub returns : goal.returns
returns c stood end next later third_from first second third run a s = moment c.args.last stood end next later third_from first second third run a s
