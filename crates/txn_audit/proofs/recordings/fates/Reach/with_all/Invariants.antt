-- as far as the replies of the rows before this show
use Rattle.std.proofs.Common.{◌≡◌, max}
use Rattle.txn_audit.specs.recordings.Undecided.{version_in, boundary_in, greatest_in}
use Rattle.txn_audit.proofs.recordings.fates.Reach.with_all.Given as goal

abbrev pub invariant-loop-place : goal.invariant-loop-place
invariant-loop-place g l = (l.reach.version ≡ max l.fn.self.version (greatest_in version_in l.rows l.place)) × (l.reach.boundary ≡ max l.fn.self.boundary (greatest_in boundary_in l.rows l.place))
