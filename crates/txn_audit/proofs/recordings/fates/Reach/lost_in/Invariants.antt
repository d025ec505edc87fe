-- those of the rows before this, each counted once
use Rattle.std.proofs.Common.{◌≡◌, ◌≤◌}
use Rattle.txn_audit.specs.recordings.Undecided.{lost_in}
use Rattle.txn_audit.proofs.recordings.fates.Reach.lost_in.Given as goal

abbrev pub invariant-loop-place : goal.invariant-loop-place
invariant-loop-place g l = (l.lost ≡ lost_in l.self.version l.self.boundary l.rows l.place) × (l.lost ≤ l.place)
