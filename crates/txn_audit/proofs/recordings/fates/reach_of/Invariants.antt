-- as far as the replies of the recordings before this show
use Rattle.std.proofs.Common.{◌≡◌, map}
use Rattle.txn_audit.specs.recordings.Undecided.{version_in, boundary_in, greatest_of}
use Rattle.txn_audit.proofs.recordings.fates.reach_of.Given as goal

abbrev pub invariant-loop-recording : goal.invariant-loop-recording
invariant-loop-recording g l = (l.reach.version ≡ greatest_of version_in (map (λ rows. rows.items) l.recordings) l.recording) × (l.reach.boundary ≡ greatest_of boundary_in (map (λ rows. rows.items) l.recordings) l.recording)
