-- those of the recordings before this, as far as 64 bits count
use Rattle.std.proofs.Common.{◌≡◌, map, min}
use Rattle.txn_audit.specs.recordings.Undecided.{lost_of}
use Rattle.txn_audit.proofs.recordings.fates.undecided.Given as goal

abbrev pub invariant-loop-recording : goal.invariant-loop-recording
invariant-loop-recording g l = l.lost ≡ min (lost_of l.reach.version l.reach.boundary (map (λ rows. rows.items) l.recordings) l.recording) 18446744073709551615
