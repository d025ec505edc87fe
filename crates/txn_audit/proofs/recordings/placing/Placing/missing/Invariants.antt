-- so is each in the recordings before this
use Rattle.std.proofs.Common.{map}
use Rattle.txn_audit.specs.recordings.Places.{AllArePlaced}
use Rattle.txn_audit.proofs.recordings.placing.Placing.missing.Given as goal

abbrev pub invariant-loop-recording : goal.invariant-loop-recording
invariant-loop-recording g l = AllArePlaced l.self (map (λ rows. rows.items) l.recordings) l.recording
