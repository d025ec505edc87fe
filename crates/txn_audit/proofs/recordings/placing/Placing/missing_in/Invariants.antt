-- each row before this that has a reply is placed
use Rattle.txn_audit.specs.recordings.Places.{ArePlaced}
use Rattle.txn_audit.proofs.recordings.placing.Placing.missing_in.Given as goal

abbrev pub invariant-loop-place : goal.invariant-loop-place
invariant-loop-place g l = ArePlaced l.self l.recording l.rows l.place
