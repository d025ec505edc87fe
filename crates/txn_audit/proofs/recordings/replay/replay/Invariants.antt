-- The rows of the log so far are recorded calls in time, and noted.
use Rattle.std.proofs.Common.{map}
use Rattle.txn_audit.specs.recordings.Places.{IsSoFar}
use Rattle.txn_audit.proofs.recordings.replay.replay.Given as goal

abbrev pub invariant-loop-placed : goal.invariant-loop-placed
invariant-loop-placed g l = IsSoFar (map (λ rows. rows.items) l.recordings) l.clocks l.log l.placing
