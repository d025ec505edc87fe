use Rattle.txn_audit.proofs.recordings.Placed.{placed_more}
use Rattle.txn_audit.proofs.recordings.placing.Placing.missing.Goals as goal

pub loop-recording-preserved : goal.loop-recording-preserved
loop-recording-preserved g c = placed_more (λ rows. rows.items) c.args.self.now c.args.recordings.now c.loop-recording.recording c.index-recordings-recording.result c.loop-recording-test.true c.index-recordings-recording.is c.loop-recording.invariant (rw c.as_slice.ensures.value at c.in_default.ensures)
