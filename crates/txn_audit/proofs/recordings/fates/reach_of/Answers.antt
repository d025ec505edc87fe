use Rattle.txn_audit.specs.recordings.Undecided.{version_in, boundary_in}
use Rattle.txn_audit.proofs.recordings.Counting.{greatest_more}
use Rattle.txn_audit.proofs.recordings.fates.reach_of.Goals as goal

pub loop-recording-preserved : goal.loop-recording-preserved
loop-recording-preserved g c =
    let l = c.loop-recording in
    let rows = c.index-recordings-recording.result in (
      greatest_more (λ rows. rows.items) c.args.recordings.now l.recording rows c.loop-recording-test.true c.index-recordings-recording.is version_in l.reach.version c.with_all-reach.result.version l.invariant.0 (rw c.as_slice.ensures.value at c.with_all-reach.ensures.version),
      greatest_more (λ rows. rows.items) c.args.recordings.now l.recording rows c.loop-recording-test.true c.index-recordings-recording.is boundary_in l.reach.boundary c.with_all-reach.result.boundary l.invariant.1 (rw c.as_slice.ensures.value at c.with_all-reach.ensures.boundary),
    )
