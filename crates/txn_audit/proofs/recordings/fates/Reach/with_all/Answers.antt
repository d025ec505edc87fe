use Rattle.txn_audit.specs.recordings.Undecided.{version_in, boundary_in}
use Rattle.txn_audit.proofs.recordings.Counting.{shown_more}
use Rattle.txn_audit.proofs.recordings.fates.Reach.with_all.Goals as goal

pub loop-place-preserved : goal.loop-place-preserved
loop-place-preserved g c =
    let l = c.loop-place in (
      shown_more version_in c.args.rows.now l.place c.args.self.version l.reach.version c.with-reach.result.version _ c.shown_at.ensures l.invariant.0 c.with-reach.ensures.version,
      shown_more boundary_in c.args.rows.now l.place c.args.self.boundary l.reach.boundary c.with-reach.result.boundary _ c.shown_at.ensures l.invariant.1 c.with-reach.ensures.boundary,
    )
