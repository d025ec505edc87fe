use Rattle.txn_audit.proofs.recordings.Telling.{goes_on_more, same_more}
use Rattle.txn_audit.proofs.recordings.stage.Rebuilding.look_on.Goals as goal

pub loop-preserved : goal.loop-preserved
loop-preserved g c =
    let old = c.args.self.now in
    let now = c.loop.self in
    let new = c.look.new.self in (
      goes_on_more g.T.TextForm.text old.diary.rows now.diary.rows new.diary.rows old.begun now.begun new.begun old.stage now.stage new.stage c.loop.invariant.0 c.in_ok-look.ensures.told,
      same_more old.diary now.diary new.diary c.loop.invariant.1 c.in_ok-look.ensures.same,
    )
