use Rattle.std.proofs.Common.{arith}
use Rattle.txn_audit.proofs.recordings.Telling.{same_more}
use Rattle.txn_audit.proofs.recordings.Following.{leads_more, leads_all}
use Rattle.txn_audit.proofs.recordings.rebuild.follow.Goals as goal

pub loop-place-preserved : goal.loop-place-preserved
loop-place-preserved g c =
    let old = c.args.rebuilding.now in
    let now = c.loop-place.rebuilding in
    let new = c.take.new.self in (
      leads_more g.T.TextForm.text c.args.rows.now c.loop-place.place c.index-rows-place.result old.diary.rows now.diary.rows new.diary.rows old.begun now.begun new.begun old.stage now.stage new.stage c.loop-place-test.true c.index-rows-place.is c.loop-place.invariant.0 c.in_default.ensures.told,
      same_more old.diary now.diary new.diary c.loop-place.invariant.1 c.in_default.ensures.same,
    )

pub returns-clause-told : goal.returns-clause-told
returns-clause-told g c =
    let old = c.args.rebuilding.now in
    let now = c.loop-place.rebuilding in
    leads_all g.T.TextForm.text c.args.rows.now c.loop-place.place old.diary.rows now.diary.rows old.begun now.begun old.stage now.stage (omega (arith, c.loop-place-test.false)) c.loop-place.invariant.0
