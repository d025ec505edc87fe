use Rattle.txn_audit.proofs.recordings.Telling.{gave_up}
use Rattle.txn_audit.proofs.recordings.stage.Rebuilding.give_up.Goals as goal

pub returns-clause-told : goal.returns-clause-told
returns-clause-told g c recorded stands =
    let old = c.args.self.now in
    let found = c.in_ok-told.ensures.ok in
    let did = found.1 in
    rw c.enter.ensures (gave_up g.T.TextForm.text old.diary.rows c.give_up.new.self.rows old.begun c.args.op found.0 did.answer recorded old.stage did.adds.rows (c.is_last.ensures.0 c.if-not-is_last.false) did.adds.follows.tells (c.is_running.ensures.0 c.if-not-is_running.false) stands)
