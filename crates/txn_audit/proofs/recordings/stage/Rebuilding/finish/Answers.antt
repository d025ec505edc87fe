use Rattle.txn_audit.proofs.recordings.Telling.{killed_ended, killed_answer}
use Rattle.txn_audit.proofs.recordings.stage.Rebuilding.finish.Goals as goal

pub returns-in_ok-killed-clause-told : goal.returns-in_ok-killed-clause-told
returns-in_ok-killed-clause-told g c recorded stands =
    let old = c.args.self.now in
    let did = c.in_ok-killed.ensures.ok in
    let none = killed_answer old.diary.page (g.C.ObjectCodec.encoded old.diary.codec) (g.C.ObjectCodec.decoded old.diary.codec) (g.E.EpochField.epoch_of old.diary.epochs) (g.E.EpochField.with_epoch old.diary.epochs) old.diary.client old.diary.part c.killed.new.self.part did.row.step did.row.answer did.ends did.adds.follows in
    killed_ended g.T.TextForm.text old.diary.rows c.killed.new.self.rows did.row.step did.row.answer old.begun recorded old.stage did.adds.rows did.ends none stands
