use Rattle.txn_history.specs.declared.event.ToldOf.TheVariants as told
use Rattle.txn_audit.proofs.recordings.Telling.{looked}
use Rattle.txn_audit.proofs.recordings.stage.Rebuilding.look.Goals as goal

pub returns-clause-told : goal.returns-clause-told
returns-clause-told g c recorded stands =
    let old = c.args.self.now in
    let did = c.in_ok-told.ensures.ok in
    let stage_is = c.in_ok-go_on.ensures (told.Went old.begun) old.begun did.answer tt did.said_is in
    looked g.T.TextForm.text old.diary.rows c.look.new.self.rows old.begun did.answer recorded old.stage c.go_on.new.stage did.adds.rows c.requires.runs stands stage_is
