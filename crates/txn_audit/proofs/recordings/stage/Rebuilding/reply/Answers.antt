use Rattle.txn_history.specs.declared.event.ToldOf.TheVariants as told
use Rattle.txn_audit.proofs.recordings.Telling.{replied}
use Rattle.txn_audit.proofs.recordings.stage.Rebuilding.reply.Goals as goal

pub returns-clause-told : goal.returns-clause-told
returns-clause-told g c recorded stands =
    let old = c.args.self.now in
    let did = c.in_ok-told.ensures.ok in
    let stage_is = c.in_ok-go_on.ensures (told.Went c.args.op) c.args.op did.answer tt did.said_is in
    replied g.T.TextForm.text old.diary.rows c.receive.new.self.rows old.begun c.args.op _ c.in_ok-asked.asked c.args.reply.now did.answer recorded old.stage c.go_on.new.stage did.adds.rows (c.is_last.ensures.0 c.if-not-is_last.false) c.in_ok-request.ensures c.in_ok-reply.ensures c.in_ok-asked.ensures stands stage_is
