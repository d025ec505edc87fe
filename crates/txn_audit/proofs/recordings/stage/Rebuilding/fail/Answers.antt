use Rattle.std.proofs.Common.{sym, ◌∙◌}
use Rattle.txn_history.specs.declared.event.ToldOf.TheVariants as told
use Rattle.txn_audit.proofs.recordings.Telling.{failed, failed_request}
use Rattle.txn_audit.proofs.recordings.stage.Rebuilding.fail.Goals as goal

pub returns-clause-told : goal.returns-clause-told
returns-clause-told g c recorded stands =
    let old = c.args.self.now in
    let found = c.in_ok-told.ensures.ok in
    let did = found.1 in
    let asks = sym c.asks.ensures ∙ c.asks_this.ensures.0 c.if-not-asks_this.false in
    let same = failed_request (g.E.EpochField.epoch_of old.diary.epochs) old.diary c.args.op c.in_ok-asked.asked.now found.0 did.answer c.failed.new.self.part asks did.adds.follows in
    let stage_is = c.in_ok-go_on.ensures (told.Went c.args.op) c.args.op did.answer tt did.said_is in
    failed g.T.TextForm.text old.diary.rows c.failed.new.self.rows old.begun c.args.op found.0 c.in_ok-asked.asked did.answer recorded old.stage c.go_on.new.stage did.adds.rows (c.is_last.ensures.0 c.if-not-is_last.false) same c.in_ok-asked.ensures stands stage_is
