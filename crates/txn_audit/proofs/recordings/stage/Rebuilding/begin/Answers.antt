use Rattle.std.proofs.Common.{◌∙◌, ap, subst, ◌++◌, ◌∷◌, [], ◌+◌, length}
use Rattle.txn_history.specs.declared.event.ToldOf.TheVariants as told
use Rattle.txn_client_journals.specs.declared.rows.Step.TheVariants as steps
use Rattle.txn_script_lines.specs.Printed.{answered_text}
use Rattle.txn_audit.specs.recordings.Told.{journal_tells}
use Rattle.txn_audit.specs.recordings.Stages.{IsAt}
use Rattle.txn_audit.proofs.recordings.Telling.{began}
use Rattle.txn_audit.proofs.recordings.stage.Rebuilding.begin.Goals as goal

pub returns-clause-told : goal.returns-clause-told
returns-clause-told g c recorded stands =
    let text = g.T.TextForm.text in
    let old = c.args.self.now in
    let did = c.in_ok-told.ensures.ok in
    let op = length old.diary.part.operations + 1 in
    let stage_is = c.in_ok-go_on.ensures (told.Began op) op did.answer tt did.said_is in
    let tells = subst (IsAt old.begun recorded (journal_tells (answered_text text) 0 old.diary.rows)) (c.is_idle.ensures.0 c.if-not-is_idle.false) stands.1 in
    began text old.diary.rows c.begin.new.self.rows old.begun c.args.op c.args.call.now did.answer recorded c.go_on.new.stage (did.adds.rows ∙ ap (λ call. old.diary.rows ++ record { step = steps.Begin call; answer = did.answer } ∷ []) c.in_ok-call.ensures) stands.0 (c.is_next.ensures.0 c.if-not-is_next.false) tells stage_is
