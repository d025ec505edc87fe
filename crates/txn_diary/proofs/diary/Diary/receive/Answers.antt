use Rattle.std.proofs.Common.{rules, ◌∙◌, ap, subst}
use Rattle.txn_machine.specs.plain.Doing.{first_of}
use Rattle.txn_client_journals.specs.declared.rows.Act.TheVariants as acts
use Rattle.txn_client_journals.specs.declared.rows.Step.TheVariants as steps
use Rattle.txn_diary.specs.Keepers.{IsReceiptFault}
use Rattle.txn_diary.specs.Diaries.{DiaryState, diary_of, asked_in}
use Rattle.txn_diary.proofs.Stepping.{lacks_receipt}
use Rattle.txn_diary.proofs.Diaries.{IsNoted, noted}
use Rattle.txn_diary.proofs.diary.Diary.receive.Goals.{After-note_act}
use Rattle.txn_diary.proofs.diary.Diary.receive.Goals as goal

pub returns-in_default-clause-refused : goal.returns-in_default-clause-refused
returns-in_default-clause-refused g c =
    let asked = c.asks.ensures ∙ (ap (λ rows. asked_in (diary_of c.self.inside.keeper rows) c.args.op) c.reserve.ensures.items ∙ ap (λ (d : DiaryState _ _ _). asked_in d c.args.op) c.self.view_is) in
    let due = subst (λ ask. IsReceiptFault ask c.args.receipt c.receipt_refusal.result) asked c.receipt_refusal.ensures in
    lacks_receipt (Unit {0}) (asked_in c.args.self.now c.args.op) c.args.receipt c.lack.result c.receipt_refusal.result due c.lack.ensures

row_of : (g : _) (c : After-note_act g) → IsNoted g.C.ObjectCodec.encoded g.C.ObjectCodec.decoded g.E.EpochField.epoch_of g.E.EpochField.with_epoch c.args.self.now (steps.Act c.args.op (acts.Receive c.args.receipt)) (first_of c.in_ok-answers.answers) c.receive.new.self c.note_act.new.rows.items
row_of g c =
    noted g.C.ObjectCodec.encoded g.C.ObjectCodec.decoded g.E.EpochField.epoch_of g.E.EpochField.with_epoch c.args.self.now c.self.inside.keeper c.receive.new.self c.self.inside.rows.items c.note_act.new.rows.items (steps.Act c.args.op (acts.Receive c.args.receipt)) (first_of c.in_ok-answers.answers) c.self.view_is c.self.invariant (search rules) c.in_ok-answers.ensures.ok

pub invariant_of-self-2 : goal.invariant_of-self-2
invariant_of-self-2 g c = (row_of g (goal.at.invariant_of-self-2 g c).After-note_act).kept

pub returns-clause-ok : goal.returns-clause-ok
returns-clause-ok g c = record { answer = first_of c.in_ok-answers.answers; said_is = c.note_act.ensures.told; adds = (row_of g (goal.at.returns-clause-ok g c).After-note_act).adds }
