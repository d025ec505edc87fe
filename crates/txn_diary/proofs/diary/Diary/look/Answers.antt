use Rattle.std.proofs.Common.{rules, false}
use Rattle.txn_machine.specs.plain.Doing.{first_of}
use Rattle.txn_client_journals.specs.declared.rows.Act.TheVariants as acts
use Rattle.txn_client_journals.specs.declared.rows.Step.TheVariants as steps
use Rattle.txn_history.specs.Allowed.{ask_fault}
use Rattle.txn_diary.specs.Diaries.{asked_in}
use Rattle.txn_diary.proofs.Stepping.{met_ask, met_lack}
use Rattle.txn_diary.proofs.Diaries.{IsNoted, noted}
use Rattle.txn_diary.proofs.diary.Diary.look.Goals.{After-note_act}
use Rattle.txn_diary.proofs.diary.Diary.look.Goals as goal

pub returns-in_default-clause-refused : goal.returns-in_default-clause-refused
returns-in_default-clause-refused g c =
    let ask = asked_in c.args.self.now c.args.op in
    met_lack (Unit {0}) c.lack.result (ask_fault false ask) (met_ask (Unit {0}) false ask) (search rules)

row_of : (g : _) (c : After-note_act g) → IsNoted g.C.ObjectCodec.encoded g.C.ObjectCodec.decoded g.E.EpochField.epoch_of g.E.EpochField.with_epoch c.args.self.now (steps.Act c.args.op acts.Look) (first_of c.in_ok-answers.answers) c.look.new.self c.note_act.new.rows.items
row_of g c =
    noted g.C.ObjectCodec.encoded g.C.ObjectCodec.decoded g.E.EpochField.epoch_of g.E.EpochField.with_epoch c.args.self.now c.self.inside.keeper c.look.new.self c.self.inside.rows.items c.note_act.new.rows.items (steps.Act c.args.op acts.Look) (first_of c.in_ok-answers.answers) c.self.view_is c.self.invariant (search rules) c.in_ok-answers.ensures.ok

pub invariant_of-self-2 : goal.invariant_of-self-2
invariant_of-self-2 g c = (row_of g (goal.at.invariant_of-self-2 g c).After-note_act).kept

pub returns-clause-ok : goal.returns-clause-ok
returns-clause-ok g c = record { answer = first_of c.in_ok-answers.answers; said_is = c.note_act.ensures.told; adds = (row_of g (goal.at.returns-clause-ok g c).After-note_act).adds }
