use Rattle.std.proofs.Common.{rules}
use Rattle.txn_machine.specs.plain.Doing.{first_of}
use Rattle.txn_client_journals.specs.declared.rows.Step.TheVariants as steps
use Rattle.txn_diary.specs.Keepers.{end_fault}
use Rattle.txn_diary.specs.Diaries.{asked_in}
use Rattle.txn_diary.proofs.Stepping.{met_end, met_lack}
use Rattle.txn_diary.proofs.Diaries.{IsNoted, noted}
use Rattle.txn_diary.proofs.diary.Diary.step.Goals.{After-note_act}
use Rattle.txn_diary.proofs.diary.Diary.step.Goals as goal

pub returns-in_default-clause-refused : goal.returns-in_default-clause-refused
returns-in_default-clause-refused g c =
    let ask = asked_in c.args.self.now c.args.op in
    met_lack (Unit {0}) c.lack.result (end_fault ask) (met_end (Unit {0}) ask) (search rules)

row_of : (g : _) (c : After-note_act g) → IsNoted g.C.ObjectCodec.encoded g.C.ObjectCodec.decoded g.E.EpochField.epoch_of g.E.EpochField.with_epoch c.args.self.now (steps.Act c.args.op c.in_ok-did.did.0) (first_of c.in_ok-did.did.1) c.step.new.self c.note_act.new.rows.items
row_of g c =
    noted g.C.ObjectCodec.encoded g.C.ObjectCodec.decoded g.E.EpochField.epoch_of g.E.EpochField.with_epoch c.args.self.now c.self.inside.keeper c.step.new.self c.self.inside.rows.items c.note_act.new.rows.items (steps.Act c.args.op c.in_ok-did.did.0) (first_of c.in_ok-did.did.1) c.self.view_is c.self.invariant (search rules) c.in_ok-did.ensures.ok.1

pub invariant_of-self-2 : goal.invariant_of-self-2
invariant_of-self-2 g c = (row_of g (goal.at.invariant_of-self-2 g c).After-note_act).kept

pub returns-clause-ok : goal.returns-clause-ok
returns-clause-ok g c = (c.in_ok-did.did.0, c.in_ok-did.ensures.ok.0, record { answer = first_of c.in_ok-did.did.1; said_is = c.note_act.ensures.told; adds = (row_of g (goal.at.returns-clause-ok g c).After-note_act).adds })
