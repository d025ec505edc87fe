use Rattle.std.proofs.Common.{rules, None}
use Rattle.txn_client_journals.specs.declared.rows.Act.TheVariants as acts
use Rattle.txn_client_journals.specs.declared.rows.Step.TheVariants as steps
use Rattle.txn_diary.specs.Keepers.{end_fault}
use Rattle.txn_diary.specs.Diaries.{asked_in}
use Rattle.txn_diary.proofs.Stepping.{met_end, met_lack}
use Rattle.txn_diary.proofs.Diaries.{IsNoted, noted}
use Rattle.txn_diary.proofs.diary.Diary.give_up.Goals.{After-note}
use Rattle.txn_diary.proofs.diary.Diary.give_up.Goals as goal

pub returns-in_default-clause-refused : goal.returns-in_default-clause-refused
returns-in_default-clause-refused g c =
    let ask = asked_in c.args.self.now c.args.op in
    met_lack (Unit {0}) c.lack.result (end_fault ask) (met_end (Unit {0}) ask) (search rules)

row_of : (g : _) (c : After-note g) → IsNoted g.C.ObjectCodec.encoded g.C.ObjectCodec.decoded g.E.EpochField.epoch_of g.E.EpochField.with_epoch c.args.self.now (steps.Act c.args.op (acts.GiveUp c.in_ok-left.left)) None c.give_up.new.self c.note.new.rows.items
row_of g c =
    noted g.C.ObjectCodec.encoded g.C.ObjectCodec.decoded g.E.EpochField.epoch_of g.E.EpochField.with_epoch c.args.self.now c.self.inside.keeper c.give_up.new.self c.self.inside.rows.items c.note.new.rows.items (steps.Act c.args.op (acts.GiveUp c.in_ok-left.left)) None c.self.view_is c.self.invariant (search rules) c.in_ok-left.ensures.ok

pub invariant_of-self-2 : goal.invariant_of-self-2
invariant_of-self-2 g c = (row_of g (goal.at.invariant_of-self-2 g c).After-note).kept

pub returns-clause-ok : goal.returns-clause-ok
returns-clause-ok g c = (c.in_ok-left.left, record { answer = None; said_is = c.note.ensures.told; adds = (row_of g (goal.at.returns-clause-ok g c).After-note).adds })
