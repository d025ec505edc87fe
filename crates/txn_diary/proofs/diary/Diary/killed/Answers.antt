use Rattle.std.proofs.Common.{rules, refl, None}
use Rattle.txn_client_journals.specs.declared.rows.Step.TheVariants as steps
use Rattle.txn_diary.specs.Diaries.{lives, kill_fault}
use Rattle.txn_diary.proofs.Stepping.{met_kill, met_lack}
use Rattle.txn_diary.proofs.Diaries.{IsNoted, noted}
use Rattle.txn_diary.proofs.diary.Diary.killed.Goals.{After-push_within}
use Rattle.txn_diary.proofs.diary.Diary.killed.Goals as goal

pub returns-in_default-clause-refused : goal.returns-in_default-clause-refused
returns-in_default-clause-refused g c =
    met_lack (Unit {0}) c.lack.result (kill_fault c.args.self.now.rows) (met_kill (Unit {0}) (lives c.args.self.now.rows)) (search rules)

row_of : (g : _) (c : After-push_within g) → IsNoted g.C.ObjectCodec.encoded g.C.ObjectCodec.decoded g.E.EpochField.epoch_of g.E.EpochField.with_epoch c.args.self.now (steps.Killed c.in_ok-lefts.lefts) None c.killed.new.self c.push_within.new.items.items
row_of g c =
    noted g.C.ObjectCodec.encoded g.C.ObjectCodec.decoded g.E.EpochField.epoch_of g.E.EpochField.with_epoch c.args.self.now c.self.inside.keeper c.killed.new.self c.self.inside.rows.items c.push_within.new.items.items (steps.Killed c.in_ok-lefts.lefts) None c.self.view_is c.self.invariant (search rules) c.in_ok-lefts.ensures.ok

pub invariant_of-self-2 : goal.invariant_of-self-2
invariant_of-self-2 g c = (row_of g (goal.at.invariant_of-self-2 g c).After-push_within).kept

pub returns-clause-ok : goal.returns-clause-ok
returns-clause-ok g c = record { row = record { step = steps.Killed c.in_ok-lefts.lefts; answer = None }; ends = refl; adds = (row_of g (goal.at.returns-clause-ok g c).After-push_within).adds }
