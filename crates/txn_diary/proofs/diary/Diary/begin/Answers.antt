use Rattle.std.proofs.Common.{rules, ◌≡◌, ◌∙◌, ◌+◌, length, ap, subst}
use Rattle.txn_history.specs.Added.{told_of}
use Rattle.txn_history.specs.declared.event.ToldOf.TheVariants as tolds
use Rattle.txn_machine.specs.plain.Doing.{first_of}
use Rattle.txn_client_journals.specs.declared.rows.Step.TheVariants as steps
use Rattle.txn_client_journals.specs.Parts.{client_begin_fault}
use Rattle.txn_diary.specs.Keepers.{fault_if, keeper_refusal}
use Rattle.txn_diary.specs.Diaries.{DiaryState, refusal_of}
use Rattle.txn_diary.proofs.Diaries.{IsNoted, noted}
use Rattle.txn_diary.proofs.diary.Diary.begin.Goals.{After-note, After-start}
use Rattle.txn_diary.proofs.diary.Diary.begin.Goals as goal

begun : (g : _) (c : After-note g) → IsNoted g.C.ObjectCodec.encoded g.C.ObjectCodec.decoded g.E.EpochField.epoch_of g.E.EpochField.with_epoch c.args.self.now (steps.Begin c.args.call) (first_of c.in-Ok.answers) c.start.new.keeper c.note.new.rows.items
begun g c =
    noted g.C.ObjectCodec.encoded g.C.ObjectCodec.decoded g.E.EpochField.epoch_of g.E.EpochField.with_epoch c.args.self.now c.self.inside.keeper c.start.new.keeper c.self.inside.rows.items c.note.new.rows.items (steps.Begin c.args.call) (first_of c.in-Ok.answers) c.self.view_is c.self.invariant (search rules) c.in-Ok.ensures.ok

pub invariant_of-self : goal.invariant_of-self
invariant_of-self g c = (begun g (goal.at.invariant_of-self g c).After-note).kept

pub returns-in-Ok-clause-ok : goal.returns-in-Ok-clause-ok
returns-in-Ok-clause-ok g c =
    let count = c.begun-op.ensures.is ∙ ap (λ (d : DiaryState _ _ _). length d.part.operations) c.self.view_is in
    record {
      answer = first_of c.in-Ok.answers;
      said_is = subst (λ k. c.note.result ≡ told_of (tolds.Began (k + 1)) (k + 1) (first_of c.in-Ok.answers)) count c.note.ensures.told;
      adds = (begun g (goal.at.returns-in-Ok-clause-ok g c).After-note).adds;
    }

-- why a client and its diary refuse a call is the same
refusal_is : (g : _) (c : After-start g) → keeper_refusal (g.E.EpochField.epoch_of c.self.inside.keeper.epochs) c.self.inside.keeper c.args.call ≡ refusal_of (g.E.EpochField.epoch_of c.args.self.now.epochs) c.args.self.now c.args.call
refusal_is g c =
    let k = c.self.inside.keeper in
    ap (λ b. fault_if b (client_begin_fault (g.E.EpochField.epoch_of k.epochs) k.client k.part c.args.call)) c.self.invariant.2 ∙ ap (λ (d : DiaryState _ _ _). refusal_of (g.E.EpochField.epoch_of d.epochs) d c.args.call) c.self.view_is

pub returns-in-Ok-clause-refused : goal.returns-in-Ok-clause-refused
returns-in-Ok-clause-refused g c = c.in-Ok.ensures.refused ∙ refusal_is g (goal.at.returns-in-Ok-clause-refused g c).After-start

pub returns-in-Err-clause-refused : goal.returns-in-Err-clause-refused
returns-in-Err-clause-refused g c = c.in-Err.ensures.refused ∙ refusal_is g (goal.at.returns-in-Err-clause-refused g c).After-start
