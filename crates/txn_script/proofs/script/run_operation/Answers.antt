use Rattle.std.proofs.Common.{Bool, [], ◌++◌, refl, sym, ◌∙◌, ap, subst}
use Rattle.std.proofs.lemmas.List.{append-nil}
use Rattle.txn_history.specs.declared.event.EventOf.{EventOf}
use Rattle.txn_script.specs.Rules.{rules_of}
use Rattle.txn_script.specs.Script.{Steps}
use Rattle.txn_script.proofs.Steps.{on_nothing, same_after, run_more, run_last, run_ended}
use Rattle.txn_script.proofs.script.run_operation.Goals as goal

pub loop-turn-init : goal.loop-turn-init
loop-turn-init g c = record { printed = refl; on = λ more new h. h }

pub returns-then-not-branch-clause-ok : goal.returns-then-not-branch-clause-ok
returns-then-not-branch-clause-ok g c =
    let before = c.loop-turn.invariant in
    let step = c.in_ok-take_event.ensures.ok in
    let asked = subst (λ (event : EventOf g.row.C.Denot). Steps (rules_of g.C.TextForm.text g.C.TextForm.fits g.T.TextForm.text g.K.ScriptWorld.rules) (g.K.ScriptWorld.state c.loop-turn.world) event c.in_ok-take_event.field-0 step.0 (g.K.ScriptWorld.state c.take_event.new.world)) c.next_event-event.ensures step.1 in
    let last = subst (λ (going : Bool). Steps (rules_of g.C.TextForm.text g.C.TextForm.fits g.T.TextForm.text g.K.ScriptWorld.rules) (g.K.ScriptWorld.state c.loop-turn.world) (g.K.ScriptWorld.rules.next (g.K.ScriptWorld.state c.loop-turn.world) c.args.op) going step.0 (g.K.ScriptWorld.state c.take_event.new.world)) c.if-not-branch.true asked in
    (step.0, run_last (rules_of g.C.TextForm.text g.C.TextForm.fits g.T.TextForm.text g.K.ScriptWorld.rules) (g.K.ScriptWorld.state c.args.world.now) c.args.op _ c.loop-turn._turn (g.K.ScriptWorld.state c.loop-turn.world) (g.K.ScriptWorld.state c.take_event.new.world) step.0 refl c.loop-turn-test.true before.on last, step.2 ∙ ap (λ items. items ++ step.0) before.printed)

pub loop-turn-preserved : goal.loop-turn-preserved
loop-turn-preserved g c =
    let before = c.loop-turn.invariant in
    let step = c.in_ok-take_event.ensures.ok in
    let asked = subst (λ (event : EventOf g.row.C.Denot). Steps (rules_of g.C.TextForm.text g.C.TextForm.fits g.T.TextForm.text g.K.ScriptWorld.rules) (g.K.ScriptWorld.state c.loop-turn.world) event c.in_ok-take_event.field-0 step.0 (g.K.ScriptWorld.state c.take_event.new.world)) c.next_event-event.ensures step.1 in
    let more = subst (λ (going : Bool). Steps (rules_of g.C.TextForm.text g.C.TextForm.fits g.T.TextForm.text g.K.ScriptWorld.rules) (g.K.ScriptWorld.state c.loop-turn.world) (g.K.ScriptWorld.rules.next (g.K.ScriptWorld.state c.loop-turn.world) c.args.op) going step.0 (g.K.ScriptWorld.state c.take_event.new.world)) c.if-not-branch.false asked in
    record {
      printed = same_after c.loop-turn.printer.text.items c.take_event.new.printer.text.items step.0 step.2 (on_nothing (rules_of g.C.TextForm.text g.C.TextForm.fits g.T.TextForm.text g.K.ScriptWorld.rules) (g.K.ScriptWorld.state c.loop-turn.world) (g.K.ScriptWorld.state c.take_event.new.world) (g.K.ScriptWorld.rules.next (g.K.ScriptWorld.state c.loop-turn.world) c.args.op) step.0 more) ∙ before.printed;
      on = run_more (rules_of g.C.TextForm.text g.C.TextForm.fits g.T.TextForm.text g.K.ScriptWorld.rules) (g.K.ScriptWorld.state c.args.world.now) c.args.op _ c.loop-turn._turn (g.K.ScriptWorld.state c.loop-turn.world) (g.K.ScriptWorld.state c.take_event.new.world) step.0 refl c.loop-turn-test.true before.on more;
    }

pub returns-clause-ok : goal.returns-clause-ok
returns-clause-ok g c =
    let before = c.loop-turn.invariant in
    ([], run_ended (rules_of g.C.TextForm.text g.C.TextForm.fits g.T.TextForm.text g.K.ScriptWorld.rules) _ _ _ _ _ refl c.loop-turn-test.false before.on, before.printed ∙ sym (append-nil c.args.printer.now.text.items))
