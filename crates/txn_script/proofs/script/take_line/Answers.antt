-- A page line makes another world, and prints nothing.
use Rattle.std.proofs.Common.{[], sym, subst}
use Rattle.std.proofs.lemmas.List.{append-nil}
use Rattle.txn_script_lines.specs.declared.line.Line.{Line}
use Rattle.txn_script.specs.Rules.{rules_of}
use Rattle.txn_script.specs.Script.{PageSteps, EventSteps}
use Rattle.txn_script.proofs.script.take_line.Goals as goal

pub returns-in_ok-paged-in-Page-clause-ok : goal.returns-in_ok-paged-in-Page-clause-ok
returns-in_ok-paged-in-Page-clause-ok g c =
    let paged = subst (λ (w : g.row.K.Denot). PageSteps c.args.opened c.in-Page.size [] (g.K.ScriptWorld.state w)) (sym c.replace.ensures.after) c.in_ok-paged-in-Page.ensures.ok in (
      [],
      subst (λ (l : Line g.row.C.Denot). EventSteps (rules_of g.C.TextForm.text g.C.TextForm.fits g.T.TextForm.text g.K.ScriptWorld.rules) c.args.opened (g.K.ScriptWorld.state c.args.world.now) l [] (g.K.ScriptWorld.state c.replace.new.dest)) (sym c.in-Page.is) paged,
      sym (append-nil c.args.printer.now.text.items),
    )
