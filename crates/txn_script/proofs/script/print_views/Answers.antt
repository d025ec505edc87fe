use Rattle.std.proofs.Common.{[], ◌+◌, ◌++◌, ◌<◌, ◌≤◌, List, drop, drop_of_length-le, get_or, length, Option, None, inr, sym, refl, ◌∙◌, ap, subst, arith}
use Rattle.std.proofs.lemmas.Result.{err_from_is_err_and}
use Rattle.std.proofs.lemmas.List.{append-nil, append_assoc, length-map}
use Rattle.std.specs.Io.KnownBytes.{Appends, append_known}
use Rattle.txn_history.specs.Views.{View}
use Rattle.txn_machine.specs.Machine.{seen_view, seen_views}
use Rattle.txn_script.specs.Printed.{view_line, views_text}
use Rattle.txn_script.proofs.Ending.{appends_nothing, gathered_so, gathers_line, views_step, view_there}
use Rattle.txn_script.proofs.script.print_views.Goals as goal

pub loop-index-init : goal.loop-index-init
loop-index-init g c = ([], appends_nothing (append_known (g.W.Write.contents c.args.out.now) c.args.printer.now.text.items), refl)

pub loop-index-preserved : goal.loop-index-preserved
loop-index-preserved g c =
    let before = c.loop-index.invariant in
    let s = g.K.ScriptWorld.state c.args.world.now in
    let index = c.loop-index.index in
    let views = seen_views s.views in
    let within : index < length views = omega (arith, c.loop-index-test.true, c.views-index-end.ensures, length-map s.views seen_view) in
    let line = view_line g.T.TextForm.text (index + 1) (get_or views index None) in
    let rest = views_text g.T.TextForm.text (index + 1 + 1) (drop (index + 1) views) in
    let printed = c.in_ok-print_view.ensures.ok ∙ ap (λ (view : Option (View g.row.T.Denot)). c.loop-index.printer.text.items ++ view_line g.T.TextForm.text (index + 1) view) (view_there s index within) in (
      before.0 ++ line,
      gathers_line (append_known (g.W.Write.contents c.args.out.now) c.args.printer.now.text.items) (g.W.Write.contents c.loop-index.out) (g.W.Write.contents c.write_full.new.out) c.loop-index.printer.text.items c.print_view.new.printer.text.items c.write_full.new.self.text.items before.0 line before.1 printed c.in_ok-write_full.ensures.ok,
      append_assoc before.0 line rest ∙ ap (λ more. before.0 ++ more) (sym (views_step g.T.TextForm.text index views within)) ∙ before.2,
    )

pub returns-clause-ok : goal.returns-clause-ok
returns-clause-ok g c =
    let before = c.loop-index.invariant in
    let s = g.K.ScriptWorld.state c.args.world.now in
    let index = c.loop-index.index in
    let views = seen_views s.views in
    let past : length views ≤ index = omega (arith, c.loop-index-test.false, c.views-index-end.ensures, length-map s.views seen_view) in
    let none_left = drop_of_length-le views past in
    let whole = sym (append-nil before.0) ∙ sym (ap (λ (left : List (Option (View g.row.T.Denot))). before.0 ++ views_text g.T.TextForm.text (index + 1) left) none_left) ∙ before.2 in
    subst (Appends (append_known (g.W.Write.contents c.args.out.now) c.args.printer.now.text.items) (append_known (g.W.Write.contents c.loop-index.out) c.loop-index.printer.text.items)) whole before.1

pub returns-in_err-print_view-clause-err : goal.returns-in_err-print_view-clause-err
returns-in_err-print_view-clause-err g c =
    let before = c.loop-index.invariant in
    let err = c.in_err-print_view.ensures.err in
    let p = err_from_is_err_and c.from_residual.result c.from_residual.ensures.1 in
    rw (p.1, p.2) (inr (err.0, before.0, views_text g.T.TextForm.text (c.loop-index.index + 1) (drop c.loop-index.index (seen_views (g.K.ScriptWorld.state c.args.world.now).views)), before.2, gathered_so _ (g.W.Write.contents c.loop-index.out) before.0 err.1 before.1))
