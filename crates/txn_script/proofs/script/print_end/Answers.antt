use Rattle.std.proofs.Common.{◌≡◌, ℕ, [], List, ◌++◌, map, Some, refl, ◌∙◌, ap}
use Rattle.std.specs.Option.{option_map}
use Rattle.std.specs.Prelude.{Vec}
use Rattle.std.proofs.lemmas.Result.{on_ok_weaker, MatchResult-weaker, err_from_is_err_and}
use Rattle.std.specs.Io.KnownBytes.{append_known}
use Rattle.txn_script_lines.specs.Printed.{boundary_text, erased_text}
use Rattle.txn_history.specs.History.{boundary}
use Rattle.txn_machine.specs.Machine.{seen_views}
use Rattle.txn_script.specs.Printed.{with_feed, pinned_line, entries_text, views_text}
use Rattle.txn_script.specs.Rules.{rules_of}
use Rattle.txn_script.proofs.Ending.{Ended, PrintedBefore, appends_nothing, ends_with, stops_in_views, part_front, stops_at_boundary, stops_at_erased, stops_at_pinned}
use Rattle.txn_script.proofs.script.print_end.Goals.{After-deref, In_ok-print_line, In_ok-print_pinned}
use Rattle.txn_script.proofs.script.print_end.Goals as goal

-- what is printed, but for the views
are : (g : _) (c : After-deref g) → Ended (rules_of g.C.TextForm.text g.C.TextForm.fits g.T.TextForm.text g.K.ScriptWorld.rules) (g.K.ScriptWorld.state c.args.world.now) c.deref.result.now c.in-Ok-erased.erased.items (option_map (λ (ids : Vec ℕ _). ids.items) c.in-Ok-pinned.pinned)
are g c = record { entries = ap (λ (values : List g.row.T.Denot). map Some values) c.deref.ensures.value ∙ c.in-Ok.ensures; erased = c.in-Ok-erased.ensures; pinned = c.in-Ok-pinned.ensures }

-- the line of the boundary was printed
printed : (g : _) (c : In_ok-print_line g) → c.print_line.new.self.text.items ≡ c.print_entries.new.printer.text.items ++ with_feed (boundary_text (boundary (g.K.ScriptWorld.state c.args.world.now).trace))
printed g c = c.in_ok-print_line.ensures.ok ∙ ap (λ (n : ℕ). c.print_entries.new.printer.text.items ++ with_feed (boundary_text n)) c.boundary.ensures

-- all lines before those of the views were printed
before : (g : _) (c : In_ok-print_pinned g) → PrintedBefore (are g (goal.at.In_ok-print_pinned g c).After-deref) (append_known (g.W.Write.contents c.args.out.now) c.args.printer.now.text.items) (g.W.Write.contents c.print_entries.new.out) c.print_entries.new.printer.text.items c.print_line.new.self.text.items c.print_line-2.new.self.text.items c.print_pinned.new.printer.text.items
before g c = record { entries = c.in_ok-print_entries.ensures.ok; boundary = printed g (goal.at.In_ok-print_pinned g c).In_ok-print_line; erased = c.in_ok-print_line-2.ensures.ok; pinned = c.in_ok-print_pinned.ensures.ok }

pub returns-clause-ok : goal.returns-clause-ok
returns-clause-ok g c =
    let at = goal.at.returns-clause-ok g c in
    on_ok_weaker c.print_views.result (ends_with (are g at.After-deref) (before g at.In_ok-print_pinned) (append_known (g.W.Write.contents c.print_views.new.out) c.print_views.new.printer.text.items)) c.print_views.ensures.ok

pub returns-clause-err : goal.returns-clause-err
returns-clause-err g c =
    let at = goal.at.returns-clause-err g c in
    MatchResult-weaker c.print_views.result c.print_views.ensures.err (λ x h. h) (λ stop is. stops_in_views (are g at.After-deref) (before g at.In_ok-print_pinned) stop (append_known (g.W.Write.contents c.print_views.new.out) c.print_views.new.printer.text.items) is)

pub returns-in_err-print_entries-clause-err : goal.returns-in_err-print_entries-clause-err
returns-in_err-print_entries-clause-err g c =
    let ended = are g (goal.at.returns-in_err-print_entries-clause-err g c).After-deref in
    let s = g.K.ScriptWorld.state c.args.world.now in
    let held = append_known (g.W.Write.contents c.args.out.now) c.args.printer.now.text.items in
    let now = append_known (g.W.Write.contents c.print_entries.new.out) c.print_entries.new.printer.text.items in
    let after = with_feed (boundary_text (boundary s.trace)) ++ (with_feed (erased_text c.in-Ok-erased.erased.items) ++ (pinned_line (option_map (λ (ids : Vec ℕ _). ids.items) c.in-Ok-pinned.pinned) ++ views_text g.T.TextForm.text 1 (seen_views s.views))) in
    let p = err_from_is_err_and c.from_residual.result c.from_residual.ensures.1 in
    rw (p.1, p.2) (part_front ended c.in_err-print_entries.field-0.0 held held now [] (entries_text g.T.TextForm.text 1 c.deref.result.now) after refl (appends_nothing held) c.in_err-print_entries.ensures.err)

pub returns-in_err-print_line-clause-err : goal.returns-in_err-print_line-clause-err
returns-in_err-print_line-clause-err g c =
    let ended = are g (goal.at.returns-in_err-print_line-clause-err g c).After-deref in
    let held = append_known (g.W.Write.contents c.args.out.now) c.args.printer.now.text.items in
    let err = c.in_err-print_line.ensures.err in
    let p = err_from_is_err_and c.from_residual-in_err-print_line.result c.from_residual-in_err-print_line.ensures.1 in
    rw (p.1, p.2) (stops_at_boundary ended c.in_err-print_line.field-0.0 held (g.W.Write.contents c.print_entries.new.out) c.print_entries.new.printer.text.items c.print_line.new.self.text.items err.0 err.1 c.in_ok-print_entries.ensures.ok)

pub returns-in_err-print_line-2-clause-err : goal.returns-in_err-print_line-2-clause-err
returns-in_err-print_line-2-clause-err g c =
    let at = goal.at.returns-in_err-print_line-2-clause-err g c in
    let held = append_known (g.W.Write.contents c.args.out.now) c.args.printer.now.text.items in
    let err = c.in_err-print_line-2.ensures.err in
    let p = err_from_is_err_and c.from_residual-in_err-print_line-2.result c.from_residual-in_err-print_line-2.ensures.1 in
    rw (p.1, p.2) (stops_at_erased (are g at.After-deref) c.in_err-print_line-2.field-0.0 held (g.W.Write.contents c.print_entries.new.out) c.print_entries.new.printer.text.items c.print_line.new.self.text.items c.print_line-2.new.self.text.items err.0 err.1 c.in_ok-print_entries.ensures.ok (printed g at.In_ok-print_line))

pub returns-in_err-print_pinned-clause-err : goal.returns-in_err-print_pinned-clause-err
returns-in_err-print_pinned-clause-err g c =
    let at = goal.at.returns-in_err-print_pinned-clause-err g c in
    let held = append_known (g.W.Write.contents c.args.out.now) c.args.printer.now.text.items in
    let err = c.in_err-print_pinned.ensures.err in
    let p = err_from_is_err_and c.from_residual-in_err-print_pinned.result c.from_residual-in_err-print_pinned.ensures.1 in
    rw (p.1, p.2) (stops_at_pinned (are g at.After-deref) c.in_err-print_pinned.field-0.0 held (g.W.Write.contents c.print_entries.new.out) c.print_entries.new.printer.text.items c.print_line.new.self.text.items c.print_line-2.new.self.text.items c.print_pinned.new.printer.text.items err.0 err.1 c.in_ok-print_entries.ensures.ok (printed g at.In_ok-print_line) c.in_ok-print_line-2.ensures.ok)
