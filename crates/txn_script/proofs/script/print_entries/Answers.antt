use Rattle.std.proofs.Common.{[], ◌+◌, ◌++◌, drop, drop_of_length-le, List, sym, refl, ◌∙◌, ap, subst, inr}
use Rattle.std.proofs.lemmas.Result.{err_from_is_err_and}
use Rattle.std.proofs.lemmas.List.{append-nil}
use Rattle.txn_script_lines.specs.Printed.{entry_text}
use Rattle.txn_script.specs.Printed.{with_feed, entries_text}
use Rattle.std.specs.Io.KnownBytes.{Appends, append_known}
use Rattle.txn_script.proofs.Ending.{appends_nothing, gathered_so, entry_printed}
use Rattle.txn_script.proofs.script.print_entries.Goals as goal

pub loop-index-init : goal.loop-index-init
loop-index-init g c = ([], appends_nothing (append_known (g.W.Write.contents c.args.out.now) c.args.printer.now.text.items), refl)

pub loop-index-preserved : goal.loop-index-preserved
loop-index-preserved g c =
    let before = c.loop-index.invariant in
    entry_printed g.T.TextForm.text c.args.entries.now c.loop-index.index c.index-entries-index.result (append_known (g.W.Write.contents c.args.out.now) c.args.printer.now.text.items) (g.W.Write.contents c.loop-index.out) (g.W.Write.contents c.write_full.new.out) c.loop-index.printer.text.items c.print_line.new.self.text.items c.write_full.new.self.text.items before.0 c.loop-index-test.true before.1 (c.in_ok-print_line.ensures.ok ∙ ap (λ (value : g.row.T.Denot). c.loop-index.printer.text.items ++ with_feed (entry_text g.T.TextForm.text (c.loop-index.index + 1) value)) c.index-entries-index.is) c.in_ok-write_full.ensures.ok before.2

pub returns-clause-ok : goal.returns-clause-ok
returns-clause-ok g c =
    let before = c.loop-index.invariant in
    let none_left = drop_of_length-le c.args.entries.now c.loop-index-test.false in
    let whole = sym (append-nil before.0) ∙ sym (ap (λ (values : List g.row.T.Denot). before.0 ++ entries_text g.T.TextForm.text (c.loop-index.index + 1) values) none_left) ∙ before.2 in
    subst (Appends (append_known (g.W.Write.contents c.args.out.now) c.args.printer.now.text.items) (append_known (g.W.Write.contents c.loop-index.out) c.loop-index.printer.text.items)) whole before.1

pub returns-in_err-print_line-clause-err : goal.returns-in_err-print_line-clause-err
returns-in_err-print_line-clause-err g c =
    let before = c.loop-index.invariant in
    let err = c.in_err-print_line.ensures.err in
    let p = err_from_is_err_and c.from_residual.result c.from_residual.ensures.1 in
    rw (p.1, p.2) (inr (err.0, before.0, entries_text g.T.TextForm.text (c.loop-index.index + 1) (drop c.loop-index.index c.args.entries.now), before.2, gathered_so _ (g.W.Write.contents c.loop-index.out) before.0 err.1 before.1))
