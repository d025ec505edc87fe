use Rattle.std.proofs.Common.{ℕ, [], List, sym, subst}
use Rattle.std.proofs.lemmas.List.{append-nil}
use Rattle.std.proofs.lemmas.Result.{err_from_is_err_and}
use Rattle.std.specs.Io.KnownBytes.{Appends, append_known}
use Rattle.txn_script_lines.specs.declared.stop.Stop.{Stop}
use Rattle.txn_script_lines.specs.declared.stop.Stop.TheVariants as stops
use Rattle.txn_script.specs.Script.{StopsAfter}
use Rattle.txn_script.specs.Rules.{Rules, rules_of}
use Rattle.txn_script.proofs.Ending.{appends_both, gathers}
use Rattle.txn_script.proofs.Playing.{play_first, play_more, play_end, play_leads, stops_first, stops_next, stops_line, stops_end}
use Rattle.txn_script.proofs.script.play.Given.{Over}
use Rattle.txn_script.proofs.script.play.Goals as goal

-- the rules of the script's world
abbrev rules : (g : Over) → Rules g.row.T.Denot g.row.C.Denot
rules g = rules_of g.C.TextForm.text g.C.TextForm.fits g.T.TextForm.text g.K.ScriptWorld.rules

pub loop-line-init : goal.loop-line-init
loop-line-init g c = record {
  playing = play_first (rules g) (g.R.Read.remaining c.args.lines.now.reader) (g.R.Read.remaining c.open.new.lines.reader) (append_known (g.W.Write.contents c.args.out.now) c.args.printer.now.text.items) c.args.lines.now.number c.open.new.lines.number c.in_ok-world.clients (g.K.ScriptWorld.state c.in_ok-world.world) c.requires c.in_ok-world.ensures.ok;
  few = c.in_ok-world.ensures.clients;
}

pub returns-in_err-world-clause-stop : goal.returns-in_err-world-clause-stop
returns-in_err-world-clause-stop g c =
    let p = err_from_is_err_and c.from_residual.result c.from_residual.ensures.1 in
    rw (p.1, p.2) (stops_first (rules g) c.in_err-world.field-0.0 (g.R.Read.remaining c.args.lines.now.reader) (append_known (g.W.Write.contents c.args.out.now) c.args.printer.now.text.items) c.args.lines.now.number c.requires c.in_err-world.ensures.bad)

pub returns-in_err-line-clause-stop : goal.returns-in_err-line-clause-stop
returns-in_err-line-clause-stop g c =
    let start = g.R.Read.remaining c.args.lines.now.reader in
    let before = g.R.Read.remaining c.loop-line.lines.reader in
    let held = append_known (g.W.Write.contents c.args.out.now) c.args.printer.now.text.items in
    let now = append_known (g.W.Write.contents c.loop-line.out) c.loop-line.printer.text.items in
    let p = err_from_is_err_and c.from_residual-in_err-line.result c.from_residual-in_err-line.ensures.1 in
    rw (p.1, p.2) (stops_next (rules g) c.in_err-line.field-0.0 start before held now c.loop-line.lines.number (record { state = g.K.ScriptWorld.state c.loop-line.world; opened = c.loop-line.opened }) c.loop-line.invariant.playing c.in_err-line.ensures.bad)

pub returns-in_default-clause-ok : goal.returns-in_default-clause-ok
returns-in_default-clause-ok g c =
    let read = rw c.in_default.is at c.in_ok-line.ensures.ok in
    play_end (rules g) _ _ _ _ _ _ _ _ _ c.loop-line.invariant.playing read c.in_ok-print_end.ensures.ok

pub returns-in_default-clause-leads : goal.returns-in_default-clause-leads
returns-in_default-clause-leads g c =
    let read = rw c.in_default.is at c.in_ok-line.ensures.ok in
    play_leads (rules g) _ _ _ _ _ _ _ _ c.loop-line.invariant.playing read

pub returns-in_err-print_end-clause-stop : goal.returns-in_err-print_end-clause-stop
returns-in_err-print_end-clause-stop g c =
    let read = rw c.in_default.is at c.in_ok-line.ensures.ok in
    let p = err_from_is_err_and c.from_residual-in_err-print_end.result c.from_residual-in_err-print_end.ensures.1 in
    rw (p.1, p.2) (stops_end (rules g) c.in_err-print_end.field-0.0 _ _ _ _ _ _ _ _ _ c.loop-line.invariant.playing read c.in_err-print_end.ensures.err)

pub returns-in_err-take_line-clause-stop : goal.returns-in_err-take_line-clause-stop
returns-in_err-take_line-clause-stop g c =
    let start = g.R.Read.remaining c.args.lines.now.reader in
    let before = g.R.Read.remaining c.loop-line.lines.reader in
    let after = g.R.Read.remaining c.next_line.new.self.reader in
    let held = append_known (g.W.Write.contents c.args.out.now) c.args.printer.now.text.items in
    let now = append_known (g.W.Write.contents c.loop-line.out) c.loop-line.printer.text.items in
    let number = c.next_line.new.self.number in
    let read = rw c.in-Some.is at c.in_ok-line.ensures.ok in
    let stop = c.in_err-take_line.field-0.0 in
    let is = c.in_err-take_line.ensures.err in
    let p = err_from_is_err_and c.from_residual-in_err-take_line.result c.from_residual-in_err-take_line.ensures.1 in
    rw (p.1, p.2) (subst (λ (items : List ℕ). StopsAfter (rules g) stop start held (append_known (g.W.Write.contents c.loop-line.out) items)) (sym is.1) (stops_line (rules g) stop c.bad-bad.result start before after held now c.loop-line.lines.number number (record { state = g.K.ScriptWorld.state c.loop-line.world; opened = c.loop-line.opened }) c.in-Some.line c.bad-bad.ensures c.loop-line.invariant.playing read is.0))

pub returns-in_err-write_full-clause-stop : goal.returns-in_err-write_full-clause-stop
returns-in_err-write_full-clause-stop g c =
    let start = g.R.Read.remaining c.args.lines.now.reader in
    let held = append_known (g.W.Write.contents c.args.out.now) c.args.printer.now.text.items in
    let later = append_known (g.W.Write.contents c.write_full.new.out) c.write_full.new.self.text.items in
    let p = err_from_is_err_and c.from_residual-in_err-write_full.result c.from_residual-in_err-write_full.ensures.1 in
    rw (p.1, p.2) (subst (λ (stop : Stop). StopsAfter (rules g) stop start held later) (sym c.in_err-write_full.ensures.err) tt)

pub returns-clause-stop : goal.returns-clause-stop
returns-clause-stop g c = stops_next (rules g) stops.ReadFailed (g.R.Read.remaining c.args.lines.now.reader) (g.R.Read.remaining c.loop-line.lines.reader) (append_known (g.W.Write.contents c.args.out.now) c.args.printer.now.text.items) (append_known (g.W.Write.contents c.loop-line.out) c.loop-line.printer.text.items) c.loop-line.lines.number (record { state = g.K.ScriptWorld.state c.loop-line.world; opened = c.loop-line.opened }) c.loop-line.invariant.playing tt

pub loop-line-preserved : goal.loop-line-preserved
loop-line-preserved g c =
    let start = g.R.Read.remaining c.args.lines.now.reader in
    let before = g.R.Read.remaining c.loop-line.lines.reader in
    let after = g.R.Read.remaining c.next_line.new.self.reader in
    let held = append_known (g.W.Write.contents c.args.out.now) c.args.printer.now.text.items in
    let now = append_known (g.W.Write.contents c.loop-line.out) c.loop-line.printer.text.items in
    let later = append_known (g.W.Write.contents c.write_full.new.out) c.write_full.new.self.text.items in
    let read = rw c.in-Some.is at c.in_ok-line.ensures.ok in
    let step = c.in_ok-take_line.ensures.ok in
    let grown : Appends now later step.0 = subst (Appends now later) (append-nil step.0) (appends_both now (append_known (g.W.Write.contents c.loop-line.out) c.take_line.new.printer.text.items) later step.0 [] (gathers (g.W.Write.contents c.loop-line.out) c.loop-line.printer.text.items c.take_line.new.printer.text.items step.0 step.2) c.in_ok-write_full.ensures.ok) in
    record {
      playing = play_more (rules g) start before after held now later c.loop-line.lines.number c.next_line.new.self.number (record { state = g.K.ScriptWorld.state c.loop-line.world; opened = c.loop-line.opened }) (g.K.ScriptWorld.state c.take_line.new.world) c.in-Some.line step.0 c.loop-line.invariant.playing read step.1 grown;
      few = tt;
    }
