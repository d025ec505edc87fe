use Rattle.std.proofs.Common.{IfSome}
use Rattle.std.specs.Io.KnownBytes.{append_known}
use Rattle.txn_script.specs.Rules.{rules_of}
use Rattle.txn_script.specs.Script.{IsClients}
use Rattle.txn_script.proofs.Playing.{Playing}
use Rattle.txn_script.proofs.script.play.Given as goal

-- what was printed so far, and what is left of the input
abbrev pub invariant-loop-line : goal.invariant-loop-line
invariant-loop-line g l = record {
  playing : Playing (rules_of g.C.TextForm.text g.C.TextForm.fits g.T.TextForm.text g.K.ScriptWorld.rules) (g.R.Read.remaining l.fn.lines.reader) (g.R.Read.remaining l.lines.reader) l.lines.number (append_known (g.W.Write.contents l.fn.out) l.fn.printer.text.items) (append_known (g.W.Write.contents l.out) l.printer.text.items) (record { state = g.K.ScriptWorld.state l.world; opened = l.opened });
  few : IfSome l.opened IsClients;
}
