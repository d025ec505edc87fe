use Rattle.std.proofs.Common.{◌≡◌, ℕ, ◌+◌, ◌++◌, List, drop}
use Rattle.std.specs.Io.KnownBytes.{Appends, append_known}
use Rattle.txn_machine.specs.Machine.{seen_views}
use Rattle.txn_script.specs.Printed.{views_text}
use Rattle.txn_script.proofs.script.print_views.Given as goal

-- what was printed so far, and what is left to print
abbrev pub invariant-loop-index : goal.invariant-loop-index
invariant-loop-index g l = (text : List ℕ) × Appends (append_known (g.W.Write.contents l.fn.out) l.fn.printer.text.items) (append_known (g.W.Write.contents l.out) l.printer.text.items) text × (text ++ views_text g.T.TextForm.text (l.index + 1) (drop l.index (seen_views (g.K.ScriptWorld.state l.world).views)) ≡ views_text g.T.TextForm.text 1 (seen_views (g.K.ScriptWorld.state l.world).views))
