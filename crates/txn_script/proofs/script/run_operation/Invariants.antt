use Rattle.std.proofs.Common.{◌≡◌, ◌-◌}
use Rattle.txn_script.specs.Rules.{rules_of}
use Rattle.txn_script.proofs.Steps.{RunsOn}
use Rattle.txn_script.proofs.script.run_operation.Given as goal

-- nothing was printed so far
abbrev pub invariant-loop-turn : goal.invariant-loop-turn
invariant-loop-turn g l = record {
  printed : l.printer.text.items ≡ l.fn.printer.text.items;
  on : RunsOn (rules_of g.C.TextForm.text g.C.TextForm.fits g.T.TextForm.text g.K.ScriptWorld.rules) (g.K.ScriptWorld.state l.fn.world) l.op (100 - l._turn) (g.K.ScriptWorld.state l.world);
}
