use Rattle.std.proofs.Common.{◌+◌, ◌*◌}
use Rattle.txn_steps_driven.specs.AdvanceRuns.{AdvanceRunning, advance_steps}
use Rattle.txn_steps_driven.proofs.boundary.run_advance.Given as goal

abbrev pub invariant-steps : goal.invariant-steps
invariant-steps g l = AdvanceRunning l.path l.fn.target (g.S.ObjectStore.state l.fn.store) (g.S.ObjectStore.state l.store) l.fn.turns l.turns l.fn.cached l.cached l.op

abbrev pub decreases-steps : goal.decreases-steps
decreases-steps g l = 16 * l.turns + advance_steps l.op
