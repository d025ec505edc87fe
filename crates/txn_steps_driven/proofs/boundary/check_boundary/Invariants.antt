use Rattle.txn_steps_driven.specs.BoundaryRuns.{CheckRunning, check_steps}
use Rattle.txn_steps_driven.proofs.boundary.check_boundary.Given as goal

abbrev pub invariant-steps : goal.invariant-steps
invariant-steps g l = CheckRunning l.fn.path l.fn.id (g.S.ObjectStore.state l.fn.store) (g.S.ObjectStore.state l.store) l.fn.cached l.cached l.op

abbrev pub decreases-steps : goal.decreases-steps
decreases-steps g l = check_steps l.op
