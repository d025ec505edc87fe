use Rattle.txn_store.specs.VersionName.{version_path}
use Rattle.txn_steps_driven.specs.RemovalRuns.{RemovalRuns, removal_rank}
use Rattle.txn_steps_driven.proofs.removal.delete_version.Given as goal

abbrev pub invariant-steps : goal.invariant-steps
invariant-steps g l = RemovalRuns (version_path l.layout.names l.fn.id) l.fn.id (g.S.ObjectStore.state l.fn.store) (g.S.ObjectStore.state l.store) l.fn.latest l.latest l.op

abbrev pub decreases-steps : goal.decreases-steps
decreases-steps g l = removal_rank l.op.step
