use Rattle.txn_steps_driven.specs.ListRuns.{ListRuns, list_rank}
use Rattle.txn_steps_driven.proofs.listing.list_versions.Given as goal

abbrev pub invariant-steps : goal.invariant-steps
invariant-steps g l = ListRuns l.layout.names l.layout.page l.fn.from l.fn.to (g.S.ObjectStore.state l.fn.store) (g.S.ObjectStore.state l.store) l.op

abbrev pub decreases-steps : goal.decreases-steps
decreases-steps g l = list_rank (g.S.ObjectStore.state l.fn.store).files l.op.request
