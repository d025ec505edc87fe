use Rattle.txn_steps_driven.specs.VersionReads.{RunningSeen, seen_steps}
use Rattle.txn_steps_driven.proofs.versions.read_seen.Given as goal

abbrev pub invariant-steps : goal.invariant-steps
invariant-steps g l = RunningSeen l.layout.names (g.C.ObjectCodec.decoded l.layout.codec) (g.S.ObjectStore.state l.fn.store) (g.S.ObjectStore.state l.store) l.fn.latest l.latest l.fn.id l.op

abbrev pub decreases-steps : goal.decreases-steps
decreases-steps g l = seen_steps l.op
