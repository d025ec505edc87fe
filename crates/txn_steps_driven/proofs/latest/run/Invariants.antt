use Rattle.std.proofs.Common.{◌+◌, ◌*◌}
use Rattle.txn_steps_driven.specs.LatestRuns.{Running, steps_left}
use Rattle.txn_steps_driven.proofs.latest.run.Given as goal

abbrev pub invariant-steps : goal.invariant-steps
invariant-steps g l = Running l.layout.names l.layout.page (g.C.ObjectCodec.decoded l.layout.codec) (g.S.ObjectStore.state l.fn.store) (g.S.ObjectStore.state l.store) l.fn.turns l.turns l.fn.latest l.latest l.listed l.op

abbrev pub decreases-steps : goal.decreases-steps
decreases-steps g l = 16 * l.turns + steps_left l.listed l.op
