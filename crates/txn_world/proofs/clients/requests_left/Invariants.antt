use Rattle.std.proofs.Common.{◌≡◌, take}
use Rattle.txn_world.specs.Running.{requests_left}
use Rattle.txn_world.proofs.clients.requests_left.Given as goal

-- the requests of the operations so far
abbrev pub invariant-loop-op : goal.invariant-loop-op
invariant-loop-op g l = l.left.items ≡ requests_left l.operations (take l.op-index l.ops)
