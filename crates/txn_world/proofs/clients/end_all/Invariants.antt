use Rattle.std.proofs.Common.{◌≡◌, ℕ, nat_eq, take}
use Rattle.std.specs.List.{list_any}
use Rattle.txn_history.specs.Lists.{numbered}
use Rattle.txn_world.specs.Running.{ended_where}
use Rattle.txn_world.proofs.clients.end_all.Given as goal

-- those so far have ended
abbrev pub invariant-loop-op : goal.invariant-loop-op
invariant-loop-op g l = (n : ℕ) → numbered l.operations.items n ≡ ended_where (list_any (nat_eq n) (take l.op-index l.ops)) (numbered l.fn.operations.items n)
