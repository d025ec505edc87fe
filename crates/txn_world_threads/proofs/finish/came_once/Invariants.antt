use Rattle.std.proofs.Common.{◌≡◌, ◌≤◌, ℕ}
use Rattle.txn_world_threads.specs.Kept.{shares_of}
use Rattle.txn_world_threads.proofs.finish.came_once.Given as goal

-- each worker so far has one share
abbrev pub invariant-loop-before : goal.invariant-loop-before
invariant-loop-before l = (worker : ℕ) → 1 ≤ worker → worker ≤ l.before → shares_of l.shares worker ≡ 1
