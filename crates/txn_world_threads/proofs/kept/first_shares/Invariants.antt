use Rattle.txn_world_threads.specs.Kept.{AreFirst}
use Rattle.txn_world_threads.proofs.kept.first_shares.Given as goal

-- a share for each number so far
abbrev pub invariant-loop-before : goal.invariant-loop-before
invariant-loop-before l = AreFirst l.before l.shares.items
