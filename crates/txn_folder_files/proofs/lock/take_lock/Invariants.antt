use Rattle.std.proofs.Common.{◌≡◌}
use Rattle.txn_folder_files.proofs.lock.take_lock.Given as goal

-- the lock is of this name, and shared so
abbrev pub invariant-loop-turn : goal.invariant-loop-turn
invariant-loop-turn g l = (l.lock.name ≡ l.fn.name) × (l.lock.sharing ≡ l.fn.sharing)
