use Rattle.std.proofs.Common.{◌≡◌, ◌+◌, drop, length}
use Rattle.txn_folder.specs.steps.Scans.{followed}
use Rattle.txn_folder.proofs.steps.scans.followed.Given as goal

-- so many ids are behind, and what follows the end in what is left is the rest of the run
abbrev pub invariant-loop-id : goal.invariant-loop-id
invariant-loop-id l = (l.count ≡ l.id-index) × (l.count + length (followed l.end (drop l.id-index l.ids)) ≡ length (followed l.fn.last l.ids))
