use Rattle.std.proofs.Common.{ℕ, ◌<◌}
use Rattle.std.specs.Prelude.{slice_index, Contains}
use Rattle.txn_folder.proofs.steps.scans.has_all.Given as goal

-- the ids so far are among those
abbrev pub invariant-loop-id : goal.invariant-loop-id
invariant-loop-id l = (k : ℕ) → k < l.id-index → Contains l.those (slice_index l.these k)
