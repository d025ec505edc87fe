use Rattle.std.proofs.Common.{length, take}
use Rattle.txn_world_threads.specs.Kept.{AreCounts}
use Rattle.txn_world_threads.proofs.kept.count_rows.Given as goal

-- the counts of the rows so far
abbrev pub invariant-loop-row : goal.invariant-loop-row
invariant-loop-row g l = AreCounts (length l.fn.counts) (take l.row-index l.journal) l.counts
