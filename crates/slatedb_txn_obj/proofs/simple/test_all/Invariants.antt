-- Each invariant so far holds.
use Rattle.std.proofs.Common.{ℕ, ◌<◌, slice_index_or}
use Rattle.slatedb_txn_obj.proofs.simple.test_all.Given as goal

abbrev pub invariant-loop-invariant : goal.invariant-loop-invariant
invariant-loop-invariant g l = (k : ℕ) (d : _) → k < l.invariant-index → g.I.Invariant.holds (slice_index_or l.invariants k d) l.dirty l.current
