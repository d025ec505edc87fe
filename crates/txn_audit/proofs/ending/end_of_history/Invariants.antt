use Rattle.std.proofs.Common.{◌≡◌, ℕ, nat_eq, length, take, reverse}
use Rattle.std.specs.HashSet.{contains, hash_set_len}
use Rattle.txn_history.specs.History.{has_id}
use Rattle.txn_audit.specs.HistoryEnds.{versions_in, boundary_in}
use Rattle.txn_audit.proofs.ending.end_of_history.Given as goal

-- the ids, their count and the boundary of the rows so far
abbrev pub invariant-loop-row : goal.invariant-loop-row
invariant-loop-row g l = record {
  has : (n : ℕ) → contains nat_eq l.created n ≡ has_id (versions_in (reverse (take l.row-index l.rows))) n;
  len : hash_set_len l.created ≡ length (versions_in (reverse (take l.row-index l.rows)));
  stands : l.boundary ≡ boundary_in (reverse (take l.row-index l.rows));
}
