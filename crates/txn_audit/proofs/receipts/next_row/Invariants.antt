use Rattle.std.proofs.Common.{length, ◌-◌, ◌≡◌, ◌≤◌, drop}
use Rattle.txn_client_journals.specs.Verdict.{rows_of}
use Rattle.txn_audit.proofs.receipts.next_row.Given as goal

-- no row so far is the client's
abbrev pub invariant-loop-place : goal.invariant-loop-place
invariant-loop-place l = record {
  above : l.fn.from ≤ l.place;
  within : l.place ≤ length l.log;
  same : rows_of l.client l.fn.from (drop l.fn.from l.log) ≡ rows_of l.client l.place (drop l.place l.log);
}

abbrev pub decreases-loop-place : goal.decreases-loop-place
decreases-loop-place l = length l.log - l.place
