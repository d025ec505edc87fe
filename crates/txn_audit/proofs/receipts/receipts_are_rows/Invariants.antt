use Rattle.std.proofs.Common.{length, ◌≡◌, ◌≤◌, drop}
use Rattle.txn_client_journals.specs.Verdict.{receipts_in, rows_of}
use Rattle.txn_audit.proofs.receipts.receipts_are_rows.Given as goal

-- what is left of the journal and of the log decides
abbrev pub invariant-loop-row : goal.invariant-loop-row
invariant-loop-row g l = record {
  within : l.place ≤ length l.log;
  yes : receipts_in (drop l.row-index l.rows) ≡ rows_of l.client l.place (drop l.place l.log) → receipts_in l.fn.rows ≡ rows_of l.fn.client 0 l.fn.log;
  no : receipts_in l.fn.rows ≡ rows_of l.fn.client 0 l.fn.log → receipts_in (drop l.row-index l.rows) ≡ rows_of l.client l.place (drop l.place l.log);
}
