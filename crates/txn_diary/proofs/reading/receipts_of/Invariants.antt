use Rattle.std.proofs.Common.{◌≡◌, ◌++◌, map, drop}
use Rattle.txn_client_journals.specs.Verdict.{receipts_in}
use Rattle.txn_diary.proofs.reading.receipts_of.Given as goal

-- with the receipts of the rest they are all receipts
abbrev pub invariant-loop-row : goal.invariant-loop-row
invariant-loop-row g l = map (λ r. r.now) l.receipts.items ++ receipts_in (drop l.row-index l.rows) ≡ receipts_in l.rows
