use Rattle.std.proofs.Common.{◌≡◌, None, drop}
use Rattle.std.specs.Option.{option_copied}
use Rattle.txn_client_journals.specs.Verdict.{left_at}
use Rattle.txn_audit.proofs.landings.left_at.Given as goal

-- what is left of the journal goes on from what was found
abbrev pub invariant-loop-row : goal.invariant-loop-row
invariant-loop-row g l = record { rest : left_at l.place l.op (option_copied l.found) (drop l.row-index l.rows) ≡ left_at l.fn.place l.fn.op None l.fn.rows }
