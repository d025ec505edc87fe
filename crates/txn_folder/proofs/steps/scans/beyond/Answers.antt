use Rattle.txn_folder.proofs.steps.ScanLemmas.{front, not_front}
use Rattle.txn_folder.proofs.steps.scans.beyond.Goals as goal

pub returns-in_err-rest : goal.returns-in_err-rest
returns-in_err-rest c = rw c.from_residual.ensures (not_front _ _ _ c.in_err-rest.ensures.cases)

pub returns-then-begins_above : goal.returns-then-begins_above
returns-then-begins_above c = (front _ _ _ c.in_ok-rest.ensures.cases.0 c.in_ok-rest.ensures.cases.1, c.begins_above.ensures.0 c.if-begins_above.true)
