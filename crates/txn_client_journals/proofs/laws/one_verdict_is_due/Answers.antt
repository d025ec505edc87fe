use Rattle.txn_client_journals.proofs.Verdict.{one_due}
use Rattle.txn_client_journals.proofs.laws.one_verdict_is_due.Goals as goal

pub returns : goal.returns
returns g c log diaries verdict other = one_due log diaries verdict other
