use Rattle.txn_history.proofs.Claimers.{one_claimer}
use Rattle.txn_history.proofs.laws.one_claimer_per_epoch.Goals as goal

pub returns : goal.returns
returns g c = λ decode get_epoch set_epoch failed rows good. one_claimer decode get_epoch set_epoch failed rows good
