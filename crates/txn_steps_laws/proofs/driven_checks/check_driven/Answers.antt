use Rattle.txn_steps_laws.proofs.DrivenCheck.{check_driven}
use Rattle.txn_steps_laws.proofs.driven_checks.check_driven.Goals as goal

pub returns : goal.returns
returns c path id steps a b answer starts on = check_driven path id a starts steps answer b on
