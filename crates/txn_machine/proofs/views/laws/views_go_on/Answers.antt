use Rattle.txn_machine.proofs.views.Runs.{reached}
use Rattle.txn_machine.proofs.views.Goes.{step_goes}
use Rattle.txn_machine.proofs.views.laws.views_go_on.Goals as goal

pub returns : goal.returns
returns g c = λ decode get_epoch set_epoch n s after runs step. step_goes decode get_epoch set_epoch s after (reached decode get_epoch set_epoch n s runs) step
