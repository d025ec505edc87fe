use Rattle.txn_machine.proofs.views.Examples.{claimed_run}
use Rattle.txn_machine.proofs.views.laws.a_view_is_claimed.Goals as goal

pub returns : goal.returns
returns g c = λ decode get_epoch set_epoch value makeable. claimed_run decode get_epoch set_epoch value makeable
