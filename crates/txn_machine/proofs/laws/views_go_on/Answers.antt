use Rattle.txn_machine.proofs.Reached.{run_reaches, next_views}
use Rattle.txn_machine.proofs.laws.views_go_on.Goals as goal

pub returns : goal.returns
returns g c clients page taken old event said new room runs takes number was is before after =
    next_views _ _ _ _ old event said new (run_reaches _ _ _ _ clients page taken old room runs) takes number was is before after
