use Rattle.txn_machine.proofs.Reached.{run_reaches_or_lacking, reached_fits}
use Rattle.txn_machine.proofs.laws.one_shared_history.Goals as goal

pub returns : goal.returns
returns g c clients page taken state room runs =
    reached_fits _ _ _ _ state (run_reaches_or_lacking _ _ _ _ clients page taken state room runs)
