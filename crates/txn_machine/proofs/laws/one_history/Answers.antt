use Rattle.txn_machine.proofs.Reached.{run_reaches, reached_fits}
use Rattle.txn_machine.proofs.laws.one_history.Goals as goal

pub returns : goal.returns
returns g c clients page taken state room runs =
    reached_fits _ _ _ _ state (run_reaches _ _ _ _ clients page taken state room runs)
