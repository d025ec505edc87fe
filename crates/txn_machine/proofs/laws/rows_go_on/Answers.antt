use Rattle.txn_machine.proofs.Owned.{run_keeps_clients}
use Rattle.txn_machine.proofs.Reached.{run_reaches, reached_stored, reached_event}
use Rattle.txn_machine.specs.Machine.{opening}
use Rattle.txn_machine.proofs.Runs.{or_lacking, runs_or_lacking}
use Rattle.txn_machine.proofs.laws.rows_go_on.Goals as goal

pub returns-clause-clients : goal.returns-clause-clients
returns-clause-clients g c clients page taken state runs =
    run_keeps_clients _ _ _ _ clients page taken state (runs_or_lacking _ _ _ _ (opening clients page) taken state runs)

pub returns-clause-stored : goal.returns-clause-stored
returns-clause-stored g c clients page taken state room runs =
    reached_stored _ _ _ _ state (run_reaches _ _ _ _ clients page taken state room runs)

pub returns-clause-events : goal.returns-clause-events
returns-clause-events g c clients page taken old event said new room runs takes =
    reached_event _ _ _ _ old event said new (run_reaches _ _ _ _ clients page taken old room runs) (or_lacking _ _ _ _ old event said new takes)
