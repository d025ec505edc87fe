use Rattle.txn_machine.proofs.Mirroring.{turns_at_rest}
use Rattle.txn_machine.proofs.Reached.{run_reaches}
use Rattle.txn_machine.proofs.alone.turns_at_rest.Goals as goal

pub returns : goal.returns
returns g c clients page before state client call more states room runs is alone pages =
    turns_at_rest _ _ _ _ state client call more states (run_reaches _ _ _ _ clients page before state room runs) is alone pages
