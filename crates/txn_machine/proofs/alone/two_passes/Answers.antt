use Rattle.txn_machine.proofs.Mirroring.{two_passes}
use Rattle.txn_machine.proofs.Reached.{run_reaches}
use Rattle.txn_machine.proofs.alone.two_passes.Goals as goal

pub returns : goal.returns
returns g c clients page before state client call states room runs is alone =
    two_passes _ _ _ _ state client call states (run_reaches _ _ _ _ clients page before state room runs) is alone
