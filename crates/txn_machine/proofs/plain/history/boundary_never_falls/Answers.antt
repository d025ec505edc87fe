use Rattle.txn_machine.proofs.plain.PlainLegal.{are_moves}
use Rattle.txn_history.proofs.Fronts.{never_falls}
use Rattle.txn_machine.proofs.plain.history.boundary_never_falls.Goals as goal

pub returns : goal.returns
returns g c = λ decode get_epoch failed rows good. never_falls decode get_epoch rows (are_moves decode get_epoch failed rows good)
