use Rattle.txn_machine.proofs.plain.PlainLegal.{are_moves}
use Rattle.txn_history.proofs.Fronts.{keeps_above}
use Rattle.txn_machine.proofs.plain.history.above_boundary_is_not_removed.Goals as goal

pub returns : goal.returns
returns g c = λ decode get_epoch failed rows good. keeps_above decode get_epoch rows (are_moves decode get_epoch failed rows good)
