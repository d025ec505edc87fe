use Rattle.txn_machine.proofs.plain.PlainOwners.{one_writer}
use Rattle.txn_machine.proofs.plain.history.one_writer_per_id.Goals as goal

pub returns : goal.returns
returns g c = λ decode get_epoch failed rows good. one_writer decode get_epoch failed rows good
