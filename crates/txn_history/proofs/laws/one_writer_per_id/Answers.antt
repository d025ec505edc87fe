use Rattle.txn_history.proofs.Owners.{one_writer}
use Rattle.txn_history.proofs.laws.one_writer_per_id.Goals as goal

pub returns : goal.returns
returns g c = λ decode get_epoch set_epoch failed rows good. one_writer decode get_epoch set_epoch failed rows good
