use Rattle.txn_history.proofs.Begins.{opens_next}
use Rattle.txn_history.proofs.laws.allowed_begins_open.Goals as goal

pub returns : goal.returns
returns g c = λ decode get_epoch set_epoch failed rows seen client call good fit e. opens_next decode get_epoch set_epoch failed rows good seen fit client call e
