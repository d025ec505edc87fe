use Rattle.txn_machine.proofs.plain.PlainBegins.{opens_next}
use Rattle.txn_machine.proofs.plain.history.allowed_begins_open.Goals as goal

pub returns : goal.returns
returns g c = λ decode get_epoch rows seen client call e. opens_next decode get_epoch rows seen client call e
