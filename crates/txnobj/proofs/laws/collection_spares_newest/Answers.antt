use Rattle.txnobj.proofs.Collecting.{newest_spared}
use Rattle.txnobj.proofs.laws.collection_spares_newest.Goals as goal

pub returns : goal.returns
returns g c = λ id old removed new collects. newest_spared g.P.TransactionalStorageProtocol.made g.P.TransactionalStorageProtocol.stopped g.P.TransactionalStorageProtocol.tells id old removed new collects
