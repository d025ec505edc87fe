use Rattle.slatedb_txn_obj.proofs.Wholes.{whole-listed}
use Rattle.slatedb_txn_obj.proofs.object_store.protocol.ObjectStoreSequencedStorageProtocolSequencedStorageProtocol.list.Goals as goal

pub returns-clause-listed : goal.returns-clause-listed
returns-clause-listed g c = rw (← c.self.view_is, c.into_vec.ensures) (whole-listed _ _ _ _ _ _ _ _ _ c.self.inside.latest c.in_ok-versions.versions c.in_ok-versions.ensures)

pub returns-clause-told : goal.returns-clause-told
returns-clause-told g c = rw (← c.self.view_is, c.into_vec.ensures) c.in_ok-versions.ensures.told
