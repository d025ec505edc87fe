-- A delete leaves the file of the boundary.
use Rattle.slatedb_txn_obj.proofs.Leaving.{deleted-removes}
use Rattle.slatedb_txn_obj.proofs.Wholes.{whole-deleted, whole-removed}
use Rattle.slatedb_txn_obj.proofs.object_store.protocol.ObjectStoreSequencedStorageProtocolSequencedStorageProtocol.delete_unchecked.Goals as goal

pub returns-clause-kept : goal.returns-clause-kept
returns-clause-kept g c = rw (← c.self.view_is) (whole-deleted _ _ _ _ _ _ _ _ _ (λ b same bounds. g.met.B.BoundaryObject.bounds_frame c.self.inside.boundary c.args.store.now c.delete_version.new.store b same bounds) c.args.id c.delete_version.result c.number_fits.ensures c.delete_version.ensures)

pub returns-clause-removed : goal.returns-clause-removed
returns-clause-removed g c = rw c.widened.ensures (whole-removed _ _ c.args.id _ _ _ _ c.delete_version.result c.delete_version.ensures)

pub returns-clause-removes : goal.returns-clause-removes
returns-clause-removes g c = rw (← c.self.view_is) (deleted-removes c.args.id c.delete_version.result c.delete_version.ensures)
