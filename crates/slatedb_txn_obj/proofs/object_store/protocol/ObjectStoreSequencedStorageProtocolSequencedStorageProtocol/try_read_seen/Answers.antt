-- A read leaves the file of the boundary.
use Rattle.std.proofs.Common.{rules}
use Rattle.slatedb_txn_obj.proofs.Leaving.{same-kept}
use Rattle.slatedb_txn_obj.proofs.Wholes.{whole-seen, whole-seen_kept, whole-seen_cause}
use Rattle.slatedb_txn_obj.proofs.object_store.protocol.ObjectStoreSequencedStorageProtocolSequencedStorageProtocol.try_read_seen.Goals as goal

pub returns-clause-found : goal.returns-clause-found
returns-clause-found g c = rw (← c.self.view_is, c.widened.ensures) (whole-seen _ _ _ _ _ _ _ _ _ (λ b same bounds. g.met.B.BoundaryObject.bounds_frame c.self.inside.boundary c.args.store.now c.read_seen.new.store b same bounds) _ c.read_seen.result c.read_seen.ensures)

pub returns-clause-read : goal.returns-clause-read
returns-clause-read g c = record {
  kept = rw (← c.self.view_is) (whole-seen_kept _ _ _ _ _ _ _ _ _ (λ b same bounds. g.met.B.BoundaryObject.bounds_frame c.self.inside.boundary c.args.store.now c.read_seen.new.store b same bounds) _ c.read_seen.result c.read_seen.ensures);
  spends = search rules;
  paged = search rules;
  cause = rw (← c.self.view_is, c.widened.ensures) (whole-seen_cause _ _ _ _ _ _ _ _ _ c.read_seen.result c.read_seen.ensures);
  placed = search rules;
  files = same-kept c.read_seen.ensures.kept;
}
