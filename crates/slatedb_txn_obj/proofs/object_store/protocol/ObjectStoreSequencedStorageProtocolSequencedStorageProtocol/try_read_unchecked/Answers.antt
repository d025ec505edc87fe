use Rattle.std.proofs.Common.{rules, refl}
use Rattle.slatedb_txn_obj.proofs.Leaving.{same-kept}
use Rattle.slatedb_txn_obj.proofs.Wholes.{whole-version, whole-version_cause, version-absent}
use Rattle.slatedb_txn_obj.proofs.object_store.protocol.ObjectStoreSequencedStorageProtocolSequencedStorageProtocol.try_read_unchecked.Goals as goal

pub returns-clause-found : goal.returns-clause-found
returns-clause-found g c = rw (← c.self.view_is, c.widened.ensures) (whole-version _ _ _ _ _ _ c.self.inside.latest _ c.read_version.result c.read_version.ensures)

pub returns-clause-read : goal.returns-clause-read
returns-clause-read g c = record {
  kept = search rules;
  spends = search rules;
  paged = search rules;
  cause = rw (← c.self.view_is, c.widened.ensures) (whole-version_cause _ _ _ _ _ _ c.self.inside.latest c.args.id c.read_version.result c.number_fits.ensures c.read_version.ensures);
  placed = refl;
  files = same-kept c.read_version.ensures.kept;
}

pub returns-clause-absent : goal.returns-clause-absent
returns-clause-absent g c = rw (← c.self.view_is, c.widened.ensures) (version-absent _ _ _ _ c.args.id c.read_version.result c.read_version.ensures)
