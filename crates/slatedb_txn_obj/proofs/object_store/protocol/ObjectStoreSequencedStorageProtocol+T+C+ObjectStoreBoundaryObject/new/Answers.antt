use Rattle.std.proofs.Common.{◌≡◌, None}
use Rattle.slatedb_txn_obj.proofs.Apart.{new-apart}
use Rattle.slatedb_txn_obj.proofs.object_store.protocol.ObjectStoreSequencedStorageProtocol+T+C+ObjectStoreBoundaryObject.new.Goals as goal

pub returns-clause-apart : goal.returns-clause-apart
returns-clause-apart g c = new-apart (λ b. b.path) (λ b. b.cached ≡ None) c.args.root.now c.args.subdir.now c.args.file_suffix.now c.args.codec 1000 c.in_ok-new.field-0 c.in_ok-new.ensures.ok c.of_layout.result c.of_layout.ensures.layout c.of_layout.ensures.boundary
