-- the path stands in no file so far
use Rattle.std.proofs.Common.{◌≡◌, take, None}
use Rattle.std.specs.FinMap.{find}
use Rattle.txn_store.specs.Paths.{path_cmp}
use Rattle.slatedb_txn_obj_uses.proofs.listed.position.Given as goal

abbrev pub invariant-loop-index : goal.invariant-loop-index
invariant-loop-index l = find path_cmp l.path (take l.index l.files) ≡ None
