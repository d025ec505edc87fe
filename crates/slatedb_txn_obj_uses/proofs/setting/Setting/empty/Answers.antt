-- A new protocol stands over an empty store.
use Rattle.std.proofs.Common.{[], sym, subst}
use Rattle.txn_store.specs.Memory.{searched_state}
use Rattle.slatedb_txn_obj_uses.specs.Objects.{ObjectStands}
use Rattle.slatedb_txn_obj_uses.proofs.Objects.{new_stands, empty_stands}
use Rattle.slatedb_txn_obj_uses.proofs.setting.Setting.empty.Goals as goal

pub returns : goal.returns
returns c =
    let root = c.in_ok-root.root in
    let empty = subst (λ store. ObjectStands root (searched_state store) [] 0) (sym c.new.ensures) (empty_stands root 1) in
    new_stands root c.in_ok-protocol.protocol (searched_state c.new.result) [] 0 c.in_ok-protocol.ensures empty
