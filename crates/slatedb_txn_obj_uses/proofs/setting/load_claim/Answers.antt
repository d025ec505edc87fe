-- The new protocol stands for what the object does.
use Rattle.slatedb_txn_obj_uses.specs.Workloads.{numbers_to}
use Rattle.slatedb_txn_obj_uses.proofs.Objects.{new_stands}
use Rattle.slatedb_txn_obj_uses.proofs.setting.load_claim.Goals as goal

pub returns : goal.returns
returns g c = record {
  right = λ wrong b stands. c.claim_newest.ensures.right wrong b (new_stands c.args.root.now c.in_ok-protocol.protocol (g.S.ObjectStore.state c.args.store.now) (numbers_to c.args.newest) b c.in_ok-protocol.ensures stands);
}
