use Rattle.slatedb_txn_obj_uses.proofs.Objects.{is_new}
use Rattle.slatedb_txn_obj_uses.proofs.setting.new_protocol.Goals as goal

pub returns : goal.returns
returns c = is_new c.args.root.now _ c.new.result c.new.ensures.layout c.new.ensures.latest c.new.ensures.boundary c.new.ensures.apart
