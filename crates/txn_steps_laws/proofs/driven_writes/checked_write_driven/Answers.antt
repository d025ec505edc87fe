use Rattle.txn_steps_laws.proofs.DrivenWrite.{checked_write_driven}
use Rattle.txn_steps_laws.proofs.driven_writes.checked_write_driven.Goals as goal

pub returns : goal.returns
returns g c path base value steps a b answer last reads starts on =
    checked_write_driven c.args._layout.now.names (g.C.ObjectCodec.decoded c.args._layout.now.codec) path base (g.C.ObjectCodec.encoded c.args._layout.now.codec value) value reads last a starts steps answer b on
