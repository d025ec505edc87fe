use Rattle.txn_steps_laws.proofs.Driven.{holder_update_driven}
use Rattle.txn_steps_laws.proofs.driven_entries.holder_update_driven.Goals as goal

pub returns : goal.returns
returns g c epoch_of local id object value steps a b answer small reads starts on = holder_update_driven c.args._layout.now.names c.args._layout.now.boundary (g.C.ObjectCodec.encoded c.args._layout.now.codec) (g.C.ObjectCodec.decoded c.args._layout.now.codec) value reads id small epoch_of local object a starts steps answer b on
