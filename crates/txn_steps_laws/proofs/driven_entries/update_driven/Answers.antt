use Rattle.txn_steps_laws.proofs.Driven.{update_driven}
use Rattle.txn_steps_laws.proofs.driven_entries.update_driven.Goals as goal

pub returns : goal.returns
returns g c id value steps a b answer small reads starts on = update_driven c.args._layout.now.names c.args._layout.now.boundary (g.C.ObjectCodec.encoded c.args._layout.now.codec) (g.C.ObjectCodec.decoded c.args._layout.now.codec) value reads id small a starts steps answer b on
