use Rattle.txn_steps_laws.proofs.Driven.{init_driven}
use Rattle.txn_steps_laws.proofs.driven_entries.init_driven.Goals as goal

pub returns : goal.returns
returns g c value steps a b answer reads starts on = init_driven c.args._layout.now.names c.args._layout.now.boundary (g.C.ObjectCodec.encoded c.args._layout.now.codec) (g.C.ObjectCodec.decoded c.args._layout.now.codec) value reads a starts steps answer b on
