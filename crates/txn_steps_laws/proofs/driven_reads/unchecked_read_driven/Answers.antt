use Rattle.txn_steps_laws.proofs.DrivenVersion.{unchecked_read_driven}
use Rattle.txn_steps_laws.proofs.driven_reads.unchecked_read_driven.Goals as goal

pub returns : goal.returns
returns g c id steps a b answer small starts on = unchecked_read_driven c.args._layout.now.names (g.C.ObjectCodec.decoded c.args._layout.now.codec) id small a starts steps answer b on
