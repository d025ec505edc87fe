use Rattle.txn_steps_laws.proofs.DrivenRead.{read_driven}
use Rattle.txn_steps_laws.proofs.driven_reads.read_driven.Goals as goal

pub returns : goal.returns
returns g c steps a b answer ascending small starts on = read_driven c.args._layout.now.names c.args._layout.now.boundary c.args._layout.now.page c.requires (g.C.ObjectCodec.decoded c.args._layout.now.codec) a starts ascending small steps answer b on
