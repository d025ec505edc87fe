use Rattle.txn_steps_driven.proofs.DriveLemmas.{list_driven}
use Rattle.txn_steps_driven.proofs.drive.list_driven.Goals as goal

pub returns : goal.returns
returns g c from to steps a b answer starts on = list_driven c.args._layout.now.names (g.C.ObjectCodec.decoded c.args._layout.now.codec) c.args._layout.now.page c.requires from to a starts steps answer b on
