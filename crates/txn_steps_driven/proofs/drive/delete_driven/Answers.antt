use Rattle.txn_steps_driven.proofs.DriveLemmas.{delete_driven}
use Rattle.txn_steps_driven.proofs.drive.delete_driven.Goals as goal

pub returns : goal.returns
returns g c id steps a b answer starts on = delete_driven c.args._layout.now.names (g.C.ObjectCodec.decoded c.args._layout.now.codec) id a starts steps answer b on
