use Rattle.txn_steps_laws.proofs.DrivenDelete.{checked_delete_driven}
use Rattle.txn_steps_laws.proofs.driven_writes.checked_delete_driven.Goals as goal

pub returns : goal.returns
returns g c path id steps a b answer starts on = checked_delete_driven c.args._layout.now.names (g.C.ObjectCodec.decoded c.args._layout.now.codec) path id a starts steps answer b on
