use Rattle.txn_machine.proofs.plain.Passes.{two_passes}
use Rattle.txn_machine.proofs.plain.alone.two_passes.Goals as goal

pub returns : goal.returns
returns g c state client states reached alone =
    two_passes (g.C.ObjectCodec.encoded c.args._codec.now) (g.C.ObjectCodec.decoded c.args._codec.now) (g.E.EpochField.epoch_of c.args._epochs.now) state client states reached alone
