use Rattle.txn_machine.proofs.plain.AllTurns.{turns_at_rest}
use Rattle.txn_machine.proofs.plain.alone.turns_at_rest.Goals as goal

pub returns : goal.returns
returns g c state client more states reached alone pages =
    turns_at_rest (g.C.ObjectCodec.encoded c.args._codec.now) (g.C.ObjectCodec.decoded c.args._codec.now) (g.E.EpochField.epoch_of c.args._epochs.now) state client more states reached alone pages
