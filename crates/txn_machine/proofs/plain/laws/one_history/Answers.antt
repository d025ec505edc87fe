use Rattle.txn_machine.specs.plain.Machine.{opening}
use Rattle.txn_machine.proofs.plain.World.{opening_stands, runs_keep}
use Rattle.txn_machine.proofs.plain.laws.one_history.Goals as goal

pub returns : goal.returns
returns g c clients page taken state room runs =
    let encode = g.C.ObjectCodec.encoded c.args._codec.now in
    let decode = g.C.ObjectCodec.decoded c.args._codec.now in
    let get_epoch = g.E.EpochField.epoch_of c.args._epochs.now in
    (runs_keep encode decode get_epoch (opening clients page) taken state runs (opening_stands encode decode get_epoch clients page room)).know.history.good
