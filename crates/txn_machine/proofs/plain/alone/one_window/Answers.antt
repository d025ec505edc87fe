use Rattle.txn_machine.specs.plain.Machine.{opening}
use Rattle.txn_machine.proofs.plain.Windowed.{opening_windowed, runs_windowed, numbered_window}
use Rattle.txn_machine.proofs.plain.alone.one_window.Goals as goal

pub returns : goal.returns
returns g c clients page client taken state caches runs held =
    let encode = g.C.ObjectCodec.encoded c.args._codec.now in
    let decode = g.C.ObjectCodec.decoded c.args._codec.now in
    let get_epoch = g.E.EpochField.epoch_of c.args._epochs.now in
    numbered_window state.caches client caches held (runs_windowed encode decode get_epoch (opening clients page) taken state runs (opening_windowed encode decode get_epoch clients page))
