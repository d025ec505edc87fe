use Rattle.txn_diary.proofs.PageBounds.{turns_by_files}
use Rattle.txn_diary.proofs.pages.two_turns_a_page.Goals as goal

pub returns : goal.returns
returns g c clients page before state client call states room runs is alone =
    let encode = g.C.ObjectCodec.encoded c.args._codec.now in
    let decode = g.C.ObjectCodec.decoded c.args._codec.now in
    let get_epoch = g.E.EpochField.epoch_of c.args._epochs.now in
    let set_epoch = g.E.EpochField.with_epoch c.args._epochs.now in
    turns_by_files encode decode get_epoch set_epoch clients page before state client call states room runs is alone
