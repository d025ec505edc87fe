use Rattle.txn_folder_model.proofs.Order.{clients_share}
use Rattle.txn_folder_model.proofs.laws.clients_of_a_folder_share_only_a_store.Goals as goal

pub returns : goal.returns
returns g c names boundary floor n many ops events listings page clients diaries apart apart_there elsewhere may room made paged few kept of =
    clients_share page (g.C.ObjectCodec.encoded c.args._codec.now) (g.C.ObjectCodec.decoded c.args._codec.now) (g.E.EpochField.epoch_of c.args._epochs.now) (g.E.EpochField.with_epoch c.args._epochs.now) names boundary floor n many ops events listings apart apart_there elsewhere may room made paged diaries kept of clients few
