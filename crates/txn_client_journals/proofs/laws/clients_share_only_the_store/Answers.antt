use Rattle.txn_client_journals.proofs.Shares.{share_only_the_store}
use Rattle.txn_client_journals.proofs.laws.clients_share_only_the_store.Goals as goal

pub returns : goal.returns
returns g c page clients log diaries store room le logged kept due =
    share_only_the_store page (g.C.ObjectCodec.encoded c.args._codec.now) (g.C.ObjectCodec.decoded c.args._codec.now) (g.E.EpochField.epoch_of c.args._epochs.now) (g.E.EpochField.with_epoch c.args._epochs.now) clients log diaries store room le logged kept due
