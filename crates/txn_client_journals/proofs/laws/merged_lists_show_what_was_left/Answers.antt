use Rattle.txn_client_journals.proofs.Complete.{merged_left}
use Rattle.txn_client_journals.proofs.laws.merged_lists_show_what_was_left.Goals as goal

pub returns : goal.returns
returns g c page log diaries m kept there rows merges =
    merged_left page (g.C.ObjectCodec.encoded c.args._codec.now) (g.C.ObjectCodec.decoded c.args._codec.now) (g.E.EpochField.epoch_of c.args._epochs.now) (g.E.EpochField.with_epoch c.args._epochs.now) log diaries m kept there rows merges
