use Rattle.txn_folder_model.proofs.Keeping.{are_apart, are_elsewhere, asks_fit, are_diaries, are_of_folder}
use Rattle.txn_folder_model.proofs.laws.clients_of_a_killed_call_keep_journals.Goals as goal

pub returns : goal.returns
returns g c = record {
  diaries = λ page value lefts reads is. are_diaries page (g.C.ObjectCodec.encoded c.args._codec.now) (g.C.ObjectCodec.decoded c.args._codec.now) (g.E.EpochField.epoch_of c.args._epochs.now) (g.E.EpochField.with_epoch c.args._epochs.now) value reads lefts is;
  folder = λ value lefts is. are_of_folder value (g.C.ObjectCodec.encoded c.args._codec.now value) lefts is;
  places = (are_apart, are_elsewhere);
  asked = λ t value. asks_fit (g.C.ObjectCodec.encoded c.args._codec.now value) t;
}
