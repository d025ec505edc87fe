use Rattle.txn_diary.proofs.Diaries.{done_journal}
use Rattle.txn_diary.proofs.laws.done_is_a_journal.Goals as goal

pub returns : goal.returns
returns g c = λ old new rows none alive did. done_journal g.C.ObjectCodec.encoded g.C.ObjectCodec.decoded g.E.EpochField.epoch_of g.E.EpochField.with_epoch old new rows none alive did
