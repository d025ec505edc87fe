use Rattle.std.proofs.Common.{map, take}
use Rattle.txn_client_journals.specs.Shares.{AreDiaries}
use Rattle.txn_diary.specs.Diaries.{as_diary}
use Rattle.txn_audit.proofs.diaries.are_diaries.Given as goal

-- the diaries so far keep what their journals lead to
abbrev pub invariant-loop-diary : goal.invariant-loop-diary
invariant-loop-diary g l = AreDiaries l.page (g.C.ObjectCodec.encoded l.codec) (g.C.ObjectCodec.decoded l.codec) (g.E.EpochField.epoch_of l.epochs) (g.E.EpochField.with_epoch l.epochs) (map as_diary (take l.diary-index l.diaries))
