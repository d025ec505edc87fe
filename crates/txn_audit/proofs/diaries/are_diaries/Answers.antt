use Rattle.std.proofs.Common.{map, arith, subst}
use Rattle.std.proofs.lemmas.List.{take_all}
use Rattle.txn_client_journals.specs.Shares.{AreDiaries}
use Rattle.txn_diary.specs.Diaries.{as_diary}
use Rattle.txn_audit.proofs.Keeping.{one_more}
use Rattle.txn_audit.proofs.diaries.are_diaries.Goals as goal

pub loop-diary-preserved : goal.loop-diary-preserved
loop-diary-preserved g c =
    one_more g.C.ObjectCodec.encoded g.C.ObjectCodec.decoded g.E.EpochField.epoch_of g.E.EpochField.with_epoch c.args.page c.args.codec.now c.args.epochs.now c.args.diaries.now c.loop-diary.diary-index c.diary-item.result c.loop-diary-test.true c.diary-item.is c.loop-diary.invariant c.requires c.rows-rows.ensures.replays

pub returns : goal.returns
returns g c =
    subst (λ ds. AreDiaries c.args.page (g.C.ObjectCodec.encoded c.args.codec.now) (g.C.ObjectCodec.decoded c.args.codec.now) (g.E.EpochField.epoch_of c.args.epochs.now) (g.E.EpochField.with_epoch c.args.epochs.now) (map as_diary ds)) (take_all c.loop-diary.diary-index c.args.diaries.now (omega arith)) c.loop-diary.invariant
