use Rattle.std.proofs.Common.{arith}
use Rattle.std.proofs.lemmas.List.Elements.{All-push}
use Rattle.txn_diary.specs.Diaries.{as_diary, IsMadeWith}
use Rattle.txn_audit.proofs.recordings.Gathering.{of_next, of_all}
use Rattle.txn_audit.proofs.recordings.audit.diaries_of.Goals as goal

pub loop-recording-preserved : goal.loop-recording-preserved
loop-recording-preserved g c =
    let l = c.loop-recording in (
      of_next c.args.page g.T.TextForm.text (λ rows. rows.items) as_diary c.args.recordings.now l.recording l.diaries.items c.push.new.self.items c.index-recordings-recording.result c.in_ok-diary.diary c.loop-recording-test.true c.index-recordings-recording.is c.in_ok-push.ensures.items l.invariant.0 c.in_ok-diary.ensures.of,
      rw (c.in_ok-push.ensures.items) (All-push (IsMadeWith c.args.page c.args.codec c.args.epochs) l.diaries.items c.in_ok-diary.diary l.invariant.1 c.in_ok-diary.ensures.made),
    )

pub returns-clause-told : goal.returns-clause-told
returns-clause-told g c = of_all c.args.page g.T.TextForm.text (λ rows. rows.items) as_diary c.args.recordings.now c.loop-recording.recording c.loop-recording.diaries.items (omega (arith, c.loop-recording-test.false)) c.loop-recording.invariant.0
