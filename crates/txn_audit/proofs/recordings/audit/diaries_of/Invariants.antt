use Rattle.std.proofs.Common.{All, map, take}
use Rattle.txn_diary.specs.Diaries.{as_diary, IsMadeWith}
use Rattle.txn_audit.specs.recordings.OneHistory.{AreOf}
use Rattle.txn_audit.proofs.recordings.audit.diaries_of.Given as goal

-- the diaries so far are those of the recordings so far, all made with these
abbrev pub invariant-loop-recording : goal.invariant-loop-recording
invariant-loop-recording g l =
    AreOf l.page g.T.TextForm.text (take l.recording (map (λ rows. rows.items) l.recordings)) (map as_diary l.diaries.items)
    × All (IsMadeWith l.page l.codec l.epochs) l.diaries.items
