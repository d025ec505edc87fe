use Rattle.txn_audit.specs.recordings.Stages.{IsSameClient}
use Rattle.txn_audit.proofs.recordings.Following.{Leads}
use Rattle.txn_audit.proofs.recordings.rebuild.follow.Given as goal

-- what the rows so far tell is told, and the client is the same
abbrev pub invariant-loop-place : goal.invariant-loop-place
invariant-loop-place g l = Leads g.T.TextForm.text l.rows l.place l.fn.rebuilding.diary.rows l.fn.rebuilding.begun l.fn.rebuilding.stage l.rebuilding.diary.rows l.rebuilding.begun l.rebuilding.stage × IsSameClient l.fn.rebuilding.diary l.rebuilding.diary
