use Rattle.txn_audit.specs.recordings.Stages.{GoesOn, IsSameClient}
use Rattle.txn_audit.proofs.recordings.stage.Rebuilding.look_on.Given as goal

-- what was told is told, and the client is the same
abbrev pub invariant-loop : goal.invariant-loop
invariant-loop g l = GoesOn g.T.TextForm.text l.fn.self.diary.rows l.fn.self.begun l.fn.self.stage l.self.diary.rows l.self.begun l.self.stage × IsSameClient l.fn.self.diary l.self.diary
