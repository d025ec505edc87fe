use Rattle.txn_audit.specs.recordings.Told.{row_tells}
use Rattle.txn_audit.proofs.recordings.Telling.{goes_then}
use Rattle.txn_audit.proofs.recordings.stage.Rebuilding.take.Goals as goal

pub returns-clause-told : goal.returns-clause-told
returns-clause-told g c =
    let old = c.args.self.now in
    let made = c.make.new.self in
    let new = c.look_on.new.self in
    goes_then g.T.TextForm.text (row_tells c.args.row.now) old.diary.rows made.diary.rows new.diary.rows old.begun made.begun new.begun old.stage made.stage new.stage c.in_ok-make.ensures.told c.in_ok-look_on.ensures.told
