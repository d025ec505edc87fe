use Rattle.txn_audit.proofs.recordings.Gathering.{is_of}
use Rattle.txn_audit.proofs.recordings.audit.diary_of.Goals as goal

pub returns-in-Ok-clause-of : goal.returns-in-Ok-clause-of
returns-in-Ok-clause-of g c = is_of c.args.page g.T.TextForm.text c.as_slice.result.now c.args.rows.now.items c.in-Ok.diary c.as_slice.ensures.value c.in-Ok.ensures.client c.in-Ok.ensures.tells
