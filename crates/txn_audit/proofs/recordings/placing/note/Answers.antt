use Rattle.txn_audit.proofs.recordings.Landing.{still_noted}
use Rattle.std.proofs.Common.{◌∙◌}
use Rattle.txn_audit.proofs.recordings.placing.note.Goals as goal

pub returns-in_ok-insert-in-Some-clause-kept : goal.returns-in_ok-insert-in-Some-clause-kept
returns-in_ok-insert-in-Some-clause-kept c q is = c.in_ok-insert-in-Some.ensures.updates.0 q ∙ still_noted _ _ is
