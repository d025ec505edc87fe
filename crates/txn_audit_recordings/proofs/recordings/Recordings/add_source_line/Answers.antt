use Rattle.txn_audit_recordings.proofs.Lines.{where_taken}
use Rattle.txn_audit_recordings.proofs.recordings.Recordings.add_source_line.Goals as goal

pub returns-in-Ok : goal.returns-in-Ok
returns-in-Ok g c = where_taken c.add_source.result _ _ (λ adds. (c.in-Ok.source, c.in-Ok.ensures, adds)) c.add_source.ensures
