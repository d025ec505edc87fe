use Rattle.txn_script_lines.proofs.Lengths.{record_short}
use Rattle.txn_script_lines.proofs.record.RecordTextForm.most_bytes.Goals as goal

pub returns : goal.returns
returns c = record { short = record_short }
