use Rattle.txn_script_lines.proofs.values.EntryLemmas.{not_plain}
use Rattle.txn_script_lines.proofs.values.entry.read_plain.Goals as goal

pub returns-in-Err : goal.returns-in-Err
returns-in-Err c = not_plain _ c.in-Err.ensures.cases.0
