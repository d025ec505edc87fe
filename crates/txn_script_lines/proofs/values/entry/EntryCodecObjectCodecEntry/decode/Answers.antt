use Rattle.txn_script_lines.proofs.values.EntryLemmas.{read_exactly}
use Rattle.txn_script_lines.proofs.values.entry.EntryCodecObjectCodecEntry.decode.Goals as goal

pub returns-clause-exact : goal.returns-clause-exact
returns-clause-exact c = read_exactly _ _ c.read_entry.ensures.value
