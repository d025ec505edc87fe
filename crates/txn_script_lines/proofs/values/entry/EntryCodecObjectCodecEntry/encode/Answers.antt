use Rattle.std.proofs.Common.{rules}
use Rattle.txn_script_lines.proofs.values.EntryLemmas.{entry_reads}
use Rattle.txn_script_lines.proofs.values.entry.EntryCodecObjectCodecEntry.encode.Goals as goal

pub returns-in_err-format-clause-reads_back : goal.returns-in_err-format-clause-reads_back
returns-in_err-format-clause-reads_back c = entry_reads c.args.value.now (search rules)

pub returns-in_err-extend_from_slice-clause-reads_back : goal.returns-in_err-extend_from_slice-clause-reads_back
returns-in_err-extend_from_slice-clause-reads_back c = entry_reads c.args.value.now (search rules)

pub returns-in_err-from_vec-clause-reads_back : goal.returns-in_err-from_vec-clause-reads_back
returns-in_err-from_vec-clause-reads_back c = entry_reads c.args.value.now (search rules)

pub returns-clause-reads_back : goal.returns-clause-reads_back
returns-clause-reads_back c = entry_reads c.args.value.now (search rules)
