use Rattle.std.proofs.Common.{rules}
use Rattle.txn_script_lines.proofs.RecordLemmas.{record_reads}
use Rattle.txn_script_lines.proofs.record.RecordCodecObjectCodecRecord.encode.Goals as goal

pub returns-in_err-format-clause-reads_back : goal.returns-in_err-format-clause-reads_back
returns-in_err-format-clause-reads_back c = record_reads c.args.value.now (record { epoch = search rules; payload = search rules })

pub returns-clause-reads_back : goal.returns-clause-reads_back
returns-clause-reads_back c = record_reads c.args.value.now (record { epoch = search rules; payload = search rules })
