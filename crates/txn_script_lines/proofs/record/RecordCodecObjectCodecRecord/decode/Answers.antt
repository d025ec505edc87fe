use Rattle.std.proofs.Common.{Some, None, sym}
use Rattle.txn_script_lines.proofs.RecordLemmas.{read_by}
use Rattle.txn_script_lines.proofs.record.RecordCodecObjectCodecRecord.decode.Goals as goal

pub returns-in-Some-clause-value : goal.returns-in-Some-clause-value
returns-in-Some-clause-value c = rw (← c.as_slice.ensures) (sym (read_by c.as_slice.result.now (Some c.in-Some.record) c.in-Some.ensures.numbers c.in-Some.ensures.exact))

pub returns-in-None-clause-refused : goal.returns-in-None-clause-refused
returns-in-None-clause-refused c = rw (← c.as_slice.ensures) (sym (read_by c.as_slice.result.now None tt c.in-None.ensures.exact))
