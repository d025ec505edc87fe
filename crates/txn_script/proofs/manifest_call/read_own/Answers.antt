use Rattle.std.specs.Prelude.{codes}
use Rattle.txn_script_lines.proofs.Cuts.{word_number}
use Rattle.txn_script.proofs.manifest_call.read_own.Goals as goal

pub returns-in_ok-read_decimal-in-checkpoint-clause-reads : goal.returns-in_ok-read_decimal-in-checkpoint-clause-reads
returns-in_ok-read_decimal-in-checkpoint-clause-reads c = word_number c.args.text.now (codes "checkpoint") c.in_ok-word.word c.in_ok-word.rest c.in_ok-read_decimal-in-checkpoint.field-0 c.in_ok-word.ensures.cases c.in-checkpoint.is c.in_ok-read_decimal-in-checkpoint.ensures.value
