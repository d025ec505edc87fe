use Rattle.std.proofs.Common.{rules}
use Rattle.txn_folder.proofs.NameLemmas.{no_hash, no_number, temporary}
use Rattle.txn_folder.proofs.folder.temporary_of.Goals as goal

pub returns-in_err-file : goal.returns-in_err-file
returns-in_err-file c = rw c.from_residual.ensures (no_hash c.args.name.now c.in_err-file.ensures.cases)

pub returns-in_err-read_twenty : goal.returns-in_err-read_twenty
returns-in_err-read_twenty c = rw c.from_residual-in_err-read_twenty.ensures (no_number c.args.name.now (c.in_ok-file.file, c.in_ok-file.number) c.in_ok-file.ensures.cases c.in_err-read_twenty.ensures)

pub returns : goal.returns
returns c = temporary c.args.name.now (c.in_ok-file.file, c.in_ok-file.number) c.in_ok-read_twenty.field-0 c.in_ok-file.ensures.cases (search rules) c.in_ok-read_twenty.ensures
