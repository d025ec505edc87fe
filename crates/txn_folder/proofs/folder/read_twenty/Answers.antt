use Rattle.std.proofs.Common.{arith}
use Rattle.txn_store.proofs.DigitLemmas.{is_padded, not_padded}
use Rattle.txn_folder.proofs.folder.read_twenty.Goals as goal

pub returns-then-text-ne20 : goal.returns-then-text-ne20
returns-then-text-ne20 c = not_padded c.args.text.now (λ e. omega (arith, e))

pub returns : goal.returns
returns c = is_padded c.args.text.now c.read_digits.result (omega arith) c.read_digits.ensures
