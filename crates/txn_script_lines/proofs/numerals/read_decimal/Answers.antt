use Rattle.std.proofs.Common.{rules, None}
use Rattle.txn_script_lines.proofs.NumeralLemmas.{is_decimal}
use Rattle.txn_script_lines.proofs.numerals.read_decimal.Goals as goal

pub returns-then-as_bytes-eq48-clause-exact : goal.returns-then-as_bytes-eq48-clause-exact
returns-then-as_bytes-eq48-clause-exact c = is_decimal c.args.text.now None (search rules)

pub returns-clause-exact : goal.returns-clause-exact
returns-clause-exact c = is_decimal c.args.text.now c.read_digits.result (search rules)
