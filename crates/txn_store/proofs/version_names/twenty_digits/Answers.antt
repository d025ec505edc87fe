use Rattle.txn_store.proofs.DigitLemmas.{padded_writes, padded_alone}
use Rattle.txn_store.proofs.version_names.twenty_digits.Goals as goal

pub returns-clause-digits : goal.returns-clause-digits
returns-clause-digits c = padded_writes c.args.number c.ranges.number.fits

pub returns-clause-alone : goal.returns-clause-alone
returns-clause-alone c = λ ds h. padded_alone c.args.number ds c.ranges.number.fits h
