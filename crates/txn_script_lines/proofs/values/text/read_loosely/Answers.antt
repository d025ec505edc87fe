-- The text is cut at its first colon.
use Rattle.std.proofs.Common.{rules}
use Rattle.txn_script_lines.proofs.values.TextLemmas.{no_colon, bad_epoch, loosely, fits_of}
use Rattle.txn_script_lines.proofs.values.text.read_loosely.Goals as goal

pub returns-in_default-clause-reads : goal.returns-in_default-clause-reads
returns-in_default-clause-reads c = no_colon c.args.text.now (search rules)

pub returns-in_default-read_decimal-clause-reads : goal.returns-in_default-read_decimal-clause-reads
returns-in_default-read_decimal-clause-reads c = bad_epoch c.args.text.now (c.in-Some.epoch, c.in-Some.escaped) c.in-Some.ensures.cases (search rules)

pub returns-clause-reads : goal.returns-clause-reads
returns-clause-reads c = loosely c.args.text.now (c.in-Some.epoch, c.in-Some.escaped) c.in-Some-read_decimal.epoch c.in_ok-payload.payload c.in-Some.ensures.cases c.in-Some-read_decimal.ensures.exact (search rules)

pub returns-clause-entry : goal.returns-clause-entry
returns-clause-entry c = fits_of _ _ _ (search rules) c.percent_decode.ensures.small (search rules)
