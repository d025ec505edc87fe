use Rattle.txn_store.proofs.types.BoundaryLemmas.{read_decimal_text}
use Rattle.txn_store.proofs.types.boundary.boundary_bytes.Goals as goal

pub returns-in_err-format-clause-reads_back : goal.returns-in_err-format-clause-reads_back
returns-in_err-format-clause-reads_back c = read_decimal_text c.args.boundary c.ranges.boundary.fits

pub returns-clause-reads_back : goal.returns-clause-reads_back
returns-clause-reads_back c = read_decimal_text c.args.boundary c.ranges.boundary.fits
