use Rattle.std.proofs.Common.{rules}
use Rattle.txn_store.proofs.types.LayoutLemmas.{folder_not_plain}
use Rattle.txn_store.proofs.types.layout.boundary_path.Goals as goal

pub returns-clause-bad_segment : goal.returns-clause-bad_segment
returns-clause-bad_segment c bad = folder_not_plain c.args.subdir.now (search rules)
