use Rattle.std.proofs.Common.{rules}
use Rattle.txn_folder.proofs.steps.ScanLemmas.{more_among}
use Rattle.txn_folder.proofs.steps.scans.has_all.Goals as goal

pub loop-id-preserved : goal.loop-id-preserved
loop-id-preserved c = more_among _ _ _ c.loop-id.invariant (c.has.ensures.0 (search rules))
