use Rattle.txn_folder.proofs.steps.ScanLemmas.{ascends, found_in}
use Rattle.std.proofs.lemmas.List.Sorted.{searched}
use Rattle.txn_folder.proofs.steps.scans.has.Goals as goal

pub returns : goal.returns
returns c = found_in _ _ _ _ (searched _ _ _ c.binary_search.ensures.position (ascends _ c.requires)) c.is_ok.ensures.value
