-- No entry is no file.
use Rattle.txn_store.proofs.PlaceLemmas.{no_files}
use Rattle.txn_store.proofs.sorted.SortedFiles.new.Goals as goal

pub returns : goal.returns
returns c = no_files c.new.result.items c.new.ensures.items
