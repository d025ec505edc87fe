-- How much `copy` raises the count.
use Rattle.txn_store.proofs.count.Count.copy.Given as goal

abbrev pub ghost-raised : goal.ghost-raised
ghost-raised a = 0
