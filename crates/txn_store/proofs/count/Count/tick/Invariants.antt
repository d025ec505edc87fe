-- How much `tick` raises the count.
use Rattle.txn_store.proofs.count.Count.tick.Given as goal

abbrev pub ghost-raised : goal.ghost-raised
ghost-raised a = 1
