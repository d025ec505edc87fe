-- the copies so far are the files so far
use Rattle.std.proofs.Common.{◌≡◌, take}
use Rattle.txn_store.proofs.page.Listing.try_clone.Given as goal

abbrev pub invariant-loop-meta : goal.invariant-loop-meta
invariant-loop-meta l = l.metas.items ≡ take l.meta-index l.told
