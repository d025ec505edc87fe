-- what was told so far, in order, of the files so far
use Rattle.std.proofs.Common.{◌&&◌, take}
use Rattle.std.specs.Option.{option_copied}
use Rattle.txn_store.specs.Paths.{is_below}
use Rattle.txn_store.specs.Store.{is_above}
use Rattle.slatedb_txn_obj_uses.proofs.TellLemmas.{IsTold}
use Rattle.slatedb_txn_obj_uses.proofs.listed.Listed.listing.Given as goal

abbrev pub invariant-loop-file : goal.invariant-loop-file
invariant-loop-file l = IsTold (λ p. is_below l.prefix p && is_above (option_copied l.after) p) (take l.file-index l.file-items) l.told.items
