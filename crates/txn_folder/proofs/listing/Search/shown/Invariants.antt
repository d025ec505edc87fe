use Rattle.std.specs.Prelude.{All}
use Rattle.txn_folder.specs.Pages.{IsAbove}
use Rattle.txn_folder.proofs.listing.Search.shown.Given as goal

-- the ids so far are above the one
abbrev pub invariant-loop-entry : goal.invariant-loop-entry
invariant-loop-entry g l = All (IsAbove l.self.after) l.ids.items
