-- How many looks and calls of the store a write has left at most whose value a view then shows.
use Rattle.txn_steps.specs.boundary.Counts.{Budget, no_budget}
use Rattle.txn_steps.specs.CallsLeft.{write_budget}
use Rattle.txn_steps_views.specs.declared.entry.EntryOp.{EntryOp}
use Rattle.txn_steps_views.specs.declared.entry.EntryOp.TheVariants.{Writes, Ended}

-- as many as its write
abbrev pub entry_budget : {T : Type 0} → EntryOp T → Budget
entry_budget (Writes write value) = write_budget write
entry_budget Ended = no_budget
