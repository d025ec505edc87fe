use Rattle.std.proofs.Common.{None}
use Rattle.txn_folder.specs.steps.Paging.{scanning_as}
use Rattle.txn_folder.proofs.ListLemmas.{Up}
use Rattle.txn_folder.proofs.listing.standing.Given as goal

-- what the scans so far told ascends
abbrev pub invariant-loop : goal.invariant-loop
invariant-loop g l = Up None (scanning_as l.step)
