-- each that is told before the index stands before the path
use Rattle.std.proofs.Common.{◌-◌, ◌≤◌, length, take}
use Rattle.slatedb_txn_obj_uses.proofs.TellLemmas.{Passed}
use Rattle.slatedb_txn_obj_uses.proofs.listed.tell.Given as goal

abbrev pub invariant-loop-index : goal.invariant-loop-index
invariant-loop-index l = record {
  passed : Passed l.meta.location (take l.index l.told.items);
  within : l.index ≤ length l.told.items;
}

abbrev pub decreases-loop-index : goal.decreases-loop-index
decreases-loop-index l = length l.told.items - l.index
