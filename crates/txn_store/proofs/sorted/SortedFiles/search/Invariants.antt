-- the mark stands between the two indices, and few paths were compared
use Rattle.std.proofs.Common.{◌-◌}
use Rattle.txn_store.proofs.SortedLemmas.{Narrows, IsFew}
use Rattle.txn_store.proofs.sorted.SortedFiles.search.Given as goal

abbrev pub invariant-loop-low : goal.invariant-loop-low
invariant-loop-low l = record {
  narrows : Narrows l.mark l.asked l.self-inside.entries.items l.low l.high;
  few : IsFew l.self-inside.entries.items l.fn.compared l.compared l.low l.high l.most;
}

abbrev pub decreases-loop-low : goal.decreases-loop-low
decreases-loop-low l = l.high - l.low
