-- what was told, and what the rest tells
use Rattle.std.proofs.Common.{◌≡◌, ◌-◌, ◌++◌, map, take, drop}
use Rattle.std.specs.FinMap.{entries}
use Rattle.std.specs.VecDeque.Iter.{deque_iter_rest}
use Rattle.txn_store.specs.Store.{meta_of}
use Rattle.txn_store.proofs.sorted.SortedFiles.metas.Given as goal

abbrev pub invariant-loop-path : goal.invariant-loop-path
invariant-loop-path l = l.metas.items ++ map meta_of (deque_iter_rest l.path-iterator) ≡ map meta_of (take (l.end - l.start) (drop l.start (entries l.self)))
