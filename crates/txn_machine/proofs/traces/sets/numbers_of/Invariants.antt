use Rattle.std.proofs.Common.{◌++◌}
use Rattle.std.specs.Ordering.{nat_cmp}
use Rattle.std.specs.BTreeSet.{contains}
use Rattle.txn_history.specs.Lists.{AreAscending}
use Rattle.txn_machine.proofs.traces.sets.numbers_of.Given as goal

-- the numbers so far and those that are left are those of the set
abbrev pub invariant-loop-number : goal.invariant-loop-number
invariant-loop-number l = AreAscending (contains nat_cmp l.set) (l.list.items ++ l.number-iterator)
