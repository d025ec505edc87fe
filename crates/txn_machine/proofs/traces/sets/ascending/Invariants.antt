use Rattle.std.proofs.Common.{◌≡◌, ◌||◌, ℕ, nat_eq}
use Rattle.std.specs.List.{list_any}
use Rattle.std.specs.HashSet.{contains}
use Rattle.txn_machine.proofs.traces.sets.ascending.Given as goal

-- the ids so far and those that are left are those of the set
abbrev pub invariant-loop-id : goal.invariant-loop-id
invariant-loop-id l = (n : ℕ) → (list_any (nat_eq n) l.sorted.keys || list_any (nat_eq n) l.id-iterator) ≡ contains nat_eq l.ids n
