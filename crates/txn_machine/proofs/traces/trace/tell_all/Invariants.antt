use Rattle.std.proofs.Common.{◌≡◌, ◌||◌, ◌+◌, ◌≤◌, ℕ, length, take, nat_eq, nat_lt}
use Rattle.std.specs.HashSet.{contains, spare}
use Rattle.std.specs.List.{list_any}
use Rattle.txn_machine.proofs.traces.trace.tell_all.Given as goal

-- the ids so far are kept, and there is room for the others
abbrev pub invariant-loop-id : goal.invariant-loop-id
invariant-loop-id l = record {
  room : length l.ids ≤ spare l.told + l.id-index;
  told : (n : ℕ) → contains nat_eq l.told n ≡ (contains nat_eq l.fn.told n || list_any (nat_eq n) (take l.id-index l.ids));
  greatest : (n : ℕ) → nat_lt n l.greatest ≡ (nat_lt n l.fn.greatest || list_any (nat_lt n) (take l.id-index l.ids));
}
