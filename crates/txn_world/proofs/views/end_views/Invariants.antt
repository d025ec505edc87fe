use Rattle.std.proofs.Common.{◌≡◌, ℕ, nat_eq, true, is_some}
use Rattle.std.specs.List.{list_any}
use Rattle.std.specs.HashSet.{contains}
use Rattle.txn_history.specs.Lists.{numbered}
use Rattle.txn_world.specs.Owning.{emptied_where}
use Rattle.txn_world.proofs.views.end_views.Given as goal

-- once those that are left have ended, all have; and those are there
abbrev pub invariant-loop-number : goal.invariant-loop-number
invariant-loop-number g l = record {
  left : (n : ℕ) → emptied_where (list_any (nat_eq n) l.number-iterator) (numbered l.used.items n) ≡ emptied_where (contains nat_eq l.numbers n) (numbered l.fn.used.items n);
  there : (n : ℕ) → list_any (nat_eq n) l.number-iterator ≡ true → is_some (numbered l.fn.used.items n) ≡ true;
}
