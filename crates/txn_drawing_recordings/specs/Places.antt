-- The numbers of calls, by their places.
use Rattle.std.specs.Prelude.{ℕ, unwrap_or}
use Rattle.std.specs.declared.cmp.Ordering.{Ordering}
use Rattle.std.specs.Ordering.{nat_cmp, ordering_then}
use Rattle.std.specs.BTreeMap.{BTreeMap, get}
use Rattle.txn_audit_order.specs.declared.order.CallPlace.{CallPlace}

-- places by their recordings, and in one of these by their rows
abbrev pub place_cmp : ℕ × ℕ → ℕ × ℕ → Ordering
place_cmp x y = ordering_then (nat_cmp x.0 y.0) (nat_cmp x.1 y.1)

-- the number of a call, 0 where it has none
abbrev pub number_of : BTreeMap (ℕ × ℕ) ℕ → CallPlace → ℕ
number_of numbers at = unwrap_or (get place_cmp numbers (at.recording, at.row)) 0
