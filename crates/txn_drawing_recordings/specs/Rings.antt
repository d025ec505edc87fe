-- The rings of calls, which are numbered from 1.
use Rattle.std.specs.Prelude.{ℕ, ◌+◌, ◌-◌, Bool, true, false, ◌==◌, if◌then◌else◌, nat_lt, List, length, slice_get, Option, None, Some}
use Rattle.txn_audit_order.specs.declared.order.Reason.{Reason}
use Rattle.txn_audit_order.specs.declared.order.Reason.TheVariants as reasons
use Rattle.txn_drawing_moments.specs.declared.moment.Edge.{Edge}
use Rattle.txn_drawing_moments.specs.declared.moment.Ring.{Ring}
use Rattle.txn_drawing_recordings.specs.declared.rings.Ringed.{Ringed}

abbrev pub is_by_time : Reason → Bool
is_by_time reasons.Times = true
is_by_time reasons.Replies = false

-- A call of a circle came before the next one, and the last before the first.
abbrev pub edge_of : ℕ → ℕ → Reason → Edge
edge_of number count reason = record { to = if nat_lt number count then number + 1 else 1; is_by_time = is_by_time reason }

-- A call alone comes before none.
abbrev pub before_of : ℕ → ℕ → Option Reason → Option Edge
before_of number count None = None
before_of number count (Some reason) = if nat_lt 1 count then Some (edge_of number count reason) else None

abbrev pub ring_at : ℕ → ℕ → Option Ringed → Option Ring
ring_at number count None = None
ring_at number count (Some it) = Some (record { number = number; before = before_of number count it.before })

-- the ring of a number, where there is one
abbrev pub ring_of : List Ringed → ℕ → Option Ring
ring_of ringed number = if number == 0 then None else ring_at number (length ringed) (slice_get ringed (number - 1))
