-- The store calls of recordings by the times of their replies.
use Rattle.std.specs.Prelude.{◌≡◌, ℕ, ◌+◌, ◌-◌, ◌^◌, min, List, [], ◌∷◌, ◌++◌, map, None, Vec, IsPermutation}
use Rattle.std.specs.List.Sorted.{IsNonDecreasingBy, IsStableByKey}
use Rattle.std.specs.Ordering.{nat_cmp}
use Rattle.txn_audit_effects.specs.declared.clock.Clock.{Clock}
use Rattle.txn_audit_effects.specs.Clocks.{clock_of}
use Rattle.txn_audit_recordings.specs.declared.row.RecordedRow.{RecordedRow}
use Rattle.txn_audit_recordings.specs.declared.row.RecordedRow.TheVariants as rows
use Rattle.txn_audit_order.specs.declared.order.Placed.{Placed}
use Rattle.txn_drawing_recordings.specs.declared.times.Timed.{Timed}

-- the call of a row that is a reply: it stands in the row before it, and its time is that of its clock, 2 ^ 64 - 1 at the most
abbrev pub timed_row : {T : Type 0} → ℕ → ℕ → ℕ → RecordedRow T → List Timed
timed_row recording ahead row (rows.Reply op at reply) = record { at = min (at + ahead) (2 ^ 64 - 1); call = record { recording = recording; row = row - 1 } } ∷ []
timed_row recording ahead row _ = []

-- the calls of a recording that have a reply, where the first of these rows has this number
abbrev pub timed_rows : {T : Type 0} → ℕ → ℕ → ℕ → List (RecordedRow T) → List Timed
timed_rows recording ahead row [] = []
timed_rows recording ahead row (it ∷ rest) = timed_row recording ahead row it ++ timed_rows recording ahead (row + 1) rest

-- the calls of recordings that have a reply, where the first of these has this number
abbrev pub timed_calls : {T Z : Type 0} → List Clock → ℕ → List (Vec (RecordedRow T) Z) → List Timed
timed_calls clocks recording [] = []
timed_calls clocks recording (it ∷ rest) = timed_rows recording (clock_of clocks recording).ahead 0 it.items ++ timed_calls clocks (recording + 1) rest

abbrev pub placed_of : Timed → Placed
placed_of timed = record { call = timed.call; landed = None }

-- the same calls, the earlier before the later, and those of one time as they stood
abbrev pub IsInOrder : List Timed → List Timed → Type 0
IsInOrder calls sorted = IsPermutation calls sorted × IsNonDecreasingBy (λ it. it.at) sorted × IsStableByKey (λ it. it.at) nat_cmp calls sorted

-- the calls of recordings that have a reply, in the order of their times
abbrev pub IsByTime : {T Z : Type 0} → List Clock → List (Vec (RecordedRow T) Z) → List Placed → Type 0
IsByTime clocks recordings order = (sorted : List Timed) × IsInOrder (timed_calls clocks 0 recordings) sorted × (order ≡ map placed_of sorted)
