-- A begin that is allowed opens the next operation.
use Rattle.std.proofs.Common.{◌≡◌, ℕ, ◌+◌, List, [], ◌∷◌, Bool, true, false, Option, None, refl}
use Rattle.txn_history.specs.declared.event.PlainCall.{PlainCall}
use Rattle.txn_history.specs.declared.event.EventOf.TheVariants as events
use Rattle.txn_history.specs.declared.event.EventFault.TheVariants as faults
use Rattle.txn_history.specs.Trace.{PlainRow}
use Rattle.txn_history.specs.Calls.{begun_count, plain_base_of}
use Rattle.txn_machine.specs.plain.PlainHistory.{PlainOpens, is_known_base, has_low_boundary, keeps_epoch}
use Rattle.txn_history.specs.Seen.{Seen}
use Rattle.txn_history.specs.Allowed.{first_fault, is_client}
use Rattle.txn_machine.specs.plain.PlainAllowed.{fault_of}

-- a begin without a fault passed its tests
record Passed (one three four five : Bool) : Type 0 where
  one_is : one ≡ true
  three_is : three ≡ true
  four_is : four ≡ true
  five_is : five ≡ true

passed : (one three four five : Bool) → first_fault ((one, faults.UnknownNumber) ∷ (three, faults.UnknownBase) ∷ (four, faults.BoundaryTooHigh) ∷ (five, faults.EpochLowered) ∷ []) ≡ None → Passed one three four five
passed false three four five e = cc
passed true false four five e = cc
passed true true false five e = cc
passed true true true false e = cc
passed true true true true e = record { one_is = refl; three_is = refl; four_is = refl; five_is = refl }

module _ {T : Type 0} (decode : List ℕ → Option T) (get_epoch : T → ℕ) where
  pub opens_next : (rows : List (PlainRow T)) (seen : Seen) (client : ℕ) (call : PlainCall T) → fault_of decode get_epoch seen rows (events.Begin client call) ≡ None → PlainOpens decode get_epoch rows (begun_count rows + 1) call
  opens_next rows seen client call e =
      let p = passed (is_client seen.clients client) (is_known_base rows (plain_base_of call)) (has_low_boundary rows call) (keeps_epoch decode get_epoch rows call) e in
      record { next = refl; known = p.three_is; low = p.four_is; keeps = p.five_is }
