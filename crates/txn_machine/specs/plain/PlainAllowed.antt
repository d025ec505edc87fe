-- Which events of plain calls are allowed, by the rows so far and what stands beside them.
use Rattle.std.specs.Prelude.{ℕ, List, [], ◌∷◌, Option}
use Rattle.txn_history.specs.declared.event.PlainCall.{PlainCall}
use Rattle.txn_history.specs.declared.event.EventFault.{EventFault}
use Rattle.txn_history.specs.declared.event.EventFault.TheVariants as faults
use Rattle.txn_history.specs.Seen.{Seen}
use Rattle.txn_history.specs.Allowed.{is_client, first_fault, event_fault}
use Rattle.txn_history.specs.Trace.{PlainRow, PlainEvent}
use Rattle.txn_history.specs.Calls.{plain_base_of}
use Rattle.txn_machine.specs.plain.PlainHistory.{is_known_base, has_low_boundary, keeps_epoch}

module _ {T : Type 0} (decode : List ℕ → Option T) (get_epoch : T → ℕ) where
  -- a begin is tested in this order
  abbrev pub plain_begin_fault : Seen → List (PlainRow T) → ℕ → PlainCall T → Option EventFault
  plain_begin_fault seen rows client call = first_fault (
      (is_client seen.clients client, faults.UnknownNumber)
      ∷ (is_known_base rows (plain_base_of call), faults.UnknownBase)
      ∷ (has_low_boundary rows call, faults.BoundaryTooHigh)
      ∷ (keeps_epoch decode get_epoch rows call, faults.EpochLowered)
      ∷ [])

  -- why an event is refused after these rows, where it is
  abbrev pub fault_of : Seen → List (PlainRow T) → PlainEvent T → Option EventFault
  fault_of seen rows event = event_fault seen (plain_begin_fault seen rows) event
