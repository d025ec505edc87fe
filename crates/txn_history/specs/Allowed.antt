-- Which events are allowed, by the rows so far and what stands beside them.
-- Answered ids, entries and calls are read off the rows. A view's client, kind, end and id are read off the views as
-- they stand, since rows show neither a crash nor what a fenced holder has seen; whether an operation runs, and on
-- which view, by what it asks for, since rows do not show a give-up.
use Rattle.std.specs.Prelude.{ℕ, zero, suc, List, [], ◌∷◌, nat_lt, Bool, true, false, if◌then◌else◌, Option, Some, None, is_some, ◌&&◌, ◌==◌, not}
use Rattle.txn_history.specs.declared.event.EventOf.{EventOf}
use Rattle.txn_history.specs.declared.event.EventOf.TheVariants as events
use Rattle.txn_history.specs.declared.event.EventFault.{EventFault}
use Rattle.txn_history.specs.declared.event.EventFault.TheVariants as faults
use Rattle.txn_history.specs.Lists.{numbered}
use Rattle.txn_history.specs.Seen.{Ask, Store, Look, Seen, asks_of, AllSeen, view_of}
use Rattle.std.specs.List.{list_any}
use Rattle.std.specs.Option.{option_map}
use Rattle.txn_history.specs.declared.trace.RowOf.TheVariants.{Effect, Begun, Answered}
use Rattle.txn_history.specs.History.{is_id}
use Rattle.txn_history.specs.declared.event.Call.{Call}
use Rattle.txn_history.specs.Trace.{Row, Event}
use Rattle.txn_history.specs.Calls.{view_used, is_holders}
use Rattle.txn_history.specs.Views.{View}
use Rattle.txn_history.specs.OneHistory.{agree, base_of, is_known_base, has_low_boundary, keeps_epoch}

-- the number of a fault
abbrev pub fault_number : EventFault → ℕ
fault_number faults.UnknownNumber = 1
fault_number faults.NotAsked = 2
fault_number faults.UnknownBase = 3
fault_number faults.BoundaryTooHigh = 4
fault_number faults.EpochLowered = 5
fault_number faults.ViewBusy = 6
fault_number faults.NoMemory = 7

-- clients are numbered from 1
abbrev pub is_client : ℕ → ℕ → Bool
is_client clients zero = false
is_client clients (suc n) = nat_lt n clients

-- the fault of the first test that fails
abbrev pub first_fault : List (Bool × EventFault) → Option EventFault
first_fault [] = None
first_fault (test ∷ tests) = if test.0 then first_fault tests else Some test.1

-- why an operation is refused a look, or a store call
abbrev pub ask_fault : Bool → Option Ask → Option EventFault
ask_fault store None = Some faults.UnknownNumber
ask_fault store (Some (Store request)) = if store then None else Some faults.NotAsked
ask_fault store (Some Look) = if store then Some faults.NotAsked else None

module _ {C : Type 0} where
  -- why an event is refused, where it is, and a begin where these say so
  abbrev pub event_fault : Seen → (ℕ → C → Option EventFault) → EventOf C → Option EventFault
  event_fault seen begin_refused (events.Begin client call) = begin_refused client call
  event_fault seen begin_refused (events.Look op) = ask_fault false (asks_of seen op)
  event_fault seen begin_refused (events.Serve op) = ask_fault true (asks_of seen op)
  event_fault seen begin_refused (events.Fail op failure) = ask_fault true (asks_of seen op)
  event_fault seen begin_refused (events.GiveUp op) = if is_some (asks_of seen op) then None else Some faults.UnknownNumber
  event_fault seen begin_refused (events.Land k) = if is_some (numbered seen.loose k) then None else Some faults.UnknownNumber
  event_fault seen begin_refused (events.Crash client) = if is_client seen.clients client then None else Some faults.UnknownNumber

module _ {T : Type 0} where
  -- a view is this client's, and is a holder exactly where the call is a holder's
  abbrev pub is_own : ℕ → Bool → Option (View T) → Bool
  is_own client holders None = false
  is_own client holders (Some view) = (view.client == client) && agree holders (is_some view.epoch)

  -- the client may use the view of a call, if it has one
  abbrev pub may_use : AllSeen T → ℕ → Bool → Option ℕ → Bool
  may_use seen client holders None = true
  may_use seen client holders (Some number) = is_own client holders (view_of seen number)

  -- a row is the begin of an operation that runs, on this view
  abbrev pub keeps_busy : AllSeen T → ℕ → Row T → Bool
  keeps_busy seen number (Begun op call) = is_id number (view_used call) && is_some (asks_of seen.calls op)
  keeps_busy seen number (Effect op request) = false
  keeps_busy seen number (Answered op answer) = false

  -- an operation runs on the view of a call
  abbrev pub is_busy : AllSeen T → List (Row T) → Option ℕ → Bool
  is_busy seen rows None = false
  is_busy seen rows (Some number) = list_any (keeps_busy seen number) rows

  -- where the view of a call stands now
  abbrev pub id_seen : AllSeen T → Option ℕ → Option ℕ
  id_seen seen None = None
  id_seen seen (Some number) = option_map (λ view. view.id) (view_of seen number)

  -- the base of a call, by where its view stands now
  abbrev pub base_seen : AllSeen T → Call T → Option ℕ
  base_seen seen call = base_of (id_seen seen (view_used call)) call

module _ {T : Type 0} (decode : List ℕ → Option T) (get_epoch : T → ℕ) where
  -- a begin is tested in this order
  abbrev pub begin_fault : AllSeen T → List (Row T) → ℕ → Call T → Option EventFault
  begin_fault seen rows client call = first_fault (
      (is_client seen.calls.clients client && may_use seen client (is_holders call) (view_used call), faults.UnknownNumber)
      ∷ (not (is_busy seen rows (view_used call)), faults.ViewBusy)
      ∷ (is_known_base rows (base_seen seen call), faults.UnknownBase)
      ∷ (has_low_boundary rows call, faults.BoundaryTooHigh)
      ∷ (keeps_epoch decode get_epoch rows (base_seen seen call) call, faults.EpochLowered)
      ∷ [])

  -- why an event is refused after these rows, where it is
  abbrev pub fault_of : AllSeen T → List (Row T) → Event T → Option EventFault
  fault_of seen rows event = event_fault seen.calls (begin_fault seen rows) event
