-- The faults that events are due are told by their names: none of them is want of memory.
use Rattle.std.proofs.Common.{◌≡◌, ℕ, List, [], ◌∷◌, Bool, true, false, Option, Some, None, is_some, if◌then◌else◌, Err, refl, sym, subst}
use Rattle.std.proofs.lemmas.Option.{same_Some}
use Rattle.txn_history.specs.declared.event.EventFault.{EventFault}
use Rattle.txn_history.specs.declared.event.EventFault.TheVariants as faults
use Rattle.txn_history.specs.declared.event.EventOf.TheVariants as events
use Rattle.txn_history.specs.Seen.{Ask, Store, Look, AllSeen, asks_of}
use Rattle.txn_history.specs.Lists.{numbered}
use Rattle.txn_history.specs.OneHistory.{is_known_base, has_low_boundary, keeps_epoch}
use Rattle.txn_history.specs.Calls.{view_used, is_holders}
use Rattle.txn_history.specs.Allowed.{is_client, may_use, is_busy, base_seen, first_fault, ask_fault, fault_of}
use Rattle.txn_history.specs.Trace.{Row, Event}
use Rattle.txn_machine.specs.plain.Machine.{fault_met}
use Rattle.txn_world_threads.specs.Kept.{IsLack}
use Rattle.std.specs.Prelude.{◌&&◌, not}

pub lack_some : (due : Option EventFault) (fault : EventFault) → due ≡ Some fault → IsLack due fault
lack_some due fault is = subst (λ (d : Option EventFault). IsLack d fault) (sym is) refl

pub lack_none : (due : Option EventFault) → due ≡ None → IsLack due faults.NoMemory
lack_none due is = subst (λ (d : Option EventFault). IsLack d faults.NoMemory) (sym is) refl

module _ (A : Type 0) where
  -- a fault is told by its name, want of memory aside
  abbrev IsNamed : EventFault → Type 0
  IsNamed fault = fault_met {A = A} (Err fault) ≡ Some fault

  named : (fault due : EventFault) → IsNamed fault → Some fault ≡ Some due → IsNamed due
  named fault due is same = subst IsNamed (same_Some fault due same) is

  if_named : (b : Bool) (fault due : EventFault) → IsNamed fault → (if b then None else Some fault) ≡ Some due → IsNamed due
  if_named true fault due is h = absurd cc
  if_named false fault due is h = named fault due is h

  ask_named : (store : Bool) (ask : Option Ask) (due : EventFault) → ask_fault store ask ≡ Some due → IsNamed due
  ask_named store None due h = named faults.UnknownNumber due refl h
  ask_named true (Some (Store request)) due h = absurd cc
  ask_named false (Some (Store request)) due h = named faults.NotAsked due refl h
  ask_named true (Some Look) due h = named faults.NotAsked due refl h
  ask_named false (Some Look) due h = absurd cc

  begin_named : (one six three four five : Bool) (due : EventFault) → first_fault ((one, faults.UnknownNumber) ∷ (six, faults.ViewBusy) ∷ (three, faults.UnknownBase) ∷ (four, faults.BoundaryTooHigh) ∷ (five, faults.EpochLowered) ∷ []) ≡ Some due → IsNamed due
  begin_named false six three four five due h = named faults.UnknownNumber due refl h
  begin_named true false three four five due h = named faults.ViewBusy due refl h
  begin_named true true false four five due h = named faults.UnknownBase due refl h
  begin_named true true true false five due h = named faults.BoundaryTooHigh due refl h
  begin_named true true true true false due h = named faults.EpochLowered due refl h
  begin_named true true true true true due h = absurd cc

  due_named : {T : Type 0} (decode : List ℕ → Option T) (get_epoch : T → ℕ) (seen : AllSeen T) (rows : List (Row T)) (event : Event T) (due : EventFault) → fault_of decode get_epoch seen rows event ≡ Some due → IsNamed due
  due_named decode get_epoch seen rows (events.Begin client call) due h = begin_named (is_client seen.calls.clients client && may_use seen client (is_holders call) (view_used call)) (not (is_busy seen rows (view_used call))) (is_known_base rows (base_seen seen call)) (has_low_boundary rows call) (keeps_epoch decode get_epoch rows (base_seen seen call) call) due h
  due_named decode get_epoch seen rows (events.Look op) due h = ask_named false (asks_of seen.calls op) due h
  due_named decode get_epoch seen rows (events.Serve op) due h = ask_named true (asks_of seen.calls op) due h
  due_named decode get_epoch seen rows (events.Fail op failure) due h = ask_named true (asks_of seen.calls op) due h
  due_named decode get_epoch seen rows (events.GiveUp op) due h = if_named (is_some (asks_of seen.calls op)) faults.UnknownNumber due refl h
  due_named decode get_epoch seen rows (events.Land k) due h = if_named (is_some (numbered seen.calls.loose k)) faults.UnknownNumber due refl h
  due_named decode get_epoch seen rows (events.Crash client) due h = if_named (is_client seen.calls.clients client) faults.UnknownNumber due refl h

  lack_met : (due : Option EventFault) (fault : EventFault) → ((d : EventFault) → due ≡ Some d → IsNamed d) → IsLack due fault → fault_met {A = A} (Err fault) ≡ due
  lack_met None fault names is = subst (λ (f : EventFault). fault_met {A = A} (Err f) ≡ None) (sym is) refl
  lack_met (Some due) fault names is = subst (λ (f : EventFault). fault_met {A = A} (Err f) ≡ Some due) (sym is) (names due refl)

  -- an event for which memory was wanting is refused as it is due
  pub lacks : {T : Type 0} (decode : List ℕ → Option T) (get_epoch : T → ℕ) (seen : AllSeen T) (rows : List (Row T)) (event : Event T) (fault : EventFault) → IsLack (fault_of decode get_epoch seen rows event) fault → fault_met {A = A} (Err fault) ≡ fault_of decode get_epoch seen rows event
  lacks decode get_epoch seen rows event fault is = lack_met (fault_of decode get_epoch seen rows event) fault (due_named decode get_epoch seen rows event) is
