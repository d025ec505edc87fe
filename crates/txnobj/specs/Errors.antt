-- The errors of calls, their numbers, and what they are made of.
use Rattle.std.specs.Prelude.{◌≡◌, ◌⊎◌, ◌<◌, ℕ, Option}
use Rattle.txn_store.specs.declared.types.callback.CallbackFault.{CallbackFault}
use Rattle.txn_store.specs.declared.types.callback.CallbackFault.TheVariants as callback
use Rattle.txn_history.specs.declared.event.EventFault.TheVariants as faults
use Rattle.txnobj.specs.declared.clients.stop.Stop.{Stop}
use Rattle.txnobj.specs.declared.clients.stop.Stop.TheVariants as stops
use Rattle.txnobj.specs.declared.error.Error.{Error}
use Rattle.txnobj.specs.declared.error.Error.TheVariants as error

-- a number that no refusal has
abbrev pub NamesNone : ℕ → Type 0
NamesNone number = (number ≡ 2 → ⊥) × ((number < 4) ⊎ (11 < number))

module _ {F : Type 0} where
  -- the number of an error's kind
  abbrev pub error_number : Error F → ℕ
  error_number (error.ObjectStoreError _) = 2
  error_number (error.ObjectUpdateTimeout _) = 3
  error_number error.LatestRecordMissing = 4
  error_number error.ObjectVersionExists = 5
  error_number error.Fenced = 6
  error_number error.InvalidObjectState = 7
  error_number (error.CallbackError _) = 8
  error_number error.NoMemory = 9
  error_number error.IdExhausted = 10
  error_number error.TurnsExhausted = 11
  error_number (error.NotPermitted _) = 12
  error_number (error.Unrecorded _) = 13
  error_number error.Ended = 14

  -- what a callback's fault becomes
  abbrev pub error_of_callback : CallbackFault → Error F
  error_of_callback (callback.Refused e) = error.CallbackError e
  error_of_callback callback.NoMemory = error.NoMemory

  -- what becomes of the reason for which a call has no answer
  abbrev pub error_of_stop : Stop → Error F
  error_of_stop (stops.Refused faults.NoMemory) = error.NoMemory
  error_of_stop (stops.Refused fault) = error.NotPermitted fault
  error_of_stop stops.StepsSpent = error.TurnsExhausted
  error_of_stop (stops.Unrecorded e) = error.Unrecorded e
  error_of_stop stops.NoMemory = error.NoMemory
  error_of_stop stops.Ended = error.Ended

  -- An error of a store tells this of it; of no other error is anything told.
  abbrev pub OnStoreError : (Option F → Type 0) → Error F → Type 0
  OnStoreError tells (error.ObjectStoreError fault) = tells fault
  OnStoreError tells _ = Unit {0}

  -- The error of a call that was refused with this number: that of the number, or, where it names none, of an unexpected state.
  abbrev pub IsRefusal : (Option F → Type 0) → ℕ → Error F → Type 0
  IsRefusal tells number e = ((error_number e ≡ number) ⊎ (NamesNone number × (e ≡ error.InvalidObjectState))) × OnStoreError tells e
