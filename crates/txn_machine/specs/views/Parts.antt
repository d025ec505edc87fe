-- What a call does first, and what it makes of the answer of its write or its read.
-- The tests of epochs and the numbers of refusals are those of the steps (`txn_steps_views`).
use Rattle.std.specs.Prelude.{◌≡◌, ℕ, ◌+◌, ◌==◌, ◌⊎◌, ◌&&◌, if◌then◌else◌, List, Bool, true, false, Option, Some, None, Result, Ok, Err}
use Rattle.txn_store.specs.types.Errors.{error_number}
use Rattle.txn_store.specs.types.Numbers.{number_of}
use Rattle.txn_store.specs.types.Epochs.{claimed_epoch, epoch_tested}
use Rattle.txn_store.specs.declared.types.error.TransactionalObjectError.{TransactionalObjectError}
use Rattle.txn_history.specs.declared.event.PlainCall.{PlainCall}
use Rattle.txn_history.specs.declared.event.PlainCall.TheVariants as calls
use Rattle.txn_history.specs.Facts.{base_on, greatest, Entered, WasNewest, WasEmpty, WriteRefused, FailureFits}
use Rattle.txn_steps_views.specs.Entries.{own_epochs}
use Rattle.txn_history.specs.declared.event.ViewCall.TheVariants as view_calls
use Rattle.txn_history.specs.declared.event.Call.{Call}
use Rattle.txn_history.specs.declared.event.Call.TheVariants as any
use Rattle.txn_history.specs.declared.event.Answer.TheVariants as answers
use Rattle.txn_history.specs.Trace.{Row}
use Rattle.txn_history.specs.Views.{View}
use Rattle.txn_machine.specs.views.Layer.{Used, Inner, Writes, Reads, Acts, Keeps, Puts, Makes, Closes, Next, Goes, Ends, Opens, refused}

-- the answer of a write or a read: written under this id, found, nothing there, or refused
pub data Inside (T : Type 0) : Type 0 where
  Wrote : (id : ℕ) → Inside T
  Found : (id : ℕ) (value : T) → Inside T
  Nothing : Inside T
  Refused : (number : ℕ) → Inside T

module _ {T : Type 0} (decode : List ℕ → Option T) (failed : List ℕ) where
  -- What a write or a read owes for its answer: its own entry, or that it was overtaken; what was newest at a row of the call.
  abbrev pub InsideFits : List (Row T) → ℕ → Inner T → Inside T → Type 0
  InsideFits rows op (Writes base value epoch) (Wrote id) = (id ≡ base + 1) × Entered decode rows op id value
  InsideFits rows op (Writes base value epoch) (Refused number) = WriteRefused decode rows op (base_on base) number ⊎ FailureFits failed op number
  InsideFits rows op Reads (Found id value) = WasNewest decode rows op id value
  InsideFits rows op Reads Nothing = WasEmpty rows op
  InsideFits rows op Reads (Refused number) = FailureFits failed op number
  InsideFits rows op inner answer = ⊥

module _ {T : Type 0} where
  -- the call is a claim
  abbrev pub is_claim_call : Call T → Bool
  is_claim_call (any.View (view_calls.Claim view)) = true
  is_claim_call (any.View (view_calls.ClaimAt view epoch)) = true
  is_claim_call call = false

  -- a refusal frees the view, and ends that of a claim
  abbrev pub refusing : Call T → ℕ → Next T
  refusing (any.View (view_calls.Claim view)) number = Ends (refused number) Closes
  refusing (any.View (view_calls.ClaimAt view epoch)) number = Ends (refused number) Closes
  refusing call number = Ends (refused number) Keeps

  -- its write was entered under this id
  abbrev pub entered : Call T → ℕ → T → ℕ → Next T
  entered (any.View (view_calls.Init v)) id value epoch = Opens id value
  entered (any.View (view_calls.Update view v)) id value epoch = Ends (answers.View view id value) (Puts id value)
  entered (any.View (view_calls.HolderUpdate view v)) id value epoch = Ends (answers.View view id value) (Puts id value)
  entered (any.View (view_calls.Claim view)) id value epoch = Ends (answers.Held view id value epoch) (Makes id value epoch)
  entered (any.View (view_calls.ClaimAt view at)) id value epoch = Ends (answers.Held view id value epoch) (Makes id value epoch)
  entered call id value epoch = refusing call 7

  -- its write was refused: after a conflict a claim reads
  abbrev pub denied : Call T → ℕ → Next T
  denied call number = if is_claim_call call && (number == 5) then Goes Reads else refusing call number

  -- its read found nothing
  abbrev pub missed : Call T → Next T
  missed (any.View view_calls.Load) = Ends (refused 4) Keeps
  missed call = refusing call 7

  -- where there is a next id, a write of this on this version
  abbrev pub written : Call T → ℕ → T → ℕ → Next T
  written call id value epoch = if id == greatest then refusing call 10 else Goes (Writes id value epoch)

  -- a holder's view is at the version that was read, and the holder is shut out where its epoch is another
  abbrev pub viewed : ℕ → ℕ → T → Result (Unit {0}) TransactionalObjectError → Next T
  viewed view id value (Ok own) = Ends (answers.View view id value) (Puts id value)
  viewed view id value (Err error) = Ends (refused (error_number error)) (Puts id value)

  -- a holder writes where both epochs are its own
  abbrev pub tested : Call T → ℕ → T → ℕ → Result (Unit {0}) ℕ → Next T
  tested call id value epoch (Ok own) = written call id value epoch
  tested call id value epoch (Err number) = refusing call number

  abbrev pub with_local : Call T → Option ℕ → (ℕ → Next T) → Next T
  with_local call None next = refusing call 7
  with_local call (Some local) next = next local

module _ {T : Type 0} (set_epoch : T → ℕ → T) where
  abbrev pub claimed : Call T → ℕ → T → Result ℕ TransactionalObjectError → Next T
  claimed call id value (Ok epoch) = written call id (set_epoch value epoch) epoch
  claimed call id value (Err error) = refusing call (error_number error)

module _ {T : Type 0} (get_epoch : T → ℕ) (set_epoch : T → ℕ → T) where
  -- a claim's attempt on a version
  abbrev pub attempted : Call T → Option ℕ → ℕ → T → Next T
  attempted call asked id value = claimed set_epoch call id value (claimed_epoch asked (get_epoch value))

  -- its read found this
  abbrev pub found : Call T → Option ℕ → ℕ → T → Next T
  found (any.View view_calls.Load) local id value = Opens id value
  found (any.View (view_calls.Refresh view)) local id value = Ends (answers.View view id value) (Puts id value)
  found (any.View (view_calls.Claim view)) local id value = attempted (any.View (view_calls.Claim view)) None id value
  found (any.View (view_calls.ClaimAt view epoch)) local id value = attempted (any.View (view_calls.ClaimAt view epoch)) (Some epoch) id value
  found (any.View (view_calls.HolderRefresh view)) local id value = with_local (any.View (view_calls.HolderRefresh view)) local (λ own. viewed view id value (epoch_tested own (get_epoch value)))
  found call local id value = refusing call 7

  -- what a call makes of the answer of its write or its read; local is its holder's epoch
  abbrev pub taken : Call T → Option ℕ → Inner T → Inside T → Next T
  taken call local (Writes base value epoch) (Wrote id) = entered call id value epoch
  taken call local (Writes base value epoch) (Refused number) = denied call number
  taken call local Reads (Found id value) = found call local id value
  taken call local Reads Nothing = missed call
  taken call local Reads (Refused number) = refusing call number
  taken call local inner answer = refusing call 7

module _ {T : Type 0} (get_epoch : T → ℕ) where
  -- a call without a view writes, or does something else
  abbrev pub plain_inner : PlainCall T → Inner T
  plain_inner (calls.Write base value) = Writes (number_of base) value (get_epoch value)
  plain_inner (calls.WriteUnchecked base value) = Writes (number_of base) value (get_epoch value)
  plain_inner call = Acts

module _ {T : Type 0} (get_epoch : T → ℕ) (set_epoch : T → ℕ → T) where
  -- what a call on this view does first
  abbrev pub started_on : Call T → View T → Next T
  started_on (any.View (view_calls.Refresh number)) view = Goes Reads
  started_on (any.View (view_calls.HolderRefresh number)) view = Goes Reads
  started_on (any.View (view_calls.Update number value)) view = written (any.View (view_calls.Update number value)) view.id value (get_epoch value)
  started_on (any.View (view_calls.Claim number)) view = attempted get_epoch set_epoch (any.View (view_calls.Claim number)) None view.id view.object
  started_on (any.View (view_calls.ClaimAt number epoch)) view = attempted get_epoch set_epoch (any.View (view_calls.ClaimAt number epoch)) (Some epoch) view.id view.object
  started_on (any.View (view_calls.HolderUpdate number value)) view =
      with_local (any.View (view_calls.HolderUpdate number value)) view.epoch
      (λ local. tested (any.View (view_calls.HolderUpdate number value)) view.id value (get_epoch value) (own_epochs local (get_epoch view.object) (get_epoch value)))
  started_on call view = refusing call 7

  -- what a call does first
  abbrev pub started : Call T → Option (Used T) → Next T
  started (any.Plain call) used = Goes (plain_inner get_epoch call)
  started (any.View (view_calls.Init value)) used = Goes (Writes 0 value (get_epoch value))
  started (any.View view_calls.Load) used = Goes Reads
  started call None = refusing call 7
  started call (Some used) = started_on call used.view

module _ {T : Type 0} (get_epoch : T → ℕ) where
  -- a value that is to be written has the epoch that was set
  abbrev pub HasEpoch : Next T → Type 0
  HasEpoch (Goes (Writes base value epoch)) = get_epoch value ≡ epoch
  HasEpoch next = Unit {0}

module _ {T : Type 0} where
  -- the next is this, or memory was lacking
  abbrev pub OrLacking : Call T → Next T → Next T → Type 0
  OrLacking call due next = (next ≡ due) ⊎ (next ≡ refusing call 9)
