-- Why a manifest was not entered, and why a collection failed, by what the calls inside failed for.
use Rattle.std.proofs.Common.{◌≡◌, ℕ, ◌≤◌, List, ◌⊎◌, inl, inr, refl, subst}
use Rattle.txn_store.specs.Store.{State}
use Rattle.txn_store.specs.declared.types.error.TransactionalObjectError.{TransactionalObjectError}
use Rattle.txn_store.specs.types.Callbacks.{error_of_callback}
use Rattle.txn_store.specs.declared.types.callback.CallbackFault.{CallbackFault}
use Rattle.txn_store.specs.declared.types.callback.CallbackFault.TheVariants as faults
use Rattle.txn_store.specs.types.Epochs.{IsEpochError}
use Rattle.txn_store.specs.declared.types.error.TransactionalObjectError.TheVariants.{ObjectStoreError, Fenced, InvalidObjectState, CallbackError, NoMemory, TurnsExhausted}
use Rattle.txn_steps_driven.specs.Calls.{HasCauseOfAdvance}
use Rattle.slatedb_txn_obj.specs.Protocol.{HasCauseOfDelete}
use Rattle.slatedb_txn_obj.proofs.Causes.{HasStoreCause-later}
use Rattle.slatedb_txn_obj.specs.Claims.{IsUnlike}
use Rattle.slatedb_txn_obj.specs.Views.{IsTestFailure, HasCauseOfUpdate}
use Rattle.txn_manifest.specs.declared.manifest.Manifest.{Manifest}
use Rattle.txn_manifest.specs.Stores.{HasCauseOfEnter, HasCauseOfCollect}

pub advance_caused : (unheld unheld' : Type 0) (left : ℕ) (old new : State) → (unheld → unheld') → (error : TransactionalObjectError) → HasCauseOfAdvance unheld left old new error → HasCauseOfCollect unheld' left old new error
advance_caused unheld unheld' left old new less TurnsExhausted h = h
advance_caused unheld unheld' left old new less InvalidObjectState h = less h
advance_caused unheld unheld' left old new less (ObjectStoreError error) h = h
advance_caused unheld unheld' left old new less NoMemory h = h
advance_caused unheld unheld' left old new less error h = absurd h

pub delete_caused : (unheld : Type 0) (left : ℕ) (old middle new : State) → old.failures ≤ middle.failures → (error : TransactionalObjectError) → (error ≡ InvalidObjectState → unheld) → HasCauseOfDelete middle new error → HasCauseOfCollect unheld left old new error
delete_caused unheld left old middle new rises InvalidObjectState unfenced h = unfenced refl
delete_caused unheld left old middle new rises (ObjectStoreError error) unfenced h = HasStoreCause-later old middle new rises error h
delete_caused unheld left old middle new rises NoMemory unfenced h = h
delete_caused unheld left old middle new rises error unfenced h = absurd h

pub collect_caused : (unheld unheld' : Type 0) (left : ℕ) (old middle new : State) → (unheld → unheld') → old.failures ≤ middle.failures → (error : TransactionalObjectError) → HasCauseOfCollect unheld left middle new error → HasCauseOfCollect unheld' left old new error
collect_caused unheld unheld' left old middle new less rises TurnsExhausted h = h
collect_caused unheld unheld' left old middle new less rises InvalidObjectState h = less h
collect_caused unheld unheld' left old middle new less rises (ObjectStoreError error) h = HasStoreCause-later old middle new rises error h
collect_caused unheld unheld' left old middle new less rises NoMemory h = h
collect_caused unheld unheld' left old middle new less rises error h = absurd h

fenced_not : (fault : CallbackFault) → Fenced ≡ error_of_callback fault → ⊥
fenced_not (faults.Refused e) is = cc
fenced_not faults.NoMemory is = cc

invalid_not : (fault : CallbackFault) → InvalidObjectState ≡ error_of_callback fault → ⊥
invalid_not (faults.Refused e) is = cc
invalid_not faults.NoMemory is = cc

-- a candidate with the holder's epoch
module _ {I : Type 0} (holds : I → Manifest → Manifest → Type 0) (fails : I → Manifest → Manifest → CallbackFault → Type 0) (invariants : List I) (local number : ℕ) (object made : Manifest) (unheld : Type 0) (old new : State) where
  entered_caused : made.epoch ≡ local → (error : TransactionalObjectError) → HasCauseOfUpdate (λ e. IsEpochError local object.epoch e ⊎ (IsUnlike local made.epoch e ⊎ IsTestFailure (λ i. holds i made object) (λ i. fails i made object) invariants e)) unheld number old new error
      → HasCauseOfEnter local object.epoch (λ e. IsTestFailure (λ i. holds i made object) (λ i. fails i made object) invariants e) unheld number old new error
  entered_caused own (CallbackError e) (inl h) = absurd h
  entered_caused own (CallbackError e) (inr (inl h)) = absurd h
  entered_caused own (CallbackError e) (inr (inr h)) = h
  entered_caused own Fenced (inl h) = h
  entered_caused own Fenced (inr (inl h)) = absurd h
  entered_caused own Fenced (inr (inr h)) = absurd (fenced_not h.0 h.1)
  entered_caused own InvalidObjectState (inl (inl h)) = inl h
  entered_caused own InvalidObjectState (inl (inr (inl h))) = absurd (h own)
  entered_caused own InvalidObjectState (inl (inr (inr h))) = absurd (invalid_not h.0 h.1)
  entered_caused own InvalidObjectState (inr h) = inr h
  entered_caused own error h = h

  pub enter_caused : (value : Manifest) → made ≡ value → made.epoch ≡ local → (error : TransactionalObjectError) → HasCauseOfUpdate (λ e. IsEpochError local object.epoch e ⊎ (IsUnlike local made.epoch e ⊎ IsTestFailure (λ i. holds i made object) (λ i. fails i made object) invariants e)) unheld number old new error
      → HasCauseOfEnter local object.epoch (λ e. IsTestFailure (λ i. holds i value object) (λ i. fails i value object) invariants e) unheld number old new error
  enter_caused value is own error h = subst (λ (v : Manifest). HasCauseOfEnter local object.epoch (λ e. IsTestFailure (λ i. holds i v object) (λ i. fails i v object) invariants e) unheld number old new error) is (entered_caused own error h)
