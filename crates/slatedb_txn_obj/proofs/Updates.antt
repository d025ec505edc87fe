-- What an update gives, of what its tests and its write give.
use Rattle.std.proofs.Common.{refl, sym, subst, ap, ◌∙◌, inl, inr, arith, ◌≡◌, ◌⊎◌, ℕ, ◌-◌, List, [], ◌∷◌, ◌++◌, length, slice_get, Some, Result, Err, IsErrAnd, IsErrOf}
use Rattle.std.proofs.lemmas.List.{length_push}
use Rattle.txn_store.specs.Store.{State}
use Rattle.txn_store.specs.types.Callbacks.{error_of_callback}
use Rattle.txn_store.specs.declared.types.callback.CallbackFault.{CallbackFault}
use Rattle.txn_store.specs.declared.types.callback.CallbackFault.TheVariants.{Refused}
use Rattle.txn_store.specs.declared.types.callback.CallbackFault.TheVariants as callback
use Rattle.txn_store.specs.declared.types.error.TransactionalObjectError.{TransactionalObjectError}
use Rattle.txn_store.specs.declared.types.error.TransactionalObjectError.TheVariants.{ObjectStoreError, ObjectVersionExists, Fenced, InvalidObjectState, CallbackError, NoMemory, IdExhausted}
use Rattle.txn_store.specs.types.Epochs.{IsEpochError}
use Rattle.txn_steps_driven.specs.Calls.{Spends}
use Rattle.slatedb_txn_obj.specs.Protocol.{Appended, HasCauseOfWrite}
use Rattle.slatedb_txn_obj.specs.Claims.{IsUnlike}
use Rattle.slatedb_txn_obj.specs.Views.{Tested, IsTestFailure, IsRefusal, MayBeWritten, Updated, HasCauseOfUpdate}

-- an entry that is put at the end
entry_push : {T : Type 0} (h : List T) (value : T) → slice_get (h ++ value ∷ []) (length h) ≡ Some value
entry_push [] value = refl
entry_push (first ∷ h) value = entry_push h value

-- a value that was appended to the version's
pub updated-by_write : {T : Type 0} {before after : List T → ℕ → Type 0} {number number' : ℕ} {value value' : T} → Appended before after number value' number' → Updated before after number number' value value'
updated-by_write {number = number} {number' = number'} {value' = value'} appended = record {
  newest = λ h b stands version. record { some = omega (arith, version.positive, version.within); id_is = appended.newest h b stands version.within; entry = version.entry };
  stands = λ h b stands version. appended.stands h b stands version.within;
  next = λ h b stands version.
      let is = appended.id_is h b stands version.within in
      let newest = appended.newest h b stands version.within in
      let more = length_push h value' in
      let at : number' - 1 ≡ length h = omega (arith, is, newest) in
      record { some = omega (arith, more); id_is = omega (arith, is, newest, more); entry = ap (λ n. slice_get (h ++ value' ∷ []) n) at ∙ entry_push h value' };
}

-- no call was made
pub spends_none : (s : State) → Spends 2 1 s s
spends_none s = record {
  calls_rise = omega arith;
  calls_most = omega arith;
  failures_rise = omega arith;
  left_falls = omega arith;
  left_least = omega arith;
}

abbrev IsConflict : TransactionalObjectError → Type 0
IsConflict ObjectVersionExists = Unit {0}
IsConflict error = ⊥

-- what a callback's fault becomes is no conflict
pub callback-no_conflict : (fault : CallbackFault) → ObjectVersionExists ≡ error_of_callback fault → ⊥
callback-no_conflict (Refused error) is = subst (λ e. IsConflict e) is tt
callback-no_conflict callback.NoMemory is = subst (λ e. IsConflict e) is tt

-- the error of a `?` that passes it on as it is
pub error_is : {T E : Type 0} {x : E} (r : Result T E) (e : E) → IsErrAnd r (λ y. y ≡ x) → r ≡ Err e → x ≡ e
error_is {x = x} r e passed is = sym (subst (λ s. IsErrAnd s (λ y. y ≡ x)) is passed)

-- no test answers that a state is invalid
abbrev IsValid : TransactionalObjectError → Type 0
IsValid InvalidObjectState = ⊥
IsValid error = Unit {0}

test-valid : (fault : CallbackFault) → IsValid (error_of_callback fault)
test-valid (Refused error) = tt
test-valid callback.NoMemory = tt

-- a write that failed was no refusal by a test
pub write-no_refusal : {I : Type 0} (holds : I → Type 0) (fails : I → CallbackFault → Type 0) (invariants : List I) (unheld : Type 0) (number : ℕ) (old new : State) (error : TransactionalObjectError) → HasCauseOfWrite unheld number old new error → IsRefusal error → IsTestFailure holds fails invariants error → ⊥
write-no_refusal holds fails invariants unheld number old new (CallbackError error) cause refusal failure = cause
write-no_refusal holds fails invariants unheld number old new Fenced cause refusal failure = cause
write-no_refusal holds fails invariants unheld number old new InvalidObjectState cause refusal failure = subst (λ e. IsValid e) (sym failure.1) (test-valid failure.0)
write-no_refusal holds fails invariants unheld number old new error cause (inl callback) failure = absurd callback
write-no_refusal holds fails invariants unheld number old new error cause (inr shuts) failure = absurd shuts

module _ (unheld : Type 0) (number : ℕ) (old new : State) where
  -- a test failed
  pub update-test : {I : Type 0} (holds : I → Type 0) (fails : I → CallbackFault → Type 0) (invariants : List I) (fault : CallbackFault) → Tested holds fails invariants (Err fault) → HasCauseOfUpdate (IsTestFailure holds fails invariants) unheld number old new (error_of_callback fault)
  update-test holds fails invariants (Refused error) tested = (Refused error, refl, tested)
  update-test holds fails invariants callback.NoMemory tested = tt

  -- the write failed
  pub update-write : (refuses : TransactionalObjectError → Type 0) (error : TransactionalObjectError) → HasCauseOfWrite unheld number old new error → HasCauseOfUpdate refuses unheld number old new error
  update-write refuses (CallbackError error) cause = absurd cause
  update-write refuses Fenced cause = absurd cause
  update-write refuses InvalidObjectState cause = inr cause
  update-write refuses ObjectVersionExists cause = tt
  update-write refuses IdExhausted cause = cause
  update-write refuses (ObjectStoreError error) cause = cause
  update-write refuses NoMemory cause = tt
  update-write refuses error cause = absurd cause

  -- the same refusals among others
  pub update-wider : (refuses refuses' : TransactionalObjectError → Type 0) → ((error : TransactionalObjectError) → refuses error → refuses' error) → (error : TransactionalObjectError) → HasCauseOfUpdate refuses unheld number old new error → HasCauseOfUpdate refuses' unheld number old new error
  update-wider refuses refuses' wider (CallbackError error) cause = wider (CallbackError error) cause
  update-wider refuses refuses' wider Fenced cause = wider Fenced cause
  update-wider refuses refuses' wider InvalidObjectState (inl cause) = inl (wider InvalidObjectState cause)
  update-wider refuses refuses' wider InvalidObjectState (inr cause) = inr cause
  update-wider refuses refuses' wider error cause = cause

  -- the version has another epoch than its holder
  pub update-epoch : (local stored : ℕ) (others : TransactionalObjectError → Type 0) (error : TransactionalObjectError) → IsEpochError local stored error → HasCauseOfUpdate (λ e. IsEpochError local stored e ⊎ others e) unheld number old new error
  update-epoch local stored others Fenced cause = inl cause
  update-epoch local stored others InvalidObjectState cause = inl (inl cause)
  update-epoch local stored others error cause = absurd cause

-- Where what stood had the version, only the store's errors and want of memory leave it open whether an update was written: a refusal and want of an id leave what stood.
pub update-left : {A Left Written : Type 0} (refuses : TransactionalObjectError → Type 0) (unheld : Type 0) (number : ℕ) (old new : State) (error : TransactionalObjectError) → HasCauseOfUpdate refuses unheld number old new error → (error ≡ ObjectVersionExists → ⊥) → (unheld → ⊥)
    → (IsErrOf {T = A} (Err error) IdExhausted → Left) → (IsRefusal error → refuses error → Left) → Left ⊎ Written → Left ⊎ (MayBeWritten error × Written)
update-left refuses unheld number old new (ObjectStoreError error) cause other held exhausted refused (inl left) = inl left
update-left refuses unheld number old new (ObjectStoreError error) cause other held exhausted refused (inr written) = inr (tt, written)
update-left refuses unheld number old new NoMemory cause other held exhausted refused (inl left) = inl left
update-left refuses unheld number old new NoMemory cause other held exhausted refused (inr written) = inr (tt, written)
update-left refuses unheld number old new ObjectVersionExists cause other held exhausted refused may = absurd (other refl)
update-left refuses unheld number old new IdExhausted cause other held exhausted refused may = inl (exhausted refl)
update-left refuses unheld number old new (CallbackError error) cause other held exhausted refused may = inl (refused (inl tt) cause)
update-left refuses unheld number old new Fenced cause other held exhausted refused may = inl (refused (inr tt) cause)
update-left refuses unheld number old new InvalidObjectState (inl cause) other held exhausted refused may = inl (refused (inr tt) cause)
update-left refuses unheld number old new InvalidObjectState (inr cause) other held exhausted refused may = absurd (held cause)
update-left refuses unheld number old new error cause other held exhausted refused may = absurd cause

-- the holder's own epoch is no error
pub own-no_error : (local stored : ℕ) (error : TransactionalObjectError) → stored ≡ local → IsEpochError local stored error → ⊥
own-no_error local stored Fenced own cause = omega (arith, own, cause)
own-no_error local stored InvalidObjectState own cause = omega (arith, own, cause)
own-no_error local stored error own cause = absurd cause

-- nor is a candidate that has it
pub like-no_error : (local epoch : ℕ) (error : TransactionalObjectError) → epoch ≡ local → IsUnlike local epoch error → ⊥
like-no_error local epoch InvalidObjectState like unlike = unlike like
like-no_error local epoch error like unlike = absurd unlike
