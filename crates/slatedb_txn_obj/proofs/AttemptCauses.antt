-- Why an attempt of an update by a mutator, or of a claim, failed, by the part that did.
use Rattle.std.proofs.Common.{arith, true≢false, refl, sym, subst, ap, ◌∙◌, inl, inr, ◌≡◌, ◌⊎◌, ℕ, ◌+◌, ◌^◌, ◌≤◌, List, Option, Some, None, Result, Ok, Err, is_ok, IfErr, IsErrOf, if◌then◌else◌}
use Rattle.std.proofs.lemmas.Bool.{eq-eqb, le-leb}
use Rattle.std.proofs.lemmas.Result.{IfErr-at_err}
use Rattle.txn_store.specs.Store.{State}
use Rattle.txn_store.specs.types.Callbacks.{error_of_callback}
use Rattle.txn_store.specs.types.Epochs.{claimed_epoch, NextEpoch, HasNoEpoch}
use Rattle.txn_store.specs.declared.types.callback.CallbackFault.{CallbackFault}
use Rattle.txn_store.specs.declared.types.callback.CallbackFault.TheVariants.{Refused}
use Rattle.txn_store.specs.declared.types.callback.CallbackFault.TheVariants as callback
use Rattle.txn_store.specs.declared.types.error.TransactionalObjectError.{TransactionalObjectError}
use Rattle.txn_store.specs.declared.types.error.TransactionalObjectError.TheVariants.{ObjectStoreError, ObjectUpdateTimeout, ObjectVersionExists, Fenced, InvalidObjectState, CallbackError, NoMemory, IdExhausted, TurnsExhausted}
use Rattle.slatedb_txn_obj.specs.Claims.{HasCauseOfAttempt, HasCauseOfClaim, IsBlocking, IsLate, IsUnwritten}
use Rattle.slatedb_txn_obj.specs.Protocol.{Unheld}
use Rattle.slatedb_txn_obj.specs.Views.{IsTestFailure, IsRefusal, IsEmpty, IsShutting, HasCauseOfUpdate, HasCauseOfRefresh, HasCauseOfApply}
use Rattle.slatedb_txn_obj.proofs.Causes.{HasCause-later}

module _ (stopped : TransactionalObjectError → Type 0) (full unheld : Type 0) (left : ℕ) (old middle new : State) where
  -- the version that a refresh read shuts the object
  pub apply-shut : (error : TransactionalObjectError) → IsShutting error → stopped error → HasCauseOfApply stopped full unheld left old new error
  apply-shut Fenced shuts cause = cause
  apply-shut InvalidObjectState shuts cause = inl cause
  apply-shut error shuts cause = absurd shuts

  -- the mutator refused
  pub apply-mutator : (fault : CallbackFault) → stopped (error_of_callback fault) → HasCauseOfApply stopped full unheld left old new (error_of_callback fault)
  apply-mutator (Refused error) cause = inl cause
  apply-mutator callback.NoMemory cause = tt

  -- a refresh failed
  pub apply-refresh : {T : Type 0} (before : List T → ℕ → Type 0) → old.failures ≤ middle.failures → (IsEmpty before → unheld) → (Unheld before → unheld) → (error : TransactionalObjectError) → HasCauseOfRefresh before left middle new error → HasCauseOfApply stopped full unheld left old new error
  apply-refresh before failures empty none TurnsExhausted cause = cause
  apply-refresh before failures empty none (CallbackError error) cause = inr (none cause)
  apply-refresh before failures empty none InvalidObjectState cause = inr (empty cause)
  apply-refresh before failures empty none (ObjectStoreError error) cause = HasCause-later old middle new failures (ObjectStoreError error) cause
  apply-refresh before failures empty none NoMemory cause = tt
  apply-refresh before failures empty none error cause = absurd cause

  -- an update failed, and not as a conflict
  pub apply-update : (refuses : TransactionalObjectError → Type 0) (unheld' : Type 0) (number : ℕ) → old.failures ≤ middle.failures → ((error : TransactionalObjectError) → refuses error → stopped error) → (number + 1 ≡ 2 ^ 64 → full) → (unheld' → unheld)
      → (error : TransactionalObjectError) → (error ≡ ObjectVersionExists → ⊥) → HasCauseOfUpdate refuses unheld' number middle new error → HasCauseOfApply stopped full unheld left old new error
  apply-update refuses unheld' number failures stops fills holds (CallbackError error) other cause = inl (stops (CallbackError error) cause)
  apply-update refuses unheld' number failures stops fills holds Fenced other cause = stops Fenced cause
  apply-update refuses unheld' number failures stops fills holds InvalidObjectState other (inl cause) = inl (stops InvalidObjectState cause)
  apply-update refuses unheld' number failures stops fills holds InvalidObjectState other (inr cause) = inr (holds cause)
  apply-update refuses unheld' number failures stops fills holds ObjectVersionExists other cause = absurd (other refl)
  apply-update refuses unheld' number failures stops fills holds IdExhausted other cause = fills cause
  apply-update refuses unheld' number failures stops fills holds (ObjectStoreError error) other cause = HasCause-later old middle new failures (ObjectStoreError error) cause
  apply-update refuses unheld' number failures stops fills holds NoMemory other cause = tt
  apply-update refuses unheld' number failures stops fills holds error other cause = absurd cause

-- a refresh of a claim failed
module _ (timeout : ℕ) (late : Type 0) (fails blocked : TransactionalObjectError → Type 0) (full unheld : Type 0) (left : ℕ) (old middle new : State) where
  pub claim-refresh : {T : Type 0} (before : List T → ℕ → Type 0) → old.failures ≤ middle.failures → (IsEmpty before → unheld) → (Unheld before → unheld) → (error : TransactionalObjectError) → HasCauseOfRefresh before left middle new error → HasCauseOfClaim timeout late fails blocked full unheld left old new error
  claim-refresh before failures empty none TurnsExhausted cause = cause
  claim-refresh before failures empty none (CallbackError error) cause = inr (none cause)
  claim-refresh before failures empty none InvalidObjectState cause = empty cause
  claim-refresh before failures empty none (ObjectStoreError error) cause = HasCause-later old middle new failures (ObjectStoreError error) cause
  claim-refresh before failures empty none NoMemory cause = tt
  claim-refresh before failures empty none error cause = absurd cause

-- it is no want of an epoch or an id
pub refresh-not_blocking : {T : Type 0} (before : List T → ℕ → Type 0) (left : ℕ) (old new : State) (error : TransactionalObjectError) → IsBlocking error → HasCauseOfRefresh before left old new error → ⊥
refresh-not_blocking before left old new Fenced blocks cause = cause
refresh-not_blocking before left old new IdExhausted blocks cause = cause
refresh-not_blocking before left old new error blocks cause = absurd blocks

-- nor want of time
pub refresh-not_late : {T : Type 0} (before : List T → ℕ → Type 0) (left : ℕ) (old new : State) (error : TransactionalObjectError) → IsLate error → HasCauseOfRefresh before left old new error → ⊥
refresh-not_late before left old new (ObjectUpdateTimeout timeout) late cause = cause
refresh-not_late before left old new error late cause = absurd late

-- both are errors of no write
pub blocking-unwritten : (error : TransactionalObjectError) → IsBlocking error → IsUnwritten error
blocking-unwritten Fenced blocks = tt
blocking-unwritten IdExhausted blocks = tt
blocking-unwritten error blocks = absurd blocks

pub late-unwritten : (error : TransactionalObjectError) → IsLate error → IsUnwritten error
late-unwritten (ObjectUpdateTimeout timeout) late = tt
late-unwritten error late = absurd late

-- there is one next epoch at most
pub one_epoch : (asked : Option ℕ) (stored e e' : ℕ) → NextEpoch asked stored e → NextEpoch asked stored e' → e ≡ e'
one_epoch None stored e e' next next' = next ∙ sym next'
one_epoch (Some asked) stored e e' next next' = next.0 ∙ sym next'.0

-- an epoch that there is not is no conflict
pub blocked-no_conflict : (asked : Option ℕ) (stored : ℕ) (error : TransactionalObjectError) → HasNoEpoch asked stored error → error ≡ ObjectVersionExists → ⊥
blocked-no_conflict asked stored error none is = no_epoch asked (subst (HasNoEpoch asked stored) is none)
  where
    no_epoch : (asked : Option ℕ) → HasNoEpoch asked stored ObjectVersionExists → ⊥
    no_epoch None none = none
    no_epoch (Some asked) none = none

-- it is the answer where there is none
pub claimed-none : (asked : Option ℕ) (stored : ℕ) (error : TransactionalObjectError) → HasNoEpoch asked stored error → claimed_epoch asked stored ≡ Err error
claimed-none None stored IdExhausted none = ap (λ b. if b then Err IdExhausted else Ok (stored + 1)) (eq-eqb stored 18446744073709551615 (omega (arith, none)))
claimed-none (Some asked) stored Fenced none = ap (λ b. if b then Err Fenced else Ok asked) (le-leb asked stored none)
claimed-none None stored error none = absurd none
claimed-none (Some asked) stored error none = absurd none

pub claimed-some : (asked : Option ℕ) (stored epoch : ℕ) (error : TransactionalObjectError) → Ok epoch ≡ claimed_epoch asked stored → HasNoEpoch asked stored error → ⊥
claimed-some asked stored epoch error claimed none = true≢false (ap is_ok (claimed ∙ claimed-none asked stored error none))

-- an error that was handed on
pub same_error : {A : Type 0} {result : Result A TransactionalObjectError} {x y z : TransactionalObjectError} → result ≡ Err x → x ≡ y → result ≡ Err z → y ≡ z
same_error {y = y} given made is = IfErr-at_err (λ e. y ≡ e) (ap Err (sym made) ∙ sym given ∙ is) refl

-- an object that nothing shuts
pub not_shut : {A : Type 0} → A ⊎ ⊥ → A
not_shut (inl lacking) = lacking
not_shut (inr shut) = absurd shut

-- another error than a conflict, or none
abbrev pub IsNoConflict : TransactionalObjectError → Type 0
IsNoConflict ObjectVersionExists = ⊥
IsNoConflict error = Unit {0}

pub no_conflict : {A : Type 0} (result : Result A TransactionalObjectError) → IfErr result IsNoConflict → IsErrOf result ObjectVersionExists → ⊥
no_conflict result other is = subst (λ r. IfErr r IsNoConflict) is other

-- there is no next epoch
pub attempt-blocked : (asked : Option ℕ) (stored timeout number : ℕ) (late : Type 0) (fails : TransactionalObjectError → Type 0) (unheld : Type 0) (old new : State) (error : TransactionalObjectError) → HasNoEpoch asked stored error → HasCauseOfAttempt asked stored timeout number late fails unheld old new error
attempt-blocked None stored timeout number late fails unheld old new IdExhausted h = inl h
attempt-blocked (Some asked) stored timeout number late fails unheld old new Fenced h = h
attempt-blocked None stored timeout number late fails unheld old new error h = absurd h
attempt-blocked (Some asked) stored timeout number late fails unheld old new error h = absurd h

-- a test fails with what a callback's fault becomes
abbrev IsOfCallback : TransactionalObjectError → Type 0
IsOfCallback (CallbackError error) = Unit {0}
IsOfCallback NoMemory = Unit {0}
IsOfCallback error = ⊥

of_callback : (fault : CallbackFault) → IsOfCallback (error_of_callback fault)
of_callback (Refused error) = tt
of_callback callback.NoMemory = tt

module _ {I : Type 0} (holds : I → Type 0) (tests : I → CallbackFault → Type 0) (invariants : List I) where
  of_test : {error : TransactionalObjectError} → IsTestFailure holds tests invariants error → IsOfCallback error
  of_test failure = subst IsOfCallback (sym failure.1) (of_callback failure.0)

  -- a test that fails is no conflict
  pub test-no_conflict : {error : TransactionalObjectError} → IsTestFailure holds tests invariants error → error ≡ ObjectVersionExists → ⊥
  test-no_conflict failure is = subst IsOfCallback is (of_test failure)

  pub attempt-update : (asked : Option ℕ) (stored timeout number : ℕ) (late : Type 0) (fails : TransactionalObjectError → Type 0) (unheld : Type 0) (old new : State) → ((error : TransactionalObjectError) → IsTestFailure holds tests invariants error → fails error) → (error : TransactionalObjectError) → HasCauseOfUpdate (IsTestFailure holds tests invariants) unheld number old new error → HasCauseOfAttempt asked stored timeout number late fails unheld old new error
  attempt-update asked stored timeout number late fails unheld old new gives (CallbackError error) cause = gives (CallbackError error) cause
  attempt-update asked stored timeout number late fails unheld old new gives Fenced cause = absurd (of_test cause)
  attempt-update asked stored timeout number late fails unheld old new gives InvalidObjectState (inl cause) = absurd (of_test cause)
  attempt-update asked stored timeout number late fails unheld old new gives InvalidObjectState (inr cause) = cause
  attempt-update asked stored timeout number late fails unheld old new gives ObjectVersionExists cause = tt
  attempt-update asked stored timeout number late fails unheld old new gives IdExhausted cause = inr cause
  attempt-update asked stored timeout number late fails unheld old new gives NoMemory cause = cause
  attempt-update asked stored timeout number late fails unheld old new gives (ObjectStoreError error) cause = cause
  attempt-update asked stored timeout number late fails unheld old new gives error cause = absurd cause

  -- an update that fails by an error of no write moves nothing, where one for want of an id does not, and none that a test refuses
  pub update-unwritten : {A Moved : Type 0} (unheld : Type 0) (number : ℕ) (old new : State) (error : TransactionalObjectError) → HasCauseOfUpdate (IsTestFailure holds tests invariants) unheld number old new error → (IsErrOf {T = A} (Err error) IdExhausted → Moved) → (IsRefusal error → IsTestFailure holds tests invariants error → Moved) → IsUnwritten error → Moved
  update-unwritten unheld number old new Fenced cause exhausted refused unwritten = absurd (of_test cause)
  update-unwritten unheld number old new IdExhausted cause exhausted refused unwritten = exhausted refl
  update-unwritten unheld number old new (CallbackError error) cause exhausted refused unwritten = refused (inl tt) cause
  update-unwritten unheld number old new (ObjectUpdateTimeout timeout) cause exhausted refused unwritten = absurd cause
  update-unwritten unheld number old new TurnsExhausted cause exhausted refused unwritten = absurd cause
  update-unwritten unheld number old new error cause exhausted refused unwritten = absurd unwritten

-- it is for no want of a turn that a mutator refuses
pub mutator-not_spent : (fault : CallbackFault) (error : TransactionalObjectError) → error ≡ error_of_callback fault → error ≡ TurnsExhausted → ⊥
mutator-not_spent fault error is spent = subst IsOfCallback (sym (sym spent ∙ is)) (of_callback fault)
