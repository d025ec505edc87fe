-- What claims leave, and why they fail.
use Rattle.std.proofs.Common.{true≢false, refl, sym, subst, ap, ◌∙◌, inl, inr, ◌≡◌, ◌⊎◌, ℕ, ◌+◌, ◌-◌, ◌^◌, ◌<◌, ◌≤◌, List, [], ◌∷◌, ◌++◌, Option, Some, None, is_some, Result, Ok, Err, is_ok, IfErr, IsErr, IsErrOf}
use Rattle.std.proofs.lemmas.List.{append_assoc}
use Rattle.std.proofs.lemmas.List.Elements.{All-append, All-cons, All-nil}
use Rattle.std.proofs.lemmas.Option.{same_Some}
use Rattle.std.proofs.lemmas.Result.{IfErr-at_err}
use Rattle.txn_store.specs.Store.{State}
use Rattle.txn_store.specs.declared.types.error.TransactionalObjectError.{TransactionalObjectError}
use Rattle.txn_store.specs.declared.types.error.TransactionalObjectError.TheVariants.{ObjectStoreError, ObjectUpdateTimeout, ObjectVersionExists, Fenced, InvalidObjectState, CallbackError, NoMemory, IdExhausted, TurnsExhausted}
use Rattle.txn_store.specs.types.Epochs.{NextEpoch, HasNoEpoch}
use Rattle.slatedb_txn_obj.specs.Claims.{ReadsOne, ReadsInTime, ReadsLate, HasCauseOfAttempt, HasCauseOfClaim}
use Rattle.slatedb_txn_obj.specs.Views.{HasCauseOfRefresh}
use Rattle.slatedb_txn_obj.proofs.AttemptCauses.{blocked-no_conflict}
use Rattle.slatedb_txn_obj.proofs.Causes.{HasCause-later}

-- the next epoch is the one that was asked for
pub next-asked : (asked : Option ℕ) (stored epoch : ℕ) → NextEpoch asked stored epoch → (e : ℕ) → asked ≡ Some e → epoch ≡ e
next-asked None stored epoch next e is = absurd (true≢false (sym (ap is_some is)))
next-asked (Some asked) stored epoch next e is = next.0 ∙ same_Some asked e is

-- one reading more, in time
pub reads-more : (start timeout : ℕ) (later old middle new : List ℕ) → ReadsInTime start timeout later old middle → (one : ReadsOne (λ r. r - start < timeout) middle new) → ReadsInTime start timeout (later ++ one.0 ∷ []) old new
reads-more start timeout later old middle new reads one = (
  one.1 ∙ ap (λ xs. xs ++ one.0 ∷ []) reads.0 ∙ append_assoc old (start ∷ later) (one.0 ∷ []),
  All-append (λ r. r - start < timeout) later (one.0 ∷ []) reads.1 (All-cons (λ r. r - start < timeout) one.0 [] one.2 (All-nil (λ r. r - start < timeout))),
)

-- one reading more, too late
pub reads-late : (start timeout : ℕ) (later old middle new : List ℕ) → ReadsInTime start timeout later old middle → ReadsOne (λ r. timeout ≤ r - start) middle new → ReadsLate timeout old new
reads-late start timeout later old middle new reads one =
    (start, later, one.0, one.1 ∙ ap (λ xs. xs ++ one.0 ∷ []) reads.0, reads.1, one.2)

module _ (asked : Option ℕ) (stored timeout number : ℕ) (late : Type 0) (fails : TransactionalObjectError → Type 0) (unheld : Type 0) (old middle new : State) (late' : Type 0) (fails' blocked : TransactionalObjectError → Type 0) (full unheld' : Type 0) (left : ℕ)
    (failures : old.failures ≤ middle.failures) (lates : late → late') (tests : (error : TransactionalObjectError) → fails error → fails' error) (blocks : (error : TransactionalObjectError) → HasNoEpoch asked stored error → blocked error) (fills : number + 1 ≡ 2 ^ 64 → full) (holds : unheld → unheld') where
  pub claim-cause : (error : TransactionalObjectError) → (error ≡ ObjectVersionExists → ⊥) → HasCauseOfAttempt asked stored timeout number late fails unheld middle new error → HasCauseOfClaim timeout late' fails' blocked full unheld' left old new error
  claim-cause (ObjectUpdateTimeout t) other cause = (cause.0, lates cause.1)
  claim-cause Fenced other cause = blocks Fenced cause
  claim-cause IdExhausted other (inl cause) = inl (blocks IdExhausted cause)
  claim-cause IdExhausted other (inr cause) = inr (fills cause)
  claim-cause (CallbackError error) other cause = inl (tests (CallbackError error) cause)
  claim-cause InvalidObjectState other cause = holds cause
  claim-cause ObjectVersionExists other cause = absurd (other refl)
  claim-cause (ObjectStoreError error) other cause = HasCause-later old middle new failures (ObjectStoreError error) cause
  claim-cause NoMemory other cause = cause
  claim-cause error other cause = absurd cause

-- a claim ends by another error than that its turns are spent, or by none
abbrev IsOther : TransactionalObjectError → Type 0
IsOther TurnsExhausted = ⊥
IsOther error = Unit {0}

pub not_exhausted : {A : Type 0} (result : Result A TransactionalObjectError) → IfErr result IsOther → IsErrOf result TurnsExhausted → ⊥
not_exhausted result other is = subst (λ r. IfErr r IsOther) is other

-- so does one whose attempt failed
pub attempt-other : (asked : Option ℕ) (stored timeout number : ℕ) (late : Type 0) (fails : TransactionalObjectError → Type 0) (unheld : Type 0) (old new : State) (error : TransactionalObjectError) → HasCauseOfAttempt asked stored timeout number late fails unheld old new error → IsOther error
attempt-other asked stored timeout number late fails unheld old new TurnsExhausted cause = cause
attempt-other asked stored timeout number late fails unheld old new error cause = tt

-- where its refresh ended so, no turn is left
pub refresh-exhausted : {T A : Type 0} (before : List T → ℕ → Type 0) (left : ℕ) (old new : State) (error : TransactionalObjectError) → HasCauseOfRefresh before left old new error → IsErrOf {T = A} (Err error) TurnsExhausted → left ≡ 0
refresh-exhausted before left old new error cause is = subst (HasCauseOfRefresh before left old new) (IfErr-at_err (λ e. error ≡ e) is refl) cause

-- An attempt was a conflict: what was claimed has a next epoch, with which no invariant fails for it. So it was found before, or this attempt was the first.
module _ {View : Type 0} (epoch_of : View → ℕ) (passes : View → ℕ → Type 0) (asked : Option ℕ) where
  -- what was claimed has a next epoch, with which no invariant fails for it
  abbrev pub HasBegun : View → Type 0
  HasBegun view = ((e : TransactionalObjectError) → HasNoEpoch asked (epoch_of view) e → ⊥) × ((e : ℕ) → NextEpoch asked (epoch_of view) e → (passes view e → ⊥) → ⊥)

  -- so it was where it was found before, or this attempt was the first and found it
  pub still_begun : (view now : View) (Rest Rest' : Type 0) → ((now ≡ view) × Rest × Rest') ⊎ HasBegun view → HasBegun now → HasBegun view
  still_begun view now Rest Rest' (inr began) begins = began
  still_begun view now Rest Rest' (inl same) begins = subst HasBegun same.0 begins

  -- an attempt that was a conflict found it
  pub has_begun : {A : Type 0} (view now : View) (Rest Rest' Kept Fails : Type 0) (error : TransactionalObjectError) → ((now ≡ view) × Rest × Rest') ⊎ HasBegun view
      → ((e : TransactionalObjectError) → HasNoEpoch asked (epoch_of now) e → IsErrOf {T = A} (Err error) e × Kept)
      → ((e : ℕ) → NextEpoch asked (epoch_of now) e → (passes now e → ⊥) → Fails × Kept × (IsErrOf {T = A} (Err error) ObjectVersionExists → ⊥))
      → error ≡ ObjectVersionExists → HasBegun view
  has_begun view now Rest Rest' Kept Fails error first blocked barred conflict = still_begun view now Rest Rest' first (
    (λ e none. blocked-no_conflict asked (epoch_of now) e none (sym (IfErr-at_err (λ x. error ≡ x) (blocked e none).0 refl) ∙ conflict)),
    (λ e next fails. (barred e next fails).2 (ap Err conflict)),
  )

  -- one that succeeded did
  pub ok_begun : {A : Type 0} (view now : View) (Rest Rest' Kept Kept' Other : Type 0) (x : A) → ((now ≡ view) × Rest × Rest') ⊎ HasBegun view
      → ((e : TransactionalObjectError) → HasNoEpoch asked (epoch_of now) e → IsErrOf {T = A} (Ok x) e × Kept)
      → ((e : ℕ) → NextEpoch asked (epoch_of now) e → (passes now e → ⊥) → IsErr {T = A} {E = TransactionalObjectError} (Ok x) × Kept' × Other)
      → HasBegun view
  ok_begun view now Rest Rest' Kept Kept' Other x first blocked barred = still_begun view now Rest Rest' first (
    (λ e none. true≢false (ap is_ok (blocked e none).0)),
    (λ e next fails. true≢false (sym (barred e next fails).0)),
  )

  -- One that failed otherwise told why it was not so, if it was the first; the store is as it was then.
  pub not_begun : {A : Type 0} (view now : View) (Rest : Type 0) (old middle new : State) (error : TransactionalObjectError) → ((now ≡ view) × (middle ≡ old) × Rest) ⊎ HasBegun view
      → ((e : TransactionalObjectError) → HasNoEpoch asked (epoch_of now) e → IsErrOf {T = A} (Err error) e × (new ≡ middle))
      → (e : TransactionalObjectError) → HasNoEpoch asked (epoch_of view) e → (error ≡ e) × (new ≡ old)
  not_begun view now Rest old middle new error (inr began) blocked e none = absurd (began.0 e none)
  not_begun view now Rest old middle new error (inl same) blocked e none =
      let told = blocked e (subst (λ v. HasNoEpoch asked (epoch_of v) e) (sym same.0) none) in
      (IfErr-at_err (λ x. error ≡ x) told.0 refl, told.1 ∙ same.1)

  pub not_passed : {Fails Other : Type 0} (view now : View) (Rest : Type 0) (old middle new : State) → ((now ≡ view) × (middle ≡ old) × Rest) ⊎ HasBegun view
      → ((e : ℕ) → NextEpoch asked (epoch_of now) e → (passes now e → ⊥) → Fails × (new ≡ middle) × Other)
      → (e : ℕ) → NextEpoch asked (epoch_of view) e → (passes view e → ⊥) → new ≡ old
  not_passed view now Rest old middle new (inr began) barred e next fails = absurd (began.1 e next fails)
  not_passed view now Rest old middle new (inl same) barred e next fails =
      (barred e (subst (λ v. NextEpoch asked (epoch_of v) e) (sym same.0) next) (subst (λ v. passes v e → ⊥) (sym same.0) fails)).1 ∙ same.1
