-- Objects that hold a version, and what their calls answer and move.
-- `before` and `after` say for which histories and boundaries a protocol and its store stand, before a call and after it.
use Rattle.std.specs.Prelude.{◌≡◌, ◌⊎◌, ℕ, ◌-◌, ◌≤◌, Bool, true, List, [], ◌∷◌, ◌++◌, All, length, slice_get, Option, Some, None, Result, Ok, Err}
use Rattle.txn_store.specs.Store.{State}
use Rattle.txn_store.specs.types.Callbacks.{IsCallback, error_of_callback, OnRefusal}
use Rattle.txn_store.specs.declared.types.callback.CallbackFault.{CallbackFault}
use Rattle.txn_store.specs.declared.types.dirty.DirtyObject.{DirtyObject}
use Rattle.txn_store.specs.declared.types.error.TransactionalObjectError.{TransactionalObjectError}
use Rattle.txn_store.specs.declared.types.error.TransactionalObjectError.TheVariants.{ObjectStoreError, Fenced, InvalidObjectState, CallbackError, LatestRecordMissing, NoMemory, IdExhausted, TurnsExhausted}
use Rattle.txn_steps_driven.specs.Calls.{HasCause}
use Rattle.txn_steps_driven.specs.LatestReads.{IsLatest}
use Rattle.slatedb_txn_obj.specs.Protocol.{Unheld, HasCauseOfWrite, HasCauseOfLatest}

module _ {T : Type 0} where
  -- the value is the entry of that number
  pub record IsVersion (h : List T) (number : ℕ) (value : T) : Type 0 where
    pub positive : 1 ≤ number
    pub within : number ≤ length h
    pub entry : slice_get h (number - 1) ≡ Some value

  -- the value was the newest entry; another stands straight on it, as the newest
  pub record Updated (before after : List T → ℕ → Type 0) (number number' : ℕ) (value value' : T) : Type 0 where
    pub newest : (h : List T) (b : ℕ) → before h b → IsVersion h number value → IsLatest h number value
    pub stands : (h : List T) (b : ℕ) → before h b → IsVersion h number value → after (h ++ value' ∷ []) b
    pub next : (h : List T) (b : ℕ) → before h b → IsVersion h number value → IsLatest (h ++ value' ∷ []) number' value'

  -- the value is the newest entry, under this number
  abbrev pub ShowsLatest : (before : List T → ℕ → Type 0) → ℕ → T → Type 0
  ShowsLatest before number value = (h : List T) (b : ℕ) → before h b → IsLatest h number value

  -- nothing was stored
  abbrev pub IsEmpty : (before : List T → ℕ → Type 0) → Type 0
  IsEmpty before = (h : List T) (b : ℕ) → before h b → h ≡ []

  -- nothing was stored, a codec refused where nothing stood, or what else a read of the newest fails for
  abbrev pub HasCauseOfRefresh : (before : List T → ℕ → Type 0) → ℕ → State → State → TransactionalObjectError → Type 0
  HasCauseOfRefresh before left old new InvalidObjectState = IsEmpty before
  HasCauseOfRefresh before left old new (CallbackError error) = Unheld before
  HasCauseOfRefresh before left old new error = HasCauseOfLatest ⊥ left old new error

-- every invariant holds; or each one before some does, which fails with this, and does not hold where that is a refusal
abbrev pub Tested : {I : Type 0} → (I → Type 0) → (I → CallbackFault → Type 0) → List I → Result (Unit {0}) CallbackFault → Type 0
Tested holds fails invariants (Ok _) = All holds invariants
Tested {I} holds fails invariants (Err fault) = (front : List I) × (it : I) × (rest : List I) × (invariants ≡ front ++ it ∷ rest) × All holds front × fails it fault × OnRefusal (holds it → ⊥) fault

-- the first invariant that does not hold fails with what this error is made of
abbrev pub IsTestFailure : {I : Type 0} → (I → Type 0) → (I → CallbackFault → Type 0) → List I → TransactionalObjectError → Type 0
IsTestFailure holds fails invariants error = (fault : CallbackFault) × (error ≡ error_of_callback fault) × Tested holds fails invariants (Err fault)

-- an error by which an object is shut
abbrev pub IsShutting : TransactionalObjectError → Type 0
IsShutting Fenced = Unit {0}
IsShutting InvalidObjectState = Unit {0}
IsShutting error = ⊥

-- a refusal before the write, a conflict, no number above the version, a boundary file that says no boundary where none stood, or a failure with its cause
abbrev pub HasCauseOfUpdate : (TransactionalObjectError → Type 0) → Type 0 → ℕ → State → State → TransactionalObjectError → Type 0
HasCauseOfUpdate refuses unheld number old new (CallbackError error) = refuses (CallbackError error)
HasCauseOfUpdate refuses unheld number old new Fenced = refuses Fenced
HasCauseOfUpdate refuses unheld number old new InvalidObjectState = refuses InvalidObjectState ⊎ unheld
HasCauseOfUpdate refuses unheld number old new error = HasCauseOfWrite unheld number old new error

-- nothing was stored, or what a read of the newest fails for
abbrev pub HasCauseOfLoad : Type 0 → ℕ → State → State → TransactionalObjectError → Type 0
HasCauseOfLoad unheld left old new LatestRecordMissing = Unit {0}
HasCauseOfLoad unheld left old new error = HasCauseOfLatest unheld left old new error

-- a refusal by an epoch, an invariant or a mutator
abbrev pub IsRefusal : TransactionalObjectError → Type 0
IsRefusal error = IsCallback error ⊎ IsShutting error

-- an error after which what was to be written may stand
abbrev pub MayBeWritten : TransactionalObjectError → Type 0
MayBeWritten (ObjectStoreError error) = Unit {0}
MayBeWritten NoMemory = Unit {0}
MayBeWritten error = ⊥

-- An object is a view of a version: `at` says of which number, `value` of which value. `answers` says what a mutator may answer to a view.
module _ {T Id View : Type 0} (answers : View → Result (Option (DirtyObject T Id)) CallbackFault → Type 0) (at : View → ℕ) (value : View → T) where
  -- What stands after a mutator was applied to an object, and which version is viewed then. `same` says that a view is of this object, and `allows` which value may follow it.
  pub data Applied (start : View) (same : View → Type 0) (allows : View → T → Type 0) (h : List T) (b : ℕ) (after : List T → ℕ → Type 0) (now : View) : Type 0 where
    -- it answered nothing to the version that was viewed first, or to the newest, which a refresh read
    Nothing : IsVersion h (at now) (value now) → (now ≡ start) ⊎ IsLatest h (at now) (value now) → answers now (Ok None) → after h b → Applied start same allows h b after now
    -- its candidate, made of this object at the newest version, and allowed to follow it, stands straight on it
    Entered : (view : View) (dirty : DirtyObject T Id) → same view → IsLatest h (at view) (value view) → answers view (Ok (Some dirty)) → allows view dirty.value → after (h ++ dirty.value ∷ []) b → IsLatest (h ++ dirty.value ∷ []) (at now) (value now) → Applied start same allows h b after now

  -- Why applying it failed, what stands then, and which version is viewed, the last that it was asked about or the one read after it. `shut` says why a version shuts its holder out.
  pub data NotApplied (shut : View → TransactionalObjectError → Type 0) (h : List T) (b : ℕ) (after : List T → ℕ → Type 0) (now : View) (error : TransactionalObjectError) : Type 0 where
    -- no turn was left
    Spent : IsVersion h (at now) (value now) → error ≡ TurnsExhausted → after h b → NotApplied shut h b after now error
    -- the newest version shuts its holder out
    Shut : IsLatest h (at now) (value now) → IsShutting error → shut now error → after h b → NotApplied shut h b after now error
    -- it refused that version
    Refused : (fault : CallbackFault) → IsVersion h (at now) (value now) → answers now (Err fault) → error ≡ error_of_callback fault → after h b → NotApplied shut h b after now error
    -- its candidate for that version was not written, or that was the newest, the candidate was written, and an error of the store or want of memory followed
    Failed : (dirty : DirtyObject T Id) → IsVersion h (at now) (value now) → answers now (Ok (Some dirty)) → after h b ⊎ (MayBeWritten error × ((at now ≡ length h) × after (h ++ dirty.value ∷ []) b)) → NotApplied shut h b after now error

  -- each candidate that it answers has the id of what it was made of
  abbrev pub KeepsIds : (id : View → Id) (eq : Id → Id → Bool) → Type 0
  KeepsIds id eq = (view : View) (dirty : DirtyObject T Id) → answers view (Ok (Some dirty)) → eq dirty.id (id view) ≡ true

-- What a mutator's first answer decides at once: its refusal is the error, and nothing asked for is Ok. `same` says that nothing changed.
abbrev pub DecidedBy : {T Id : Type 0} → Result (Option (DirtyObject T Id)) CallbackFault → (same : Type 0) → Result (Unit {0}) TransactionalObjectError → Type 0
DecidedBy (Err fault) same result = (result ≡ Err (error_of_callback fault)) × same
DecidedBy (Ok None) same result = (result ≡ Ok tt) × same
DecidedBy (Ok (Some dirty)) same result = Unit {0}

-- What stopped an update by a mutator: the version that is viewed shuts its holder out, the mutator refused it, or it refused the mutator's candidate.
pub data Stopped {T Id View : Type 0} (answers : View → Result (Option (DirtyObject T Id)) CallbackFault → Type 0) (shut : View → TransactionalObjectError → Type 0) (refuses : View → T → TransactionalObjectError → Type 0) (now : View) (error : TransactionalObjectError) : Type 0 where
  ByVersion : shut now error → Stopped answers shut refuses now error
  ByMutator : (fault : CallbackFault) → answers now (Err fault) → error ≡ error_of_callback fault → Stopped answers shut refuses now error
  ByObject : (dirty : DirtyObject T Id) → answers now (Ok (Some dirty)) → refuses now dirty.value error → Stopped answers shut refuses now error

-- Turns that were spent, a mutator, an invariant or an object that stopped it, a codec or a boundary file that says nothing where nothing stood, no number above the version, or a failure with its cause. It is never a conflict.
abbrev pub HasCauseOfApply : (TransactionalObjectError → Type 0) → Type 0 → Type 0 → ℕ → State → State → TransactionalObjectError → Type 0
HasCauseOfApply stopped full unheld left old new TurnsExhausted = left ≡ 0
HasCauseOfApply stopped full unheld left old new (CallbackError error) = stopped (CallbackError error) ⊎ unheld
HasCauseOfApply stopped full unheld left old new Fenced = stopped Fenced
HasCauseOfApply stopped full unheld left old new InvalidObjectState = stopped InvalidObjectState ⊎ unheld
HasCauseOfApply stopped full unheld left old new IdExhausted = full
HasCauseOfApply stopped full unheld left old new error = HasCause old new error
