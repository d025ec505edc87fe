-- What the calls of a protocol answer and change, over a history of values and a boundary.
-- `before` and `after` say for which histories and boundaries the protocol and its store stand, before a call and after it.
use Rattle.std.specs.Prelude.{◌≡◌, ◌⊎◌, ℕ, ◌+◌, ◌-◌, ◌^◌, ◌<◌, ◌≤◌, ◌==◌, Bool, true, List, [], ◌∷◌, ◌++◌, length, slice_get, Option, Some, None, Result, IfOk, IfErr}
use Rattle.std.specs.List.{list_any}
use Rattle.std.specs.List.Sorted.{IsStrictlySortedBy}
use Rattle.std.specs.Ordering.{nat_cmp}
use Rattle.std.specs.declared.ops.Bound.{Bound}
use Rattle.txn_store.specs.Store.{State}
use Rattle.txn_store.specs.types.Numbers.{is_within}
use Rattle.txn_store.specs.declared.types.error.TransactionalObjectError.{TransactionalObjectError}
use Rattle.txn_store.specs.declared.types.error.TransactionalObjectError.TheVariants.{ObjectVersionExists, InvalidObjectState, CallbackError, IdExhausted, TurnsExhausted}
use Rattle.txn_steps_driven.specs.Calls.{HasCause, Spends}
use Rattle.txn_steps_driven.specs.LatestReads.{IsLatest}
use Rattle.slatedb_txn_obj.specs.Leaves.{SameFiles}

-- the number of a base, 0 for none
abbrev pub base_number : {Id : Type 0} → (Id → ℕ) → Option Id → ℕ
base_number number None = 0
base_number number (Some id) = number id

-- a number is among these
abbrev pub is_among : ℕ → List ℕ → Bool
is_among n ids = list_any (λ id. n == id) ids

module _ {T : Type 0} where
  -- it stood for nothing
  abbrev pub Unheld : (before : List T → ℕ → Type 0) → Type 0
  Unheld before = (h : List T) (b : ℕ) → before h b → ⊥

  -- it stood for nothing that has the base
  abbrev pub UnheldAt : (before : List T → ℕ → Type 0) → ℕ → Type 0
  UnheldAt before base = (h : List T) (b : ℕ) → before h b → base ≤ length h → ⊥

  -- nothing moved
  abbrev pub Stays : (before after : List T → ℕ → Type 0) → Type 0
  Stays before after = (h : List T) (b : ℕ) → before h b → after h b

  -- nothing moved, and the place, the pages and the files are as they were
  pub record LeavesAll {Place : Type 0} (before after : List T → ℕ → Type 0) (old_place new_place : Place) (old_pages new_pages : ℕ) (old new : State) : Type 0 where
    pub kept : Stays before after
    pub placed : new_place ≡ old_place
    pub paged : (h : List T) (b : ℕ) → before h b → new_pages ≡ old_pages
    pub files : SameFiles old new

  -- the base was newest, and the value is now the newest entry, under the number above it
  pub record Appended (before after : List T → ℕ → Type 0) (base : ℕ) (value : T) (id : ℕ) : Type 0 where
    pub id_is : (h : List T) (b : ℕ) → before h b → base ≤ length h → id ≡ base + 1
    pub newest : (h : List T) (b : ℕ) → before h b → base ≤ length h → base ≡ length h
    pub stands : (h : List T) (b : ℕ) → before h b → base ≤ length h → after (h ++ value ∷ []) b

  -- a newer entry stood, and nothing moved
  pub record Overtaken (before after : List T → ℕ → Type 0) (base : ℕ) : Type 0 where
    pub newer : (h : List T) (b : ℕ) → before h b → base ≤ length h → base < length h
    pub stands : (h : List T) (b : ℕ) → before h b → base ≤ length h → after h b

  -- the value was appended on its base, which was the newest, or nothing moved
  abbrev pub MayAppend : (before after : List T → ℕ → Type 0) → ℕ → T → Type 0
  MayAppend before after base value = (h : List T) (b : ℕ) → before h b → base ≤ length h → after h b ⊎ ((base ≡ length h) × after (h ++ value ∷ []) b)

  -- the value is the newest entry, or the number above the base is fenced and nothing moved
  abbrev pub EntryStands : (before after : List T → ℕ → Type 0) → ℕ → T → ℕ → Type 0
  EntryStands before after base value id = (h : List T) (b : ℕ) → before h b → base ≤ length h
      → (id ≡ base + 1) × (((base ≡ length h) × after (h ++ value ∷ []) b) ⊎ ((base < length h) × (id ≤ b) × after h b))

  -- what an unchecked read answers: the last entry; or, unless it is fresh, a fenced version, whose refusal makes it fresh
  abbrev pub LatestOrFenced : List T → ℕ → Type 0 → (ℕ → Type 0) → Option (ℕ × T) → Type 0
  LatestOrFenced h b fresh freshens None = h ≡ []
  LatestOrFenced h b fresh freshens (Some read) = IsLatest h read.0 read.1 ⊎ ((fresh → ⊥) × (read.0 ≤ b) × freshens read.0)

  -- what a read of one version answers: above the boundary the entry, and nothing above the newest
  abbrev pub IsEntry : List T → ℕ → ℕ → Option T → Type 0
  IsEntry h b id answer = b < id → answer ≡ slice_get h (id - 1)

  -- what a listing answers: ids of the history within the bounds, in ascending order, with each one above the boundary
  pub record AreListed (h : List T) (b : ℕ) (from to : Bound ℕ) (ids : List ℕ) : Type 0 where
    pub ascend : IsStrictlySortedBy nat_cmp ids
    pub within : (n : ℕ) → is_among n ids ≡ true → (1 ≤ n) × (n ≤ length h) × (is_within from to n ≡ true)
    pub every : (n : ℕ) → b < n → n ≤ length h → is_within from to n ≡ true → is_among n ids ≡ true

-- what a checked read answers: the last entry, and nothing where there is none
abbrev pub LatestBy : {T Id : Type 0} → (Id → ℕ) → List T → Option (Id × T) → Type 0
LatestBy number h None = h ≡ []
LatestBy number h (Some read) = IsLatest h (number read.0) read.1

-- a read that answers, where the newest version was held: the last entry, with exactly so many calls, no token taken, and so many turns at most
abbrev pub IsWarmRead : {T Id : Type 0} → ℕ → ℕ → (Id → ℕ) → List T → ℕ → ℕ → State → State → Result (Option (Id × T)) TransactionalObjectError → Type 0
IsWarmRead calls spent number h turns turns' old new result = IfOk result (λ read. LatestBy number h read × Spends calls 0 old new × (new.calls ≡ old.calls + calls) × (turns ≤ turns' + spent))

-- a conflict, no number above the base, a boundary file that says no boundary where none stood, or a failure with its cause
abbrev pub HasCauseOfWrite : Type 0 → ℕ → State → State → TransactionalObjectError → Type 0
HasCauseOfWrite unheld base old new ObjectVersionExists = Unit {0}
HasCauseOfWrite unheld base old new IdExhausted = base + 1 ≡ 2 ^ 64
HasCauseOfWrite unheld base old new InvalidObjectState = unheld
HasCauseOfWrite unheld base old new error = HasCause old new error

-- Why reads fail. The bytes of whatever stands decode, so a codec refuses some only where nothing stood.
-- turns that were spent, a codec that refused, or a failure with its cause
abbrev pub HasCauseOfLatestUnchecked : Type 0 → ℕ → State → State → TransactionalObjectError → Type 0
HasCauseOfLatestUnchecked unheld left old new TurnsExhausted = left ≡ 0
HasCauseOfLatestUnchecked unheld left old new (CallbackError error) = unheld
HasCauseOfLatestUnchecked unheld left old new error = HasCause old new error

-- a codec that refused, or a failure with its cause
abbrev pub HasCauseOfVersion : Type 0 → State → State → TransactionalObjectError → Type 0
HasCauseOfVersion unheld old new (CallbackError error) = unheld
HasCauseOfVersion unheld old new error = HasCause old new error

-- a version was read by one call of the store at most, or there is a cause why not; nothing moved, and the place, the pages and the files are as they were
pub record ReadsVersion {T Place : Type 0} (before after : List T → ℕ → Type 0) (old_place new_place : Place) (old_pages new_pages : ℕ) (old new : State) (result : Result (Option T) TransactionalObjectError) : Type 0 where
  pub kept : Stays before after
  pub spends : Spends 1 0 old new
  pub paged : new_pages ≡ old_pages
  pub cause : IfErr result (HasCauseOfVersion (Unheld before) old new)
  pub placed : new_place ≡ old_place
  pub files : SameFiles old new

-- turns that were spent, a codec that refused, a boundary file that says no boundary where none stood, or a failure with its cause
abbrev pub HasCauseOfLatest : Type 0 → ℕ → State → State → TransactionalObjectError → Type 0
HasCauseOfLatest unheld left old new TurnsExhausted = left ≡ 0
HasCauseOfLatest unheld left old new (CallbackError error) = unheld
HasCauseOfLatest unheld left old new InvalidObjectState = unheld
HasCauseOfLatest unheld left old new error = HasCause old new error

-- an id above the boundary, or a failure with its cause
abbrev pub HasCauseOfDelete : State → State → TransactionalObjectError → Type 0
HasCauseOfDelete old new InvalidObjectState = Unit {0}
HasCauseOfDelete old new error = HasCause old new error
