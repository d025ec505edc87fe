-- What the calls that write on a view leave, where they run alone from their start.
use Rattle.std.specs.Prelude.{◌≡◌, ◌⊎◌, ℕ, ◌^◌, ◌<◌, ◌≤◌, List, [], ◌∷◌, ◌++◌, length, Option, Some, None, Result, Ok, Err, IfErr}
use Rattle.txn_store.specs.Paths.{Segments}
use Rattle.txn_store.specs.VersionName.{Names, version_path}
use Rattle.txn_store.specs.Store.{State}
use Rattle.txn_store.specs.types.Numbers.{number_of}
use Rattle.txn_store.specs.declared.types.error.TransactionalObjectError.{TransactionalObjectError}
use Rattle.txn_store.specs.declared.types.error.TransactionalObjectError.TheVariants.{ObjectVersionExists}
use Rattle.txn_steps.specs.declared.boundary.caches.Caches.{Caches}
use Rattle.txn_steps.specs.declared.write.WriteOp.{WriteOp}
use Rattle.txn_steps.specs.Writes.{write_started}
use Rattle.txn_steps_driven.specs.Calls.{Spends, HasCause}
use Rattle.txn_steps_driven.specs.DriveRuns.{Scene}
use Rattle.txn_steps_laws.specs.DrivenReads.{AllStand}
use Rattle.txn_steps_laws.specs.DrivenWrites.{WriteFailed, WriteChecked}
use Rattle.txn_steps_driven.specs.LatestReads.{IsLatest}
use Rattle.txn_steps_views.specs.declared.outcome.Outcome.{Outcome}
use Rattle.txn_steps_views.specs.declared.outcome.Outcome.TheVariants.{Viewed, Held, Shut}
use Rattle.txn_steps_laws.specs.Layers.{part_of}
use Rattle.txn_steps_laws.specs.Seen.{entry_seen, seen_as}

-- the boundary's file is no version's
abbrev pub IsApart : Names → Segments → Type 0
IsApart names path = (n : ℕ) → n < 2 ^ 64 → version_path names n ≡ path → ⊥

-- why a call that writes failed, where all stood: a conflict, or a failure with its cause
abbrev pub HasCauseOfEntry : State → State → TransactionalObjectError → Type 0
HasCauseOfEntry old new ObjectVersionExists = Unit {0}
HasCauseOfEntry old new error = HasCause old new error

module _ {T : Type 0} (names : Names) (decode : List ℕ → Option T) (path : Segments) where
  -- A value stands straight on its base, which was the newest version, and the view is at it.
  pub record StandsOn (h : List T) (n base : ℕ) (value : T) (store : State) (caches : Caches) (id : ℕ) (shown : T) : Type 0 where
    pub newest : base ≡ length h
    pub stands : AllStand names decode path store caches (h ++ value ∷ []) n
    pub shown_is : shown ≡ value
    pub at : IsLatest (h ++ value ∷ []) id value

  -- What stands after a value was to be written on a base, by the answer. A conflict comes where a newer version stood, and nothing moved; after any other error nothing moved, or the value was appended.
  abbrev pub EntryAnswers : List T → ℕ → ℕ → T → State → Caches → Result (Outcome T) TransactionalObjectError → Type 0
  EntryAnswers h n base value store caches (Ok (Viewed id shown)) = StandsOn h n base value store caches id shown
  EntryAnswers h n base value store caches (Ok (Held id shown epoch)) = ⊥
  EntryAnswers h n base value store caches (Ok (Shut id shown error)) = ⊥
  EntryAnswers h n base value store caches (Err ObjectVersionExists) = (base < length h) × AllStand names decode path store caches h n
  EntryAnswers h n base value store caches (Err error) = AllStand names decode path store caches h n ⊎ ((base ≡ length h) × AllStand names decode path store caches (h ++ value ∷ []) n)

  -- the same, and why it failed
  pub record EntryStood (h : List T) (n base : ℕ) (value : T) (old new : State) (caches : Caches) (answer : Result (Outcome T) TransactionalObjectError) : Type 0 where
    pub answers : EntryAnswers h n base value new caches answer
    pub cause : IfErr answer (HasCauseOfEntry old new)

  -- A call that wrote a value on a base and ended.
  pub record EntryEnds {O : Type 0} (base : Option ℕ) (bytes : List ℕ) (value : T) (a b : Scene O) (answer : Result (Outcome T) TransactionalObjectError) : Type 0 where
    -- its write ended, and the view shows the value under the id that it answered; an error is its own
    pub last : WriteOp
    pub told : Result ℕ TransactionalObjectError
    pub write : WriteFailed names decode path base bytes value (part_of (write_started names path base bytes) a) (part_of last b) told ⊎ WriteChecked names decode path base bytes value (part_of (write_started names path base bytes) a) (part_of last b) told
    pub shows : answer ≡ seen_as (entry_seen value) told
    -- two calls of the store at most, and one token
    pub spends : Spends 2 1 a.store b.store
    pub stood : IsApart names path → (h : List T) (n : ℕ) → AllStand names decode path a.store a.caches h n → number_of base ≤ length h → EntryStood h n (number_of base) value a.store b.store b.caches answer

  -- A call that writes ends as its write does. It has no answer only where it was given fewer than seven steps.
  abbrev pub EntryDriven : {O : Type 0} → Option ℕ → List ℕ → T → ℕ → Scene O → Option (Result (Outcome T) TransactionalObjectError) → Scene O → Type 0
  EntryDriven base bytes value steps a (Some answer) b = EntryEnds base bytes value a b answer
  EntryDriven base bytes value steps a None b = steps < 7
