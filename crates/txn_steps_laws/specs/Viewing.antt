-- What the calls that read the newest version for a view leave, where they run alone from their start.
use Rattle.std.specs.Prelude.{◌≡◌, ℕ, ◌+◌, ◌*◌, ◌<◌, ◌≤◌, List, [], Option, Some, None, Result, Ok, Err}
use Rattle.txn_store.specs.Paths.{Segments}
use Rattle.txn_store.specs.VersionName.{Names}
use Rattle.txn_store.specs.Store.{State}
use Rattle.txn_store.specs.declared.types.error.TransactionalObjectError.{TransactionalObjectError}
use Rattle.txn_store.specs.declared.types.error.TransactionalObjectError.TheVariants.{LatestRecordMissing, InvalidObjectState}
use Rattle.txn_store.specs.types.Epochs.{epoch_tested}
use Rattle.txn_steps.specs.declared.boundary.caches.Caches.{Caches}
use Rattle.txn_steps.specs.declared.read.ReadOp.{ReadOp}
use Rattle.txn_steps.specs.Reads.{read_started}
use Rattle.txn_steps_driven.specs.Calls.{HasCause}
use Rattle.txn_steps_driven.specs.DriveRuns.{Scene}
use Rattle.txn_steps_laws.specs.DrivenReads.{AllStand, ReadEnds}
use Rattle.txn_steps_driven.specs.LatestReads.{IsLatest}
use Rattle.txn_steps_driven.specs.PageCount.{pages_below}
use Rattle.txn_steps_views.specs.declared.outcome.Outcome.{Outcome}
use Rattle.txn_steps_views.specs.declared.outcome.Outcome.TheVariants.{Viewed, Held, Shut}
use Rattle.txn_steps_laws.specs.Layers.{part_of}
use Rattle.txn_steps_laws.specs.Seen.{load_seen, refresh_seen, holder_seen, seen_as}

-- What each call answers of a history, and why it failed.

module _ {T : Type 0} where
  -- a load: the view is at the newest version; the record is missing where there is none
  abbrev pub LoadAnswers : List T → State → State → Result (Outcome T) TransactionalObjectError → Type 0
  LoadAnswers h old new (Ok (Viewed id value)) = IsLatest h id value
  LoadAnswers h old new (Ok (Held id value epoch)) = ⊥
  LoadAnswers h old new (Ok (Shut id value error)) = ⊥
  LoadAnswers h old new (Err LatestRecordMissing) = h ≡ []
  LoadAnswers h old new (Err error) = HasCause old new error

  -- a refresh: the view is at the newest version
  abbrev pub RefreshAnswers : List T → State → State → Result (Outcome T) TransactionalObjectError → Type 0
  RefreshAnswers h old new (Ok (Viewed id value)) = IsLatest h id value
  RefreshAnswers h old new (Ok (Held id value epoch)) = ⊥
  RefreshAnswers h old new (Ok (Shut id value error)) = ⊥
  RefreshAnswers h old new (Err InvalidObjectState) = h ≡ []
  RefreshAnswers h old new (Err error) = HasCause old new error

  -- a holder's refresh: the view is at the newest version, by whose epoch the holder goes on or is shut
  abbrev pub HolderAnswers : (T → ℕ) → ℕ → List T → State → State → Result (Outcome T) TransactionalObjectError → Type 0
  HolderAnswers epoch_of local h old new (Ok (Viewed id value)) = IsLatest h id value × (epoch_tested local (epoch_of value) ≡ Ok tt)
  HolderAnswers epoch_of local h old new (Ok (Held id value epoch)) = ⊥
  HolderAnswers epoch_of local h old new (Ok (Shut id value error)) = IsLatest h id value × (epoch_tested local (epoch_of value) ≡ Err error)
  HolderAnswers epoch_of local h old new (Err InvalidObjectState) = h ≡ []
  HolderAnswers epoch_of local h old new (Err error) = HasCause old new error

module _ {T : Type 0} (names : Names) (decode : List ℕ → Option T) (path : Segments) (page : ℕ) where
  -- A call that read, where all stood as it began: all stands still, with so many calls of the store at most.
  pub record ViewStood (h : List T) (n : ℕ) (answers : Type 0) (old new : State) (caches : Caches) : Type 0 where
    pub stands : AllStand names decode path new caches h n
    pub answer : answers
    pub calls : new.calls ≤ old.calls + 12 + 2 * pages_below names page old.files

  -- A call that read the newest version and ended: `see` is what it makes of what was read, and `Answers` what that says of a history.
  pub record ViewEnds {O : Type 0} (see : Option (ℕ × T) → Result (Outcome T) TransactionalObjectError) (Answers : List T → State → State → Result (Outcome T) TransactionalObjectError → Type 0) (a b : Scene O) (answer : Result (Outcome T) TransactionalObjectError) : Type 0 where
    -- its read ended, and it answers what it makes of that; an error is the read's own
    pub last : ReadOp T
    pub told : Result (Option (ℕ × T)) TransactionalObjectError
    pub read : ReadEnds names decode path page (part_of (read_started path) a) (part_of last b) told
    pub shows : answer ≡ seen_as see told
    pub stood : (h : List T) (n : ℕ) → AllStand names decode path a.store a.caches h n → ViewStood h n (Answers h a.store b.store answer) a.store b.store b.caches

  -- A call that reads ends as its read does. Where all stood it has no answer only where it was given fewer steps than 40 and two for each page.
  abbrev pub ViewDriven : {O : Type 0} → (Option (ℕ × T) → Result (Outcome T) TransactionalObjectError) → (List T → State → State → Result (Outcome T) TransactionalObjectError → Type 0) → ℕ → Scene O → Option (Result (Outcome T) TransactionalObjectError) → Scene O → Type 0
  ViewDriven see Answers steps a (Some answer) b = ViewEnds see Answers a b answer
  ViewDriven see Answers steps a None b = (h : List T) (n : ℕ) → AllStand names decode path a.store a.caches h n → steps < 40 + 2 * pages_below names page a.store.files

  abbrev pub LoadDriven : {O : Type 0} → ℕ → Scene O → Option (Result (Outcome T) TransactionalObjectError) → Scene O → Type 0
  LoadDriven = ViewDriven load_seen LoadAnswers

  abbrev pub RefreshDriven : {O : Type 0} → ℕ → Scene O → Option (Result (Outcome T) TransactionalObjectError) → Scene O → Type 0
  RefreshDriven = ViewDriven refresh_seen RefreshAnswers

  abbrev pub HolderDriven : {O : Type 0} → (T → ℕ) → ℕ → ℕ → Scene O → Option (Result (Outcome T) TransactionalObjectError) → Scene O → Type 0
  HolderDriven epoch_of local = ViewDriven (holder_seen epoch_of local) (HolderAnswers epoch_of local)
