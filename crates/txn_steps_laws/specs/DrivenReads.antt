-- What reads that run alone from their start leave.
use Rattle.std.specs.Prelude.{◌≡◌, ℕ, ◌+◌, ◌*◌, ◌<◌, ◌≤◌, List, [], Option, Some, None, Result, IfOk, IfErr}
use Rattle.txn_store.specs.Paths.{Segments}
use Rattle.txn_store.specs.Store.{Files, State, Kept}
use Rattle.txn_store.specs.VersionName.{Names}
use Rattle.txn_store.specs.types.Errors.{error_number}
use Rattle.txn_store.specs.declared.types.error.TransactionalObjectError.{TransactionalObjectError}
use Rattle.txn_store.specs.declared.types.error.TransactionalObjectError.TheVariants.{InvalidObjectState, CallbackError}
use Rattle.txn_steps.specs.boundary.Windows.{held}
use Rattle.txn_steps.specs.declared.boundary.caches.Cached.{Cached}
use Rattle.txn_steps.specs.declared.boundary.caches.Caches.{Caches}
use Rattle.txn_steps.specs.declared.latest.LatestOp.{LatestOp}
use Rattle.txn_steps.specs.declared.read.ReadOp.{ReadOp}
use Rattle.txn_steps.specs.declared.seen.ReadSeenOp.{ReadSeenOp}
use Rattle.txn_steps_driven.specs.declared.drive_version.ReadVersion.{ReadVersion}
use Rattle.txn_steps_driven.specs.Calls.{HasCause}
use Rattle.txn_steps_driven.specs.Checking.{Unbounded}
use Rattle.txn_steps_driven.specs.DriveRuns.{Scene}
use Rattle.txn_steps_driven.specs.LatestReads.{Ended, Every, UpTo, IsHeldOrStored, IsRefused, NoneStored, IsLatest}
use Rattle.txn_steps_driven.specs.PageCount.{pages_below}
use Rattle.txn_steps_driven.specs.Standing.{FilesStand, WindowFits, BoundaryStands}
use Rattle.txn_steps_driven.specs.VersionReads.{SeenRead, VersionRead}

module _ {T : Type 0} (names : Names) (decode : List ℕ → Option T) where
  -- A read of one id leaves what `read_seen` does, and the cached boundary. It has no answer only where it was given fewer than three steps.
  abbrev pub SeenDriven : ℕ → ℕ → Scene (ReadSeenOp T) → Option (Result (Option T) TransactionalObjectError) → Scene (ReadSeenOp T) → Type 0
  SeenDriven id steps a (Some answer) b = SeenRead names decode a.store b.store a.caches.latest b.caches.latest id answer × (b.caches.boundary ≡ a.caches.boundary)
  SeenDriven id steps a None b = steps < 3

  -- An unchecked read of one id leaves what `read_version` does, and the caches. It has no answer only where it was given no step.
  abbrev pub UncheckedReadDriven : ℕ → ℕ → Scene (ReadVersion T) → Option (Result (Option T) TransactionalObjectError) → Scene (ReadVersion T) → Type 0
  UncheckedReadDriven id steps a (Some answer) b = VersionRead names decode a.store b.store id answer × (b.caches ≡ a.caches)
  UncheckedReadDriven id steps a None b = steps < 1

  -- An unchecked read leaves what `read_latest` does with as many turns as it spends, so many being left, and the cached boundary. It has no answer only where it was given fewer steps than 15 and one for each page.
  abbrev pub LatestDriven : ℕ → ℕ → Scene (LatestOp T) → Option (Result (Option (ℕ × T)) TransactionalObjectError) → Scene (LatestOp T) → Type 0
  LatestDriven page steps a (Some answer) b = (spent : ℕ) × ((left : ℕ) → Ended names page decode a.store b.store (left + spent) left a.caches.latest b.caches.latest answer) × (b.caches.boundary ≡ a.caches.boundary)
  LatestDriven page steps a None b = steps < 15 + pages_below names page a.store.files

-- why a read of the newest version failed: a codec that refused, a boundary file that says no boundary where none stood, or a failure with its cause
abbrev pub HasCauseOfNewest : Type 0 → State → State → TransactionalObjectError → Type 0
HasCauseOfNewest unheld old new (CallbackError error) = Unit {0}
HasCauseOfNewest unheld old new InvalidObjectState = unheld
HasCauseOfNewest unheld old new error = HasCause old new error

-- the newest version of a history, with its number, or none where there is no entry
abbrev pub IsNewest : {T : Type 0} → List T → Option (ℕ × T) → Type 0
IsNewest h None = h ≡ []
IsNewest h (Some read) = IsLatest h read.0 read.1

-- a version that is answered is above a boundary
abbrev pub IsOver : {T : Type 0} → ℕ → Option (ℕ × T) → Type 0
IsOver b None = Unit {0}
IsOver b (Some read) = b < read.0

module _ {T : Type 0} (names : Names) (decode : List ℕ → Option T) where
  -- What a read of the newest version answers on any files: none only where none is stored. The version that it answers is held then, and no greater one is.
  abbrev pub IsHeldAnswer : Files → List Cached → Option (ℕ × T) → Type 0
  IsHeldAnswer files latest None = NoneStored names files
  IsHeldAnswer files latest (Some read) = ((version : Cached) × (held read.0 latest ≡ Some version) × (decode version.bytes ≡ Some read.1)) × UpTo read.0 latest

module _ {T : Type 0} (names : Names) (decode : List ℕ → Option T) (path : Segments) where
  -- the files, the held versions and the cached boundary stand for a history and a boundary
  pub record AllStand (store : State) (caches : Caches) (h : List T) (b : ℕ) : Type 0 where
    pub files : FilesStand names decode store.files h b
    pub window : WindowFits decode h b caches.latest
    pub boundary : BoundaryStands path caches.boundary store b

  -- A read of the newest version, where all stood as it began: all stands, its answer is the newest, and it made at most two passes.
  pub record NewestRead (page : ℕ) (h : List T) (b : ℕ) (old new : State) (caches : Caches) (result : Result (Option (ℕ × T)) TransactionalObjectError) : Type 0 where
    pub stands : AllStand new caches h b
    pub answer : IfOk result (IsNewest h)
    -- the store refused, or a growth was refused: no version is one that the codec refuses, and the boundary's file says one
    pub cause : IfErr result (HasCause old new)
    -- in a pass seven calls and one for each page after the first
    pub calls : new.calls ≤ old.calls + 12 + 2 * pages_below names page old.files

  -- A read of the newest version that ended.
  pub record ReadEnds (page : ℕ) (a b : Scene (ReadOp T)) (result : Result (Option (ℕ × T)) TransactionalObjectError) : Type 0 where
    -- the files and the tokens are as they were
    pub kept : Kept a.store b.store
    pub calls_rise : a.store.calls ≤ b.store.calls
    pub failures_rise : a.store.failures ≤ b.store.failures
    -- each version that is held was held as it began, or is stored
    pub held : Every (IsHeldOrStored names a.store.files a.caches.latest) b.caches.latest
    pub answer : IfOk result (IsHeldAnswer names decode a.store.files b.caches.latest)
    -- it is checked: it is above each boundary for which the file and the cached boundary stood
    pub above : IfOk result (λ found. (n : ℕ) → BoundaryStands path a.caches.boundary a.store n → IsOver n found)
    pub cause : IfErr result (HasCauseOfNewest (Unbounded path a.caches.boundary a.store) a.store b.store)
    pub refused : IfErr result (λ error. error_number error ≡ 8 → IsRefused names decode a.store.files a.caches.latest)
    pub stands : (h : List T) (n : ℕ) → AllStand a.store a.caches h n → NewestRead page h n a.store b.store b.caches result

  -- A read of the newest version leaves the files, and answers the newest version where all stood as it began. There it has no answer only where it was given fewer steps than 40 and two for each page.
  abbrev pub ReadDriven : ℕ → ℕ → Scene (ReadOp T) → Option (Result (Option (ℕ × T)) TransactionalObjectError) → Scene (ReadOp T) → Type 0
  ReadDriven page steps a (Some answer) b = ReadEnds page a b answer
  ReadDriven page steps a None b = (h : List T) (n : ℕ) → AllStand a.store a.caches h n → steps < 40 + 2 * pages_below names page a.store.files
