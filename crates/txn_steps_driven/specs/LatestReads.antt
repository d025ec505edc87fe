-- What a read of the newest version answers, and what it leaves.
use Rattle.std.specs.Prelude.{◌≡◌, ◌⊎◌, ℕ, ◌+◌, ◌-◌, ◌*◌, ◌^◌, ◌<◌, ◌≤◌, List, [], ◌∷◌, length, slice_get, Option, Some, None, IsSome, Result, IfOk, IfErr, IsErrOf}
use Rattle.std.specs.FinMap as map
use Rattle.txn_store.specs.VersionName.{Names, version_path}
use Rattle.txn_store.specs.Store.{Files, State, Kept}
use Rattle.txn_store.specs.declared.store.Got.{Got}
use Rattle.txn_store.specs.types.Errors.{error_number}
use Rattle.txn_store.specs.declared.types.error.TransactionalObjectError.{TransactionalObjectError}
use Rattle.txn_store.specs.declared.types.error.TransactionalObjectError.TheVariants.{TurnsExhausted}
use Rattle.txn_steps.specs.declared.boundary.caches.Cached.{Cached}
use Rattle.txn_steps.specs.boundary.Windows.{held, greatest_held, kept}
use Rattle.txn_steps_driven.specs.PageCount.{files_below}
use Rattle.txn_steps_driven.specs.Calls.{SpendsTurns, HasCauseOfRead}
use Rattle.txn_steps_driven.specs.Standing.{FilesStand, WindowFits}

-- so many pages, one at least, hold the files below the directory of the versions
abbrev pub HasPages : Names → ℕ → Files → ℕ → Type 0
HasPages names page files pages = (1 ≤ pages) × (length (files_below names files) ≤ pages * page)

-- a version is among these
abbrev pub IsOneOf : List Cached → Cached → Type 0
IsOneOf [] version = ⊥
IsOneOf (first ∷ versions) version = (first ≡ version) ⊎ IsOneOf versions version

-- each of these versions
abbrev pub Every : (Cached → Type 0) → List Cached → Type 0
Every P [] = Unit {0}
Every P (version ∷ versions) = P version × Every P versions

-- each of these versions is at or below an id
abbrev pub UpTo : ℕ → List Cached → Type 0
UpTo id [] = Unit {0}
UpTo id (version ∷ versions) = (version.id ≤ id) × UpTo id versions

-- the file of a version stands, with its bytes
pub record IsStored (names : Names) (files : Files) (version : Cached) : Type 0 where
  pub small : version.id < 2 ^ 64
  pub file : Got
  pub is_file : map.get files (version_path names version.id) ≡ Some file
  pub bytes : version.bytes ≡ file.bytes

-- a version that was held as it began, or is stored
abbrev pub IsHeldOrStored : Names → Files → List Cached → Cached → Type 0
IsHeldOrStored names files first version = IsOneOf first version ⊎ IsStored names files version

-- these versions, the last first, are held one after another
abbrev pub kept_each : List Cached → List Cached → List Cached
kept_each [] latest = latest
kept_each (version ∷ versions) latest = kept version (kept_each versions latest)

-- Stored versions were held one after another, and nothing else changed of what is held.
abbrev pub HasGrown : Names → Files → List Cached → List Cached → Type 0
HasGrown names files first latest = (versions : List Cached) × Every (IsStored names files) versions × (latest ≡ kept_each versions first)

-- the codec refuses the bytes of a version that was held as it began, or is stored
abbrev pub IsRefused : {T : Type 0} → Names → (List ℕ → Option T) → Files → List Cached → Type 0
IsRefused names decode files first = (version : Cached) × IsHeldOrStored names files first version × (decode version.bytes ≡ None)

-- no version is stored
abbrev pub NoneStored : Names → Files → Type 0
NoneStored names files = (n : ℕ) → n < 2 ^ 64 → map.get files (version_path names n) ≡ None

-- each stored version is at or below an id
abbrev pub IsMost : Names → Files → ℕ → Type 0
IsMost names files id = (n : ℕ) (got : Got) → n < 2 ^ 64 → map.get files (version_path names n) ≡ Some got → n ≤ id

-- Stored successors, so many, lead from a held version to this one.
pub record Walked (names : Names) (files : Files) (from : Cached) (found : ℕ) (hand : Cached) : Type 0 where
  pub id : hand.id ≡ from.id + found
  pub between : (n : ℕ) → from.id < n → n ≤ hand.id → IsSome (map.get files (version_path names n))
  pub is : (hand ≡ from) ⊎ IsStored names files hand

-- why it lists: no version was held, or four stored successors follow the greatest that was
abbrev pub HasToList : Names → Files → List Cached → Type 0
HasToList names files first = (first ≡ []) ⊎ ((from : Cached) × (greatest_held first ≡ Some from) × ((fourth : Cached) × Walked names files from 4 fourth))

-- the version has no stored successor, for which one call looked, or none if no id follows its own
abbrev pub IsLast : Names → Files → ℕ → ℕ → ℕ → Type 0
IsLast names files id found calls = ((id + 1 ≡ 2 ^ 64) × (calls ≡ found)) ⊎ ((id + 1 < 2 ^ 64) × (map.get files (version_path names (id + 1)) ≡ None) × (calls ≡ found + 1))

module _ {T : Type 0} (names : Names) (decode : List ℕ → Option T) (files : Files) (first : List Cached) (spent calls : ℕ) where
  -- The greatest version that was held, or a stored one of the next three ids, with no stored successor. So many calls were made, and no turn was spent.
  pub record IsProbed (id : ℕ) (value : T) : Type 0 where
    pub from : Cached
    pub greatest : greatest_held first ≡ Some from
    pub found : ℕ
    pub few : found < 4
    pub hand : Cached
    pub walked : Walked names files from found hand
    pub id_is : hand.id ≡ id
    pub reads : decode hand.bytes ≡ Some value
    pub last : IsLast names files id found calls
    pub unspent : spent ≡ 0

  -- the stored version of the greatest id, as its file
  pub record IsListed (id : ℕ) (value : T) : Type 0 where
    pub lists : HasToList names files first
    pub small : id < 2 ^ 64
    pub file : Got
    pub is_file : map.get files (version_path names id) ≡ Some file
    pub reads : decode file.bytes ≡ Some value
    pub most : IsMost names files id

  -- a version of this id and this value is held
  abbrev pub HasHeld : List Cached → ℕ → T → Type 0
  HasHeld latest id value = (version : Cached) × (held id latest ≡ Some version) × (decode version.bytes ≡ Some value)

  -- What it answers: none only where no version was held and none is stored. The version that it answers is held then, and no greater one is.
  abbrev pub IsAnswer : List Cached → Option (ℕ × T) → Type 0
  IsAnswer latest None = (first ≡ []) × NoneStored names files
  IsAnswer latest (Some read) = (IsProbed read.0 read.1 ⊎ IsListed read.0 read.1) × HasHeld latest read.0 read.1 × UpTo read.0 latest

-- the last entry of a history, with its number
pub record IsLatest {T : Type 0} (h : List T) (id : ℕ) (value : T) : Type 0 where
  pub some : 0 < length h
  pub id_is : id ≡ length h
  pub entry : slice_get h (id - 1) ≡ Some value

-- What it answers of a history: none where there is no entry, else the last entry. Where a version was held as it began, it may be a fenced one, and no greater one is held then.
abbrev pub AnswersOf : {T : Type 0} → List T → ℕ → List Cached → List Cached → Option (ℕ × T) → Type 0
AnswersOf h b first latest None = (h ≡ []) × (first ≡ [])
AnswersOf h b first latest (Some read) = IsLatest h read.0 read.1 ⊎ ((first ≡ [] → ⊥) × (read.0 ≤ b) × UpTo read.0 latest)

module _ {T : Type 0} (names : Names) (page : ℕ) (decode : List ℕ → Option T) where
  -- what a read leaves where files and held versions stood for a history
  pub record Stands (h : List T) (b : ℕ) (old new : State) (first latest : List Cached) (result : Result (Option (ℕ × T)) TransactionalObjectError) : Type 0 where
    pub files : FilesStand names decode new.files h b
    pub window : WindowFits decode h b latest
    pub answer : IfOk result (AnswersOf h b first latest)
    -- where the newest version is the greatest that was held, at most one call was made
    pub at_most : (from : Cached) → greatest_held first ≡ Some from → from.id ≡ length h → new.calls ≤ old.calls + 1
    -- and with an answer it was one, or none if no id follows it
    pub at_newest : (from : Cached) → greatest_held first ≡ Some from → from.id ≡ length h → IfOk result (λ _. ((from.id + 1 ≡ 2 ^ 64) × (new.calls ≡ old.calls)) ⊎ ((from.id + 1 < 2 ^ 64) × (new.calls ≡ old.calls + 1)))

  -- A read that ended, from what it began with.
  pub record Ended (old new : State) (turns turns' : ℕ) (first latest : List Cached) (result : Result (Option (ℕ × T)) TransactionalObjectError) : Type 0 where
    pub kept : Kept old new
    pub spends : SpendsTurns 1 6 0 turns turns' old new
    pub cause : IfErr result (HasCauseOfRead turns' old new)
    pub refused : IfErr result (λ error. error_number error ≡ 8 → IsRefused names decode old.files first)
    -- the turns that were spent are fewer than the pages
    pub pages : (pages : ℕ) → HasPages names page old.files pages → turns < turns' + pages
    -- no turn is left where it has to list, and so many pages as it had turns for do not hold the files
    pub exhausted : IsErrOf result TurnsExhausted → HasToList names old.files first × ((turns + 1) * page < length (files_below names old.files))
    -- one turn fewer than the pages is enough
    pub enough : (pages : ℕ) → HasPages names page old.files pages → pages ≤ turns + 1 → IsErrOf result TurnsExhausted → ⊥
    pub grown : HasGrown names old.files first latest
    pub calls : ℕ
    pub calls_are : new.calls ≡ old.calls + calls
    pub spent : ℕ
    pub spent_is : turns ≡ turns' + spent
    pub answer : IfOk result (IsAnswer names decode old.files first spent calls latest)
    pub stands : (h : List T) (b : ℕ) → FilesStand names decode old.files h b → WindowFits decode h b first → Stands h b old new first latest result
