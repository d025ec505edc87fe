-- What calls leave of the files of a store, and of the tokens that it gave.
use Rattle.std.specs.Prelude.{◌≡◌, ◌⊎◌, ℕ, Some, None, Contains}
use Rattle.std.specs.FinMap as map
use Rattle.txn_store.specs.Paths.{Segments}
use Rattle.txn_store.specs.Store.{State}
use Rattle.txn_store.specs.declared.store.Got.{Got}

-- no token was forgotten
abbrev pub KeepsTokens : State → State → Type 0
KeepsTokens old new = (token : ℕ) → Contains old.given token → Contains new.given token

-- the files are as they were
pub record SameFiles (old new : State) : Type 0 where
  pub files : new.files ≡ old.files
  pub given : KeepsTokens old new

-- each file that stood stands as it was
pub record KeepsFiles (old new : State) : Type 0 where
  pub stays : (path : Segments) (got : Got) → map.get old.files path ≡ Some got → map.get new.files path ≡ Some got

-- one file was created, under a path where none stood
pub record CreatesFile (path : Segments) (old new : State) : Type 0 where
  pub free : map.get old.files path ≡ None
  pub file : Got
  pub files : new.files ≡ map.insert old.files path file
  pub given : KeepsTokens old new

-- no file stands under this path, and every other is as it was
pub record RemovesFile (path : Segments) (old new : State) : Type 0 where
  pub files : new.files ≡ map.remove old.files path
  pub given : KeepsTokens old new

-- that file was created, or nothing
abbrev pub MayCreate : Segments → State → State → Type 0
MayCreate path old new = SameFiles old new ⊎ CreatesFile path old new

-- that file was removed, or nothing
abbrev pub MayRemove : Segments → State → State → Type 0
MayRemove path old new = SameFiles old new ⊎ RemovesFile path old new

-- only files of one's own may have changed
pub record LeavesOthers (own : Segments → Type 0) (old new : State) : Type 0 where
  pub others : (path : Segments) → (own path → ⊥) → map.get new.files path ≡ map.get old.files path
  pub given : KeepsTokens old new

-- the files of one's own are as they were
pub record SameOwn (own : Segments → Type 0) (old new : State) : Type 0 where
  pub same : (path : Segments) → own path → map.get new.files path ≡ map.get old.files path
  pub given : KeepsTokens old new

-- no file is of both
abbrev pub AreApart : (own own' : Segments → Type 0) → Type 0
AreApart own own' = (path : Segments) → own path → own' path → ⊥
