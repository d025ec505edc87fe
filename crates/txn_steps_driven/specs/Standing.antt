-- When files and caches stand for a history of values and a boundary.
use Rattle.std.specs.Prelude.{◌≡◌, ℕ, ◌-◌, ◌^◌, ◌<◌, ◌≤◌, List, [], ◌∷◌, length, Option, Some, None, IsSome, slice_get, Contains}
use Rattle.std.specs.FinMap as map
use Rattle.txn_store.specs.Paths.{Segments}
use Rattle.txn_store.specs.VersionName.{Names, version_path}
use Rattle.txn_store.specs.Store.{Files, State}
use Rattle.txn_store.specs.declared.store.Got.{Got}
use Rattle.txn_store.specs.types.BoundaryText.{boundary_read}
use Rattle.txn_steps.specs.declared.boundary.caches.Cached.{Cached}
use Rattle.txn_steps.specs.declared.boundary.caches.CachedBoundary.{CachedBoundary}

module _ {T : Type 0} (names : Names) (decode : List ℕ → Option T) where
  -- The files of the versions. Each has an id of the history; each id above the boundary is stored, as its entry; and the boundary is below the newest id, or both are 0.
  pub record FilesStand (files : Files) (h : List T) (b : ℕ) : Type 0 where
    pub known : (n : ℕ) (got : Got) → n < 2 ^ 64 → map.get files (version_path names n) ≡ Some got → (1 ≤ n) × (n ≤ length h) × IsSome (decode got.bytes)
    pub stored : (n : ℕ) → b < n → n ≤ length h → (got : Got) × (map.get files (version_path names n) ≡ Some got) × (decode got.bytes ≡ slice_get h (n - 1))
    pub below : b ≤ length h
    pub newest : 0 < length h → b < length h
    pub fits : length h < 2 ^ 64

module _ {T : Type 0} (decode : List ℕ → Option T) where
  -- A version that was read or written: its id is of the history, its bytes decode, and above the boundary to its entry.
  pub record Carried (h : List T) (b : ℕ) (version : Cached) : Type 0 where
    pub positive : 1 ≤ version.id
    pub within : version.id ≤ length h
    pub decodes : IsSome (decode version.bytes)
    pub entry : b < version.id → decode version.bytes ≡ slice_get h (version.id - 1)

  -- each held version is carried
  abbrev pub WindowFits : List T → ℕ → List Cached → Type 0
  WindowFits h b [] = Unit {0}
  WindowFits h b (version ∷ versions) = Carried h b version × WindowFits h b versions

-- the boundary that a file says, 0 where it is missing; its token was given
abbrev pub FileSays : List ℕ → Option Got → ℕ → Type 0
FileSays given None b = b ≡ 0
FileSays given (Some got) b = (boundary_read got.bytes ≡ Some b) × Contains given got.token

-- A boundary that was read or written: the file stands, and the boundary has not fallen since. The token was given, and where the file has it still, the boundary is the same.
pub record Fits (path : Segments) (files : Files) (given : List ℕ) (b : ℕ) (known : CachedBoundary) : Type 0 where
  pub file : Got
  pub is_file : map.get files path ≡ Some file
  pub at_most : known.number ≤ b
  pub given_once : Contains given known.token
  pub same : file.token ≡ known.token → known.number ≡ b

abbrev pub BoundaryFits : Segments → Files → List ℕ → ℕ → Option CachedBoundary → Type 0
BoundaryFits path files given b None = Unit {0}
BoundaryFits path files given b (Some known) = Fits path files given b known

-- the boundary file and the cached boundary stand for a boundary
pub record BoundaryStands (path : Segments) (cached : Option CachedBoundary) (store : State) (b : ℕ) : Type 0 where
  pub says : FileSays store.given (map.get store.files path) b
  pub fits : BoundaryFits path store.files store.given b cached
