-- When an object of numbers stands for a history and a boundary.
use Rattle.std.specs.Prelude.{◌≡◌, ℕ, ◌^◌, ◌<◌, List, [], ◌∷◌, ◌++◌, codes, None}
use Rattle.std.specs.FinMap as map
use Rattle.txn_store.specs.Paths.{Segments}
use Rattle.txn_store.specs.Store.{State}
use Rattle.txn_store.specs.Memory.{Searched, searched_state}
use Rattle.txn_store.specs.VersionName.{Names, version_path}
use Rattle.txn_store.specs.types.BoundaryText.{boundary_path}
use Rattle.txn_store.specs.types.NumberBytes.{number_of}
use Rattle.txn_store.specs.declared.types.test_utils.NumberCodec.{NumberCodec}
use Rattle.txn_steps_driven.specs.Standing.{FilesStand, FileSays, BoundaryStands}
use Rattle.slatedb_txn_obj.specs.Whole.{Protocol, StandsFor}
use Rattle.slatedb_txn_obj.specs.declared.object_store.boundary.ObjectStoreBoundaryObject.{ObjectStoreBoundaryObject}

-- the names of the object's versions below a root
abbrev pub object_names : Segments → Names
object_names root = record { dir = root ++ codes "object" ∷ []; suffix = codes "number" }

-- the boundary and the files of the versions stand
pub record ObjectStands (root : Segments) (store : State) (h : List ℕ) (b : ℕ) : Type 0 where
  pub says : FileSays store.given (map.get store.files (boundary_path root (codes "object"))) b
  pub files_stand : FilesStand (object_names root) number_of store.files h b

-- a protocol of the object that holds nothing, and has cached nothing of its boundary
pub record IsNew (root : Segments) (protocol : Protocol NumberCodec ObjectStoreBoundaryObject) : Type 0 where
  pub names_are : protocol.layout.names ≡ object_names root
  pub none_held : protocol.latest ≡ []
  pub boundary_is : protocol.boundary.path ≡ boundary_path root (codes "object")
  pub none_cached : protocol.boundary.cached ≡ None
  -- the boundary's file is no version's
  pub apart : (n : ℕ) → n < 2 ^ 64 → version_path protocol.layout.names n ≡ protocol.boundary.path → ⊥

-- a protocol of numbers and its store in memory stand
abbrev pub Stands : Protocol NumberCodec ObjectStoreBoundaryObject → Searched → List ℕ → ℕ → Type 0
Stands protocol store h b = StandsFor (BoundaryStands protocol.boundary.path protocol.boundary.cached (searched_state store)) protocol.boundary.path (λ _ bytes. number_of bytes) protocol (searched_state store).files h b
