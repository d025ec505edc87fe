-- Tokens of files: a version's time, or what the boundary says.
use Rattle.std.specs.Prelude.{◌≡◌, ℕ, ◌^◌, ◌<◌, List, Option, unwrap_or}
use Rattle.txn_store.specs.Paths.{Segments}
use Rattle.txn_store.specs.VersionName.{Names, version_path}
use Rattle.txn_store.specs.types.BoundaryText.{boundary_read}
use Rattle.txn_folder.specs.declared.steps.place.Place.{Place}
use Rattle.txn_folder.specs.declared.steps.place.Place.TheVariants as places

-- the number that the bytes of a boundary say, 0 where they say none
abbrev pub boundary_token : List ℕ → ℕ
boundary_token bytes = unwrap_or (boundary_read bytes) 0

-- the path is that of a version
abbrev pub IsVersion : Names → Segments → Type 0
IsVersion names path = (n : ℕ) × (n < 2 ^ 64) × (path ≡ version_path names n)

-- the path is the boundary's, and no version's
pub record IsBoundary (names : Names) (boundary path : Segments) : Type 0 where
  pub same : path ≡ boundary
  pub other : ¬ (IsVersion names path)

-- a path names this place
abbrev pub IsAt : Names → Segments → Segments → Place → Type 0
IsAt names boundary path (places.Version id) = (id < 2 ^ 64) × (path ≡ version_path names id)
IsAt names boundary path places.Boundary = IsBoundary names boundary path

-- The token of a put at a place, where the greatest number given was one before it, and is another after it: a version's is the number that is given then, the boundary's what its bytes say.
abbrev pub IsTokenAt : Place → List ℕ → ℕ → ℕ → ℕ → Type 0
IsTokenAt (places.Version id) bytes before after token = (before < token) × (token ≡ after)
IsTokenAt places.Boundary bytes before after token = token ≡ boundary_token bytes

-- the same of a put of a path
pub record IsTokenOf (names : Names) (boundary path : Segments) (bytes : List ℕ) (before after token : ℕ) : Type 0 where
  pub of_version : IsVersion names path → (before < token) × (token ≡ after)
  pub of_boundary : IsBoundary names boundary path → token ≡ boundary_token bytes

-- the token of a file that was found at a place: the boundary's is what its bytes say
abbrev pub IsFoundAt : Place → List ℕ → Option ℕ → Type 0
IsFoundAt (places.Version id) bytes token = Unit {0}
IsFoundAt places.Boundary bytes token = token ≡ boundary_read bytes
