-- The number of the file at a place.
use Rattle.std.specs.Prelude.{ℕ, ◌==◌, Bool, false, List, Option, Some, None}
use Rattle.txn_store.specs.types.BoundaryText.{boundary_read}
use Rattle.txn_folder.specs.declared.steps.place.Place.{Place}
use Rattle.txn_folder.specs.declared.steps.place.Place.TheVariants as places

-- a version's token is its time, the boundary's what it says
abbrev pub place_token : Place → List ℕ → Option ℕ → Option ℕ
place_token (places.Version id) bytes time = time
place_token places.Boundary bytes time = boundary_read bytes

-- there is a number, and it is this
abbrev pub is_same : Option ℕ → ℕ → Bool
is_same None token = false
is_same (Some number) token = number == token
