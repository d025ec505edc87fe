-- The version that a path names, as a function of the path.
use Rattle.std.specs.Prelude.{ℕ, ◌^◌, ◌&&◌, List, [], ◌∷◌, nat_eq, nat_lt, take, if◌then◌else◌, Option, Some, None}
use Rattle.std.specs.Cmp.Lexicographic.{pointwise}
use Rattle.std.specs.Str.Parse.{digits_value}
use Rattle.txn_store.specs.Paths.{Segments}
use Rattle.txn_store.specs.VersionName.{Names, version_path}

abbrev pub last_segment : Segments → List ℕ
last_segment [] = []
last_segment (segment ∷ []) = segment
last_segment (segment ∷ more ∷ path) = last_segment (more ∷ path)

-- the number that the first twenty digits of the last segment write
abbrev pub number_in : Segments → ℕ
number_in path = digits_value 10 (take 20 (last_segment path))

-- the n below 2 ^ 64 whose path it is
abbrev pub version_of : Names → Segments → Option ℕ
version_of names path =
    if pointwise (pointwise nat_eq) path (version_path names (number_in path)) && nat_lt (number_in path) (2 ^ 64)
    then Some (number_in path)
    else None
