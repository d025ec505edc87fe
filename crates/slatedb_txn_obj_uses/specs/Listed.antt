-- What a list of files stands for.
use Rattle.std.specs.Prelude.{◌≡◌, ℕ, List, [], ◌∷◌, Option, None, slice_get, Some, take, map}
use Rattle.std.specs.FinMap as finmap
use Rattle.std.specs.FinMap.{find}
use Rattle.std.specs.declared.cmp.Ordering.TheVariants.{Equal}
use Rattle.txn_store.specs.Paths.{Segments, path_cmp}
use Rattle.txn_store.specs.Store.{Files}
use Rattle.txn_store.specs.declared.store.Got.{Got}
use Rattle.txn_store.specs.declared.store.ObjectMeta.{ObjectMeta}

-- the map of a list of files
abbrev pub files_in : List (Segments × Got) → Files
files_in es = finmap.from_entries es

-- no path stands twice
abbrev pub NoneTwice : List (Segments × Got) → Type 0
NoneTwice [] = Unit {0}
NoneTwice (e ∷ es) = (find path_cmp e.0 es ≡ None) × NoneTwice es

-- the first file under a path
pub record IsFirst (path : Segments) (es : List (Segments × Got)) (index : ℕ) : Type 0 where
  pub file : Segments × Got
  pub there : slice_get es index ≡ Some file
  pub tied : path_cmp path file.0 ≡ Equal
  pub before : find path_cmp path (take index es) ≡ None

-- where a path stands in a list, if it does
abbrev pub IsFound : Segments → List (Segments × Got) → Option ℕ → Type 0
IsFound path es (Some index) = IsFirst path es index
IsFound path es None = find path_cmp path es ≡ None

-- what is told of files, each under its path
abbrev pub keyed : List ObjectMeta → List (Segments × ObjectMeta)
keyed metas = map (λ m. (m.location, m)) metas
