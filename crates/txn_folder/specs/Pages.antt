-- Pages of a listing of versions.
use Rattle.std.specs.Prelude.{◌≡◌, ℕ, ◌<◌, ◌≤◌, true, List, All, Option, Some, None, length, map}
use Rattle.std.specs.List.Sorted.{IsStrictlyIncreasing}
use Rattle.txn_store.specs.Paths.{Segments}
use Rattle.txn_store.specs.VersionName.{Names, version_path}
use Rattle.txn_store.specs.declared.page.Page.{Page}
use Rattle.txn_store.specs.declared.store.ObjectMeta.{ObjectMeta}

-- above an id, where one is given
abbrev pub IsAbove : Option ℕ → ℕ → Type 0
IsAbove None id = Unit {0}
IsAbove (Some after) id = after < id

-- ids that ascend, each above one where it is given
pub record AscendAbove (after : Option ℕ) (ids : List ℕ) : Type 0 where
  pub ascend : IsStrictlyIncreasing ids
  pub above : All (IsAbove after) ids

-- where a file lies
abbrev pub location_of : ObjectMeta → Segments
location_of meta = meta.location

abbrev pub locations : List ObjectMeta → List Segments
locations metas = map location_of metas

-- A page of the versions above one: it tells the paths of versions, in ascending order and at most so many, and says that more follow only where it has just so many.
pub record IsPageAfter (names : Names) (after : Option ℕ) (limit : ℕ) (page : Page) : Type 0 where
  pub ids : List ℕ
  pub versions : locations page.metas ≡ map (version_path names) ids
  pub ascend : AscendAbove after ids
  pub few : length ids ≤ limit
  pub full : page.more ≡ true → length ids ≡ limit
