-- The history of a trace: what its effects make of the versions, the boundary, the erased ids and the store.
-- Each is a fold over the rows in their order, so "at a row" means "of the rows up to it".
use Rattle.std.specs.Prelude.{◌≡◌, ℕ, List, [], ◌∷◌, ◌++◌, ◌==◌, ◌+◌, Bool, true, false, if◌then◌else◌, Option, Some, None, is_some, unwrap_or, length, map}
use Rattle.std.specs.Ordering.{eq_by_cmp}
use Rattle.std.specs.List.{list_any}
use Rattle.std.specs.Option.{option_map}
use Rattle.std.specs.FinMap.{FinMap, empty, get, insert, remove}
use Rattle.txn_store.specs.Paths.{Segments, path_cmp}
use Rattle.txn_store.specs.Store.{Files}
use Rattle.txn_store.specs.VersionName.{version_path}
use Rattle.txn_store.specs.VersionOf.{version_of}
use Rattle.txn_store.specs.declared.request.Request.{Request}
use Rattle.txn_store.specs.declared.request.Request.TheVariants as requests
use Rattle.txn_history.specs.declared.trace.RowOf.{RowOf}
use Rattle.txn_history.specs.declared.trace.RowOf.TheVariants.{Effect, Begun, Answered}
use Rattle.txn_history.specs.Lists.{numbered, AreAscending}
use Rattle.txn_store.specs.types.BoundaryText.{boundary_read}
use Rattle.txn_history.specs.Names.{world_names, world_boundary}

-- the path of the boundary file
abbrev pub is_boundary : Segments → Bool
is_boundary path = eq_by_cmp path_cmp path world_boundary

-- a version: its id, and the bytes of its first create
abbrev pub Version : Type 0
Version = ℕ × List ℕ

abbrev pub is_id : ℕ → Option ℕ → Bool
is_id n None = false
is_id n (Some id) = id == n

-- the bytes of a version of this id
abbrev pub bytes_as : ℕ → Option Version → Option (List ℕ)
bytes_as id None = None
bytes_as id (Some version) = if version.0 == id then Some version.1 else None

-- What a request does to the names of the store is read in these three, and nowhere else.

-- the version that it creates
abbrev pub created : Request → Option Version
created (requests.Put path bytes mode) = option_map (λ id. (id, bytes)) (version_of world_names path)
created (requests.Get path known) = None
created (requests.List prefix after limit) = None
created (requests.Delete path) = None

-- the boundary that it puts in its file
abbrev pub raised : Request → Option ℕ
raised (requests.Put path bytes mode) = if is_boundary path then boundary_read bytes else None
raised (requests.Get path known) = None
raised (requests.List prefix after limit) = None
raised (requests.Delete path) = None

-- the id whose name it removes
abbrev pub removed : Request → Option ℕ
removed (requests.Put path bytes mode) = None
removed (requests.Get path known) = None
removed (requests.List prefix after limit) = None
removed (requests.Delete path) = version_of world_names path

-- a put takes a token of the store
abbrev pub is_put : Request → Bool
is_put (requests.Put path bytes mode) = true
is_put (requests.Get path known) = false
is_put (requests.List prefix after limit) = false
is_put (requests.Delete path) = false

-- The contents of the store: the bytes under each path, tokens aside.
abbrev pub Contents : Type 0
Contents = FinMap path_cmp (List ℕ)

abbrev pub contents_after : Contents → Request → Contents
contents_after contents (requests.Put path bytes mode) = insert contents path bytes
contents_after contents (requests.Get path known) = contents
contents_after contents (requests.List prefix after limit) = contents
contents_after contents (requests.Delete path) = remove contents path

-- files with these contents, tokens aside
abbrev pub HasContents : Files → Contents → Type 0
HasContents files contents = (path : Segments) → option_map (λ got. got.bytes) (get files path) ≡ get contents path

-- the number that a boundary file says, 0 where it is missing
abbrev pub boundary_said : Option (List ℕ) → ℕ
boundary_said None = 0
boundary_said (Some bytes) = unwrap_or (boundary_read bytes) 0

abbrev pub has_id : List Version → ℕ → Bool
has_id versions id = list_any (λ version. version.0 == id) versions

-- the versions so far, with one more where its name is new
abbrev pub with_version : List Version → Option Version → List Version
with_version versions None = versions
with_version versions (Some version) = if has_id versions version.0 then versions else versions ++ version ∷ []

module _ {C A : Type 0} where
  -- the version that a row creates
  abbrev pub created_by : RowOf C A → Option Version
  created_by (Effect op request) = created request
  created_by (Begun op call) = None
  created_by (Answered op answer) = None

  abbrev pub versions_from : List Version → List (RowOf C A) → List Version
  versions_from versions [] = versions
  versions_from versions (row ∷ rows) = versions_from (with_version versions (created_by row)) rows

  -- the first create of each version, in the order of creation
  abbrev pub versions_of : List (RowOf C A) → List Version
  versions_of rows = versions_from [] rows

  -- how many entries the history has, which is the newest id
  abbrev pub newest : List (RowOf C A) → ℕ
  newest rows = length (versions_of rows)

  -- a row removes the name of this id
  abbrev pub erases : ℕ → RowOf C A → Bool
  erases n (Effect op request) = is_id n (removed request)
  erases n (Begun op call) = false
  erases n (Answered op answer) = false

  -- the version of this id was erased
  abbrev pub was_erased : List (RowOf C A) → ℕ → Bool
  was_erased rows n = list_any (erases n) rows

  -- the erased ids, ascending
  abbrev pub AreErased : List (RowOf C A) → List ℕ → Type 0
  AreErased rows ids = AreAscending (was_erased rows) ids

  -- the contents of the store after a row
  abbrev pub stored_with : Contents → RowOf C A → Contents
  stored_with contents (Effect op request) = contents_after contents request
  stored_with contents (Begun op call) = contents
  stored_with contents (Answered op answer) = contents

  abbrev pub stored_from : Contents → List (RowOf C A) → Contents
  stored_from contents [] = contents
  stored_from contents (row ∷ rows) = stored_from (stored_with contents row) rows

  -- the contents of the store: those of the empty store after the requests of the effects
  abbrev pub stored : List (RowOf C A) → Contents
  stored rows = stored_from empty rows

  -- the name of the version of this id is stored
  abbrev pub is_stored : List (RowOf C A) → ℕ → Bool
  is_stored rows n = is_some (get (stored rows) (version_path world_names n))

  -- the boundary: the number that its file says, 0 where it is missing
  abbrev pub boundary : List (RowOf C A) → ℕ
  boundary rows = boundary_said (get (stored rows) world_boundary)

  -- how many tokens the effects took
  abbrev pub put_count : List (RowOf C A) → ℕ
  put_count [] = 0
  put_count (Effect op request ∷ rows) = (if is_put request then 1 else 0) + put_count rows
  put_count (Begun op call ∷ rows) = put_count rows
  put_count (Answered op answer ∷ rows) = put_count rows

module _ {C A T : Type 0} (decode : List ℕ → Option T) where
  -- the history: what the codec reads in the first create of each version
  abbrev pub history : List (RowOf C A) → List (Option T)
  history rows = map (λ version. decode version.1) (versions_of rows)

  -- entry n of the history is this value
  abbrev pub IsEntry : List (RowOf C A) → ℕ → T → Type 0
  IsEntry rows n value = numbered (history rows) n ≡ Some (Some value)

module _ {T : Type 0} (get_epoch : T → ℕ) where
  -- the epoch of an entry, 0 where there is none
  abbrev pub epoch_in : Option (Option T) → ℕ
  epoch_in None = 0
  epoch_in (Some None) = 0
  epoch_in (Some (Some value)) = get_epoch value

module _ {C A T : Type 0} (decode : List ℕ → Option T) (get_epoch : T → ℕ) where
  -- the epoch of entry n, 0 where there is none
  abbrev pub epoch_at : List (RowOf C A) → ℕ → ℕ
  epoch_at rows n = epoch_in get_epoch (numbered (history decode rows) n)
