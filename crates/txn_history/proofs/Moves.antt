-- What a legal effect does, whatever the calls are: all that the laws need of it.
use Rattle.std.proofs.Common.{◌≡◌, ℕ, ◌+◌, ◌<◌, ◌≤◌, List, true, take, slice_get, Option, Some, None, ◌⊎◌}
use Rattle.txn_store.specs.declared.request.Request.{Request}
use Rattle.txn_history.specs.declared.trace.RowOf.{RowOf}
use Rattle.txn_history.specs.declared.trace.RowOf.TheVariants.{Effect}
use Rattle.txn_history.specs.History.{Version, created, raised, removed, has_id, versions_of, newest, boundary, epoch_at}

module _ {C A : Type 0} where
  -- the boundary that is put, if one is, is higher
  abbrev pub GoesUp : List (RowOf C A) → Option ℕ → Type 0
  GoesUp before None = ⊥
  GoesUp before (Some to) = boundary before < to

  -- the boundary has reached the version that is removed, if one is
  abbrev pub IsReached : List (RowOf C A) → Option ℕ → Type 0
  IsReached before None = ⊥
  IsReached before (Some id) = id ≤ boundary before

module _ {C A T : Type 0} (decode : List ℕ → Option T) (get_epoch : T → ℕ) where
  -- the next version, with an epoch of at least that of the newest entry
  pub record IsNext (before : List (RowOf C A)) (id : ℕ) (bytes : List ℕ) : Type 0 where
    pub value : T
    pub reads : decode bytes ≡ Some value
    pub next : id ≡ newest before + 1
    pub rises : epoch_at decode get_epoch before (newest before) ≤ get_epoch value

  -- the version that is put, if one is, is the next or was created before
  abbrev pub IsPut : List (RowOf C A) → Option Version → Type 0
  IsPut before None = ⊥
  IsPut before (Some version) = IsNext before version.0 version.1 ⊎ (has_id (versions_of before) version.0 ≡ true)

  abbrev pub IsMove : List (RowOf C A) → Request → Type 0
  IsMove before request = IsPut before (created request) ⊎ GoesUp before (raised request) ⊎ IsReached before (removed request)

  -- each effect is a move on the rows before it
  abbrev pub AreMoves : List (RowOf C A) → Type 0
  AreMoves rows = (k op : ℕ) (request : Request) → slice_get rows k ≡ Some (Effect op request) → IsMove (take k rows) request
