-- The begins of manifests: what each says of the rows before it.
use Rattle.std.specs.Prelude.{◌≡◌, ℕ, ◌<◌, List, [], take, slice_get, true, false, Option, Some, ◌⊎◌}
use Rattle.txn_history.specs.declared.event.PlainCall.TheVariants as calls
use Rattle.txn_history.specs.declared.trace.RowOf.TheVariants.{Begun}
use Rattle.txn_history.specs.History.{IsEntry}
use Rattle.txn_history.specs.declared.event.ViewCall.TheVariants as view_calls
use Rattle.txn_history.specs.declared.event.Call.{Call}
use Rattle.txn_history.specs.declared.event.Call.TheVariants as any
use Rattle.txn_history.specs.Trace.{Row}
use Rattle.txn_history.specs.Views.{view_at, epoch_held}
use Rattle.txn_manifest.specs.declared.manifest.Manifest.{Manifest}
use Rattle.txn_manifest.specs.Manifest.{is_pinned}

module _ (decode : List ℕ → Option Manifest) where
  -- an entry above the id does not pin it
  pub record IsSpare (before : List (Row Manifest)) (id : ℕ) : Type 0 where
    pub above : ℕ
    pub object : Manifest
    pub entry : IsEntry decode before above object
    pub below : id < above
    pub unpinned : is_pinned object id ≡ false

  -- a holder has seen an entry of a greater epoch than its own
  pub record HasSeenGreater (before : List (Row Manifest)) (view : ℕ) (object : Manifest) : Type 0 where
    pub epoch : ℕ
    pub holder : epoch_held before view ≡ Some epoch
    pub greater : epoch < object.epoch

  -- A value is made from the object of the view: it pins what this entry pins, and the entry. The view was shown there, but for a fenced holder.
  pub record IsMadeFrom (before : List (Row Manifest)) (view : ℕ) (value : Manifest) : Type 0 where
    pub id : ℕ
    pub object : Manifest
    pub entry : IsEntry decode before id object
    pub pins : (n : ℕ) → is_pinned value n ≡ true → (n ≡ id) ⊎ (is_pinned object n ≡ true)
    pub stands : (view_at before view ≡ Some id) ⊎ HasSeenGreater before view object

  -- the same of a view that is no holder
  pub record IsMadeAt (before : List (Row Manifest)) (view : ℕ) (value : Manifest) : Type 0 where
    pub made : IsMadeFrom before view value
    pub stands : view_at before view ≡ Some made.id

  -- what the begin of a call says, where it is of manifests
  abbrev pub IsOfManifests : List (Row Manifest) → Call Manifest → Type 0
  IsOfManifests before (any.Plain (calls.Write base value)) = ⊥
  IsOfManifests before (any.Plain (calls.WriteUnchecked base value)) = ⊥
  IsOfManifests before (any.Plain (calls.Delete id)) = IsSpare before id
  IsOfManifests before (any.View (view_calls.Init value)) = value.pins ≡ []
  IsOfManifests before (any.View (view_calls.Update view value)) = IsMadeAt before view value
  IsOfManifests before (any.View (view_calls.HolderUpdate view value)) = IsMadeFrom before view value
  IsOfManifests before call = Unit {0}

  -- each begin is of manifests
  abbrev pub AreOfManifests : List (Row Manifest) → Type 0
  AreOfManifests rows = (k op : ℕ) (call : Call Manifest) → slice_get rows k ≡ Some (Begun op call) → IsOfManifests (take k rows) call
