-- What rows tell of a store of manifests and of a holder, and what calls of the holder make of the rows.
-- Rows are a history of begins, of what was done to a store, and of answers: the versions and the boundary are read from them, and no clause says that a store wrote them down. The files of a store lie where its layout says, so they are matched by the number of their version.
use Rattle.std.specs.Prelude.{◌≡◌, ◌≢◌, ◌⊎◌, ℕ, ◌+◌, ◌-◌, ◌^◌, ◌<◌, ◌≤◌, max, List, [], ◌++◌, length, slice_get, map, true, false, Option, Some, None}
use Rattle.std.specs.Option.{option_map}
use Rattle.std.specs.FinMap.{get}
use Rattle.txn_store.specs.VersionName.{Names, version_path}
use Rattle.txn_store.specs.Store.{Files, State}
use Rattle.txn_store.specs.declared.store.Got.{Got}
use Rattle.txn_history.specs.Names.{world_names}
use Rattle.txn_history.specs.History.{history, boundary, stored, was_erased}
use Rattle.txn_history.specs.Calls.{is_below_told}
use Rattle.txn_history.specs.Trace.{Row}
use Rattle.txn_history.specs.Views.{ViewFits}
use Rattle.txn_history.specs.OneHistory.{IsOneHistory}
use Rattle.txn_steps_driven.specs.LatestReads.{IsLatest}
use Rattle.slatedb_txn_obj.specs.Claims.{Claimed, NotClaimed}
use Rattle.slatedb_txn_obj.specs.Leaves.{SameFiles, MayCreate, KeepsFiles}
use Rattle.slatedb_txn_obj.specs.Protocol.{MayAppend, Stays}
use Rattle.slatedb_txn_obj.specs.Views.{IsVersion, ShowsLatest}
use Rattle.slatedb_txn_obj.specs.Whole.{Protocol}
use Rattle.slatedb_txn_obj.specs.declared.object_store.boundary.ObjectStoreBoundaryObject.{ObjectStoreBoundaryObject}
use Rattle.txn_manifest.specs.declared.manifest.Manifest.{Manifest}
use Rattle.txn_manifest.specs.declared.manifest.ManifestCodec.{ManifestCodec}
use Rattle.txn_manifest.specs.Pins.{pins_with, pins_without}
use Rattle.txn_manifest.specs.Manifest.{is_pinned, with_pins, with_payload, epoch_of, with_epoch}
use Rattle.txn_manifest.specs.OfManifests.{AreOfManifests}
use Rattle.txn_manifest.specs.Stores.{EntersManifest, StandsBy}
use Rattle.txn_manifest.specs.Collected.{IsApart, LeavesNeeded, LeavesOrRemoves}
use Rattle.txn_manifest.specs.Text.{manifest_read}

-- the bytes of a version's file, where it is there
abbrev pub bytes_of : Names → Files → ℕ → Option (List ℕ)
bytes_of names files n = option_map (λ (got : Got). got.bytes) (get files (version_path names n))

module _ (decode : List ℕ → Option Manifest) where
  -- Rows tell this history, this boundary and these files: they are one history, each begin is of manifests, and each version that they never erased has the bytes that they stored, or is missing with them.
  pub record Tells (names : Names) (files : Files) (rows : List (Row Manifest)) (h : List Manifest) (b : ℕ) : Type 0 where
    pub one : IsOneHistory decode epoch_of with_epoch [] rows
    pub begins : AreOfManifests decode rows
    pub entries : history decode rows ≡ map (λ (entry : Manifest). Some entry) h
    pub bound : boundary rows ≡ b
    pub versions : (n : ℕ) → n < 2 ^ 64 → was_erased rows n ≡ false → bytes_of names files n ≡ get (stored rows) (version_path world_names n)

  -- Rows tell a holder, which is the view of this number: it stands at this version, with this object and this epoch, and an answer told an id above each lower one.
  pub record TellsHolder (rows : List (Row Manifest)) (number id epoch : ℕ) (object : Manifest) : Type 0 where
    pub client : ℕ
    pub fits : ViewFits decode epoch_of rows number (record { client = client; id = id; object = object; epoch = Some epoch })
    pub told : (n : ℕ) → n < id → is_below_told rows n ≡ true

  -- Rows tell a view that is no holder, of this number: it stands at this version, with this object.
  pub record TellsView (rows : List (Row Manifest)) (number id : ℕ) (object : Manifest) : Type 0 where
    pub client : ℕ
    pub fits : ViewFits decode epoch_of rows number (record { client = client; id = id; object = object; epoch = None })

  -- Rows go on from these: they are these with more behind them, and each holder and each view that the first tell, the second tell as it was, where it is apart.
  pub record GoesOn (apart : ℕ → Type 0) (before after : List (Row Manifest)) : Type 0 where
    pub more : List (Row Manifest)
    pub rows : after ≡ before ++ more
    pub holders : (number id epoch : ℕ) (object : Manifest) → apart number → TellsHolder before number id epoch object → TellsHolder after number id epoch object
    pub views : (number id : ℕ) (object : Manifest) → apart number → TellsView before number id object → TellsView after number id object

-- the protocol of manifests over an object store
abbrev pub Versions : Type 0
Versions = Protocol ManifestCodec ObjectStoreBoundaryObject

-- Rows tell what the protocol and its store stand for.
pub record TellsStore (p : Versions) (s : State) (rows : List (Row Manifest)) : Type 0 where
  pub h : List Manifest
  pub b : ℕ
  pub stands : StandsBy p s h b
  pub tells : Tells manifest_read p.layout.names s.files rows h b

-- Rows go on with what a holder did: they tell its store after it, and the holder, and each other one as it was.
pub record TellsBoth (p : Versions) (s : State) (before : List (Row Manifest)) (number id epoch : ℕ) (object : Manifest) : Type 0 where
  pub rows : List (Row Manifest)
  pub later : GoesOn manifest_read (λ other. other ≢ number) before rows
  pub store : TellsStore p s rows
  pub holder : TellsHolder manifest_read rows number id epoch object

-- Rows go on with what a call left, which answered nothing: they tell its store after it, and each holder and view as it was.
pub record TellsMore (p : Versions) (s : State) (before : List (Row Manifest)) : Type 0 where
  pub rows : List (Row Manifest)
  pub later : GoesOn manifest_read (λ other. Unit {0}) before rows
  pub store : TellsStore p s rows

-- And a view that is no holder, where it answered one.
pub record TellsNew (p : Versions) (s : State) (before : List (Row Manifest)) (id : ℕ) (object : Manifest) : Type 0 where
  pub rows : List (Row Manifest)
  pub later : GoesOn manifest_read (λ other. Unit {0}) before rows
  pub store : TellsStore p s rows
  pub number : ℕ
  pub view : TellsView manifest_read rows number id object

-- What the init of a view with a manifest that pins nothing leaves of the files, however it ends: no file is new but that of the first version.
pub record Inits (p p' : Versions) (s s' : State) (value : Manifest) : Type 0 where
  pub pins : value.pins ≡ []
  pub creates : MayCreate (version_path p.layout.names 1) s s'
  pub placed : p'.layout ≡ p.layout

-- What a load of a view leaves, however it ends: nothing moved.
pub record Reads (p p' : Versions) (s s' : State) : Type 0 where
  pub kept : Stays (StandsBy p s) (StandsBy p' s')
  pub files : SameFiles s s'
  pub placed : p'.layout ≡ p.layout

-- What a claim leaves of the files: each that stood stands as it was.
pub record Claims (p p' : Versions) (s s' : State) : Type 0 where
  pub kept : KeepsFiles s s'
  pub placed : p'.layout ≡ p.layout

-- a claim on a view is held: the newest manifest, with the holder's epoch set, stands straight on it, and the holder is at that
abbrev pub ClaimHeld : (p p' : Versions) (s s' : State) (asked : Option ℕ) (id id' epoch : ℕ) (object held : Manifest) → Type 0
ClaimHeld p p' s s' asked id id' epoch object held = (h : List Manifest) (b : ℕ) → StandsBy p s h b → IsVersion h id object → Claimed epoch_of with_epoch (λ value old. Unit {0}) h b (StandsBy p' s') asked id' held epoch

-- a claim on a view failed: nothing moved, or the newest manifest was written with its next epoch
abbrev pub ClaimFailed : (p p' : Versions) (s s' : State) (asked : Option ℕ) (id : ℕ) (object : Manifest) → Type 0
ClaimFailed p p' s s' asked id object = (h : List Manifest) (b : ℕ) → StandsBy p s h b → IsVersion h id object → NotClaimed epoch_of with_epoch h b (StandsBy p' s') asked

-- the next manifest of a holder: the version that it is at is pinned, an id is let go, or the payload is another
abbrev pub IsNextOf : (id : ℕ) (object made : Manifest) → Type 0
IsNextOf id object made = (made ≡ with_pins object (pins_with id object.pins)) ⊎ ((old : ℕ) × (made ≡ with_pins object (pins_without old object.pins))) ⊎ ((payload : ℕ) × (made ≡ with_payload object payload))

-- What a checkpoint, a release or a payload leaves, in the words of their clauses, over the protocol of an object store. It was entered; or it failed, the holder is as it was, and the manifest was appended or nothing moved. A holder whose version has another epoch changes nothing.
pub record Enters (p p' : Versions) (s s' : State) (id id' epoch : ℕ) (object object' made : Manifest) : Type 0 where
  pub next : IsNextOf id object made
  pub ends : EntersManifest (StandsBy p s) (StandsBy p' s') id id' object object' made ⊎ ((id' ≡ id) × (object' ≡ object) × MayAppend (StandsBy p s) (StandsBy p' s') id made)
  pub creates : MayCreate (version_path p.layout.names (id + 1)) s s'
  pub placed : p'.layout ≡ p.layout
  pub shut : (object.epoch ≡ epoch → ⊥) → (p' ≡ p) × (s' ≡ s) × (id' ≡ id) × (object' ≡ object)

-- What a collection leaves, in the words of its clauses. The holder is as it was, or at the newest version. What the store stood for stands, and the boundary with it, or it has risen to the id before the holder's; each version that the holder needs is left, and the others are as they were, or gone.
pub record Collects (p p' : Versions) (s s' : State) (id id' : ℕ) (object object' : Manifest) : Type 0 where
  pub met : ((id' ≡ id) × (object' ≡ object)) ⊎ ShowsLatest (StandsBy p s) id' object'
  pub kept : (h : List Manifest) (b : ℕ) → StandsBy p s h b → id' ≤ length h → StandsBy p' s' h b ⊎ StandsBy p' s' h (max b (id' - 1))
  pub placed : p'.layout ≡ p.layout
  pub needed : IsApart p.layout.names p.boundary.path → LeavesNeeded p.layout.names id' object'.pins s.files s'.files
  pub removed : IsApart p.layout.names p.boundary.path → LeavesOrRemoves p.layout.names s.files s'.files

-- an id is below the newest, and stored, with bytes that read as its manifest
pub record IsPinnedFile (names : Names) (files : Files) (h : List Manifest) (newest id : ℕ) : Type 0 where
  pub positive : 0 < id
  pub below : id < newest
  pub value : Manifest
  pub entry : slice_get h (id - 1) ≡ Some value
  pub got : Got
  pub there : get files (version_path names id) ≡ Some got
  pub reads : manifest_read got.bytes ≡ Some value

-- so is each id that the newest manifest of a history pins
abbrev pub HasPinnedFiles : Names → Files → List Manifest → Type 0
HasPinnedFiles names files h = (newest id : ℕ) (entry : Manifest) → IsLatest h newest entry → is_pinned entry id ≡ true → IsPinnedFile names files h newest id
