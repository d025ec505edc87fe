-- What a cut of power may leave of a folder. Each sync of the machines is one of the system here.
use Rattle.std.specs.Option.{option_map}
use Rattle.std.specs.FinMap.{get}
use Rattle.std.specs.Prelude.{◌≡◌, ℕ, suc, ◌<◌, ◌≤◌, Bool, true, false, ◌⊎◌, List, ◌∷◌, length, Option, Some, None, Ok, Err}
use Rattle.txn_store.specs.Paths.{Segments}
use Rattle.txn_store.specs.VersionName.{Names}
use Rattle.txn_store.specs.Store.{State as StoreState}
use Rattle.txn_store.specs.declared.store.ObjectMeta.{ObjectMeta}
use Rattle.txn_folder.specs.steps.Folders.{Place, Version, Boundary, At, File, Ask, Make, Write, SetTime, Way, Plainly}
use Rattle.txn_folder.specs.steps.Steps.{Phase, SyncsNew, Syncs as CreateSyncs, Lasts, UpdateSyncsNew, UpdateSyncs, DeleteSyncs, Getting, Tells, Is, Work, Creates, Gets, Updates, Deletes, got_at, got_told, asked}
use Rattle.txn_store.specs.declared.store.StoreError.TheVariants as errors
use Rattle.txn_store.specs.declared.request.Reply.{Reply}
use Rattle.txn_store.specs.declared.request.Reply.TheVariants as replies
use Rattle.txn_folder.specs.steps.Listing.{Paging, ListSyncs, meta_told, list_turned}
use Rattle.txn_client_journals.specs.Logs.{IsLog}
use Rattle.txn_folder_model.specs.Worlds.{Event, Step, IsPlace, runs, world}
use Rattle.txn_folder_model.specs.Linear.{Point, path_of, request_of, IsDone, log_until}
use Rattle.txn_folder_model.specs.Listings.{Listing, listing_row}
use Rattle.txn_folder_model.specs.Runs.{ListingStep}

-- what a step makes last: the call's own file, the names in the folder of a place, or nothing
pub data Synced : Type 0 where
  OwnFile : Synced
  FolderOf : (place : Place) → Synced
  Nothing : Synced

-- A get may leave its sync out.
abbrev pub synced_in : Work → Bool → Synced
synced_in (Creates place bytes (Is (SyncsNew number))) skips = OwnFile
synced_in (Creates place bytes (Is (CreateSyncs verdict))) skips = FolderOf place
synced_in (Gets place known (Is (Lasts verdict))) false = FolderOf place
synced_in (Updates bytes token (Is (UpdateSyncsNew number))) skips = OwnFile
synced_in (Updates bytes token (Is (UpdateSyncs verdict))) skips = FolderOf Boundary
synced_in (Deletes id (Is (DeleteSyncs verdict))) skips = FolderOf (Version id)
synced_in work skips = Nothing

-- the versions lie in one folder, the boundary in another
abbrev pub same_folder : Place → Place → Bool
same_folder (Version a) (Version b) = true
same_folder Boundary Boundary = true
same_folder _ _ = false

-- asks that may change the call's own file
abbrev pub MayChange : Option Ask → Type 0
MayChange (Some Make) = Unit {0}
MayChange (Some (Write bytes)) = Unit {0}
MayChange (Some (SetTime number)) = Unit {0}
MayChange ask = ⊥

-- A call is to put these bytes there.
abbrev pub IsPut : Work → Place → List ℕ → Type 0
IsPut (Creates place bytes phase) there put = (place ≡ there) × (bytes ≡ put)
IsPut (Updates bytes token phase) there put = (Boundary ≡ there) × (bytes ≡ put)
IsPut work there put = ⊥

-- a get told of a file
abbrev pub IsFound : Reply → Type 0
IsFound (replies.Get (Ok got)) = Unit {0}
IsFound (replies.Get (Err errors.NotModified)) = Unit {0}
IsFound reply = ⊥

-- what is left: the file of each place's name, and what each file has
pub record AfterCut : Type 0 where
  pub names : Place → Option ℕ
  pub files : ℕ → File

-- a name is left with a call's file, of these bytes
pub record Stands (left : AfterCut) (place : Place) (call : ℕ) (bytes : List ℕ) : Type 0 where
  pub name : left.names place ≡ Some call
  pub file : (left.files call).bytes ≡ bytes

-- the moments at which a get leaves its sync out, and at which a listing syncs the versions' folder
pub record Syncs : Type 0 where
  pub skipped : ℕ → Bool
  pub listed : ℕ → Bool

-- by the events of a schedule
module _ (floor : ℕ) (events : ℕ → Event) where
  -- the file that has a place's name at a moment
  abbrev pub name_at : ℕ → Place → Option ℕ
  name_at t place = (world floor events t).folder.names (At place)

  -- a call takes a step that may change its own file, however it goes
  pub record ChangesAt (s call : ℕ) : Type 0 where
    pub way : Way
    pub step : events s ≡ Step call way
    pub goes : runs (world floor events s) call ≡ true
    pub asks : MayChange (asked call ((world floor events s).calls call).work)

  module _ (syncs : Syncs) where
    -- A call's step makes this last. It goes plainly: a sync that is answered with an error makes nothing last.
    pub record SyncsAt (s call : ℕ) (what : Synced) : Type 0 where
      pub step : events s ≡ Step call Plainly
      pub goes : runs (world floor events s) call ≡ true
      pub is : synced_in ((world floor events s).calls call).work (syncs.skipped s) ≡ what

    -- the names in a place's folder are made to last, by a call or by a listing
    abbrev pub SyncsNames : ℕ → Place → Type 0
    SyncsNames s place = ((call : ℕ) × (beside : Place) × (same_folder beside place ≡ true) × SyncsAt s call (FolderOf beside)) ⊎ ((syncs.listed s ≡ true) × (same_folder (Version 0) place ≡ true))

    -- A name is left as it was at any moment since the last sync of its folder, whatever is left of others.
    pub record NameIsLeft (t : ℕ) (place : Place) (name : Option ℕ) : Type 0 where
      pub at : ℕ
      pub past : at ≤ t
      pub since : (s : ℕ) → s < t → SyncsNames s place → s ≤ at
      pub is : name ≡ name_at at place

    -- What a cut at a moment may leave. A file that was synced and not changed since is left as it was, another with anything.
    pub record IsLeft (t : ℕ) (left : AfterCut) : Type 0 where
      pub names : (place : Place) → NameIsLeft t place (left.names place)
      pub files : (file s : ℕ) → s < t → SyncsAt s file OwnFile → ((m : ℕ) → s ≤ m → m < t → ¬ (ChangesAt m file)) → left.files file ≡ (world floor events s).folder.files file

    -- A name led to this file, or to none, at a moment between a begin and an end. A cut leaves it as it was then or later: as then, where nobody changed it.
    pub record LastsSince (t began : ℕ) (ended : Option ℕ) (place : Place) (name : Option ℕ) : Type 0 where
      pub at : ℕ
      pub since : began ≤ at
      pub until : (end : ℕ) → ended ≡ Some end → at ≤ end
      pub stood : name_at at place ≡ name
      pub left : (left : AfterCut) → IsLeft t left → (m : ℕ) × (at ≤ m) × (m ≤ t) × (left.names place ≡ name_at m place)
      pub stays : (left : AfterCut) → IsLeft t left → ((m : ℕ) → at ≤ m → m < t → name_at (suc m) place ≡ name_at m place) → left.names place ≡ name

    -- by the begin and the end of a call
    abbrev pub LastsOf : ℕ → ℕ → Place → Option ℕ → Type 0
    LastsOf t call place name = LastsSince t ((world floor events t).calls call).began ((world floor events t).calls call).ended place name

    -- A file was there, and its folder was synced since.
    pub record IsSynced (t : ℕ) (place : Place) (file : ℕ) : Type 0 where
      pub seen : ℕ
      pub there : name_at seen place ≡ Some file
      pub sync : ℕ
      pub after : seen ≤ sync
      pub past : sync < t
      pub synced : SyncsNames sync place

    -- a call left no sync out
    abbrev pub SyncsAll : ℕ → ℕ → Type 0
    SyncsAll t call = (s : ℕ) → s < t → events s ≡ Step call Plainly → syncs.skipped s ≡ false

    -- A get told this of a file. That lasts if it left no sync out, or the folder was synced since the file was there.
    pub record TellsOf (t call : ℕ) (place : Place) (known : Option ℕ) (reply : Reply) : Type 0 where
      pub file : ℕ
      pub told : got_told known (got_at place ((world floor events t).folder.files file)) ≡ Tells reply
      pub lasts : SyncsAll t call ⊎ IsSynced t place file → LastsOf t call place (Some file)

    module _ (names : Names) (l : Listing) where
      -- the sync of a listing's run is one of these
      abbrev pub IsListed : Phase Paging → List ListingStep → Type 0
      IsListed (Is (ListSyncs verdict)) (step ∷ steps) = syncs.listed step.from ≡ true
      IsListed (Is state) (step ∷ steps) = IsListed (list_turned names l.after l.limit state step.told) steps
      IsListed phase steps = ⊥

      -- a listing told the size and the token of a version's file, and that lasts
      pub record ShowsOf (t : ℕ) (meta : ObjectMeta) : Type 0 where
        pub id : ℕ
        pub file : ℕ
        pub told : meta ≡ meta_told names id (length ((world floor events t).folder.files file).bytes) ((world floor events t).folder.files file).time
        pub lasts : LastsSince t l.began (Some l.ended) (Version id) (Some file)

    module _ (names : Names) (boundary : Segments) (ops : ℕ → ℕ) (listings : ℕ → Listing) (many : ℕ) where
      -- A cut left what an honest store has after some calls, each at a point between its begin and end: all puts and deletes answered Ok, all gets told of a file with no sync left out, these listings, and perhaps other calls.
      pub record IsOfStore (t : ℕ) (left : AfterCut) : Type 0 where
        pub points : ℕ → Option Point
        pub begun : (call : ℕ) (point : Point) → call < (world floor events t).count → points call ≡ Some point → ((world floor events t).calls call).began ≤ point.at
        pub past : (call : ℕ) (point : Point) → call < (world floor events t).count → points call ≡ Some point → point.at < t
        pub ended : (call : ℕ) (point : Point) (end : ℕ) → call < (world floor events t).count → points call ≡ Some point → ((world floor events t).calls call).ended ≡ Some end → point.at ≤ end
        pub replied : (call : ℕ) (point : Point) (reply : Reply) → call < (world floor events t).count → points call ≡ Some point → ((world floor events t).calls call).answer ≡ Some reply → point.reply ≡ reply
        pub unanswered : (call : ℕ) (point : Point) → call < (world floor events t).count → points call ≡ Some point → ((world floor events t).calls call).answer ≡ None → IsDone (request_of names boundary ((world floor events t).calls call).work) point.reply
        pub answered : (call : ℕ) (reply : Reply) → call < (world floor events t).count → ((world floor events t).calls call).answer ≡ Some reply → IsDone (request_of names boundary ((world floor events t).calls call).work) reply → (point : Point) × (points call ≡ Some point) × (point.reply ≡ reply)
        pub told : (call : ℕ) (place : Place) (known : Option ℕ) (phase : Phase Getting) (reply : Reply) → call < (world floor events t).count → ((world floor events t).calls call).work ≡ Gets place known phase → ((world floor events t).calls call).answer ≡ Some reply → IsFound reply → SyncsAll t call → (point : Point) × (points call ≡ Some point) × (point.reply ≡ reply)
        pub moments : ℕ → ℕ
        pub listed : (number : ℕ) → number < many → ((listings number).began ≤ moments number) × (moments number ≤ (listings number).ended) × (moments number < t)
        pub store : StoreState
        pub honest : IsLog (log_until names boundary ops (world floor events t).calls points (world floor events t).count (λ number. listing_row names (listings number)) moments many t) store
        pub stands : (place : Place) → IsPlace place → get store.files (path_of names boundary place) ≡ option_map (λ file. got_at place (left.files file)) (left.names place)

  -- a file is left with what its call was to put there, and as it stood
  pub record IsWhole (t : ℕ) (place : Place) (number : ℕ) (file : File) : Type 0 where
    pub made : number < (world floor events t).count
    pub put : IsPut ((world floor events t).calls number).work place file.bytes
    pub stood : file ≡ (world floor events t).folder.files number
