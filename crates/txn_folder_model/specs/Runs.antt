-- A run of the machine of a listing beside the calls of a world.
use Rattle.std.specs.Prelude.{◌≡◌, ℕ, ◌<◌, ◌≤◌, ◌^◌, false, List, [], ◌∷◌, length, Contains, Some, Ok}
use Rattle.txn_store.specs.VersionName.{Names}
use Rattle.txn_store.specs.declared.request.Reply.TheVariants as replies
use Rattle.txn_folder.specs.steps.Folders.{Version, At, File}
use Rattle.txn_folder.specs.steps.Listing.{ListAsk, SeeFolder, Scan, SeeFile, ListTold, Missing, Shown, Holds, Paging, ListSees, ListScans, ListLooks, list_asked, list_turned}
use Rattle.txn_folder.specs.steps.Steps.{Tells, Phase, Is, Ends}
use Rattle.txn_folder_model.specs.Worlds.{World}
use Rattle.txn_folder_model.specs.Listings.{stands, IsScanOf, IsShared, Listing}

-- A step of a run: its begin and its end, and what it was told.
pub record ListingStep : Type 0 where
  pub from : ℕ
  pub to : ℕ
  pub told : ListTold

-- so many bytes, and this time
abbrev pub IsSoLong : File → ℕ → ℕ → Type 0
IsSoLong file size time = (size ≡ length file.bytes) × (time ≡ file.time)

-- the file that has the name of a version
abbrev pub IsFileAt : World → ℕ → ℕ → ℕ → Type 0
IsFileAt w id size time = (file : ℕ) × (w.folder.names (At (Version id)) ≡ Some file) × IsSoLong (w.folder.files file) size time

module _ (names : Names) (worlds : ℕ → World) (l : Listing) where
  -- What a step may be told: that the versions' folder is not there only where no version stands at a moment; of a scan, what a scan may tell, in ids below 2 ^ 64; of a version's file, the one that has the name at a moment. Else anything, as an error.
  abbrev pub IsToldOf : ListAsk → ℕ → ℕ → ListTold → Type 0
  IsToldOf SeeFolder from to Missing = (s : ℕ) × (from ≤ s) × (s ≤ to) × ((id : ℕ) → stands (worlds s) id ≡ false)
  IsToldOf Scan from to (Shown ids) = IsScanOf worlds l.after from to ids × ((id : ℕ) → Contains ids id → id < 2 ^ 64)
  IsToldOf (SeeFile id) from to (Holds size time) = (s : ℕ) × (from ≤ s) × (s ≤ to) × IsFileAt (worlds s) id size time
  IsToldOf ask from to told = Unit {0}

  -- The lock of removals was granted with others: until it is let go, no call has it alone, from the end of one step to that of the next.
  abbrev pub HasLock : Paging → ℕ → ℕ → Type 0
  HasLock (ListScans scanning) from to = IsShared worlds from to
  HasLock (ListLooks id ids metas more) from to = IsShared worlds from to
  HasLock state from to = Unit {0}

  -- From a moment on the machine goes on by these steps, one after another, and ends with the page.
  abbrev pub GoesOn : ℕ → Phase Paging → List ListingStep → Type 0
  GoesOn now (Is state) [] = ⊥
  GoesOn now (Is state) (step ∷ steps) = (now ≤ step.from) × (step.from ≤ step.to) × HasLock state now step.to × IsToldOf (list_asked state) step.from step.to step.told × GoesOn step.to (list_turned names l.after l.limit state step.told) steps
  GoesOn now (Ends verdict) [] = (verdict ≡ Tells (replies.List (Ok l.page))) × (now ≤ l.ended)
  GoesOn now (Ends verdict) (step ∷ steps) = ⊥

  -- A run of the machine from the listing's begin to its end.
  pub record IsRun : Type 0 where
    pub steps : List ListingStep
    pub goes : GoesOn l.began (Is ListSees) steps
    pub after_fits : (id : ℕ) → l.after ≡ Some id → id < 2 ^ 64
