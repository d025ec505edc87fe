-- A listing of a store in a folder as a small machine: each state asks one step of the system, and is turned by what it is told.
use Rattle.std.specs.Prelude.{ℕ, nat_lt, Bool, false, List, [], ◌∷◌, ◌++◌, length, take, Option, Some, None, unwrap_or, Ok}
use Rattle.txn_store.specs.VersionName.{Names, version_path}
use Rattle.txn_store.specs.declared.store.ObjectMeta.{ObjectMeta}
use Rattle.txn_store.specs.declared.request.Reply.TheVariants as replies
use Rattle.txn_folder.specs.steps.Scans.{beyond, settled_run}
use Rattle.txn_folder.specs.steps.Steps.{Verdict, Tells, Fails, Phase, Is, Ends}

-- what a listing asks of the system
pub data ListAsk : Type 0 where
  -- whether the folder of the versions is there
  SeeFolder : ListAsk
  -- the lock of removals, with others
  Share : ListAsk
  -- the versions that the folder shows, above the one that the listing goes on after, as it is gone through once
  Scan : ListAsk
  -- the file of a version
  SeeFile : (id : ℕ) → ListAsk
  -- that the lock is let go
  LetGo : ListAsk
  -- that the names that are told last
  SyncTold : ListAsk

-- what it is told
pub data ListTold : Type 0 where
  Done : ListTold
  Missing : ListTold
  -- the ids of versions, in ascending order
  Shown : (ids : List ℕ) → ListTold
  -- the file has so many bytes, and this time
  Holds : (size time : ℕ) → ListTold
  Error : ListTold

-- The search for the versions that stood at one moment: it makes a first scan, or a second one, or a third one, and keeps what those before told.
pub data Scanning : Type 0 where
  Once : Scanning
  Twice : (first : List ℕ) → Scanning
  Thrice : (first second : List ℕ) → Scanning

-- it goes on, or knows the versions
pub data Scanned : Type 0 where
  Goes : (scanning : Scanning) → Scanned
  Settles : (ids : List ℕ) → Scanned

-- the greatest id of a scan, or this where it has none
abbrev pub last_of : ℕ → List ℕ → ℕ
last_of low [] = low
last_of low (id ∷ ids) = last_of id ids

-- Two scans that are equal are settled. Where the second has more above the last id, a third one is made. Else the second is a first one.
abbrev pub twice_turned : List ℕ → List ℕ → Option (List ℕ) → Scanned
twice_turned first second None = Goes (Twice second)
twice_turned first second (Some []) = Settles second
twice_turned first second (Some (id ∷ ids)) = Goes (Thrice first second)

-- Three scans tell the first and its run. Where they are not settled, the third is a first one.
abbrev pub thrice_turned : List ℕ → List ℕ → Option (List ℕ) → Scanned
thrice_turned first third None = Goes (Twice third)
thrice_turned first third (Some run) = Settles (first ++ run)

-- what follows a scan that told these ids, where all are above a low one
abbrev pub scan_turned : ℕ → Scanning → List ℕ → Scanned
scan_turned low Once ids = Goes (Twice ids)
scan_turned low (Twice first) second = twice_turned first second (beyond (last_of low first) first second)
scan_turned low (Thrice first second) third = thrice_turned first third (settled_run (last_of low first) first second third)

-- A listing.
pub data Paging : Type 0 where
  ListSees : Paging
  ListShares : Paging
  ListScans : (scanning : Scanning) → Paging
  -- It looks up the file of a version, and then those of others. What was told of those before, and whether there are more versions than it may tell.
  ListLooks : (id : ℕ) (ids : List ℕ) (metas : List ObjectMeta) (more : Bool) → Paging
  -- lets the lock go
  ListFrees : (verdict : Verdict) → Paging
  -- what is told is made to last
  ListSyncs : (verdict : Verdict) → Paging

abbrev pub list_asked : Paging → ListAsk
list_asked ListSees = SeeFolder
list_asked ListShares = Share
list_asked (ListScans scanning) = Scan
list_asked (ListLooks id ids metas more) = SeeFile id
list_asked (ListFrees verdict) = LetGo
list_asked (ListSyncs verdict) = SyncTold

abbrev pub page_ok : List ObjectMeta → Bool → Verdict
page_ok metas more = Tells (replies.List (Ok (record { metas = metas; more = more })))

-- the next file is looked up, or all were
abbrev pub looks_up : List ℕ → List ObjectMeta → Bool → Paging
looks_up [] metas more = ListFrees (page_ok metas more)
looks_up (id ∷ ids) metas more = ListLooks id ids metas more

-- of the versions that stood at one moment the first ones are looked up, up to the limit
abbrev pub scanned : ℕ → Scanned → Paging
scanned limit (Goes scanning) = ListScans scanning
scanned limit (Settles ids) = looks_up (take limit ids) [] (nat_lt limit (length ids))

-- the lock is free
abbrev pub freed : Verdict → Phase Paging
freed (Tells reply) = Is (ListSyncs (Tells reply))
freed Fails = Ends Fails

-- what is told of a version
abbrev pub meta_told : Names → ℕ → ℕ → ℕ → ObjectMeta
meta_told names id size time = record { location = version_path names id; size = size; token = time }

-- a listing of the versions of these names after an id, where one is given, up to a limit
module _ (names : Names) (after : Option ℕ) (limit : ℕ) where
  abbrev pub list_turned : Paging → ListTold → Phase Paging
  list_turned ListSees Done = Is ListShares
  -- a folder that is not there has no versions
  list_turned ListSees Missing = Ends (page_ok [] false)
  list_turned ListSees told = Ends Fails
  list_turned ListShares Done = Is (ListScans Once)
  list_turned ListShares told = Is (ListFrees Fails)
  list_turned (ListScans scanning) (Shown ids) = Is (scanned limit (scan_turned (unwrap_or after 0) scanning ids))
  list_turned (ListScans scanning) told = Is (ListFrees Fails)
  list_turned (ListLooks id ids metas more) (Holds size time) = Is (looks_up ids (metas ++ meta_told names id size time ∷ []) more)
  -- it was removed since by one who takes no lock: the listing begins its scans again
  list_turned (ListLooks id ids metas more) Missing = Is (ListScans Once)
  list_turned (ListLooks id ids metas more) told = Is (ListFrees Fails)
  list_turned (ListFrees verdict) told = freed verdict
  list_turned (ListSyncs verdict) Done = Ends verdict
  list_turned (ListSyncs verdict) told = Ends Fails
