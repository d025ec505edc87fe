-- The invariant: what stands of the history, of the store, of a client's caches, of what is asked, of an operation that runs, and of a whole state.
use Rattle.std.proofs.Common.{◌≡◌, ◌≢◌, nat_eq, ℕ, ◌+◌, ◌<◌, ◌≤◌, ◌^◌, List, ◌∷◌, [], ◌++◌, Contains, length, slice_get, Bool, true, false, ◌==◌, Option, Some, None, is_some, ◌⊎◌}
use Rattle.std.specs.Option.{option_map}
use Rattle.std.specs.List.{list_any}
use Rattle.std.specs.List.Sorted.{IsStrictlySortedBy}
use Rattle.std.specs.Ordering.{nat_cmp}
use Rattle.std.specs.FinMap.{get}
use Rattle.std.specs.Fmt.{decimal}
use Rattle.std.specs.declared.ops.Bound.{Bound}
use Rattle.txn_store.specs.Paths.{Segments, is_below}
use Rattle.txn_store.specs.Store.{Files, State as StoreState}
use Rattle.txn_store.specs.VersionName.{version_path}
use Rattle.txn_store.specs.declared.store.Got.{Got}
use Rattle.txn_store.specs.declared.store.PutMode.TheVariants.{Create}
use Rattle.txn_store.specs.declared.request.Request.{Request}
use Rattle.txn_store.specs.declared.request.Request.TheVariants as requests
use Rattle.txn_store.specs.types.Numbers.{number_of, is_within}
use Rattle.txn_store.specs.types.BoundaryText.{boundary_read}
use Rattle.txn_steps.specs.declared.boundary.caches.Cached.{Cached}
use Rattle.txn_steps.specs.declared.boundary.caches.CachedBoundary.{CachedBoundary}
use Rattle.txn_steps.specs.declared.boundary.caches.Caches.{Caches}
use Rattle.txn_steps.specs.declared.boundary.boundary_read.BoundaryRead.{BoundaryRead}
use Rattle.txn_steps.specs.declared.boundary.boundary_read.BoundaryRead.TheVariants as reading
use Rattle.txn_steps.specs.declared.boundary.check.BoundaryStep.{BoundaryStep}
use Rattle.txn_steps.specs.declared.boundary.check.BoundaryStep.TheVariants as boundary_step
use Rattle.txn_steps.specs.declared.boundary.check.CheckOp.{CheckOp}
use Rattle.txn_steps.specs.declared.boundary.check.CheckOp.TheVariants as checks
use Rattle.txn_steps.specs.declared.boundary.advance.BoundaryAdvance.{BoundaryAdvance}
use Rattle.txn_steps.specs.declared.boundary.advance.BoundaryAdvance.TheVariants as raising
use Rattle.txn_steps.specs.declared.boundary.advance.AdvanceOp.{AdvanceOp}
use Rattle.txn_steps.specs.declared.boundary.advance.AdvanceOp.TheVariants as advances
use Rattle.txn_steps.specs.boundary.BoundaryAdvances.{raise_mode}
use Rattle.txn_steps.specs.boundary.Checks.{check_started}
use Rattle.txn_steps.specs.declared.write.WriteUncheckedOp.{WriteUncheckedOp}
use Rattle.txn_steps.specs.declared.write.WriteUncheckedOp.TheVariants as unchecked
use Rattle.txn_steps.specs.declared.write.WriteStep.{WriteStep}
use Rattle.txn_steps.specs.declared.write.WriteStep.TheVariants as writes
use Rattle.txn_steps.specs.declared.write.WriteOp.{WriteOp}
use Rattle.txn_steps.specs.declared.latest.LatestOp.{LatestOp}
use Rattle.txn_steps.specs.declared.latest.LatestOp.TheVariants as latest
use Rattle.txn_steps.specs.declared.read.ReadOp.{ReadOp}
use Rattle.txn_steps.specs.declared.read.ReadOp.TheVariants as reads
use Rattle.txn_steps.specs.declared.seen.ReadSeenOp.{ReadSeenOp}
use Rattle.txn_steps.specs.declared.seen.ReadSeenOp.TheVariants as seen
use Rattle.txn_steps.specs.declared.delete.RemovalStep.{RemovalStep}
use Rattle.txn_steps.specs.declared.delete.RemovalStep.TheVariants as removals
use Rattle.txn_steps.specs.declared.delete.DeleteStep.{DeleteStep}
use Rattle.txn_steps.specs.declared.delete.DeleteStep.TheVariants as deletes
use Rattle.txn_steps.specs.declared.delete.DeleteOp.{DeleteOp}
use Rattle.txn_steps.specs.Requests.{version_got}
use Rattle.txn_steps.specs.Deletes.{removal_started}
use Rattle.txn_history.specs.declared.event.PlainCall.{PlainCall}
use Rattle.txn_history.specs.declared.event.PlainCall.TheVariants as calls
use Rattle.txn_history.specs.declared.event.PlainAnswer.{PlainAnswer}
use Rattle.txn_history.specs.Trace.{PlainRow}
use Rattle.txn_history.specs.declared.trace.RowOf.TheVariants.{Effect, Begun, Answered}
use Rattle.txn_history.specs.Lists.{numbered}
use Rattle.txn_history.specs.Names.{world_names, world_boundary}
use Rattle.txn_history.specs.History.{Version, created, versions_of, newest, boundary, was_erased, stored, is_stored, put_count, epoch_at, HasContents}
use Rattle.txn_history.specs.Calls.{was_begun, was_answered, IsCall, begun_count, plain_tells_id, AtRow}
use Rattle.txn_history.specs.Facts.{base_on, Created, Entered, WasNewest}
use Rattle.txn_machine.specs.plain.PlainHistory.{tells, AnswerFits, IsOneHistory}
use Rattle.txn_history.proofs.Rows.{row_op}
use Rattle.txn_machine.specs.declared.plain.doing.PlainDoing.{PlainDoing}
use Rattle.txn_machine.specs.declared.plain.doing.PlainDoing.TheVariants.{Write, WriteUnchecked, Read, ReadUnchecked, ReadSeen, ListIds, Delete, Check, Advance, Ended}
use Rattle.txn_machine.specs.declared.plain.doing.PlainOperation.{PlainOperation}
use Rattle.txn_machine.specs.plain.Doing.{Next, InRange, ids_of}
use Rattle.txn_machine.specs.plain.Machine.{State}

-- requests

-- the create of a version
abbrev pub create : ℕ → List ℕ → Request
create id bytes = requests.Put (version_path world_names id) bytes Create

-- the get of the boundary file, unless it has this token
abbrev pub get_boundary : Option ℕ → Request
get_boundary token = requests.Get world_boundary token

-- the put of a boundary
abbrev pub raise : ℕ → Option ℕ → Request
raise to token = requests.Put world_boundary (decimal to) (raise_mode token)

-- the removal of a version
abbrev pub remove_version : ℕ → Request
remove_version id = requests.Delete (version_path world_names id)

-- a page of the versions
abbrev pub list_versions : Option Segments → ℕ → Request
list_versions after limit = requests.List world_names.dir after limit

-- a request that changes nothing
abbrev pub IsQuiet : Request → Type 0
IsQuiet (requests.Get path known) = Unit {0}
IsQuiet (requests.List prefix after limit) = Unit {0}
IsQuiet (requests.Put path bytes mode) = ⊥
IsQuiet (requests.Delete path) = ⊥

-- files

-- the bytes under the path of a version
abbrev pub file_at : Files → ℕ → Option (List ℕ)
file_at files n = option_map (λ got. got.bytes) (get files (version_path world_names n))

-- version n has a file
abbrev pub is_there : Files → ℕ → Bool
is_there files n = is_some (get files (version_path world_names n))

-- the bytes of version n
abbrev pub bytes_at : List Version → ℕ → Option (List ℕ)
bytes_at versions n = option_map (λ version. version.1) (numbered versions n)

-- the token of each file was given
abbrev pub AllGiven : StoreState → Type 0
AllGiven store = (path : Segments) (got : Got) → get store.files path ≡ Some got → Contains store.given got.token

-- the path of a version
abbrev pub IsVersionPath : Segments → Type 0
IsVersionPath path = (n : ℕ) × (n < 2 ^ 64) × (path ≡ version_path world_names n)

-- each file below the folder is a version
abbrev pub AllVersions : Files → Type 0
AllVersions files = (path : Segments) (got : Got) → is_below world_names.dir path ≡ true → get files path ≡ Some got → IsVersionPath path

-- where the next page begins: at the start, or after the version of the greatest id so far
abbrev pub BeginsAfter : Option Segments → ℕ → Type 0
BeginsAfter after reached = ((after ≡ None) × (reached ≡ 0)) ⊎ (after ≡ Some (version_path world_names reached))

-- the greatest listed id is at least this
abbrev pub Found : ℕ → Option ℕ → Type 0
Found reached found = 0 < reached → (most : ℕ) × (found ≡ Some most) × (reached ≤ most)

-- rows

module _ {T : Type 0} where
  -- it is an effect of the operation
  abbrev pub affects : ℕ → PlainRow T → Bool
  affects op (Effect o request) = o == op
  affects op (Begun o call) = false
  affects op (Answered o answer) = false

  abbrev pub has_effect : List (PlainRow T) → ℕ → Bool
  has_effect rows op = list_any (affects op) rows

  -- no row is of this operation
  abbrev pub AreOthers : ℕ → List (PlainRow T) → Type 0
  AreOthers op [] = Unit {0}
  AreOthers op (row ∷ rows) = (row_op row ≢ op) × AreOthers op rows

  -- an id of the history
  abbrev pub IsKnown : List (PlainRow T) → ℕ → Type 0
  IsKnown rows n = (0 < n) × (n ≤ newest rows)

  -- some id that passes the test is known
  abbrev pub OneKnown : List (PlainRow T) → (ℕ → Bool) → Type 0
  OneKnown rows test = (n : ℕ) × (test n ≡ true) × IsKnown rows n

  -- what an answer tells is known
  abbrev pub TellsKnown : List (PlainRow T) → PlainAnswer T → Type 0
  TellsKnown rows answer = (test : ℕ → Bool) → plain_tells_id test answer ≡ true → OneKnown rows test

  -- More rows, and the store after them: nothing is lost.
  pub record Frame (rows : List (PlainRow T)) (store : StoreState) (after : List (PlainRow T)) (new : StoreState) : Type 0 where
    pub more : List (PlainRow T)
    pub is : after ≡ rows ++ more
    pub up : boundary rows ≤ boundary after
    pub given : (token : ℕ) → Contains store.given token → Contains new.given token
    -- a boundary file of a token that was given before says what it said
    pub same : (got : Got) → Contains store.given got.token → get new.files world_boundary ≡ Some got → (get store.files world_boundary ≡ Some got) × (boundary after ≡ boundary rows)

  -- what a client knows of the boundary

  -- a boundary that was read, with the token of its file: the file has another token, or says it still
  pub record Fit (rows : List (PlainRow T)) (store : StoreState) (number token : ℕ) : Type 0 where
    pub below : number ≤ boundary rows
    pub given : Contains store.given token
    pub same : (got : Got) → get store.files world_boundary ≡ Some got → got.token ≡ token → number ≡ boundary rows

  abbrev pub KnownFits : List (PlainRow T) → StoreState → Option CachedBoundary → Type 0
  KnownFits rows store None = Unit {0}
  KnownFits rows store (Some known) = Fit rows store known.number known.token

  -- the boundary has reached the id, or this holds
  abbrev pub Open : List (PlainRow T) → ℕ → Type 0 → Type 0
  Open rows id Q = (id ≤ boundary rows) ⊎ Q

-- the cached boundary is at least n
pub record CachedAt (cached : Option CachedBoundary) (n : ℕ) : Type 0 where
  pub known : CachedBoundary
  pub there : cached ≡ Some known
  pub least : n ≤ known.number

-- the file is as it was known
pub record UnchangedStands (cached : Option CachedBoundary) (id : ℕ) (Q : Type 0) : Type 0 where
  pub number : ℕ
  pub at : CachedAt cached number
  pub open' : (id ≤ number) ⊎ Q

module _ {T : Type 0} where
  -- the token that a read of the boundary sends is that of a boundary that is cached
  abbrev pub TokenStands : List (PlainRow T) → StoreState → Option CachedBoundary → Option ℕ → Type 0
  TokenStands rows store cached None = Unit {0}
  TokenStands rows store cached (Some token) = (number : ℕ) × Fit rows store number token × CachedAt cached number

  pub record GettingStands (rows : List (PlainRow T)) (store : StoreState) (cached : Option CachedBoundary) (id : ℕ) (Q : Type 0) (request : Request) : Type 0 where
    pub token : Option ℕ
    pub asks : request ≡ get_boundary token
    pub known : TokenStands rows store cached token
    pub open' : Open rows id Q

  -- a read of the boundary, for an id that is open
  abbrev pub ReadingStands : List (PlainRow T) → StoreState → Option CachedBoundary → ℕ → Type 0 → BoundaryRead → Type 0
  ReadingStands rows store cached id Q (reading.Looks path) = (path ≡ world_boundary) × Open rows id Q
  ReadingStands rows store cached id Q (reading.Gets request) = GettingStands rows store cached id Q request
  ReadingStands rows store cached id Q (reading.Holds (Some known)) = Fit rows store known.number known.token × ((id ≤ known.number) ⊎ Q)
  ReadingStands rows store cached id Q (reading.Holds None) = UnchangedStands cached id Q

  abbrev pub StepStands : List (PlainRow T) → StoreState → Option CachedBoundary → ℕ → Type 0 → BoundaryStep → BoundaryRead → Type 0
  StepStands rows store cached id Q boundary_step.Looks read = (read ≡ reading.Looks world_boundary) × Open rows id Q
  StepStands rows store cached id Q boundary_step.Reads read = ReadingStands rows store cached id Q read

  -- the check of an id: it is open for what its caller wants to hold where the check accepts
  abbrev pub CheckStands : List (PlainRow T) → StoreState → Option CachedBoundary → ℕ → Type 0 → CheckOp → Type 0
  CheckStands rows store cached id Q (checks.Checks check) = (check.id ≡ id) × StepStands rows store cached id Q check.step check.read
  CheckStands rows store cached id Q (checks.Drops i) = (i ≡ id) × (id ≤ boundary rows)

  -- 0, or below the newest
  abbrev pub Room : List (PlainRow T) → ℕ → Type 0
  Room rows to = (to ≡ 0) ⊎ (to < newest rows)

  -- the boundary that is known is below what is to be put
  abbrev pub KnownBelow : List (PlainRow T) → StoreState → ℕ → Option ℕ → Type 0
  KnownBelow rows store to None = 0 < to
  KnownBelow rows store to (Some token) = (number : ℕ) × Fit rows store number token × (number < to)

  pub record PutStands (rows : List (PlainRow T)) (store : StoreState) (to : ℕ) (request : Request) : Type 0 where
    pub token : Option ℕ
    pub asks : request ≡ raise to token
    pub below : KnownBelow rows store to token

  -- a raise of the boundary to a target
  abbrev pub RaiseStands : List (PlainRow T) → StoreState → Option CachedBoundary → ℕ → BoundaryAdvance → Type 0
  RaiseStands rows store cached target (raising.Looks t) = t ≡ target
  RaiseStands rows store cached target (raising.Reads t again read) = (t ≡ target) × ReadingStands rows store cached 0 ⊥ read
  RaiseStands rows store cached target (raising.Puts t request) = (t ≡ target) × PutStands rows store target request
  RaiseStands rows store cached target (raising.Keeps t token) = (t ≡ target) × Fit rows store target token

  abbrev pub AdvanceStands : List (PlainRow T) → StoreState → Option CachedBoundary → PlainCall T → AdvanceOp → Type 0
  AdvanceStands rows store cached call (advances.Raises target raise) = (call ≡ calls.Advance target) × Room rows target × RaiseStands rows store cached target raise
  AdvanceStands rows store cached call (advances.Drops target) = (call ≡ calls.Advance target) × (target ≤ boundary rows)

  -- at a row of the call the boundary was below the id
  abbrev pub WasAbove : List (PlainRow T) → ℕ → ℕ → Type 0
  WasAbove rows op id = AtRow rows op (λ front. boundary front < id)

  -- at a row of the call the version was removed
  abbrev pub WasGone : List (PlainRow T) → ℕ → ℕ → Type 0
  WasGone rows op id = AtRow rows op (λ front. (id ≤ boundary front) × (is_stored front id ≡ false))

  -- at a row of the call there was no version
  abbrev pub WasEmpty : List (PlainRow T) → ℕ → Type 0
  WasEmpty rows op = AtRow rows op (λ front. newest front ≡ 0)

  -- the removal of an id that the boundary has reached
  abbrev pub RemovalStands : List (PlainRow T) → ℕ → ℕ → RemovalStep → Request → Type 0
  RemovalStands rows op id removals.Removes request = (request ≡ remove_version id) × (id ≤ boundary rows)
  RemovalStands rows op id removals.Drops request = WasGone rows op id

  abbrev pub DeleteStepStands : List (PlainRow T) → StoreState → Option CachedBoundary → ℕ → ℕ → DeleteStep → DeleteOp → Type 0
  DeleteStepStands rows store cached op id deletes.Checks delete = CheckStands rows store cached id (WasAbove rows op id) delete.check × (delete.removal ≡ removal_started world_names id)
  DeleteStepStands rows store cached op id deletes.Removes delete = (delete.removal.id ≡ id) × RemovalStands rows op id delete.removal.step delete.removal.request

  -- each version that the operation created has this id
  abbrev pub Only : List (PlainRow T) → ℕ → ℕ → Type 0
  Only rows op id = (k : ℕ) (request : Request) (version : Version) → slice_get rows k ≡ Some (Effect op request) → created request ≡ Some version → version.0 ≡ id

  -- the call writes this value on this base
  abbrev pub IsWriteOf : PlainCall T → Option ℕ → T → Type 0
  IsWriteOf call base value = (call ≡ calls.Write base value) ⊎ (call ≡ calls.WriteUnchecked base value)

  -- what was found is an id of the history
  abbrev pub KnowsFound : List (PlainRow T) → Option ℕ → Type 0
  KnowsFound rows found = (n : ℕ) → found ≡ Some n → IsKnown rows n

  -- a listing in progress, and the greatest id that its pages told
  pub record ListingStands (rows : List (PlainRow T)) (found : Option ℕ) (request : Request) : Type 0 where
    pub after : Option Segments
    pub limit : ℕ
    pub room : 1 ≤ limit
    pub asks : request ≡ list_versions after limit
    pub reached : ℕ
    pub begins : BeginsAfter after reached
    pub passed : Found reached found
    pub known : KnowsFound rows found

  -- An id that was the newest at a row of the call, with its version.
  pub record FoundStands (rows : List (PlainRow T)) (op id : ℕ) : Type 0 where
    pub version : Version
    pub moment : AtRow rows op (λ front. (newest front ≡ id) × (numbered (versions_of front) id ≡ Some version))
    pub kept : numbered (versions_of rows) id ≡ Some version

  abbrev pub ChosenStands : List (PlainRow T) → ℕ → Option ℕ → Type 0
  ChosenStands rows op None = WasEmpty rows op
  ChosenStands rows op (Some id) = FoundStands rows op id

  -- A listing of ids in progress: it has what is above the boundary, as far as its pages came.
  pub record CollectingStands (rows : List (PlainRow T)) (from to : Bound ℕ) (ids : List ℕ) (request : Request) : Type 0 where
    pub after : Option Segments
    pub limit : ℕ
    pub room : 1 ≤ limit
    pub asks : request ≡ list_versions after limit
    pub reached : ℕ
    pub begins : BeginsAfter after reached
    pub known : reached ≤ newest rows
    pub ascending : IsStrictlySortedBy nat_cmp ids
    pub there : (n : ℕ) → list_any (nat_eq n) ids ≡ true → (0 < n) × (n ≤ reached) × (is_within from to n ≡ true)
    pub whole : (n : ℕ) → boundary rows < n → n ≤ reached → is_within from to n ≡ true → list_any (nat_eq n) ids ≡ true

module _ {T : Type 0} (decode : List ℕ → Option T) where
  -- A version that a client read or wrote: above the boundary its bytes are its entry's.
  pub record Carried (rows : List (PlainRow T)) (version : Cached) : Type 0 where
    pub known : IsKnown rows version.id
    pub value : T
    pub reads : decode version.bytes ≡ Some value
    pub is : Open rows version.id (bytes_at (versions_of rows) version.id ≡ Some version.bytes)

  -- each held version is carried
  abbrev pub WindowFits : List (PlainRow T) → List Cached → Type 0
  WindowFits rows [] = Unit {0}
  WindowFits rows (version ∷ versions) = Carried rows version × WindowFits rows versions

  pub record CachesStand (rows : List (PlainRow T)) (store : StoreState) (caches : Caches) : Type 0 where
    pub latest : WindowFits rows caches.latest
    pub boundary : KnownFits rows store caches.boundary

  -- a version in hand, and its value
  abbrev pub HoldsStand : List (PlainRow T) → Cached → T → Type 0
  HoldsStand rows version value = Carried rows version × (decode version.bytes ≡ Some value)

  abbrev pub LatestStands : List (PlainRow T) → ℕ → LatestOp T → Type 0
  LatestStands rows op latest.Looks = Unit {0}
  LatestStands rows op (latest.Probes hand found next request) = Carried rows hand × (next ≡ hand.id + 1) × (next < 2 ^ 64) × (request ≡ version_got world_names next)
  LatestStands rows op (latest.Finds successor found) = Carried rows successor
  LatestStands rows op (latest.Lists found request) = ListingStands rows found request
  LatestStands rows op (latest.Chooses greatest) = ChosenStands rows op greatest
  LatestStands rows op (latest.Gets id request) = FoundStands rows op id × (request ≡ version_got world_names id)
  LatestStands rows op (latest.Keeps version value) = FoundStands rows op version.id × HoldsStand rows version value
  LatestStands rows op (latest.Drops id) = WasEmpty rows op
  LatestStands rows op latest.Ended = ⊥

  abbrev pub ReadStands : List (PlainRow T) → StoreState → Option CachedBoundary → ℕ → ReadOp T → Type 0
  ReadStands rows store cached op (reads.Reads latest boundary) = LatestStands rows op latest × (boundary ≡ reading.Looks world_boundary)
  ReadStands rows store cached op (reads.Checks id value check) = IsKnown rows id × CheckStands rows store cached id (WasNewest decode rows op id value) check
  ReadStands rows store cached op reads.Ended = ⊥

  abbrev pub SeenStands : List (PlainRow T) → PlainCall T → ReadSeenOp T → Type 0
  SeenStands rows call (seen.Looks id) = (call ≡ calls.ReadSeen id) × (id < 2 ^ 64)
  SeenStands rows call (seen.Gets id request) = (call ≡ calls.ReadSeen id) × (id < 2 ^ 64) × (request ≡ version_got world_names id)
  SeenStands rows call (seen.Keeps version value) = (call ≡ calls.ReadSeen version.id) × HoldsStand rows version value
  SeenStands rows call seen.Ended = ⊥

module _ {T : Type 0} (decode : List ℕ → Option T) (get_epoch : T → ℕ) where
  -- the rows are one history, whose versions count up from 1, with the boundary below the newest
  pub record HistoryStands (failed : List ℕ) (rows : List (PlainRow T)) : Type 0 where
    pub good : IsOneHistory decode get_epoch failed rows
    pub ids : (k : ℕ) (version : Version) → slice_get (versions_of rows) k ≡ Some version → version.0 ≡ k + 1
    pub reads : (k : ℕ) (version : Version) → slice_get (versions_of rows) k ≡ Some version → (value : T) × (decode version.1 ≡ Some value)
    pub small : newest rows < 2 ^ 64
    pub gap : (boundary rows < newest rows) ⊎ ((newest rows ≡ 0) × (boundary rows ≡ 0))
    pub told : (test : ℕ → Bool) → list_any (tells test) rows ≡ true → OneKnown rows test

  -- The store stands for the history: versions above the boundary are stored as they were created, names that are gone were erased, and the boundary's file says the boundary.
  pub record FilesStand (rows : List (PlainRow T)) (store : StoreState) : Type 0 where
    pub within : (n : ℕ) → n < 2 ^ 64 → is_there store.files n ≡ true → IsKnown rows n
    pub there : (n : ℕ) → boundary rows < n → n ≤ newest rows → file_at store.files n ≡ bytes_at (versions_of rows) n
    pub decodes : (n : ℕ) (bytes : List ℕ) → n < 2 ^ 64 → file_at store.files n ≡ Some bytes → (value : T) × (decode bytes ≡ Some value)
    pub gone : (n : ℕ) → 0 < n → n ≤ newest rows → is_there store.files n ≡ false → was_erased rows n ≡ true
    pub says : (got : Got) → get store.files world_boundary ≡ Some got → boundary_read got.bytes ≡ Some (boundary rows)
    pub given : AllGiven store
    pub versions : AllVersions store.files
    pub kept : HasContents store.files (stored rows)
    pub left : store.left + put_count rows ≡ 18446744073709551615
    pub honest : store.failures ≡ 0

  pub record KnowStands (failed : List ℕ) (rows : List (PlainRow T)) (store : StoreState) : Type 0 where
    pub history : HistoryStands failed rows
    pub files : FilesStand rows store

  -- what a write asks for is to be created on its base
  pub record Creates (rows : List (PlainRow T)) (base : Option ℕ) (value : T) (version : Cached) : Type 0 where
    pub next : version.id ≡ number_of base + 1
    pub fits : version.id < 2 ^ 64
    pub base_is : base ≡ base_on (number_of base)
    pub known : number_of base ≤ newest rows
    pub reads : decode version.bytes ≡ Some value
    pub keeps : epoch_at decode get_epoch rows (number_of base) ≤ get_epoch value

  -- a write that asks for its create
  pub record PuttingStands (rows : List (PlainRow T)) (op : ℕ) (call : PlainCall T) (id : ℕ) (version : Cached) (request : Request) : Type 0 where
    pub base : Option ℕ
    pub value : T
    pub call_is : IsWriteOf call base value
    pub id_is : version.id ≡ id
    pub asks : request ≡ create version.id version.bytes
    pub creates : Creates rows base value version
    pub none : has_effect rows op ≡ false

  -- a write that has created its version: the boundary has reached it, or it is its own entry
  pub record CreatedStands (rows : List (PlainRow T)) (op : ℕ) (call : PlainCall T) (id : ℕ) (version : Cached) : Type 0 where
    pub base : Option ℕ
    pub value : T
    pub call_is : IsWriteOf call base value
    pub id_is : version.id ≡ id
    pub next : version.id ≡ number_of base + 1
    pub carried : Carried decode rows version
    pub reads : decode version.bytes ≡ Some value
    pub only : Only rows op version.id
    pub made : Created rows op version.id
    pub own : Open rows version.id (Entered decode rows op version.id value)

  abbrev pub UncheckedStands : List (PlainRow T) → ℕ → PlainCall T → ℕ → WriteUncheckedOp → Type 0
  UncheckedStands rows op call id (unchecked.Puts version request) = PuttingStands rows op call id version request
  UncheckedStands rows op call id (unchecked.Keeps version) = CreatedStands rows op call id version
  UncheckedStands rows op call id unchecked.Ended = ⊥

  -- a write that checks its id
  pub record WrittenStands (rows : List (PlainRow T)) (store : StoreState) (cached : Option CachedBoundary) (op : ℕ) (call : PlainCall T) (write : WriteOp) : Type 0 where
    pub base : Option ℕ
    pub value : T
    pub call_is : call ≡ calls.Write base value
    pub next : write.id ≡ number_of base + 1
    pub known : write.id ≤ newest rows
    pub only : Only rows op write.id
    pub checks : CheckStands rows store cached write.id (Entered decode rows op write.id value) write.check

  abbrev pub WriteStands : List (PlainRow T) → StoreState → Option CachedBoundary → ℕ → PlainCall T → WriteStep → WriteOp → Type 0
  WriteStands rows store cached op call writes.Writes write = UncheckedStands rows op call write.id write.write × (write.check ≡ check_started world_boundary write.id) × (base : Option ℕ) × (value : T) × (call ≡ calls.Write base value)
  WriteStands rows store cached op call writes.Checks write = WrittenStands rows store cached op call write

  -- What a running operation owes, by its state. Of its client's caches it speaks of the boundary alone.
  abbrev pub DoingStands : List (PlainRow T) → StoreState → Option CachedBoundary → ℕ → PlainCall T → PlainDoing T → Type 0
  DoingStands rows store cached op call (Write write) = WriteStands rows store cached op call write.step write
  DoingStands rows store cached op call (WriteUnchecked write) = ((id : ℕ) × UncheckedStands rows op call id write) × (base : Option ℕ) × (value : T) × (call ≡ calls.WriteUnchecked base value)
  DoingStands rows store cached op call (Read read) = (call ≡ calls.Read) × ReadStands decode rows store cached op read
  DoingStands rows store cached op call (ReadUnchecked read) = (id : ℕ) × (call ≡ calls.ReadUnchecked id) × (id < 2 ^ 64) × (read.request ≡ version_got world_names id)
  DoingStands rows store cached op call (ReadSeen read) = SeenStands decode rows call read
  DoingStands rows store cached op call (ListIds list) = (call ≡ calls.ListIds list.from list.to) × CollectingStands rows list.from list.to (ids_of list.found) list.request
  DoingStands rows store cached op call (Delete delete) = (id : ℕ) × (call ≡ calls.Delete id) × DeleteStepStands rows store cached op id delete.step delete
  DoingStands rows store cached op call (Check check) = (id : ℕ) × (call ≡ calls.Check id) × CheckStands rows store cached id (WasAbove rows op id) check
  DoingStands rows store cached op call (Advance advance) = AdvanceStands rows store cached call advance
  DoingStands rows store cached op call Ended = ⊥

  -- What a request that was asked owes, whether its operation runs or has ended: it is legal where it changes the store.

  pub record CreateAsked (rows : List (PlainRow T)) (op : ℕ) (request : Request) : Type 0 where
    pub base : Option ℕ
    pub value : T
    pub version : Cached
    pub call : PlainCall T
    pub called : IsCall rows op call
    pub call_is : IsWriteOf call base value
    pub asks : request ≡ create version.id version.bytes
    pub creates : Creates rows base value version

  pub record RaiseAsked (rows : List (PlainRow T)) (store : StoreState) (op : ℕ) (request : Request) : Type 0 where
    pub to : ℕ
    pub called : IsCall rows op (calls.Advance to)
    pub room : Room rows to
    pub put : PutStands rows store to request

  pub record RemovalAsked (rows : List (PlainRow T)) (op : ℕ) (request : Request) : Type 0 where
    pub id : ℕ
    pub called : IsCall rows op (calls.Delete id)
    pub asks : request ≡ remove_version id
    pub below : id ≤ boundary rows

  abbrev pub Asks : List (PlainRow T) → StoreState → ℕ → Request → Type 0
  Asks rows store op request = CreateAsked rows op request ⊎ RaiseAsked rows store op request ⊎ RemovalAsked rows op request ⊎ IsQuiet request

  -- a call that runs
  pub record Runs (rows : List (PlainRow T)) (op : ℕ) (call : PlainCall T) : Type 0 where
    pub called : IsCall rows op call
    pub begun : was_begun rows op ≡ true
    pub running : was_answered rows op ≡ false

  -- an operation that runs
  pub record RunStands (rows : List (PlainRow T)) (store : StoreState) (cached : Option CachedBoundary) (op : ℕ) (call : PlainCall T) (doing : PlainDoing T) : Type 0 where
    pub runs : Runs rows op call
    pub range : InRange doing
    pub stands : DoingStands rows store cached op call doing

  -- an answer that an operation is about to give
  pub record Ends (failed : List ℕ) (rows : List (PlainRow T)) (op : ℕ) (call : PlainCall T) (doing : PlainDoing T) (answer : PlainAnswer T) : Type 0 where
    pub is_end : doing ≡ Ended
    pub runs : Runs rows op call
    pub fits : AnswerFits decode get_epoch failed rows op call answer
    pub tells : TellsKnown rows answer

  -- What an operation does next fits. Operations prove it and see no state, the state's proof uses it and opens no operation.
  abbrev pub TurnOf : List ℕ → List (PlainRow T) → StoreState → Option CachedBoundary → ℕ → PlainCall T → PlainDoing T → Option (PlainAnswer T) → Type 0
  TurnOf failed rows store cached op call doing None = RunStands rows store cached op call doing
  TurnOf failed rows store cached op call doing (Some answer) = Ends failed rows op call doing answer

  abbrev pub TurnStands : List ℕ → List (PlainRow T) → StoreState → Option CachedBoundary → ℕ → PlainCall T → Next T → Type 0
  TurnStands failed rows store cached op call next = TurnOf failed rows store cached op call next.0 next.1

  abbrev pub RunsAs : List (PlainRow T) → StoreState → Option CachedBoundary → ℕ → PlainDoing T → Type 0
  RunsAs rows store cached op doing = (call : PlainCall T) × RunStands rows store cached op call doing

  -- what stands of an operation that began
  abbrev pub OpStands : List (PlainRow T) → StoreState → Option CachedBoundary → ℕ → PlainDoing T → Type 0
  OpStands rows store cached op Ended = was_begun rows op ≡ true
  OpStands rows store cached op (Write write) = RunsAs rows store cached op (Write write)
  OpStands rows store cached op (WriteUnchecked write) = RunsAs rows store cached op (WriteUnchecked write)
  OpStands rows store cached op (Read read) = RunsAs rows store cached op (Read read)
  OpStands rows store cached op (ReadUnchecked read) = RunsAs rows store cached op (ReadUnchecked read)
  OpStands rows store cached op (ReadSeen read) = RunsAs rows store cached op (ReadSeen read)
  OpStands rows store cached op (ListIds list) = RunsAs rows store cached op (ListIds list)
  OpStands rows store cached op (Delete delete) = RunsAs rows store cached op (Delete delete)
  OpStands rows store cached op (Check check) = RunsAs rows store cached op (Check check)
  OpStands rows store cached op (Advance advance) = RunsAs rows store cached op (Advance advance)

  -- no row is of this operation
  pub record Fresh (rows : List (PlainRow T)) (op : ℕ) : Type 0 where
    pub begun : was_begun rows op ≡ false
    pub answered : was_answered rows op ≡ false
    pub none : has_effect rows op ≡ false

  -- a loose request owes what an asked one owes, and its operation has ended
  pub record LooseStands (rows : List (PlainRow T)) (store : StoreState) (operations : List (PlainOperation T)) (op : ℕ) (request : Request) : Type 0 where
    pub asks : Asks rows store op request
    pub begun : was_begun rows op ≡ true
    pub ended : (o : PlainOperation T) → numbered operations op ≡ Some o → o.doing ≡ Ended

  -- the caches of the operation's client are there, and fit it
  abbrev pub AtClient : State T → ℕ → PlainOperation T → Type 0
  AtClient s op o = (caches : Caches) × (numbered s.caches o.client ≡ Some caches) × OpStands s.trace s.store caches.boundary op o.doing

  -- What stands of a state, but for one operation. No operation has number 0.
  pub record StandsBut (s : State T) (hole : ℕ) : Type 0 where
    pub paged : 1 ≤ s.page
    pub know : KnowStands s.failed s.trace s.store
    pub wide : length s.caches ≡ s.clients
    pub caches : (client : ℕ) (caches : Caches) → numbered s.caches client ≡ Some caches → CachesStand decode s.trace s.store caches
    pub count : length s.operations ≡ begun_count s.trace
    pub zero : was_begun s.trace 0 ≡ false
    pub fresh : (op : ℕ) → length s.operations < op → Fresh s.trace op
    pub loose : (k op : ℕ) (request : Request) → numbered s.loose k ≡ Some (op, request) → LooseStands s.trace s.store s.operations op request
    pub each : (op : ℕ) (o : PlainOperation T) → op ≢ hole → numbered s.operations op ≡ Some o → AtClient s op o

  abbrev pub Stands : State T → Type 0
  Stands s = StandsBut s 0
