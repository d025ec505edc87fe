-- A listing of versions while it runs, and what it answers.
use Rattle.std.specs.Prelude.{◌≡◌, ◌⊎◌, ℕ, ◌+◌, ◌*◌, ◌^◌, ◌<◌, ◌≤◌, ◌==◌, List, [], ◌∷◌, length, map, take, drop, true, Bool, Option, Some, IsSome, Result, IfOk, IfErr, OnOk}
use Rattle.std.specs.FinMap as finmap
use Rattle.std.specs.List.{list_any}
use Rattle.std.specs.List.Sorted.{IsStrictlySortedBy}
use Rattle.std.specs.Ordering.{nat_cmp}
use Rattle.std.specs.declared.ops.Bound.{Bound}
use Rattle.txn_store.specs.Paths.{Segments}
use Rattle.txn_store.specs.VersionName.{Names, version_path}
use Rattle.txn_store.specs.Store.{Files, State, Kept, listing}
use Rattle.txn_store.specs.declared.store.Got.{Got}
use Rattle.txn_store.specs.declared.request.Request.{Request}
use Rattle.txn_store.specs.declared.request.Request.TheVariants as requests
use Rattle.txn_store.specs.declared.request.Reply.{Reply}
use Rattle.txn_store.specs.types.Numbers.{is_within}
use Rattle.txn_store.specs.declared.types.error.TransactionalObjectError.{TransactionalObjectError}
use Rattle.txn_steps.specs.declared.boundary.turned.Turned.{Turned}
use Rattle.txn_steps.specs.boundary.Asking.{reply_told, unless_lacking}
use Rattle.txn_steps.specs.boundary.Steps.{turned_by_number, lacks_memory, TellsErrorOf}
use Rattle.txn_steps.specs.declared.listing.ListOp.{ListOp}
use Rattle.txn_steps.specs.Listed.{Listed}
use Rattle.txn_steps.specs.Listings.{listing_turned}
use Rattle.txn_steps.specs.Picked.{picked}
use Rattle.txn_steps.specs.Requests.{version_page}
use Rattle.txn_steps_driven.specs.Asked.{Replies}
use Rattle.txn_steps_driven.specs.Calls.{Spends, HasCause}
use Rattle.txn_steps_driven.specs.PageCount.{files_below, pages_below}
use Rattle.txn_steps_driven.specs.Standing.{FilesStand}

-- While it runs: so many pages were told, each but the last of them full. What they tell is picked, and what it asks for lists the rest.
pub record ListRuns (names : Names) (page : ℕ) (from to : Bound ℕ) (old new : State) (op : ListOp) : Type 0 where
  pub told : ℕ
  pub after : Option Segments
  pub from_is : op.from ≡ from
  pub to_is : op.to ≡ to
  pub asks : op.request ≡ version_page names after page
  pub found : op.found ≡ picked names from to (take (told * page) (files_below names old.files))
  pub rest : listing names.dir after (finmap.entries old.files) ≡ drop (told * page) (files_below names old.files)
  pub more : (told ≡ 0) ⊎ (told * page < length (files_below names old.files))
  pub kept : Kept old new
  pub calls : new.calls ≡ old.calls + told
  pub failures : old.failures ≤ new.failures

-- how many files a page that is asked for may come from
abbrev pub list_rank : Files → Request → ℕ
list_rank files (requests.List prefix after limit) = length (listing prefix after (finmap.entries files))
list_rank files request = 0

-- what it asks of the store is a page with room for one file at least
abbrev pub CanList : Request → Type 0
CanList (requests.List prefix after limit) = 1 ≤ limit
CanList request = ⊥

-- one store call: the store replies to what it asks, and it takes that
pub record IsListStep (names : Names) (page : ℕ) (old new : State) (op op' : ListOp) (told : Turned (Result (List Listed) TransactionalObjectError)) : Type 0 where
  pub reply : Option Reply
  pub replies : Replies (Some op.request) old reply new
  pub turned : (op', turned_by_number told) ≡ unless_lacking (lacks_memory (turned_by_number told)) op (listing_turned names page op reply)
  pub error : TellsErrorOf (reply_told reply) told

-- What an ended listing leaves and answers: the versions within the bounds of all files below the directory. It changes no file and takes no token, and where nothing fails it makes one call a page.
pub record ListEnds (names : Names) (page : ℕ) (from to : Bound ℕ) (old new : State) (result : Result (List Listed) TransactionalObjectError) : Type 0 where
  pub listed : IfOk result (λ found. found ≡ picked names from to (files_below names old.files))
  pub kept : Kept old new
  pub calls : OnOk result (new.calls ≡ old.calls + pages_below names page old.files)
  pub spends : Spends (pages_below names page old.files) 0 old new
  pub cause : IfErr result (HasCause old new)

-- the ids, in the order of the answer
abbrev pub ids_of : List Listed → List ℕ
ids_of found = map (λ listed. listed.id) found

-- an id is in the answer
abbrev pub is_listed : ℕ → List Listed → Bool
is_listed n found = list_any (λ id. n == id) (ids_of found)

-- The ids of an answer: they ascend, and an id is among them exactly where it is within the bounds and its name is stored.
pub record AreStored (names : Names) (from to : Bound ℕ) (files : Files) (found : List Listed) : Type 0 where
  pub ascend : IsStrictlySortedBy nat_cmp (ids_of found)
  pub stored : (n : ℕ) → is_listed n found ≡ true → (n < 2 ^ 64) × (is_within from to n ≡ true) × IsSome (finmap.get files (version_path names n))
  pub all : (n : ℕ) → n < 2 ^ 64 → is_within from to n ≡ true → IsSome (finmap.get files (version_path names n)) → is_listed n found ≡ true

-- The ids of an answer where the files stand for a history of this length and a boundary: each is of the history, and each id above the boundary and within the bounds is there.
pub record AreIds (from to : Bound ℕ) (newest b : ℕ) (found : List Listed) : Type 0 where
  pub known : (n : ℕ) → is_listed n found ≡ true → (1 ≤ n) × (n ≤ newest)
  pub there : (n : ℕ) → b < n → n ≤ newest → is_within from to n ≡ true → is_listed n found ≡ true

-- What a listing told of a version is so: its path is that of the version's file, and its size and its token are those of what stands there.
pub record IsTold (file : ℕ → Segments) (files : Files) (listed : Listed) : Type 0 where
  pub got : Got
  pub stands : finmap.get files (file listed.id) ≡ Some got
  pub metadata : listed.metadata ≡ record { location = file listed.id; size = length got.bytes; token = got.token }

abbrev pub AreTold : (ℕ → Segments) → Files → List Listed → Type 0
AreTold file files [] = Unit {0}
AreTold file files (listed ∷ rest) = IsTold file files listed × AreTold file files rest

-- what a listing of versions leaves and answers
pub record VersionsListed {T : Type 0} (names : Names) (page : ℕ) (decode : List ℕ → Option T) (from to : Bound ℕ) (old new : State) (result : Result (List Listed) TransactionalObjectError) : Type 0 where
  pub ends : ListEnds names page from to old new result
  pub stored : IfOk result (AreStored names from to old.files)
  pub told : IfOk result (AreTold (version_path names) old.files)
  pub stands : (h : List T) (b : ℕ) → FilesStand names decode old.files h b → IfOk result (AreIds from to (length h) b)
