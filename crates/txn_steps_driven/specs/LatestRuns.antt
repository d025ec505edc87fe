-- A read of the newest version while it runs: where it is, and what it may still do.
use Rattle.std.specs.Prelude.{◌≡◌, ◌⊎◌, ℕ, ◌+◌, ◌-◌, ◌*◌, ◌^◌, ◌<◌, ◌≤◌, ◌&&◌, ◌||◌, not, ◌++◌, Bool, true, false, List, [], length, Option, Some, None, IfSome, Result}
use Rattle.std.specs.FinMap as map
use Rattle.txn_store.specs.Paths.{Segments}
use Rattle.txn_store.specs.VersionName.{Names, version_path}
use Rattle.txn_store.specs.Store.{Files, State, Kept, listing}
use Rattle.txn_store.specs.declared.store.ObjectMeta.{ObjectMeta}
use Rattle.txn_store.specs.declared.request.Request.{Request}
use Rattle.txn_store.specs.declared.request.Reply.{Reply}
use Rattle.txn_store.specs.declared.types.error.TransactionalObjectError.{TransactionalObjectError}
use Rattle.txn_steps.specs.declared.boundary.caches.Cached.{Cached}
use Rattle.txn_steps.specs.declared.boundary.turned.Turned.{Turned}
use Rattle.txn_steps.specs.boundary.Windows.{Ascends, held, greatest_held}
use Rattle.txn_steps.specs.boundary.Steps.{turned_by_number, TellsErrorOf}
use Rattle.txn_steps.specs.boundary.Asking.{reply_told, unless_lacking}
use Rattle.txn_steps.specs.declared.latest.LatestOp.{LatestOp}
use Rattle.txn_steps.specs.declared.latest.LatestOp.TheVariants.{Looks, Probes, Finds, Lists, Chooses, Gets, Keeps, Drops, Ended}
use Rattle.txn_steps.specs.Requests.{version_got, version_page}
use Rattle.txn_steps.specs.Latest.{greatest_from, latest_asked, latest_turned, latest_window_after}
use Rattle.txn_steps_driven.specs.Asked.{Replies}
use Rattle.txn_steps_driven.specs.Calls.{one_if}
use Rattle.txn_steps_driven.specs.LatestReads.{UpTo, IsStored, HasGrown, IsMost, Walked, HasToList}
use Rattle.txn_steps_driven.specs.PageCount.{files_below}

module _ {T : Type 0} where
  -- it asks for a page
  abbrev pub is_listing : LatestOp T → Bool
  is_listing (Lists found request) = true
  is_listing Looks = false
  is_listing (Probes hand found next request) = false
  is_listing (Finds successor found) = false
  is_listing (Chooses greatest) = false
  is_listing (Gets id request) = false
  is_listing (Keeps version value) = false
  is_listing (Drops id) = false
  is_listing Ended = false

  -- how many steps are left, each further page aside; `listed` tells whether a page was asked for
  abbrev pub steps_left : Bool → LatestOp T → ℕ
  steps_left listed Looks = 16
  steps_left listed (Finds successor found) = 16 - 2 * found
  steps_left listed (Probes hand found next request) = 15 - 2 * found
  steps_left listed (Lists found request) = 5 + one_if (not listed)
  steps_left listed (Chooses greatest) = 4
  steps_left listed (Gets id request) = 3
  steps_left listed (Keeps version value) = 2
  steps_left listed (Drops id) = 1
  steps_left listed Ended = 0

  -- how many of them are store calls
  abbrev pub calls_left : Bool → LatestOp T → ℕ
  calls_left listed Looks = 6
  calls_left listed (Finds successor found) = 6 - found
  calls_left listed (Probes hand found next request) = 6 - found
  calls_left listed (Lists found request) = 1 + one_if (not listed)
  calls_left listed (Chooses greatest) = 1
  calls_left listed (Gets id request) = 1
  calls_left listed (Keeps version value) = 0
  calls_left listed (Drops id) = 0
  calls_left listed Ended = 0

-- a turn is spent before each page after the first, and none is where none is left
abbrev pub Pays : Bool → Bool → Bool → ℕ → ℕ → Bool → Type 0
Pays asks listed listed' turns turns' true = (turns ≡ turns' + one_if (asks && listed)) × (listed' ≡ (asks || listed))
Pays asks listed listed' turns turns' false = (one_if (asks && listed) ≡ 1) × (turns ≡ 0) × (turns' ≡ 0)

-- one look or one store call of a read: what is replied, and what it makes of that
pub record IsStep {T : Type 0} (names : Names) (page : ℕ) (decode : List ℕ → Option T) (old new : State) (latest latest' : List Cached) (op op' : LatestOp T) (told : Turned (Result (Option (ℕ × T)) TransactionalObjectError)) : Type 0 where
  pub reply : Option Reply
  pub replied : Replies (latest_asked op) old reply new
  pub lacks : Bool
  pub turned : (op', turned_by_number told) ≡ unless_lacking lacks op (latest_turned names page decode op latest reply)
  pub left : latest' ≡ latest_window_after op latest (turned_by_number told)
  pub store_error : TellsErrorOf (reply_told reply) told

module _ {T : Type 0} (names : Names) (page : ℕ) (decode : List ℕ → Option T) (files : Files) (first : List Cached) where
  -- it has this version in hand, to which so many found successors led
  pub record Walks (found : ℕ) (hand : Cached) (spent calls : ℕ) (listed : Bool) (latest : List Cached) : Type 0 where
    pub from : Cached
    pub greatest : greatest_held first ≡ Some from
    pub walked : Walked names files from found hand
    pub small : hand.id < 2 ^ 64
    pub up_to : UpTo hand.id latest
    pub unlisted : listed ≡ false
    pub unspent : spent ≡ 0
    pub calls_are : calls ≡ found

  -- why it lists, and that nothing is held where nothing was
  abbrev pub Seeks : List Cached → Type 0
  Seeks latest = HasToList names files first × (first ≡ [] → latest ≡ [])

  -- a listing: the pages so far told these files, and the others are to come
  pub record Listing (found : Option ℕ) (request : Request) (spent : ℕ) (listed : Bool) : Type 0 where
    pub seen : List ObjectMeta
    pub rest : List ObjectMeta
    pub split : files_below names files ≡ seen ++ rest
    pub after : Option Segments
    pub asks : request ≡ version_page names after page
    pub follows : listing names.dir after (map.entries files) ≡ rest
    pub found_is : found ≡ greatest_from None names seen
    -- each page but the last is full, and each after the first has its turn
    pub full : length seen ≡ (spent + one_if listed) * page
    pub more : one_if listed ≤ length rest

  -- the id is that of the greatest stored version
  pub record IsGreatest (id : ℕ) : Type 0 where
    pub small : id < 2 ^ 64
    pub most : IsMost names files id
    pub there : map.get files (version_path names id) ≡ None → ⊥

  -- where it is
  abbrev pub Holds : ℕ → ℕ → Bool → List Cached → LatestOp T → Type 0
  Holds spent calls listed latest Looks = (latest ≡ first) × (listed ≡ false) × (spent ≡ 0) × (calls ≡ 0)
  Holds spent calls listed latest (Probes hand found next request) = Walks found hand spent calls listed latest × (held hand.id latest ≡ Some hand) × (found < 4) × (next ≡ hand.id + 1) × (next < 2 ^ 64) × (request ≡ version_got names next)
  Holds spent calls listed latest (Finds successor found) = Walks found successor spent calls listed latest × (held successor.id latest ≡ None) × (found ≤ 4) × IsStored names files successor
  Holds spent calls listed latest (Lists found request) = Seeks latest × Listing found request spent listed
  Holds spent calls listed latest (Chooses greatest) = Seeks latest × (greatest ≡ greatest_from None names (files_below names files))
  Holds spent calls listed latest (Gets id request) = Seeks latest × IsGreatest id × (request ≡ version_got names id)
  Holds spent calls listed latest (Keeps version value) = Seeks latest × IsGreatest version.id × IsStored names files version × (decode version.bytes ≡ Some value)
  Holds spent calls listed latest (Drops id) = ⊥
  Holds spent calls listed latest Ended = ⊥

-- no turn was spent, or one for each full page before the last
abbrev pub HasSpent : Names → ℕ → Files → ℕ → Type 0
HasSpent names page files spent = (spent ≡ 0) ⊎ (spent * page < length (files_below names files))

-- A read that goes on, from what it began with.
pub record Running {T : Type 0} (names : Names) (page : ℕ) (decode : List ℕ → Option T) (old new : State) (turns turns' : ℕ) (first latest : List Cached) (listed : Bool) (op : LatestOp T) : Type 0 where
  pub ascending : Ascends first
  pub small : IfSome (greatest_held first) (λ version. version.id < 2 ^ 64)
  pub kept : Kept old new
  pub spent : ℕ
  pub spent_is : turns ≡ turns' + spent
  pub has_spent : HasSpent names page old.files spent
  pub calls : ℕ
  pub calls_are : new.calls ≡ old.calls + calls
  pub calls_most : calls + calls_left listed op ≤ 6 + spent
  pub failures_rise : old.failures ≤ new.failures
  pub grown : HasGrown names old.files first latest
  pub holds : Holds names page decode old.files first spent calls listed latest op
