-- What an operation of any covered call has left, and that each of its looks and replies takes some of it.
use Rattle.std.proofs.Common.{◌≡◌, ℕ, ◌+◌, ◌*◌, ◌≤◌, ◌==◌, Bool, true, false, List, [], ◌∷◌, length, Option, Some, None, Result, Ok, Err, ◌⊎◌, inl, inr, refl, sym, ◌∙◌, ap, subst, arith}
use Rattle.std.specs.FinMap as finmap
use Rattle.std.proofs.lemmas.Bool.{cases_Bool}
use Rattle.txn_store.specs.Paths.{Segments, is_below}
use Rattle.txn_store.specs.Store.{Files, State as StoreState, is_above, listing, page_of}
use Rattle.txn_store.specs.Requests.{Serves}
use Rattle.txn_store.specs.declared.page.Page.{Page}
use Rattle.txn_store.specs.declared.store.Got.{Got}
use Rattle.txn_store.specs.declared.request.Request.{Request}
use Rattle.txn_store.specs.declared.request.Reply.{Reply}
use Rattle.txn_store.specs.declared.request.Reply.TheVariants as replies
use Rattle.txn_steps.specs.declared.boundary.boundary_read.BoundaryRead.{BoundaryRead}
use Rattle.txn_steps.specs.declared.boundary.boundary_read.BoundaryRead.TheVariants as reading
use Rattle.txn_steps.specs.declared.boundary.caches.Cached.{Cached}
use Rattle.txn_steps.specs.declared.boundary.caches.CachedBoundary.{CachedBoundary}
use Rattle.txn_steps.specs.declared.boundary.caches.Caches.{Caches}
use Rattle.txn_steps.specs.declared.boundary.check.CheckOp.{CheckOp}
use Rattle.txn_steps.specs.declared.boundary.turned.Turned.{Turned}
use Rattle.txn_steps.specs.declared.boundary.turned.Turned.TheVariants.{Goes, Done}
use Rattle.txn_steps.specs.boundary.Asking.{unless_lacking}
use Rattle.txn_steps.specs.boundary.Counts.{Budget, SpendsOne, no_budget, budget_after}
use Rattle.txn_steps.specs.declared.latest.LatestOp.{LatestOp}
use Rattle.txn_steps.specs.declared.latest.LatestOp.TheVariants as latest
use Rattle.txn_steps.specs.declared.listing.ListOp.{ListOp}
use Rattle.txn_steps.specs.declared.write.WriteOp.{WriteOp}
use Rattle.txn_steps.specs.CallsLeft.{write_budget}
use Rattle.txn_steps.specs.declared.read.ReadOp.{ReadOp}
use Rattle.txn_steps.specs.declared.read.ReadOp.TheVariants as reads
use Rattle.txn_steps.specs.Latest.{ReadAnswer}
use Rattle.txn_steps.specs.Listed.{Listed}
use Rattle.txn_steps.specs.Listings.{listing_after, listing_turned}
use Rattle.txn_steps.specs.Reads.{IsInRange, read_started, read_turned}
use Rattle.txn_steps.specs.Requests.{version_page, next_after}
use Rattle.txn_history.specs.Trace.{PlainRow}
use Rattle.txn_history.specs.History.{newest, boundary}
use Rattle.txn_history.specs.Names.{world_names, world_boundary}
use Rattle.txn_machine.specs.declared.plain.doing.PlainDoing.{PlainDoing}
use Rattle.txn_machine.specs.declared.plain.doing.PlainDoing.TheVariants as doings
use Rattle.txn_machine.specs.plain.Doing as plain
use Rattle.txn_store.specs.declared.types.error.TransactionalObjectError.{TransactionalObjectError}
use Rattle.txn_store.specs.types.Epochs.{claimed_epoch}
use Rattle.txn_steps_views.specs.declared.claim.ClaimOp.{ClaimOp}
use Rattle.txn_steps_views.specs.declared.claiming.Claiming.{Claiming}
use Rattle.txn_steps_views.specs.declared.claiming.Claiming.TheVariants as claiming
use Rattle.txn_steps_views.specs.Attempts.{followed, attempt_turned, claiming_caches_after, entered_with, refreshed_turned, claiming_turned}
use Rattle.txn_steps_views.specs.Claims.{claim_ended, claim_next}
use Rattle.txn_steps_views.specs.declared.op.ViewOp.TheVariants as ops
use Rattle.txn_steps_views.specs.declared.outcome.Outcome.{Outcome}
use Rattle.txn_steps_views.specs.declared.view_read.Purpose.{Purpose}
use Rattle.txn_steps_views.specs.Readings.{seen}
use Rattle.txn_steps_views.specs.ViewOps.{held}
use Rattle.txn_steps_views.specs.ViewReads.{as_view_read, shown}
use Rattle.txn_machine.specs.declared.doing.Doing.{Doing}
use Rattle.txn_machine.specs.declared.doing.Doing.TheVariants as does
use Rattle.txn_machine.specs.CallsLeft.{any_budget}
use Rattle.txn_machine.specs.Doing.{Next, ended, plain_next, view_next, next_of, turned, caches_after, IsReply}
use Rattle.txn_world.proofs.finishing.Paged.{IsPaged, LatestPaged, ReadPaged}
use Rattle.txn_world.proofs.finishing.Attempts.{Final, FinalOn, final_same}
use Rattle.txn_world.proofs.finishing.Fresh.{FreshBoundary, FreshCheck, Fresh, FreshOn}
use Rattle.txn_machine.proofs.Spending.{Spent, turn_spends}
use Rattle.txn_world.proofs.finishing.Tries.{metas_after, PagesLeft, page_taken, check_small, LatestCost, ReadCost, ReadLeft, ReadOn, left_same, seeking_same}

-- the pages of a listing, from wherever it is

-- a listing has at most g pages, of which there is one at least
pub record Listings (files : Files) (page g : ℕ) : Type 0 where
  pub room : 1 ≤ page
  pub some : 1 ≤ g
  pub few : length (metas_after files None) ≤ g * page

fewer_after : (after : Option Segments) (es : List (Segments × Got)) → length (listing world_names.dir after es) ≤ length (listing world_names.dir None es)
fewer_after after [] = omega arith
fewer_after after (e ∷ es) =
    let rest = fewer_after after es in
    elim (cases_Bool (is_below world_names.dir e.0)) [
      | inr other ↦ rw other rest
      | inl below ↦ elim (cases_Bool (is_above after e.0)) [
        | inl up ↦ rw (below, up) (omega (arith, rest))
        | inr out ↦ rw (below, out) (omega (arith, rest))
      ]
    ]

pub pages_from : (files : Files) (page g : ℕ) (request : Request) → Listings files page g → IsPaged page request → PagesLeft files page request g
pages_from files page g request l p =
    record { after = p.0; limit = page; room = l.room; fits = omega arith; asks = p.1; some = l.some; few = (let fewer = fewer_after p.0 (finmap.entries files) in let few = l.few in omega (arith, fewer, few)) }

pub fresh_pages : (files : Files) (page g : ℕ) → Listings files page g → PagesLeft files page (version_page world_names None page) g
fresh_pages files page g l = pages_from files page g (version_page world_names None page) l (None, refl)

module _ {T : Type 0} (files : Files) (page g : ℕ) (l : Listings files page g) where
  latest_small : (op : LatestOp T) → plain.InRange (doings.Read (reads.Reads op (reading.Looks world_boundary))) → LatestPaged page op → LatestCost files page g op (12 + g)
  latest_small latest.Looks r p = omega arith
  latest_small (latest.Probes hand found next request) r p = (r, omega arith)
  latest_small (latest.Finds successor found) r p = (r, omega arith)
  latest_small (latest.Lists found request) r p = (g, pages_from files page g request l p, omega arith)
  latest_small (latest.Chooses greatest) r p = omega arith
  latest_small (latest.Gets id request) r p = omega arith
  latest_small (latest.Keeps version value) r p = omega arith
  latest_small (latest.Drops id) r p = omega arith
  latest_small latest.Ended r p = tt

  -- whatever the state of a read, this try costs at most as much as one that begins
  pub cost_small : (read : ReadOp T) → IsInRange read → ReadPaged page read → ReadCost files page g read (17 + g)
  cost_small (reads.Reads op ahead) r p = (12 + g, omega arith, latest_small op r p)
  cost_small (reads.Checks id value check) r p = (let small = check_small check in omega (arith, small))
  cost_small reads.Ended r p = tt

  -- and a first one may follow
  pub any_left_of : (rows : List (PlainRow T)) (read : ReadOp T) (versions : List Cached) (n : ℕ) → IsInRange read → ReadPaged page read → 40 + 2 * g ≤ n → ReadLeft rows files page g read versions n
  any_left_of rows read versions n r p enough = record { cost = 17 + g; costs = cost_small read r p; tries = inl (omega (arith, enough)) }

  -- one more where it begins
  pub first_left : (rows : List (PlainRow T)) (versions : List Cached) → ReadLeft {T = T} rows files page g (read_started world_boundary) versions (23 + g)
  first_left rows versions = record { cost = 17 + g; costs = cost_small (read_started world_boundary) tt tt; tries = inr (inl (inl tt, omega arith)) }

-- what is left of an operation

module _ {T : Type 0} (rows : List (PlainRow T)) (files : Files) (page g : ℕ) where
  -- an operation whose call has a bound whatever others do
  abbrev pub BoundedLeft : Doing T → ℕ → Type 0
  BoundedLeft doing n = (left : Budget) × (any_budget doing ≡ Some left) × (left.looks + left.calls ≤ n)

  abbrev pub PlainLeft : PlainDoing T → Caches → ℕ → Type 0
  PlainLeft (doings.Read read) versions n = Listings files page g × ReadLeft rows files page g read versions.latest n
  PlainLeft (doings.ListIds list) versions n = Listings files page g × (k : ℕ) × PagesLeft files page list.request k × (k ≤ n)
  PlainLeft (doings.Write op) versions n = BoundedLeft (does.Plain (doings.Write op)) n
  PlainLeft (doings.WriteUnchecked op) versions n = BoundedLeft (does.Plain (doings.WriteUnchecked op)) n
  PlainLeft (doings.ReadUnchecked op) versions n = BoundedLeft (does.Plain (doings.ReadUnchecked op)) n
  PlainLeft (doings.ReadSeen op) versions n = BoundedLeft (does.Plain (doings.ReadSeen op)) n
  PlainLeft (doings.Delete op) versions n = BoundedLeft (does.Plain (doings.Delete op)) n
  PlainLeft (doings.Check op) versions n = BoundedLeft (does.Plain (doings.Check op)) n
  PlainLeft (doings.Advance op) versions n = ⊥
  PlainLeft doings.Ended versions n = Unit {0}

  -- A claim. An attempt that is not on the newest version may be followed by a read that begins, and by the last attempt.
  abbrev pub AttemptLeft : WriteOp → ℕ → Type 0
  AttemptLeft write n = (w : ℕ) × ((write_budget write).looks + (write_budget write).calls ≤ w) × ((Final rows write × (w ≤ n)) ⊎ (w + ((23 + g) + 7) ≤ n))

  abbrev pub RefreshLeft : ReadOp T → Caches → ℕ → Type 0
  RefreshLeft read caches n = Listings files page g × (k : ℕ) × ReadLeft rows files page g read caches.latest k × ((Fresh rows read caches × (k + 7 ≤ n)) ⊎ (k + (14 + (23 + g)) ≤ n))

  abbrev pub ClaimLeft : Claiming T → Caches → ℕ → Type 0
  ClaimLeft (claiming.Writes write value epoch) caches n = AttemptLeft write n
  ClaimLeft (claiming.Reads read) caches n = RefreshLeft read caches n
  ClaimLeft claiming.Ended caches n = Unit {0}

  abbrev pub WorkLeft : Doing T → Caches → ℕ → Type 0
  WorkLeft (does.Plain doing) versions n = PlainLeft doing versions n
  WorkLeft (does.View (ops.Reads op)) versions n = Listings files page g × ReadLeft rows files page g op.read versions.latest n
  WorkLeft (does.View (ops.Enters op)) versions n = BoundedLeft (does.View (ops.Enters op)) n
  WorkLeft (does.View (ops.Claims op)) versions n = ClaimLeft op.claiming versions n

  -- a look or a reply takes one of what is left at least
  abbrev pub WorkOn : ℕ → Caches → Next T → Type 0
  WorkOn n versions next = (rest : ℕ) × (rest + 1 ≤ n) × WorkLeft next.0 versions rest

  pub as_bounded : (doing : Doing T) (versions : Caches) (n : ℕ) (left : Budget) → any_budget doing ≡ Some left → left.looks + left.calls ≤ n → WorkLeft doing versions n
  as_bounded (does.Plain (doings.Read read)) versions n left e le = cc
  as_bounded (does.Plain (doings.ListIds list)) versions n left e le = cc
  as_bounded (does.Plain (doings.Write op)) versions n left e le = (left, e, le)
  as_bounded (does.Plain (doings.WriteUnchecked op)) versions n left e le = (left, e, le)
  as_bounded (does.Plain (doings.ReadUnchecked op)) versions n left e le = (left, e, le)
  as_bounded (does.Plain (doings.ReadSeen op)) versions n left e le = (left, e, le)
  as_bounded (does.Plain (doings.Delete op)) versions n left e le = (left, e, le)
  as_bounded (does.Plain (doings.Check op)) versions n left e le = (left, e, le)
  as_bounded (does.Plain (doings.Advance op)) versions n left e le = cc
  as_bounded (does.Plain doings.Ended) versions n left e le = tt
  as_bounded (does.View (ops.Reads op)) versions n left e le = cc
  as_bounded (does.View (ops.Enters op)) versions n left e le = (left, e, le)
  as_bounded (does.View (ops.Claims op)) versions n left e le = cc

  -- an end takes all
  ends_on : (n : ℕ) (versions : Caches) (next : Next T) → 1 ≤ n → next.0 ≡ ended → WorkOn n versions next
  ends_on n versions next some e = (0, some, subst (λ (d : Doing T). WorkLeft d versions 0) (sym e) tt)

  pub spent_on : (reply : Option Reply) (before : Budget) (n : ℕ) (versions : Caches) (next : Next T) → before.looks + before.calls ≤ n → Spent reply before next → WorkOn n versions next
  spent_on None before n versions next le s = (s.0.looks + s.0.calls, (let a = s.2.0 in let b = s.2.1 in omega (arith, a, b, le)), as_bounded next.0 versions (s.0.looks + s.0.calls) s.0 s.1 (omega arith))
  spent_on (Some reply) before n versions next le s = (s.0.looks + s.0.calls, (let a = s.2.0 in let b = s.2.1 in omega (arith, a, b, le)), as_bounded next.0 versions (s.0.looks + s.0.calls) s.0 s.1 (omega arith))

  -- a read, and what it is part of

  abbrev pub Follows : (ReadOp T → Doing T) → ReadOp T × Turned (ReadAnswer T) → Next T → Type 0
  Follows whole told next = (next.0 ≡ ended) ⊎ ((told ≡ (told.0, Goes)) × (next ≡ (whole told.0, None)))

  pub plain_follows : (lacking : Bool) (told : ReadOp T × Turned (ReadAnswer T)) → Follows (λ read. does.Plain (doings.Read read)) told (plain_next (plain.or_no_memory lacking (plain.read_next told)))
  plain_follows true told = inl refl
  plain_follows false (read, Goes) = inr (refl, refl)
  plain_follows false (read, Done (Ok found)) = inl refl
  plain_follows false (read, Done (Err number)) = inl refl

  done_ends : (op : Doing T) (answer : Result (Outcome T) ℕ) → (next_of op (Done answer)).0 ≡ ended
  done_ends op (Ok outcome) = refl
  done_ends op (Err number) = refl

  pub view_follows : (purpose : Purpose) (see : Option (ℕ × T) → Result (Outcome T) ℕ) (lacking : Bool) (told : ReadOp T × Turned (ReadAnswer T)) →
      Follows (λ read. does.View (ops.Reads (as_view_read purpose read))) told (view_next (held ops.Reads (unless_lacking lacking (as_view_read purpose reads.Ended) (seen (as_view_read purpose) see told))))
  view_follows purpose see true told = inl refl
  view_follows purpose see false (read, Goes) = inr (refl, refl)
  view_follows purpose see false (read, Done (Ok found)) = inl (done_ends (does.View (ops.Reads (as_view_read purpose reads.Ended))) (see found))
  view_follows purpose see false (read, Done (Err number)) = inl refl

  -- where the read goes on, so does what it is part of
  pub follows_on : (whole : ReadOp T → Doing T) (n : ℕ) (told : ReadOp T × Turned (ReadAnswer T)) (next : Next T) (versions : Caches) (kept : List Cached) → 1 ≤ n → Follows whole told next → ReadOn rows files page g n kept told →
      ((read : ReadOp T) (m : ℕ) (after : Caches) → ReadLeft rows files page g read kept m → after.latest ≡ kept → WorkLeft (whole read) after m) → (next ≡ (whole told.0, None) → versions.latest ≡ kept) → WorkOn n versions next
  follows_on whole n told next versions kept some f on as_work same =
      elim f [
        | inl e ↦ ends_on n versions next some e
        | inr goes ↦
            let on' : ReadOn rows files page g n kept (told.0, Goes) = subst (λ (t : ReadOp T × Turned (ReadAnswer T)). ReadOn rows files page g n kept t) goes.0 on in
            (on'.0, on'.1, subst (λ (x : Next T). WorkLeft x.0 versions on'.0) (sym goes.1) (as_work told.0 on'.0 versions on'.2 (same goes.1)))
      ]

  -- a listing of ids

  pub list_next : (lacking : Bool) (n : ℕ) (versions : Caches) (x : ListOp × Turned (Result (List Listed) ℕ)) → Listings files page g → 1 ≤ n → (x.1 ≡ Goes → (k : ℕ) × (k + 1 ≤ n) × PagesLeft files page x.0.request k) → WorkOn n versions (plain_next {T = T} (plain.or_no_memory lacking (plain.ids_next x)))
  list_next true n versions x l some h = (0, some, tt)
  list_next false n versions (list, Goes) l some h = (let on = h refl in (on.0, on.1, (l, on.0, on.2, omega arith)))
  list_next false n versions (list, Done (Ok found)) l some h = (0, some, tt)
  list_next false n versions (list, Done (Err number)) l some h = (0, some, tt)

  module _ (l : Listings files page g) (list : ListOp) (k n : ℕ) (p : PagesLeft files page list.request k) (enough : k ≤ n) where
    listed_on : (told : Page) (next : Option Segments) → next_after (page_of p.limit (metas_after files p.after)) ≡ next → (listing_after world_names page list told.metas next).1 ≡ Goes → (m : ℕ) × (m + 1 ≤ n) × PagesLeft files page (listing_after world_names page list told.metas next).0.request m
    listed_on told (Some after) e goes =
        let taken = page_taken files page list.request k p after e in
        (taken.0, (let less = taken.1 in omega (arith, less, enough)), record { after = Some after; limit = page; room = l.room; fits = omega arith; asks = refl; some = taken.2; few = taken.3 })
    listed_on told None e goes = cc

    pub listing_on : (store new : StoreState) (reply : Reply) → store.files ≡ files → Serves list.request store reply new → (listing_turned world_names page list (Some reply)).1 ≡ Goes → (m : ℕ) × (m + 1 ≤ n) × PagesLeft files page (listing_turned world_names page list (Some reply)).0.request m
    listing_on store new reply is serves = served reply (subst (λ (r : Request). Serves r store reply new) p.asks serves)
      where
        served : (reply : Reply) → Serves (version_page world_names p.after p.limit) store reply new → (listing_turned world_names page list (Some reply)).1 ≡ Goes → (m : ℕ) × (m + 1 ≤ n) × PagesLeft files page (listing_turned world_names page list (Some reply)).0.request m
        served (replies.List (Ok told)) s goes =
            let page_is : told ≡ page_of p.limit (metas_after files p.after) = s.listed ∙ ap (λ (fs : Files). page_of p.limit (metas_after fs p.after)) is in
            listed_on told (next_after told) (ap next_after (sym page_is)) goes
        served (replies.List (Err error)) s goes = cc
        served (replies.Get answer) s goes = absurd s
        served (replies.Put answer) s goes = absurd s
        served (replies.Delete answer) s goes = absurd s

-- a look or a reply takes one at least
pub spends_some : (reply : Option Reply) (before after : Budget) → SpendsOne reply before after → 1 ≤ before.looks + before.calls
spends_some None before after s = (let a = s.0 in omega (arith, a))
spends_some (Some told) before after s = (let b = s.1 in omega (arith, b))

-- what one more disturbance adds

module _ {T : Type 0} (g : ℕ) where
  abbrev pub plain_again : PlainDoing T → ℕ
  plain_again (doings.Read read) = (40 + 2 * g)
  plain_again (doings.ListIds list) = g
  plain_again (doings.Write op) = 0
  plain_again (doings.WriteUnchecked op) = 0
  plain_again (doings.ReadUnchecked op) = 0
  plain_again (doings.ReadSeen op) = 0
  plain_again (doings.Delete op) = 0
  plain_again (doings.Check op) = 0
  plain_again (doings.Advance op) = 0
  plain_again doings.Ended = 0

  abbrev pub again_of : Doing T → ℕ
  again_of (does.Plain doing) = plain_again doing
  again_of (does.View (ops.Reads op)) = (40 + 2 * g)
  again_of (does.View (ops.Enters op)) = 0
  again_of (does.View (ops.Claims op)) = (77 + 3 * g)

  pub bounded_again : (doing : Doing T) (left : Budget) → any_budget doing ≡ Some left → again_of doing ≡ 0
  bounded_again (does.Plain (doings.Read read)) left e = cc
  bounded_again (does.Plain (doings.ListIds list)) left e = cc
  bounded_again (does.Plain (doings.Write op)) left e = refl
  bounded_again (does.Plain (doings.WriteUnchecked op)) left e = refl
  bounded_again (does.Plain (doings.ReadUnchecked op)) left e = refl
  bounded_again (does.Plain (doings.ReadSeen op)) left e = refl
  bounded_again (does.Plain (doings.Delete op)) left e = refl
  bounded_again (does.Plain (doings.Check op)) left e = refl
  bounded_again (does.Plain (doings.Advance op)) left e = cc
  bounded_again (does.Plain doings.Ended) left e = refl
  bounded_again (does.View (ops.Reads op)) left e = cc
  bounded_again (does.View (ops.Enters op)) left e = refl
  bounded_again (does.View (ops.Claims op)) left e = cc

  pub follows_again : (whole : ReadOp T → Doing T) (told : ReadOp T × Turned (ReadAnswer T)) (next : Next T) → (next.0 ≡ ended) ⊎ ((told ≡ (told.0, Goes)) × (next ≡ (whole told.0, None))) → again_of (whole told.0) ≤ (40 + 2 * g) → again_of next.0 ≤ (40 + 2 * g)
  follows_again whole told next f le =
      elim f [
        | inl e ↦ (let none : again_of next.0 ≡ 0 = ap again_of e in omega (arith, none))
        | inr goes ↦ (let same : again_of next.0 ≡ again_of (whole told.0) = ap (λ (x : Next T). again_of x.0) goes.1 in omega (arith, same, le))
      ]

module _ (T : Type 0) (g : ℕ) where
  list_again : (lacking : Bool) (x : ListOp × Turned (Result (List Listed) ℕ)) → again_of g (plain_next {T = T} (plain.or_no_memory lacking (plain.ids_next x))).0 ≤ g
  list_again true x = omega arith
  list_again false (list, Goes) = omega arith
  list_again false (list, Done (Ok found)) = omega arith
  list_again false (list, Done (Err number)) = omega arith

  claim_again : (lacking : Bool) (op : ClaimOp T) (x : Claiming T × Turned (Result (Outcome T) ℕ)) → again_of g (view_next (held ops.Claims (unless_lacking lacking (claim_ended op) (claim_next op.asked x)))).0 ≤ (77 + 3 * g)
  claim_again true op x = omega arith
  claim_again false op (next, Goes) = omega arith
  claim_again false op (next, Done (Ok outcome)) = omega arith
  claim_again false op (next, Done (Err number)) = omega arith

module _ {T : Type 0} (page g : ℕ) (encode : T → List ℕ) (decode : List ℕ → Option T) (get_epoch : T → ℕ) (set_epoch : T → ℕ → T) (lacking : Bool) (caches : Caches) where
  spent_again : (reply : Option Reply) (left : Budget) (next : Next T) (before : ℕ) → Spent reply left next → again_of g next.0 ≤ before
  spent_again reply left next before s = (let none = bounded_again g next.0 s.0 s.1 in omega (arith, none))

  abbrev After : Doing T → Option Reply → Next T
  After doing reply = turned page encode decode get_epoch set_epoch lacking doing caches reply

  -- a turn adds nothing to it
  pub again_turn : (versions : Caches) (rows : List (PlainRow T)) (files : Files) (n : ℕ) (doing : Doing T) (reply : Option Reply) → IsReply doing reply → WorkLeft rows files page g doing versions n → again_of g (After doing reply).0 ≤ again_of g doing
  again_turn versions rows files n (does.Plain (doings.Read read)) reply is w = follows_again g (λ read. does.Plain (doings.Read read)) (read_turned world_names world_boundary page decode read caches reply) (After (does.Plain (doings.Read read)) reply) (plain_follows rows files page g lacking (read_turned world_names world_boundary page decode read caches reply)) (omega arith)
  again_turn versions rows files n (does.View (ops.Reads op)) reply is w = follows_again g (λ read. does.View (ops.Reads (as_view_read op.purpose read))) (read_turned world_names world_boundary page decode op.read caches reply) (After (does.View (ops.Reads op)) reply) (view_follows rows files page g op.purpose (shown get_epoch op.purpose) lacking (read_turned world_names world_boundary page decode op.read caches reply)) (omega arith)
  again_turn versions rows files n (does.Plain (doings.ListIds list)) reply is w = list_again T g lacking (listing_turned world_names page list reply)
  again_turn versions rows files n (does.Plain (doings.Write op)) reply is w = spent_again reply w.0 (After (does.Plain (doings.Write op)) reply) 0 (turn_spends page encode decode get_epoch set_epoch lacking caches (does.Plain (doings.Write op)) reply w.0 w.1 is)
  again_turn versions rows files n (does.Plain (doings.WriteUnchecked op)) reply is w = spent_again reply w.0 (After (does.Plain (doings.WriteUnchecked op)) reply) 0 (turn_spends page encode decode get_epoch set_epoch lacking caches (does.Plain (doings.WriteUnchecked op)) reply w.0 w.1 is)
  again_turn versions rows files n (does.Plain (doings.ReadUnchecked op)) reply is w = spent_again reply w.0 (After (does.Plain (doings.ReadUnchecked op)) reply) 0 (turn_spends page encode decode get_epoch set_epoch lacking caches (does.Plain (doings.ReadUnchecked op)) reply w.0 w.1 is)
  again_turn versions rows files n (does.Plain (doings.ReadSeen op)) reply is w = spent_again reply w.0 (After (does.Plain (doings.ReadSeen op)) reply) 0 (turn_spends page encode decode get_epoch set_epoch lacking caches (does.Plain (doings.ReadSeen op)) reply w.0 w.1 is)
  again_turn versions rows files n (does.Plain (doings.Delete op)) reply is w = spent_again reply w.0 (After (does.Plain (doings.Delete op)) reply) 0 (turn_spends page encode decode get_epoch set_epoch lacking caches (does.Plain (doings.Delete op)) reply w.0 w.1 is)
  again_turn versions rows files n (does.Plain (doings.Check op)) reply is w = spent_again reply w.0 (After (does.Plain (doings.Check op)) reply) 0 (turn_spends page encode decode get_epoch set_epoch lacking caches (does.Plain (doings.Check op)) reply w.0 w.1 is)
  again_turn versions rows files n (does.Plain (doings.Advance op)) reply is w = absurd w
  again_turn versions rows files n (does.Plain doings.Ended) reply is w = absurd is
  again_turn versions rows files n (does.View (ops.Enters op)) reply is w = spent_again reply w.0 (After (does.View (ops.Enters op)) reply) 0 (turn_spends page encode decode get_epoch set_epoch lacking caches (does.View (ops.Enters op)) reply w.0 w.1 is)
  again_turn versions rows files n (does.View (ops.Claims op)) reply is w = claim_again T g lacking op (claiming_turned world_names world_boundary page encode decode get_epoch set_epoch op.asked op.claiming caches reply)

-- over the rows of another state with the same newest version and boundary

fresh_boundary_same : (b b' m m' : ℕ) (cached : Option CachedBoundary) (id : ℕ) (read : BoundaryRead) → b ≡ b' → m ≡ m' → FreshBoundary b m cached id read → FreshBoundary b' m' cached id read
fresh_boundary_same b b' m m' cached id read eb em f = subst (λ (x : ℕ). FreshBoundary x m' cached id read) eb (subst (λ (x : ℕ). FreshBoundary b x cached id read) em f)

fresh_check_same : (b b' m m' : ℕ) (cached : Option CachedBoundary) (id : ℕ) (check : CheckOp) → b ≡ b' → m ≡ m' → FreshCheck b m cached id check → FreshCheck b' m' cached id check
fresh_check_same b b' m m' cached id check eb em f = subst (λ (x : ℕ). FreshCheck x m' cached id check) eb (subst (λ (x : ℕ). FreshCheck b x cached id check) em f)

module _ {T : Type 0} (rows others : List (PlainRow T)) (files : Files) (page g : ℕ) (newest_is : newest rows ≡ newest others) (boundary_is : boundary rows ≡ boundary others) where
  fresh_same : (read : ReadOp T) (caches : Caches) → Fresh rows read caches → Fresh others read caches
  fresh_same (reads.Reads op ahead) caches f = elim f [ inl probes ↦ inl probes | inr seeks ↦ inr (seeking_same rows others op newest_is seeks) ]
  fresh_same (reads.Checks id value check) caches f = fresh_check_same (boundary rows) (boundary others) (newest rows) (newest others) caches.boundary id check boundary_is newest_is f
  fresh_same reads.Ended caches f = tt

  claim_same : (claiming : Claiming T) (caches : Caches) (n : ℕ) → ClaimLeft rows files page g claiming caches n → ClaimLeft others files page g claiming caches n
  claim_same (claiming.Writes write value epoch) caches n c = (c.0, c.1, elim c.2 [ inl last ↦ inl (final_same rows others write newest_is last.0, last.1) | inr more ↦ inr more ])
  claim_same (claiming.Reads read) caches n c = (c.0, c.1, left_same rows others files page g read caches.latest c.1 newest_is c.2, elim c.3 [ inl fresh ↦ inl (fresh_same read caches fresh.0, fresh.1) | inr more ↦ inr more ])
  claim_same claiming.Ended caches n c = tt

  pub work_same : (doing : Doing T) (versions : Caches) (n : ℕ) → WorkLeft rows files page g doing versions n → WorkLeft others files page g doing versions n
  work_same (does.Plain (doings.Read read)) versions n w = (w.0, left_same rows others files page g read versions.latest n newest_is w.1)
  work_same (does.Plain (doings.ListIds list)) versions n w = w
  work_same (does.Plain (doings.Write op)) versions n w = w
  work_same (does.Plain (doings.WriteUnchecked op)) versions n w = w
  work_same (does.Plain (doings.ReadUnchecked op)) versions n w = w
  work_same (does.Plain (doings.ReadSeen op)) versions n w = w
  work_same (does.Plain (doings.Delete op)) versions n w = w
  work_same (does.Plain (doings.Check op)) versions n w = w
  work_same (does.Plain (doings.Advance op)) versions n w = w
  work_same (does.Plain doings.Ended) versions n w = w
  work_same (does.View (ops.Reads op)) versions n w = (w.0, left_same rows others files page g op.read versions.latest n newest_is w.1)
  work_same (does.View (ops.Enters op)) versions n w = w
  work_same (does.View (ops.Claims op)) versions n w = claim_same op.claiming versions n w

-- a turn of a claim

module _ {T : Type 0} (rows : List (PlainRow T)) (files : Files) (page g : ℕ) where
  -- it goes on with less, or is answered
  abbrev pub ClaimOn : ℕ → (Turned (Result (Outcome T) ℕ) → Caches) → Claiming T × Turned (Result (Outcome T) ℕ) → Type 0
  ClaimOn n left (claim, Goes) = (rest : ℕ) × (rest + 1 ≤ n) × ClaimLeft rows files page g claim (left Goes) rest
  ClaimOn n left (claim, Done answer) = Unit {0}

  pub claim_next_on : (lacking : Bool) (op : ClaimOp T) (caches : Caches) (n : ℕ) (x : Claiming T × Turned (Result (Outcome T) ℕ)) → 1 ≤ n → ClaimOn n (claiming_caches_after op.claiming caches) x →
      WorkOn rows files page g n (caches_after (does.View (ops.Claims op)) caches (view_next (held ops.Claims (unless_lacking lacking (claim_ended op) (claim_next op.asked x)))).1) (view_next (held ops.Claims (unless_lacking lacking (claim_ended op) (claim_next op.asked x))))
  claim_next_on true op caches n x some h = (0, some, tt)
  claim_next_on false op caches n (next, Goes) some h = h
  claim_next_on false op caches n (next, Done (Ok outcome)) some h = (0, some, tt)
  claim_next_on false op caches n (next, Done (Err number)) some h = (0, some, tt)

  -- after a conflict it reads anew
  pub conflict_on : (l : Listings files page g) (n : ℕ) (left : Turned (Result (Outcome T) ℕ) → Caches) → (23 + g) + 8 ≤ n → ClaimOn n left (claiming.Reads (read_started world_boundary), Goes)
  conflict_on l n left enough = ((23 + g) + 7, omega (arith, enough), (l, (23 + g), first_left files page g l rows (left Goes).latest, inl (inl tt, omega arith)))

  -- its attempt
  pub attempt_on : (l : Listings files page g) (value : T) (epoch n w : ℕ) (left : Turned (Result (Outcome T) ℕ) → Caches) (reply : Option Reply) (before : Budget) (x : WriteOp × Turned (Result ℕ ℕ)) → before.looks + before.calls ≤ w → SpendsOne reply before (budget_after x.1 (write_budget x.0)) →
      (FinalOn rows x × (w ≤ n)) ⊎ (w + ((23 + g) + 7) ≤ n) → ClaimOn n left (attempt_turned world_boundary value epoch x)
  attempt_on l value epoch n w left None before (write, Goes) le s f =
      let less : (write_budget write).looks + (write_budget write).calls + 1 ≤ w = (let a = s.0 in let b = s.1 in omega (arith, a, b, le)) in
      elim f [
        | inl last ↦ (let most = last.1 in ((write_budget write).looks + (write_budget write).calls, omega (arith, less, most), ((write_budget write).looks + (write_budget write).calls, omega arith, inl (last.0, omega arith))))
        | inr more ↦ ((write_budget write).looks + (write_budget write).calls + ((23 + g) + 7), omega (arith, less, more), ((write_budget write).looks + (write_budget write).calls, omega arith, inr (omega arith)))
      ]
  attempt_on l value epoch n w left (Some told) before (write, Goes) le s f =
      let less : (write_budget write).looks + (write_budget write).calls + 1 ≤ w = (let a = s.0 in let b = s.1 in omega (arith, a, b, le)) in
      elim f [
        | inl last ↦ (let most = last.1 in ((write_budget write).looks + (write_budget write).calls, omega (arith, less, most), ((write_budget write).looks + (write_budget write).calls, omega arith, inl (last.0, omega arith))))
        | inr more ↦ ((write_budget write).looks + (write_budget write).calls + ((23 + g) + 7), omega (arith, less, more), ((write_budget write).looks + (write_budget write).calls, omega arith, inr (omega arith)))
      ]
  attempt_on l value epoch n w left reply before (write, Done (Ok id)) le s f = tt
  attempt_on l value epoch n w left reply before (write, Done (Err number)) le s f =
      elim (cases_Bool (number == 5)) [
        | inr other ↦ rw other tt
        | inl five ↦ rw five (elim f [
          | inl last ↦ absurd (let clash : true ≡ false = sym five ∙ last.0 in cc)
          | inr more ↦ conflict_on l n left (let some = spends_some reply before no_budget s in omega (arith, some, le, more))
        ])
      ]

  -- its read
  pub found_on : (encode : T → List ℕ) (get_epoch : T → ℕ) (set_epoch : T → ℕ → T) (asked : Option ℕ) (n k : ℕ) (left : Turned (Result (Outcome T) ℕ) → Caches) (id : ℕ) (value : T) (epoch : Result ℕ TransactionalObjectError) → 1 ≤ k → ((id ≡ newest rows) × (k + 7 ≤ n)) ⊎ (k + (14 + (23 + g)) ≤ n) →
      ClaimOn n left (followed (entered_with world_names world_boundary encode set_epoch epoch id value))
  found_on encode get_epoch set_epoch asked n k left id value (Err error) some f = tt
  found_on encode get_epoch set_epoch asked n k left id value (Ok epoch) some f =
      elim (cases_Bool (id == 18446744073709551615)) [
        | inl last ↦ rw last tt
        | inr next ↦ rw next (elim f [
          | inl newest_is ↦ (7, (let most = newest_is.1 in omega (arith, some, most)), (7, omega arith, inl ((let is = newest_is.0 in omega (arith, is)), omega arith)))
          | inr more ↦ (7 + ((23 + g) + 7), omega (arith, some, more), (7, omega arith, inr (omega arith)))
        ])
      ]

  pub refresh_on : (l : Listings files page g) (encode : T → List ℕ) (get_epoch : T → ℕ) (set_epoch : T → ℕ → T) (asked : Option ℕ) (n k : ℕ) (left : Turned (Result (Outcome T) ℕ) → Caches) (kept : Caches) (told : ReadOp T × Turned (ReadAnswer T)) → left Goes ≡ kept → 1 ≤ k → ReadOn rows files page g k kept.latest told → (FreshOn rows kept told × (k + 7 ≤ n)) ⊎ (k + (14 + (23 + g)) ≤ n) →
      ClaimOn n left (refreshed_turned world_names world_boundary encode get_epoch set_epoch asked told)
  refresh_on l encode get_epoch set_epoch asked n k left kept (read, Goes) is some on f =
      let less = on.1 in
      elim f [
        | inl fresh ↦ (let most = fresh.1 in (on.0 + 7, omega (arith, less, most), subst (λ (c : Caches). RefreshLeft rows files page g read c (on.0 + 7)) (sym is) (l, on.0, on.2, inl (fresh.0, omega arith))))
        | inr more ↦ (on.0 + (14 + (23 + g)), omega (arith, less, more), subst (λ (c : Caches). RefreshLeft rows files page g read c (on.0 + (14 + (23 + g)))) (sym is) (l, on.0, on.2, inr (omega arith)))
      ]
  refresh_on l encode get_epoch set_epoch asked n k left kept (read, Done (Ok None)) is some on f = tt
  refresh_on l encode get_epoch set_epoch asked n k left kept (read, Done (Ok (Some found))) is some on f = found_on encode get_epoch set_epoch asked n k left found.0 found.1 (claimed_epoch asked (get_epoch found.1)) some f
  refresh_on l encode get_epoch set_epoch asked n k left kept (read, Done (Err number)) is some on f = tt
