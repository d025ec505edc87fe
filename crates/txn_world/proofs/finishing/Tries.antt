-- What a read of the newest version has left where nothing disturbs it: of this try, and of the tries that may follow.
use Rattle.std.proofs.Common.{◌≡◌, ℕ, zero, suc, ◌+◌, ◌*◌, ◌-◌, ◌<◌, ◌≤◌, ◌==◌, nat_lt, if◌then◌else◌, Bool, false, List, length, take, Option, Some, None, Ok, Err, Result, ◌⊎◌, inl, inr, refl, sym, ◌∙◌, ap, subst, arith}
use Rattle.std.specs.FinMap as finmap
use Rattle.std.proofs.lemmas.Bool.{cases_Bool, cases_lt, ltb-true, eqb-false}
use Rattle.std.proofs.lemmas.List.{length-drop}
use Rattle.std.proofs.lemmas.Option.{same_Some}
use Rattle.txn_store.specs.Paths.{Segments}
use Rattle.txn_store.specs.Store.{Files, State as StoreState, listing, page_of}
use Rattle.txn_store.specs.Requests.{Serves}
use Rattle.txn_store.specs.declared.store.Got.{Got}
use Rattle.txn_store.specs.declared.store.ObjectMeta.{ObjectMeta}
use Rattle.txn_store.specs.declared.store.StoreError.{StoreError}
use Rattle.txn_store.specs.declared.store.StoreError.TheVariants as errors
use Rattle.txn_store.specs.declared.request.Request.{Request}
use Rattle.txn_store.specs.declared.request.Reply.{Reply}
use Rattle.txn_store.specs.declared.request.Reply.TheVariants as replies
use Rattle.txn_steps.specs.declared.boundary.boundary_read.BoundaryRead.{BoundaryRead}
use Rattle.txn_steps.specs.declared.boundary.boundary_read.BoundaryRead.TheVariants as reading
use Rattle.txn_steps.specs.declared.boundary.caches.Cached.{Cached}
use Rattle.txn_steps.specs.declared.boundary.caches.Caches.{Caches}
use Rattle.txn_steps.specs.declared.boundary.check.BoundaryStep.{BoundaryStep}
use Rattle.txn_steps.specs.declared.boundary.check.BoundaryStep.TheVariants as boundary_step
use Rattle.txn_steps.specs.declared.boundary.check.CheckOp.{CheckOp}
use Rattle.txn_steps.specs.declared.boundary.check.CheckOp.TheVariants as checks
use Rattle.txn_steps.specs.declared.boundary.turned.Turned.{Turned}
use Rattle.txn_steps.specs.declared.boundary.turned.Turned.TheVariants.{Goes, Done}
use Rattle.txn_steps.specs.boundary.Counts.{Budget, SpendsOne, boundary_check_budget_at, check_budget}
use Rattle.txn_steps.specs.boundary.Checks.{check_of_read, check_turned}
use Rattle.txn_steps.specs.boundary.Windows.{held, greatest_held}
use Rattle.txn_steps.proofs.boundary.CountLemmas.{check_spends, after}
use Rattle.txn_steps.specs.declared.latest.LatestOp.{LatestOp}
use Rattle.txn_steps.specs.declared.latest.LatestOp.TheVariants as latest
use Rattle.txn_steps.specs.declared.read.ReadOp.{ReadOp}
use Rattle.txn_steps.specs.declared.read.ReadOp.TheVariants as reads
use Rattle.txn_steps.specs.Requests.{version_page, last_location, next_after}
use Rattle.txn_steps.specs.Latest.{ReadAnswer, IsLatestReply, greatest_from, latest_listing, latest_turned, paged_turned, unlisted, read_in_hand, probed, keeping, in_hand, held_or_got, chosen, begins_with, found_turned, latest_got, latest_replied}
use Rattle.txn_steps.specs.Reads.{IsReadReply, read_started, read_turned, reads_turned, checks_turned}
use Rattle.txn_steps_driven.proofs.NextPages.{next_page}
use Rattle.txn_history.specs.Trace.{PlainRow}
use Rattle.txn_history.specs.Names.{world_names, world_boundary}
use Rattle.txn_history.specs.History.{newest}
use Rattle.txn_machine.proofs.plain.Resting.{FoundNewest, Probing, Seeking, Emptied, First, Second, Given}

-- listings

abbrev pub metas_after : Files → Option Segments → List ObjectMeta
metas_after files after = listing world_names.dir after (finmap.entries files)

-- A listing that asks for its next page, and has at most so many pages left, that one among them. A page takes as many files as `unit` at least.
pub record PagesLeft (files : Files) (unit : ℕ) (request : Request) (k : ℕ) : Type 0 where
  pub after : Option Segments
  pub limit : ℕ
  pub room : 1 ≤ limit
  pub fits : unit ≤ limit
  pub asks : request ≡ version_page world_names after limit
  pub some : 1 ≤ k
  pub few : length (metas_after files after) ≤ k * unit

fewer_pages : (k unit limit long : ℕ) → 1 ≤ k → unit ≤ limit → long ≤ k * unit → limit < long → (rest : ℕ) × (rest + 1 ≤ k) × (1 ≤ rest) × (long - limit ≤ rest * unit)
fewer_pages zero unit limit long some fits few lt = absurd (omega (arith, some))
fewer_pages (suc zero) unit limit long some fits few lt = absurd (let one : 1 * unit ≡ unit = grind arith in omega (arith, lt, few, fits, one))
fewer_pages (suc (suc j)) unit limit long some fits few lt =
    let times : suc (suc j) * unit ≡ suc j * unit + unit = grind arith in
    (suc j, omega arith, omega arith, omega (arith, few, fits, times))

-- where more follow, fewer are left
pub page_taken : (files : Files) (unit : ℕ) (request : Request) (k : ℕ) (p : PagesLeft files unit request k) (path : Segments) → next_after (page_of p.limit (metas_after files p.after)) ≡ Some path →
    (rest : ℕ) × (rest + 1 ≤ k) × (1 ≤ rest) × (length (metas_after files (Some path)) ≤ rest * unit)
page_taken files unit request k p path e =
    let metas = metas_after files p.after in
    elim (cases_Bool (nat_lt p.limit (length metas))) [
      | inr out ↦ absurd (
          let none : next_after (page_of p.limit metas) ≡ None = ap (λ (b : Bool). if◌then◌else◌ {A = Option Segments} b (last_location (take p.limit metas)) None) out in
          let clash : Some path ≡ None = sym e ∙ none in
          cc
          )
      | inl more ↦
          let lt = ltb-true p.limit (length metas) more in
          let next = next_page world_names.dir (finmap.entries files) (finmap.entries_sorted files) p.after p.limit p.room lt in
          let at : next_after (page_of p.limit metas) ≡ Some next.0 = ap (λ (b : Bool). if◌then◌else◌ {A = Option Segments} b (last_location (take p.limit metas)) None) more ∙ next.1 in
          let same : next.0 ≡ path = same_Some next.0 path (sym at ∙ e) in
          let long : length (metas_after files (Some next.0)) ≡ length metas - p.limit = ap (λ (ms : List ObjectMeta). length ms) next.2 ∙ length-drop p.limit metas in
          let fewer = fewer_pages k unit p.limit (length metas) p.some p.fits p.few lt in
          (fewer.0, fewer.1, fewer.2, subst (λ (at' : Segments). length (metas_after files (Some at')) ≤ fewer.0 * unit) same (omega (arith, long, fewer.3)))
    ]

-- this try

abbrev pub check_cost : CheckOp → ℕ
check_cost check = (check_budget check).looks + (check_budget check).calls

-- a check has at most five looks and calls left
step_small : (step : BoundaryStep) (read : BoundaryRead) → (boundary_check_budget_at step read).looks + (boundary_check_budget_at step read).calls ≤ 4
step_small boundary_step.Looks (reading.Looks path) = omega arith
step_small boundary_step.Looks (reading.Gets request) = omega arith
step_small boundary_step.Looks (reading.Holds known) = omega arith
step_small boundary_step.Reads (reading.Looks path) = omega arith
step_small boundary_step.Reads (reading.Gets request) = omega arith
step_small boundary_step.Reads (reading.Holds known) = omega arith

pub check_small : (check : CheckOp) → check_cost check ≤ 5
check_small (checks.Checks check) = (let small = step_small check.step check.read in omega (arith, small))
check_small (checks.Drops id) = omega arith

module _ {T : Type 0} (files : Files) (unit g : ℕ) where
  -- An unchecked read has at most so many steps left, where a listing has at most g pages.
  abbrev pub LatestCost : LatestOp T → ℕ → Type 0
  LatestCost latest.Looks n = 12 + g ≤ n
  LatestCost (latest.Probes hand found next request) n = (found < 4) × (2 * (4 - found) + 3 + g ≤ n)
  LatestCost (latest.Finds successor found) n = (found ≤ 4) × (2 * (4 - found) + 4 + g ≤ n)
  LatestCost (latest.Lists found request) n = (k : ℕ) × PagesLeft files unit request k × (k + 3 ≤ n)
  LatestCost (latest.Chooses greatest) n = 3 ≤ n
  LatestCost (latest.Gets id request) n = 2 ≤ n
  LatestCost (latest.Keeps version value) n = 1 ≤ n
  LatestCost (latest.Drops id) n = 1 ≤ n
  LatestCost latest.Ended n = Unit {0}

  -- a read has at most so many left of this try: five of them for its check
  abbrev pub ReadCost : ReadOp T → ℕ → Type 0
  ReadCost (reads.Reads op ahead) n = (m : ℕ) × (m + 5 ≤ n) × LatestCost op m
  ReadCost (reads.Checks id value check) n = check_cost check ≤ n
  ReadCost reads.Ended n = Unit {0}

  -- a step takes one of them at least
  abbrev LatestOn : ℕ → LatestOp T × Turned (ReadAnswer T) → Type 0
  LatestOn n (op, Goes) = (rest : ℕ) × (rest + 1 ≤ n) × LatestCost op rest
  LatestOn n (op, Done (Ok None)) = Unit {0}
  LatestOn n (op, Done (Ok (Some found))) = 1 ≤ n
  LatestOn n (op, Done (Err number)) = Unit {0}

  abbrev pub CostOn : ℕ → ReadOp T × Turned (ReadAnswer T) → Type 0
  CostOn n (read, Goes) = (rest : ℕ) × (rest + 1 ≤ n) × ReadCost read rest
  CostOn n (read, Done answer) = Unit {0}

  -- the get of a version that it chose misses
  abbrev pub Misses : LatestOp T → Option Reply → Type 0
  Misses (latest.Gets id request) reply = reply ≡ Some (replies.Get (Err errors.NotFound))
  Misses _ reply = ⊥

  abbrev pub Missed : ReadOp T → Option Reply → Type 0
  Missed (reads.Reads op ahead) reply = Misses op reply
  Missed (reads.Checks id value check) reply = ⊥
  Missed reads.Ended reply = ⊥

  -- what runs has something left
  pub some_left : (read : ReadOp T) (reply : Option Reply) (n : ℕ) → IsReadReply read reply → ReadCost read n → 1 ≤ n
  some_left (reads.Reads op ahead) reply n is cost = (let m = cost.1 in omega (arith, m))
  some_left (reads.Checks id value (checks.Checks check)) reply n is cost = omega (arith, cost)
  some_left (reads.Checks id value (checks.Drops i)) reply n is cost = omega (arith, cost)
  some_left reads.Ended reply n is cost = absurd is

  module _ (decode : List ℕ → Option T) (page : ℕ) (paged : unit ≤ page) (room : 1 ≤ page) (fresh : PagesLeft files unit (version_page world_names None page) g) (n : ℕ) where
    hand_cost : (op : LatestOp T) (id : ℕ) (value : Option T) → 1 ≤ n → LatestOn n (read_in_hand decode op id value)
    hand_cost op id (Some value) enough = enough
    hand_cost op id None enough = tt

    in_hand_cost : (op : LatestOp T) (hand : Cached) (found : ℕ) → found < 4 → 2 * (4 - found) + 4 + g ≤ n → LatestOn n (in_hand world_names decode op hand found)
    in_hand_cost op hand found few enough =
        elim (cases_Bool (hand.id == 18446744073709551615)) [
          | inl last ↦ rw last (hand_cost op hand.id (decode hand.bytes) (omega (arith, enough)))
          | inr next ↦ rw next (2 * (4 - found) + 3 + g, omega (arith, enough), (few, omega arith))
        ]

    -- a listing from its first page on
    lists_cost : g + 4 ≤ n → LatestOn n (latest_listing world_names page, Goes)
    lists_cost enough = (g + 3, omega (arith, enough), (g, fresh, omega arith))

    begins_cost : (op : LatestOp T) (o : Option Cached) → 12 + g ≤ n → LatestOn n (begins_with world_names page decode op o)
    begins_cost op None enough = lists_cost (omega (arith, enough))
    begins_cost op (Some hand) enough = in_hand_cost op hand 0 (omega arith) (omega (arith, enough))

    found_cost : (op : LatestOp T) (successor : Cached) (found : ℕ) → found ≤ 4 → 2 * (4 - found) + 4 + g ≤ n → LatestOn n (found_turned world_names page decode op successor found)
    found_cost op successor found few enough =
        elim (cases_Bool (found == 4)) [
          | inl last ↦ rw last (lists_cost (omega (arith, enough)))
          | inr more ↦ rw more (in_hand_cost op successor found (less more) enough)
        ]
      where
        less : (found == 4) ≡ false → found < 4
        less more = elim (cases_lt found 4) [ inl lt ↦ lt | inr ge ↦ absurd (eqb-false found 4 more (omega (arith, ge, few))) ]

    probed_cost : (op : LatestOp T) (hand : Cached) (found next : ℕ) (answer : Result Got StoreError) → found < 4 → 2 * (4 - found) + 3 + g ≤ n → LatestOn n (probed decode op hand found next answer)
    probed_cost op hand found next (Ok got) few enough = (2 * (4 - (found + 1)) + 4 + g, omega (arith, few, enough), (omega (arith, few), omega arith))
    probed_cost op hand found next (Err errors.NotFound) few enough = hand_cost op hand.id (decode hand.bytes) (omega (arith, enough))
    probed_cost op hand found next (Err error) few enough = tt

    unlisted_cost : (op : LatestOp T) (o : Option Cached) → 2 ≤ n → LatestOn n (unlisted op o)
    unlisted_cost op None enough = tt
    unlisted_cost op (Some version) enough = (1, omega (arith, enough), omega arith)

    keeping_cost : (op : LatestOp T) (version : Cached) (value : Option T) → 2 ≤ n → LatestOn n (keeping decode op version value)
    keeping_cost op version (Some value) enough = (1, omega (arith, enough), omega arith)
    keeping_cost op version None enough = tt

    held_cost : (op : LatestOp T) (id : ℕ) (o : Option Cached) → 3 ≤ n → LatestOn n (held_or_got world_names decode op id o)
    held_cost op id None enough = (2, omega (arith, enough), omega arith)
    held_cost op id (Some version) enough = keeping_cost op version (decode version.bytes) (omega (arith, enough))

    chosen_cost : (op : LatestOp T) (greatest : Option ℕ) (versions : List Cached) → 3 ≤ n → LatestOn n (chosen world_names decode op greatest versions)
    chosen_cost op None versions enough = unlisted_cost op (greatest_held versions) (omega (arith, enough))
    chosen_cost op (Some id) versions enough = held_cost op id (held id versions) enough

    got_cost : (op : LatestOp T) (id : ℕ) (answer : Result Got StoreError) → 2 ≤ n → (◌≡◌ {A = Result Got StoreError} answer (Err errors.NotFound)) ⊎ LatestOn n (latest_got world_names page decode op id answer)
    got_cost op id (Ok got) enough = inr (keeping_cost op (record { id = id; bytes = got.bytes }) (decode got.bytes) enough)
    got_cost op id (Err errors.NotFound) enough = inl refl
    got_cost op id (Err error) enough = inr tt

    -- a page is one of those that are left
    paged_cost : (request : Request) (found : Option ℕ) (k : ℕ) (p : PagesLeft files unit request k) (next : Option Segments) → next_after (page_of p.limit (metas_after files p.after)) ≡ next → k + 3 ≤ n → LatestOn n (paged_turned world_names page next found)
    paged_cost request found k p None e enough = (3, (let some = p.some in omega (arith, some, enough)), omega arith)
    paged_cost request found k p (Some path) e enough =
        let taken = page_taken files unit request k p path e in
        let p' : PagesLeft files unit (version_page world_names (Some path) page) taken.0 = record { after = Some path; limit = page; room = room; fits = paged; asks = refl; some = taken.2; few = taken.3 } in
        (taken.0 + 3, omega (arith, taken.1, enough), (taken.0, p', omega arith))

  module _ (decode : List ℕ → Option T) (store new : StoreState) (is_files : store.files ≡ files) (page : ℕ) (paged : unit ≤ page) (room : 1 ≤ page) (fresh : PagesLeft files unit (version_page world_names None page) g) where
    listing_cost : (found : Option ℕ) (request : Request) (ahead : BoundaryRead) (reply : Option Reply) (n k : ℕ) → Given {T = T} (reads.Reads (latest.Lists found request) ahead) store reply new → PagesLeft files unit request k → k + 3 ≤ n →
        LatestOn n (latest_replied world_names page decode (latest.Lists found request) reply)
    listing_cost found request ahead (Some reply) n k given p enough =
        let asks : given.0 ≡ version_page world_names p.after p.limit = sym (same_Some request given.0 given.1) ∙ p.asks in
        served reply (subst (λ (r : Request). Serves r store reply new) asks given.2)
      where
        served : (reply : Reply) → Serves (version_page world_names p.after p.limit) store reply new → LatestOn n (latest_replied world_names page decode (latest.Lists found request) (Some reply))
        served (replies.List (Ok told)) s =
            let is : told ≡ page_of p.limit (metas_after files p.after) = s.listed ∙ ap (λ (fs : Files). page_of p.limit (metas_after fs p.after)) is_files in
            paged_cost decode page paged room fresh n request (greatest_from found world_names told.metas) k p (next_after told) (ap next_after (sym is)) enough
        served (replies.List (Err error)) s = tt
        served (replies.Get answer) s = absurd s
        served (replies.Put answer) s = absurd s
        served (replies.Delete answer) s = absurd s
    listing_cost found request ahead None n k given p enough = absurd (let none = given.0 in cc)

    latest_step : (op : LatestOp T) (ahead : BoundaryRead) (versions : List Cached) (reply : Option Reply) (n : ℕ) → IsLatestReply op reply → Given (reads.Reads op ahead) store reply new → LatestCost op n →
        Misses op reply ⊎ LatestOn n (latest_turned world_names page decode op versions reply)
    latest_step latest.Looks ahead versions reply n is given cost = inr (begins_cost decode page paged room fresh n latest.Looks (greatest_held versions) cost)
    latest_step (latest.Probes hand found next request) ahead versions (Some (replies.Get answer)) n is given cost = inr (probed_cost decode page paged room fresh n (latest.Probes hand found next request) hand found next answer cost.0 cost.1)
    latest_step (latest.Probes hand found next request) ahead versions (Some (replies.Put answer)) n is given cost = absurd is
    latest_step (latest.Probes hand found next request) ahead versions (Some (replies.List answer)) n is given cost = absurd is
    latest_step (latest.Probes hand found next request) ahead versions (Some (replies.Delete answer)) n is given cost = absurd is
    latest_step (latest.Probes hand found next request) ahead versions None n is given cost = absurd is
    latest_step (latest.Finds successor found) ahead versions reply n is given cost = inr (found_cost decode page paged room fresh n (latest.Finds successor found) successor found cost.0 cost.1)
    latest_step (latest.Lists found request) ahead versions reply n is given cost = inr (listing_cost found request ahead reply n cost.0 given cost.1 cost.2)
    latest_step (latest.Chooses greatest) ahead versions reply n is given cost = inr (chosen_cost decode page paged room fresh n (latest.Chooses greatest) greatest versions cost)
    latest_step (latest.Gets id request) ahead versions (Some (replies.Get answer)) n is given cost =
        elim (got_cost decode page paged room fresh n (latest.Gets id request) id answer cost) [
          | inl missing ↦ inl (ap (λ (a : Result Got StoreError). Some (replies.Get a)) missing)
          | inr on ↦ inr on
        ]
    latest_step (latest.Gets id request) ahead versions (Some (replies.Put answer)) n is given cost = absurd is
    latest_step (latest.Gets id request) ahead versions (Some (replies.List answer)) n is given cost = absurd is
    latest_step (latest.Gets id request) ahead versions (Some (replies.Delete answer)) n is given cost = absurd is
    latest_step (latest.Gets id request) ahead versions None n is given cost = absurd is
    latest_step (latest.Keeps version value) ahead versions reply n is given cost = inr cost
    latest_step (latest.Drops id) ahead versions reply n is given cost = inr tt
    latest_step latest.Ended ahead versions reply n is given cost = absurd is

    reads_cost : (ahead : BoundaryRead) (m n : ℕ) (told : LatestOp T × Turned (ReadAnswer T)) → ahead ≡ reading.Looks world_boundary → m + 5 ≤ n → LatestOn m told → CostOn n (reads_turned ahead told)
    reads_cost ahead m n (op, Goes) is enough on = (on.0 + 5, (let less = on.1 in omega (arith, less, enough)), (on.0, omega arith, on.2))
    reads_cost ahead m n (op, Done (Ok None)) is enough on = tt
    reads_cost ahead m n (op, Done (Ok (Some found))) is enough on =
        let five : check_cost (check_of_read found.0 ahead) ≡ 5 = ap (λ (read : BoundaryRead). check_cost (check_of_read found.0 read)) is in
        (5, omega (arith, on, enough), omega (arith, five))
    reads_cost ahead m n (op, Done (Err number)) is enough on = tt

    -- its check goes on, or it starts again
    check_on : (id : ℕ) (value : T) (reply : Option Reply) (left : Budget) (n : ℕ) (x : CheckOp × Turned (Result (Unit {0}) ℕ)) → left.looks + left.calls ≤ n → SpendsOne reply left (after x) →
        (checks_turned world_boundary id value x ≡ (read_started world_boundary, Goes)) ⊎ CostOn n (checks_turned world_boundary id value x)
    check_on id value None left n (check, Goes) enough s = inr (check_cost check, (let looks = s.0 in let calls = s.1 in omega (arith, looks, calls, enough)), omega arith)
    check_on id value (Some reply) left n (check, Goes) enough s = inr (check_cost check, (let looks = s.0 in let calls = s.1 in omega (arith, looks, calls, enough)), omega arith)
    check_on id value reply left n (check, Done (Ok accepted)) enough s = inr tt
    check_on id value reply left n (check, Done (Err number)) enough s = elim (cases_Bool (number == 5)) [ inl refused ↦ inl (rw refused refl) | inr other ↦ inr (rw other tt) ]

    -- Each step takes one of those that are left of this try, or another try begins: a get missed, or an id was refused.
    pub cost_step : (read : ReadOp T) (caches : Caches) (reply : Option Reply) (n : ℕ) → ((op : LatestOp T) (ahead : BoundaryRead) → read ≡ reads.Reads op ahead → ahead ≡ reading.Looks world_boundary) → IsReadReply read reply → Given read store reply new → ReadCost read n →
        (read_turned world_names world_boundary page decode read caches reply ≡ (read_started world_boundary, Goes)) ⊎ Missed read reply ⊎ CostOn n (read_turned world_names world_boundary page decode read caches reply)
    cost_step (reads.Reads op ahead) caches reply n looks is given cost =
        elim (latest_step op ahead caches.latest reply cost.0 is given cost.2) [
          | inl missing ↦ inr (inl missing)
          | inr on ↦ inr (inr (reads_cost ahead cost.0 n (latest_turned world_names page decode op caches.latest reply) (looks op ahead refl) cost.1 on))
        ]
    cost_step (reads.Checks id value check) caches reply n looks is given cost =
        elim (check_on id value reply (check_budget check) n (check_turned check caches reply) cost (check_spends check caches reply is)) [
          | inl again ↦ inl again
          | inr on ↦ inr (inr on)
        ]
    cost_step reads.Ended caches reply n looks is given cost = absurd is

-- all tries

module _ {T : Type 0} where
  found_same : (rows others : List (PlainRow T)) (found : Option ℕ) → newest rows ≡ newest others → FoundNewest rows found → FoundNewest others found
  found_same rows others None e h = tt
  found_same rows others (Some id) e h = h ∙ e

  pub seeking_same : (rows others : List (PlainRow T)) (op : LatestOp T) → newest rows ≡ newest others → Seeking rows op → Seeking others op
  seeking_same rows others latest.Looks e h = absurd h
  seeking_same rows others (latest.Probes hand found next request) e h = absurd h
  seeking_same rows others (latest.Finds successor found) e h = absurd h
  seeking_same rows others (latest.Lists found request) e h = tt
  seeking_same rows others (latest.Chooses greatest) e h = found_same rows others greatest e h
  seeking_same rows others (latest.Gets id request) e h = h ∙ e
  seeking_same rows others (latest.Keeps version value) e h = h ∙ e
  seeking_same rows others (latest.Drops id) e h = tt
  seeking_same rows others latest.Ended e h = tt

  first_same : (rows others : List (PlainRow T)) (read : ReadOp T) (versions : List Cached) → newest rows ≡ newest others → First rows read versions → First others read versions
  first_same rows others (reads.Reads op ahead) versions e h = elim h [ inl p ↦ inl p | inr s ↦ inr (seeking_same rows others op e s) ]
  first_same rows others (reads.Checks id value check) versions e h = h
  first_same rows others reads.Ended versions e h = tt

  second_same : (rows others : List (PlainRow T)) (read : ReadOp T) (versions : List Cached) → newest rows ≡ newest others → Second rows read versions → Second others read versions
  second_same rows others (reads.Reads op ahead) versions e h = elim h [ inl none ↦ inl none | inr s ↦ inr (seeking_same rows others op e s) ]
  second_same rows others (reads.Checks id value check) versions e h = h ∙ e
  second_same rows others reads.Ended versions e h = tt

module _ {T : Type 0} where
  -- it begins anew, and nothing is held
  abbrev pub Restarts : ReadOp T → List Cached → Type 0
  Restarts (reads.Reads op ahead) versions = Emptied op versions
  Restarts (reads.Checks id value check) versions = ⊥
  Restarts reads.Ended versions = ⊥

  -- The first try that nothing disturbs: where it is refused it has listed nothing, and the one after it, with nothing held, takes nine and its pages.
  abbrev pub FirstEnough : ℕ → ReadOp T → ℕ → ℕ → Type 0
  FirstEnough g (reads.Reads op ahead) m n = m + 6 ≤ n
  FirstEnough g (reads.Checks id value check) m n = m + (9 + g) ≤ n
  FirstEnough g reads.Ended m n = m ≤ n

  pub first_least : (g : ℕ) (read : ReadOp T) (m n : ℕ) → FirstEnough g read m n → m ≤ n
  first_least g (reads.Reads op ahead) m n enough = omega (arith, enough)
  first_least g (reads.Checks id value check) m n enough = omega (arith, enough)
  first_least g reads.Ended m n enough = enough

module _ {T : Type 0} (rows : List (PlainRow T)) (files : Files) (unit g : ℕ) where
  probing_least : (op : LatestOp T) (versions : List Cached) (m : ℕ) → Probing op versions → LatestCost files unit g op m → 4 + g ≤ m
  probing_least latest.Looks versions m p cost = omega (arith, cost)
  probing_least (latest.Probes hand found next request) versions m p cost = (let few = cost.0 in let enough = cost.1 in omega (arith, few, enough))
  probing_least (latest.Finds successor found) versions m p cost = (let enough = cost.1 in omega (arith, enough))
  probing_least (latest.Lists found request) versions m p cost = absurd p
  probing_least (latest.Chooses greatest) versions m p cost = absurd p
  probing_least (latest.Gets id request) versions m p cost = absurd p
  probing_least (latest.Keeps version value) versions m p cost = absurd p
  probing_least (latest.Drops id) versions m p cost = absurd p
  probing_least latest.Ended versions m p cost = absurd p

  -- it probes, or checks what it found so, or has the newest version
  pub first_cases : (read : ReadOp T) (versions : List Cached) (cost n : ℕ) → ReadCost files unit g read cost → FirstEnough g read cost n → First rows read versions → ((9 + g ≤ cost) × (cost + 6 ≤ n)) ⊎ (cost + (9 + g) ≤ n) ⊎ (Second rows read versions × (cost ≤ n))
  first_cases (reads.Reads op ahead) versions cost n costs enough f =
      elim f [
        | inl probes ↦ inl ((let least = probing_least op versions costs.0 probes costs.2 in let le = costs.1 in omega (arith, least, le)), enough)
        | inr seeks ↦ inr (inr (inr seeks, omega (arith, enough)))
      ]
  first_cases (reads.Checks id value check) versions cost n costs enough f = inr (inl enough)
  first_cases reads.Ended versions cost n costs enough f = inr (inr (tt, enough))

  -- What may follow this try: a first one that nothing disturbs, the one after that, or none; or this one begins with nothing held.
  abbrev pub TriesLeft : ReadOp T → List Cached → ℕ → ℕ → Type 0
  TriesLeft read versions m n = (m + (23 + g) ≤ n) ⊎ (First rows read versions × FirstEnough g read m n) ⊎ (Second rows read versions × (m ≤ n)) ⊎ (Restarts read versions × (9 + g ≤ n))

  -- A read that nothing disturbs has at most so many steps left.
  pub record ReadLeft (read : ReadOp T) (versions : List Cached) (n : ℕ) : Type 0 where
    pub cost : ℕ
    pub costs : ReadCost files unit g read cost
    pub tries : TriesLeft read versions cost n

  -- a step takes one of them at least
  abbrev pub ReadOn : ℕ → List Cached → ReadOp T × Turned (ReadAnswer T) → Type 0
  ReadOn n versions (read, Goes) = (rest : ℕ) × (rest + 1 ≤ n) × ReadLeft read versions rest
  ReadOn n versions (read, Done answer) = Unit {0}

-- over the rows of another state with the same newest version
pub left_same : {T : Type 0} (rows others : List (PlainRow T)) (files : Files) (unit g : ℕ) (read : ReadOp T) (versions : List Cached) (n : ℕ) → newest rows ≡ newest others → ReadLeft rows files unit g read versions n → ReadLeft others files unit g read versions n
left_same rows others files unit g read versions n e l =
    record {
      cost = l.cost;
      costs = l.costs;
      tries = elim l.tries [
        | inl any ↦ inl any
        | inr (inl first) ↦ inr (inl (first_same rows others read versions e first.0, first.1))
        | inr (inr (inl second)) ↦ inr (inr (inl (second_same rows others read versions e second.0, second.1)))
        | inr (inr (inr restarts)) ↦ inr (inr (inr restarts))
      ];
    }
