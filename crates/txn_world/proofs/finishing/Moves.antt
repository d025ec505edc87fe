-- What an operation has left in a state, from event to event: its own take some of it, others leave it, and one that disturbs it adds to it.
use Rattle.std.proofs.Common.{◌≡◌, ℕ, ◌+◌, ◌*◌, ◌-◌, ◌≤◌, List, set, Bool, Option, Some, None, ◌⊎◌, inl, inr, refl, sym, ◌∙◌, ap, subst, arith}
use Rattle.std.proofs.Math.Nat.{mul-le-mul_right}
use Rattle.std.proofs.lemmas.Option.{same_Some}
use Rattle.txn_store.specs.Store.{Files, State as StoreState}
use Rattle.txn_store.specs.Requests.{Serves}
use Rattle.txn_store.specs.declared.request.Request.{Request}
use Rattle.txn_store.specs.declared.request.Reply.{Reply}
use Rattle.txn_steps.specs.declared.boundary.caches.Cached.{Cached}
use Rattle.txn_steps.specs.declared.boundary.caches.Caches.{Caches}
use Rattle.txn_steps.specs.declared.boundary.turned.Turned.TheVariants.{Goes}
use Rattle.txn_steps.specs.declared.listing.ListOp.{ListOp}
use Rattle.txn_steps.specs.declared.read.ReadOp.{ReadOp}
use Rattle.txn_steps.specs.declared.read.ReadOp.TheVariants as reads
use Rattle.txn_steps.specs.Listings.{listing_turned}
use Rattle.txn_steps.specs.Reads.{IsReadReply, read_asked, read_turned, read_caches_after}
use Rattle.txn_steps_driven.specs.PageCount.{pages_below}
use Rattle.txn_steps_driven.proofs.NextPages.{has_pages}
use Rattle.txn_history.specs.declared.event.EventOf.TheVariants as events
use Rattle.txn_history.specs.Facts.{WasNewest}
use Rattle.txn_history.specs.Lists.{numbered}
use Rattle.txn_history.specs.Names.{world_names, world_boundary}
use Rattle.txn_history.specs.History.{newest, boundary}
use Rattle.txn_history.specs.Seen.{Ask, Store, Look}
use Rattle.txn_history.specs.declared.event.Call.{Call}
use Rattle.txn_history.specs.declared.event.Call.TheVariants as any
use Rattle.txn_history.specs.Calls.{view_used}
use Rattle.txn_history.specs.Trace.{PlainRow, Told}
use Rattle.txn_machine.specs.declared.plain.doing.PlainDoing.{PlainDoing}
use Rattle.txn_machine.specs.declared.plain.doing.PlainDoing.TheVariants as doings
use Rattle.txn_machine.specs.plain.Doing.{ask_of}
use Rattle.txn_machine.proofs.plain.Lists.{numbered_here}
use Rattle.txn_machine.proofs.plain.Stands.{IsQuiet, CachesStand, OpStands, ReadStands, WriteStands, KnowStands}
use Rattle.txn_machine.proofs.plain.Parts.{check_asks}
use Rattle.txn_machine.proofs.plain.Serves.{latest_quiet}
use Rattle.txn_machine.proofs.plain.States.{at_place}
use Rattle.txn_machine.proofs.plain.BoundServes.{asks_request, asks_look}
use Rattle.txn_machine.proofs.plain.Windowed.{numbered_window}
use Rattle.txn_machine.proofs.plain.Resting.{Given}
use Rattle.txn_steps.specs.declared.write.WriteOp.{WriteOp}
use Rattle.txn_steps.specs.CallsLeft.{write_budget}
use Rattle.txn_steps.specs.Writes.{write_asked, write_turned}
use Rattle.txn_steps.proofs.CallLemmas.{write_spends}
use Rattle.txn_history.specs.declared.event.PlainCall.{PlainCall}
use Rattle.txn_steps_views.specs.declared.claim.ClaimOp.{ClaimOp}
use Rattle.txn_steps_views.specs.declared.claiming.Claiming.{Claiming}
use Rattle.txn_steps_views.specs.declared.claiming.Claiming.TheVariants as claiming
use Rattle.txn_steps_views.specs.Attempts.{claiming_asked, IsClaimingReply, claiming_caches_after, claiming_turned}
use Rattle.txn_steps_views.specs.declared.op.ViewOp.TheVariants as ops
use Rattle.txn_steps_views.specs.declared.view_read.ViewReadOp.{ViewReadOp}
use Rattle.txn_steps_views.specs.ViewReads.{as_view_read, shown}
use Rattle.txn_machine.specs.views.Layer.{Inner, Starts, Writes, Reads, Acts, look_up, local_of}
use Rattle.txn_machine.specs.declared.doing.Doing.{Doing}
use Rattle.txn_machine.specs.declared.doing.Doing.TheVariants as does
use Rattle.txn_machine.specs.declared.doing.Operation.{Operation}
use Rattle.txn_machine.specs.Doing.{Next, asked, turned, caches_after, IsReply}
use Rattle.txn_machine.specs.Machine.{State, doing_next, with_doing, Takes, IsReached}
use Rattle.txn_machine.specs.Machine as world
use Rattle.txn_machine.proofs.Joined.{as_fine, Joined}
use Rattle.txn_machine.proofs.Joining.{nothing, reached_joins}
use Rattle.txn_machine.proofs.Matched.{Matched}
use Rattle.txn_machine.proofs.Reached.{reached_replies, reached_looks}
use Rattle.txn_machine.proofs.Runs.{taken_reached}
use Rattle.txn_machine.proofs.Serving.{asking}
use Rattle.txn_world.proofs.finishing.Attempts.{FinalOn, WriteGiven, final_step}
use Rattle.txn_world.proofs.finishing.Fresh.{FreshOn, fresh_step}
use Rattle.txn_world.proofs.finishing.Quiet.{quiet_files, newest_same, boundary_same}
use Rattle.txn_world.proofs.finishing.Reading.{read_step}
use Rattle.txn_machine.proofs.Spending.{turn_spends}
use Rattle.txn_world.proofs.finishing.Tries.{PagesLeft, ReadLeft, ReadOn, some_left, first_least}
use Rattle.txn_machine.proofs.Windowed.{reached_windows}
use Rattle.txn_world.proofs.finishing.Work.{Listings, fresh_pages, WorkLeft, WorkOn, BoundedLeft, spent_on, plain_follows, view_follows, follows_on, list_next, listing_on, again_of, again_turn, work_same, spends_some, ClaimLeft, ClaimOn, claim_next_on, attempt_on, refresh_on}

-- what a read asks for changes nothing
module _ {T : Type 0} (decode : List ℕ → Option T) (get_epoch : T → ℕ) where
  read_quiet : (rows : List (PlainRow T)) (store : StoreState) (caches : Caches) (op : ℕ) (read : ReadOp T) (request : Request) → ReadStands decode rows store caches.boundary op read → read_asked read ≡ Some request → IsQuiet request
  read_quiet rows store caches op (reads.Reads latest ahead) request h e = latest_quiet decode rows op request latest h.0 e
  read_quiet rows store caches op (reads.Checks id value check) request h e = check_asks rows store caches.boundary id (WasNewest decode rows op id value) check request h.1 e
  read_quiet rows store caches op reads.Ended request h e = cc

  -- the operation of plain calls that stands for a read

  pub plain_fine : (call : Call T) (local : Option ℕ) (inner : Inner T) (doing fine : PlainDoing T) → Matched get_epoch call local inner (does.Plain doing) fine → fine ≡ doing
  plain_fine (any.Plain call) local inner doing fine m = m.1
  plain_fine (any.View call) local inner doing fine m = absurd m

  view_fine : (call : Call T) (local : Option ℕ) (inner : Inner T) (op : ViewReadOp T) (fine : PlainDoing T) → Matched get_epoch call local inner (does.View (ops.Reads op)) fine → fine ≡ doings.Read op.read
  view_fine (any.Plain call) local inner op fine m = absurd m
  view_fine (any.View call) local Reads op fine m = m.1
  view_fine (any.View call) local (Writes base value epoch) op fine m = absurd m
  view_fine (any.View call) local Starts op fine m = absurd m
  view_fine (any.View call) local Acts op fine m = absurd m

module _ {T : Type 0} where
  abbrev write_in : Claiming T → Option WriteOp
  write_in (claiming.Writes write value epoch) = Some write
  write_in (claiming.Reads read) = None
  write_in claiming.Ended = None

  abbrev read_in : Claiming T → Option (ReadOp T)
  read_in (claiming.Writes write value epoch) = None
  read_in (claiming.Reads read) = Some read
  read_in claiming.Ended = None

module _ {T : Type 0} (decode : List ℕ → Option T) (get_epoch : T → ℕ) where
  claim_write_fine : (call : Call T) (local : Option ℕ) (inner : Inner T) (op : ClaimOp T) (fine : PlainDoing T) (write : WriteOp) (value : T) (epoch : ℕ) → Matched get_epoch call local inner (does.View (ops.Claims op)) fine → op.claiming ≡ claiming.Writes write value epoch → fine ≡ doings.Write write
  claim_write_fine (any.Plain call) local inner op fine write value epoch m e = absurd m
  claim_write_fine (any.View call) local (Writes base own own_epoch) op fine write value epoch m e = m.1.fine_is ∙ ap (λ (w : WriteOp). doings.Write w) (same_Some m.1.write write (sym (ap write_in m.1.attempt_is) ∙ ap write_in e))
  claim_write_fine (any.View call) local Reads op fine write value epoch m e = absurd (let clash : None ≡ Some write = sym (ap write_in m.1.attempt_is) ∙ ap write_in e in cc)
  claim_write_fine (any.View call) local Starts op fine write value epoch m e = absurd m
  claim_write_fine (any.View call) local Acts op fine write value epoch m e = absurd m

  claim_read_fine : (call : Call T) (local : Option ℕ) (inner : Inner T) (op : ClaimOp T) (fine : PlainDoing T) (read : ReadOp T) → Matched get_epoch call local inner (does.View (ops.Claims op)) fine → op.claiming ≡ claiming.Reads read → fine ≡ doings.Read read
  claim_read_fine (any.Plain call) local inner op fine read m e = absurd m
  claim_read_fine (any.View call) local Reads op fine read m e = m.1.fine_is ∙ ap (λ (r : ReadOp T). doings.Read r) (same_Some m.1.read read (sym (ap read_in m.1.attempt_is) ∙ ap read_in e))
  claim_read_fine (any.View call) local (Writes base own own_epoch) op fine read m e = absurd (let clash : None ≡ Some read = sym (ap read_in m.1.attempt_is) ∙ ap read_in e in cc)
  claim_read_fine (any.View call) local Starts op fine read m e = absurd m
  claim_read_fine (any.View call) local Acts op fine read m e = absurd m

-- a reply is that of the store to what was asked for
abbrev pub IsServed : Option Request → Option Reply → StoreState → StoreState → Type 0
IsServed asks reply old new = (request : Request) (told : Reply) → reply ≡ Some told → asks ≡ Some request → Serves request old told new

module _ {T : Type 0} where
  -- a look has no reply; else the store serves what is asked for
  abbrev pub Offer : Doing T → StoreState → Option Reply → StoreState → Type 0
  Offer doing old None new = (asked doing ≡ Some Look) × (new ≡ old)
  Offer doing old (Some reply) new = (request : Request) × (asked doing ≡ Some (Store request)) × Serves request old reply new × (new.failures ≡ 0)

  -- what it asked for was served, where it was replied
  pub served_part : (part : Option Request) (doing : Doing T) (old : StoreState) (reply : Option Reply) (new : StoreState) → asked doing ≡ Some (ask_of part) → Offer doing old reply new → IsServed part reply old new
  served_part part doing old None new e offer request told is asks = absurd (let clash : None ≡ Some told = is in cc)
  served_part part doing old (Some reply) new e offer request told is asks =
      let same : offer.0 ≡ request = same_Some offer.0 request (sym (asks_request part offer.0 (sym e ∙ offer.1)) ∙ asks) in
      subst (λ (r : Request). Serves r old told new) same (subst (λ (t : Reply). Serves offer.0 old t new) (same_Some reply told is) offer.2)

  given_of : (read : ReadOp T) (doing : Doing T) (old : StoreState) (reply : Option Reply) (new : StoreState) → asked doing ≡ Some (ask_of (read_asked read)) → Offer doing old reply new → Given read old reply new
  given_of read doing old None new e offer = (asks_look (read_asked read) (sym e ∙ offer.0), offer.1)
  given_of read doing old (Some reply) new e offer = (offer.0, asks_request (read_asked read) offer.0 (sym e ∙ offer.1), offer.2, offer.3)

  write_given : (write : WriteOp) (doing : Doing T) (old : StoreState) (reply : Option Reply) (new : StoreState) → asked doing ≡ Some (ask_of (write_asked write)) → Offer doing old reply new → WriteGiven write old reply new
  write_given write doing old None new e offer = offer.1
  write_given write doing old (Some reply) new e offer = (offer.0, asks_request (write_asked write) offer.0 (sym e ∙ offer.1), offer.2, offer.3)

  -- what is left is something, where it runs
  read_some : (rows : List (PlainRow T)) (files : Files) (unit g : ℕ) (read : ReadOp T) (versions : List Cached) (n : ℕ) (reply : Option Reply) → IsReadReply read reply → ReadLeft rows files unit g read versions n → 1 ≤ n
  read_some rows files unit g read versions n reply is l =
      let some = some_left files unit g read reply l.cost is l.costs in
      elim l.tries [
        | inl enough ↦ omega (arith, some, enough)
        | inr (inl first) ↦ (let enough = first_least g read l.cost n first.1 in omega (arith, some, enough))
        | inr (inr (inl second)) ↦ (let enough = second.1 in omega (arith, some, enough))
        | inr (inr (inr restarts)) ↦ (let enough = restarts.1 in omega (arith, enough))
      ]

-- the pages of a state
pub listings_of : (files : Files) (page pages : ℕ) → 1 ≤ page → pages_below world_names page files ≤ pages → Listings files page pages
listings_of files page pages room few =
    let all = has_pages world_names page files room in
    let some = all.0 in
    let long = all.1 in
    let times : pages_below world_names page files * page ≤ pages * page = mul-le-mul_right page few in
    record { room = room; some = omega (arith, some, few); few = omega (arith, long, times) }

module _ {T : Type 0} (encode : T → List ℕ) (decode : List ℕ → Option T) (get_epoch : T → ℕ) (set_epoch : T → ℕ → T) where
  abbrev Reached : State T → Type 0
  Reached s = IsReached encode decode get_epoch set_epoch s

  abbrev JoinedNow : State T → Type 0
  JoinedNow s = Joined decode get_epoch set_epoch nothing s

  -- what stands of the store
  pub known : (s : State T) (j : JoinedNow s) → KnowStands decode get_epoch j.fine.failed j.fine.trace s.store
  known s j = subst (λ (store : StoreState). KnowStands decode get_epoch j.fine.failed j.fine.trace store) j.tie.store j.stands.know

  pub rows_same : (old new : State T) (j : JoinedNow old) (j' : JoinedNow new) → new.store.files ≡ old.store.files → newest j.fine.trace ≡ newest j'.fine.trace
  rows_same old new j j' same = newest_same decode get_epoch j.fine.failed j'.fine.failed j.fine.trace j'.fine.trace old.store new.store (known old j) (known new j') same

  pub bounds_same : (old new : State T) (j : JoinedNow old) (j' : JoinedNow new) → new.store.files ≡ old.store.files → boundary j.fine.trace ≡ boundary j'.fine.trace
  bounds_same old new j j' same = boundary_same decode get_epoch j.fine.failed j'.fine.failed j.fine.trace j'.fine.trace old.store new.store (known old j) (known new j') same

  -- what stands of a write
  record WriteFacts (s : State T) (j : JoinedNow s) (caches : Caches) (write : WriteOp) : Type 0 where
    pub number : ℕ
    pub call : PlainCall T
    pub stands : WriteStands decode get_epoch j.fine.trace s.store caches.boundary number call write.step write

  write_facts : (s : State T) (j : JoinedNow s) (op : ℕ) (o : Operation T) (ask : Ask) (caches : Caches) (write : WriteOp) → world.Acts s op o ask caches →
      ((call : Call T) (local : Option ℕ) (inner : Inner T) (fine : PlainDoing T) → Matched get_epoch call local inner o.doing fine → fine ≡ doings.Write write) → WriteFacts s j caches write
  write_facts s j op o ask caches write acts is_write =
      let a = asking encode decode get_epoch set_epoch nothing s j op o ask caches acts in
      let is = is_write a.held.call (local_of (look_up j.l.views (view_used a.held.call))) a.held.inner a.held.doing a.held.matched in
      let at = at_place decode get_epoch j.fine (j.now op) (as_fine o.client a.held.doing) j.stands a.acts.found in
      let same : at.0 ≡ caches = same_Some at.0 caches (sym at.1 ∙ a.acts.kept) in
      let own : OpStands decode get_epoch j.fine.trace j.fine.store at.0.boundary (j.now op) (doings.Write write) = subst (λ (d : PlainDoing T). OpStands decode get_epoch j.fine.trace j.fine.store at.0.boundary (j.now op) d) is at.2 in
      let own' : OpStands decode get_epoch j.fine.trace j.fine.store caches.boundary (j.now op) (doings.Write write) = subst (λ (c : Caches). OpStands decode get_epoch j.fine.trace j.fine.store c.boundary (j.now op) (doings.Write write)) same own in
      let own'' : OpStands decode get_epoch j.fine.trace s.store caches.boundary (j.now op) (doings.Write write) = subst (λ (store : StoreState). OpStands decode get_epoch j.fine.trace store caches.boundary (j.now op) (doings.Write write)) j.tie.store own' in
      record { number = j.now op; call = own''.0; stands = own''.1.stands }

  -- what stands of a read
  record ReadFacts (s : State T) (j : JoinedNow s) (caches : Caches) (read : ReadOp T) : Type 0 where
    pub number : ℕ
    pub stands : ReadStands decode j.fine.trace s.store caches.boundary number read

  read_facts : (s : State T) (j : JoinedNow s) (op : ℕ) (o : Operation T) (ask : Ask) (caches : Caches) (read : ReadOp T) → world.Acts s op o ask caches →
      ((call : Call T) (local : Option ℕ) (inner : Inner T) (fine : PlainDoing T) → Matched get_epoch call local inner o.doing fine → fine ≡ doings.Read read) → ReadFacts s j caches read
  read_facts s j op o ask caches read acts is_read =
      let a = asking encode decode get_epoch set_epoch nothing s j op o ask caches acts in
      let is = is_read a.held.call (local_of (look_up j.l.views (view_used a.held.call))) a.held.inner a.held.doing a.held.matched in
      let at = at_place decode get_epoch j.fine (j.now op) (as_fine o.client a.held.doing) j.stands a.acts.found in
      let same : at.0 ≡ caches = same_Some at.0 caches (sym at.1 ∙ a.acts.kept) in
      let own : OpStands decode get_epoch j.fine.trace j.fine.store at.0.boundary (j.now op) (doings.Read read) = subst (λ (d : PlainDoing T). OpStands decode get_epoch j.fine.trace j.fine.store at.0.boundary (j.now op) d) is at.2 in
      let own' : OpStands decode get_epoch j.fine.trace j.fine.store caches.boundary (j.now op) (doings.Read read) = subst (λ (c : Caches). OpStands decode get_epoch j.fine.trace j.fine.store c.boundary (j.now op) (doings.Read read)) same own in
      let own'' : OpStands decode get_epoch j.fine.trace s.store caches.boundary (j.now op) (doings.Read read) = subst (λ (store : StoreState). OpStands decode get_epoch j.fine.trace store caches.boundary (j.now op) (doings.Read read)) j.tie.store own' in
      record { number = j.now op; stands = own''.1.stands.1 }

  pub caches_fit : (s : State T) (j : JoinedNow s) (client : ℕ) (caches : Caches) → numbered s.caches client ≡ Some caches → CachesStand decode j.fine.trace s.store caches
  caches_fit s j client caches kept =
      subst (λ (store : StoreState). CachesStand decode j.fine.trace store caches) j.tie.store (j.stands.caches client caches (ap (λ (cs : List Caches). numbered cs client) j.caches ∙ kept))

  -- What an operation has left in a state, and what a disturbance adds.
  pub record Has (s : State T) (op g again n : ℕ) : Type 0 where
    pub operation : Operation T
    pub there : numbered s.operations op ≡ Some operation
    pub caches : Caches
    pub kept : numbered s.caches operation.client ≡ Some caches
    pub joined : JoinedNow s
    pub left : WorkLeft joined.fine.trace s.store.files s.page g operation.doing caches n
    pub adds : again_of g operation.doing ≤ again

  -- its own look or serve

  module _ (old new : State T) (r : Reached old) (r' : Reached new) (op g again n : ℕ) (o : Operation T) (caches : Caches) (ask : Ask) (acts : world.Acts old op o ask caches) (j : JoinedNow old)
      (reply : Option Reply) (is : IsReply o.doing reply) (offer : Offer o.doing old.store reply new.store) (next : Next T) (lacking : Bool) (turns : next ≡ turned old.page encode decode get_epoch set_epoch lacking o.doing caches reply) (now : Listings new.store.files old.page g) where
    abbrev rows : List (PlainRow T)
    rows = j.fine.trace

    abbrev j' : JoinedNow new
    j' = reached_joins encode decode get_epoch set_epoch new r'

    abbrev After : Doing T → Next T
    After doing = turned old.page encode decode get_epoch set_epoch lacking doing caches reply

    -- with the files of the new state
    abbrev Taken : Doing T → Next T → Type 0
    Taken doing next' = WorkOn j'.fine.trace new.store.files old.page g n (caches_after doing caches next'.1) next'

    bounded : (doing : Doing T) → IsReply doing reply → BoundedLeft rows old.store.files old.page g doing n → Taken doing (After doing)
    bounded doing given b = spent_on j'.fine.trace new.store.files old.page g reply b.0 n (caches_after doing caches (After doing).1) (After doing) b.2 (turn_spends old.page encode decode get_epoch set_epoch lacking caches doing reply b.0 b.1 given)

    -- where the files stay
    moved : (doing : Doing T) → new.store.files ≡ old.store.files → WorkOn rows old.store.files old.page g n (caches_after doing caches (After doing).1) (After doing) → Taken doing (After doing)
    moved doing same on = (
      on.0,
      on.1,
      subst (λ (files : Files). WorkLeft j'.fine.trace files old.page g (After doing).0 (caches_after doing caches (After doing).1) on.0) (sym same)
          (work_same rows j'.fine.trace old.store.files old.page g (rows_same old new j j' same) (bounds_same old new j j' same) (After doing).0 (caches_after doing caches (After doing).1) on.0 on.2),
    )

    -- a read
    read_on : (read : ReadOp T) (n : ℕ) → ReadFacts old j caches read → IsReadReply read reply → Given read old.store reply new.store → Listings old.store.files old.page g → ReadLeft rows old.store.files old.page g read caches.latest n →
        ReadOn rows old.store.files old.page g n (read_caches_after read caches Goes).latest (read_turned world_names world_boundary old.page decode read caches reply)
    read_on read n f given gives l left =
        read_step decode get_epoch j.fine.failed rows old.store new.store (known old j) f.number old.page old.page g (omega arith) l.room (fresh_pages old.store.files old.page g l) read caches reply n f.stands given gives (caches_fit old j o.client caches acts.kept)
        (numbered_window old.caches o.client caches acts.kept (reached_windows encode decode get_epoch set_epoch old r)) left

    read_files : (read : ReadOp T) → ReadFacts old j caches read → (reply' : Option Reply) → Given read old.store reply' new.store → new.store.files ≡ old.store.files
    read_files read f None gives = ap (λ (store : StoreState). store.files) gives.1
    read_files read f (Some told) gives = quiet_files gives.0 told old.store new.store (read_quiet decode get_epoch rows old.store caches f.number read gives.0 f.stands gives.1) gives.2 gives.3

    list_files : (list : ListOp) (k : ℕ) (told : Reply) (request : Request) → list.request ≡ request → IsQuiet list.request → Serves request old.store told new.store → new.store.failures ≡ 0 → new.store.files ≡ old.store.files
    list_files list k told request e q s honest = quiet_files request told old.store new.store (subst IsQuiet e q) s honest

    -- a claim
    claims : (claim : ClaimOp T) → o.doing ≡ does.View (ops.Claims claim) → (c : Claiming T) → claim.claiming ≡ c → IsClaimingReply c reply → Offer (does.View (ops.Claims claim)) old.store reply new.store → ClaimLeft rows old.store.files old.page g c caches n →
        Taken (does.View (ops.Claims claim)) (After (does.View (ops.Claims claim)))
    claims claim e (claiming.Writes write value epoch) at given gives w =
        let f = write_facts old j op o ask caches write acts (λ call local inner fine m. claim_write_fine decode get_epoch call local inner claim fine write value epoch (subst (λ (d : Doing T). Matched get_epoch call local inner d fine) e m) at) in
        let told = write_given write (does.View (ops.Claims claim)) old.store reply new.store (ap (λ (c : Claiming T). Some (ask_of (claiming_asked c))) at) gives in
        let spends = write_spends write caches reply given in
        let some = spends_some reply (write_budget write) _ spends in
        let le = w.1 in
        let enough : 1 ≤ n = elim w.2 [ inl last ↦ (let most = last.1 in omega (arith, some, le, most)) | inr more ↦ omega (arith, some, le, more) ] in
        let how : (FinalOn j'.fine.trace (write_turned write caches reply) × (w.0 ≤ n)) ⊎ (w.0 + ((23 + g) + 7) ≤ n) = elim w.2 [
          | inl last ↦ inl (final_step decode get_epoch j.fine.failed j'.fine.failed rows j'.fine.trace old.store new.store (known old j) (known new j') f.number f.call write caches reply f.stands given told last.0, last.1)
          | inr more ↦ inr more
        ] in
        let on = attempt_on j'.fine.trace new.store.files old.page g now value epoch n w.0 (claiming_caches_after (claiming.Writes write value epoch) caches) reply (write_budget write) (write_turned write caches reply) w.1 spends how in
        claim_next_on j'.fine.trace new.store.files old.page g lacking claim caches n (claiming_turned world_names world_boundary old.page encode decode get_epoch set_epoch claim.asked claim.claiming caches reply) enough
        (subst (λ (c : Claiming T). ClaimOn j'.fine.trace new.store.files old.page g n (claiming_caches_after c caches) (claiming_turned world_names world_boundary old.page encode decode get_epoch set_epoch claim.asked c caches reply)) (sym at) on)
    claims claim e (claiming.Reads read) at given gives w =
        let f = read_facts old j op o ask caches read acts (λ call local inner fine m. claim_read_fine decode get_epoch call local inner claim fine read (subst (λ (d : Doing T). Matched get_epoch call local inner d fine) e m) at) in
        let told = given_of read (does.View (ops.Claims claim)) old.store reply new.store (ap (λ (c : Claiming T). Some (ask_of (claiming_asked c))) at) gives in
        let k = w.1 in
        let on = read_on read k f given told w.0 w.2 in
        let some = read_some rows old.store.files old.page g read caches.latest k reply given w.2 in
        let enough : 1 ≤ n = elim w.3 [ inl fresh ↦ (let most = fresh.1 in omega (arith, some, most)) | inr more ↦ omega (arith, some, more) ] in
        let how : (FreshOn rows (read_caches_after read caches Goes) (read_turned world_names world_boundary old.page decode read caches reply) × (k + 7 ≤ n)) ⊎ (k + (14 + (23 + g)) ≤ n) = elim w.3 [
          | inl fresh ↦ inl (fresh_step decode get_epoch j.fine.failed rows old.store new.store (known old j) f.number old.page read caches reply f.stands given told (numbered_window old.caches o.client caches acts.kept (reached_windows encode decode get_epoch set_epoch old r)) (caches_fit old j o.client caches acts.kept) fresh.0, fresh.1)
          | inr more ↦ inr more
        ] in
        let next' = refresh_on rows old.store.files old.page g w.0 encode get_epoch set_epoch claim.asked n k (claiming_caches_after (claiming.Reads read) caches) (read_caches_after read caches Goes) (read_turned world_names world_boundary old.page decode read caches reply) refl some on how in
        moved (does.View (ops.Claims claim)) (read_files read f reply told)
        (claim_next_on rows old.store.files old.page g lacking claim caches n (claiming_turned world_names world_boundary old.page encode decode get_epoch set_epoch claim.asked claim.claiming caches reply) enough
        (subst (λ (c : Claiming T). ClaimOn rows old.store.files old.page g n (claiming_caches_after c caches) (claiming_turned world_names world_boundary old.page encode decode get_epoch set_epoch claim.asked c caches reply)) (sym at) next'))
    claims claim e claiming.Ended at given gives w = absurd given

    by : (doing : Doing T) → o.doing ≡ doing → IsReply doing reply → Offer doing old.store reply new.store → WorkLeft rows old.store.files old.page g doing caches n → Taken doing (After doing)
    by (does.Plain (doings.Read read)) e given gives w =
        let f = read_facts old j op o ask caches read acts (λ call local inner fine m. plain_fine decode get_epoch call local inner (doings.Read read) fine (subst (λ (d : Doing T). Matched get_epoch call local inner d fine) e m)) in
        let told = given_of read (does.Plain (doings.Read read)) old.store reply new.store refl gives in
        let on = read_on read n f given told w.0 w.1 in
        let doing : Doing T = does.Plain (doings.Read read) in
        moved doing (read_files read f reply told)
        (follows_on rows old.store.files old.page g (λ r. does.Plain (doings.Read r)) n (read_turned world_names world_boundary old.page decode read caches reply) (After doing) (caches_after doing caches (After doing).1) (read_caches_after read caches Goes).latest
        (read_some rows old.store.files old.page g read caches.latest n reply given w.1) (plain_follows rows old.store.files old.page g lacking (read_turned world_names world_boundary old.page decode read caches reply)) on (λ r m after l same. (w.0, subst (λ (vs : List Cached). ReadLeft rows old.store.files old.page g r vs m) (sym same) l)) (λ same. ap (λ (x : Next T). (caches_after doing caches x.1).latest) same))
    by (does.View (ops.Reads view)) e given gives w =
        let f = read_facts old j op o ask caches view.read acts (λ call local inner fine m. view_fine decode get_epoch call local inner view fine (subst (λ (d : Doing T). Matched get_epoch call local inner d fine) e m)) in
        let told = given_of view.read (does.View (ops.Reads view)) old.store reply new.store refl gives in
        let on = read_on view.read n f given told w.0 w.1 in
        let doing : Doing T = does.View (ops.Reads view) in
        moved doing (read_files view.read f reply told)
        (follows_on rows old.store.files old.page g (λ r. does.View (ops.Reads (as_view_read view.purpose r))) n (read_turned world_names world_boundary old.page decode view.read caches reply) (After doing) (caches_after doing caches (After doing).1) (read_caches_after view.read caches Goes).latest
        (read_some rows old.store.files old.page g view.read caches.latest n reply given w.1) (view_follows rows old.store.files old.page g view.purpose (shown get_epoch view.purpose) lacking (read_turned world_names world_boundary old.page decode view.read caches reply)) on (λ r m after l same. (w.0, subst (λ (vs : List Cached). ReadLeft rows old.store.files old.page g r vs m) (sym same) l)) (λ same. ap (λ (x : Next T). (caches_after doing caches x.1).latest) same))
    by (does.Plain (doings.ListIds list)) e given gives w = listed reply refl given gives
      where
        doing : Doing T
        doing = does.Plain (doings.ListIds list)

        listed : (reply' : Option Reply) → reply ≡ reply' → IsReply doing reply' → Offer doing old.store reply' new.store → Taken doing (After doing)
        listed None re given' gives' = absurd given'
        listed (Some told) re given' gives' =
            let request : list.request ≡ gives'.0 = (let same : Some (Store list.request) ≡ Some (Store gives'.0) = gives'.1 in cc) in
            let serves : Serves list.request old.store told new.store = subst (λ (q : Request). Serves q old.store told new.store) (sym request) gives'.2 in
            let some : 1 ≤ n = (let k = w.2.some in let le = w.3 in omega (arith, k, le)) in
            moved doing (quiet_files list.request told old.store new.store (subst IsQuiet (sym w.2.asks) tt) serves gives'.3)
            (list_next rows old.store.files old.page g lacking n (caches_after doing caches (After doing).1) (listing_turned world_names old.page list reply) w.0 some
            (λ goes. subst (λ (r : Option Reply). (m : ℕ) × (m + 1 ≤ n) × PagesLeft old.store.files old.page (listing_turned world_names old.page list r).0.request m) (sym re)
            (listing_on rows old.store.files old.page g w.0 list w.1 n w.2 w.3 old.store new.store told refl serves (subst (λ (r : Option Reply). (listing_turned world_names old.page list r).1 ≡ Goes) re goes))))
    by (does.Plain (doings.Write write)) e given gives w = bounded (does.Plain (doings.Write write)) given w
    by (does.Plain (doings.WriteUnchecked write)) e given gives w = bounded (does.Plain (doings.WriteUnchecked write)) given w
    by (does.Plain (doings.ReadUnchecked read)) e given gives w = bounded (does.Plain (doings.ReadUnchecked read)) given w
    by (does.Plain (doings.ReadSeen read)) e given gives w = bounded (does.Plain (doings.ReadSeen read)) given w
    by (does.Plain (doings.Delete delete)) e given gives w = bounded (does.Plain (doings.Delete delete)) given w
    by (does.Plain (doings.Check check)) e given gives w = bounded (does.Plain (doings.Check check)) given w
    by (does.Plain (doings.Advance advance)) e given gives w = absurd w
    by (does.Plain doings.Ended) e given gives w = absurd given
    by (does.View (ops.Enters enter)) e given gives w = bounded (does.View (ops.Enters enter)) given w
    by (does.View (ops.Claims claim)) e given gives w = claims claim e claim.claiming refl given gives w

    abbrev Goes_on : Type 0
    Goes_on = (rest : ℕ) × (rest + 1 ≤ n) × Has new op g again rest

    own_goes : WorkLeft rows old.store.files old.page g o.doing caches n → again_of g o.doing ≤ again → new.operations ≡ with_doing old.operations op o next.0 → new.caches ≡ set old.caches (o.client - 1) (caches_after o.doing caches next.1) → new.page ≡ old.page → Goes_on
    own_goes w adds operations caches_are page =
        let on : Taken o.doing next = subst (λ (x : Next T). Taken o.doing x) (sym turns) (by o.doing refl is offer w) in
        let less = again_turn old.page g encode decode get_epoch set_epoch lacking caches caches rows old.store.files n o.doing reply is w in
        let after : Operation T = doing_next o next.0 in
        let fewer : again_of g next.0 ≤ again = (let same : again_of g next.0 ≡ again_of g (After o.doing).0 = ap (λ (x : Next T). again_of g x.0) turns in omega (arith, same, less, adds)) in (
          on.0,
          on.1,
          record {
            operation = after;
            there = ap (λ (os : List (Operation T)). numbered os op) operations ∙ numbered_here old.operations op after o acts.found;
            caches = caches_after o.doing caches next.1;
            kept = ap (λ (cs : List Caches). numbered cs o.client) caches_are ∙ numbered_here old.caches o.client (caches_after o.doing caches next.1) caches acts.kept;
            joined = j';
            left = subst (λ (p : ℕ). WorkLeft j'.fine.trace new.store.files p g next.0 (caches_after o.doing caches next.1) on.0) (sym page) on.2;
            adds = fewer;
          },
        )

  -- the operation that acts is this one
  own_left : (old : State T) (op g again n : ℕ) (o : Operation T) (caches : Caches) (h : Has old op g again n) → numbered old.operations op ≡ Some o → numbered old.caches o.client ≡ Some caches →
      WorkLeft h.joined.fine.trace old.store.files old.page g o.doing caches n × (again_of g o.doing ≤ again)
  own_left old op g again n o caches h found kept =
      let same : h.operation ≡ o = same_Some h.operation o (sym h.there ∙ found) in
      let held : numbered old.caches o.client ≡ Some h.caches = subst (λ (x : Operation T). numbered old.caches x.client ≡ Some h.caches) same h.kept in
      let same_caches : h.caches ≡ caches = same_Some h.caches caches (sym held ∙ kept) in (
        subst (λ (c : Caches). WorkLeft h.joined.fine.trace old.store.files old.page g o.doing c n) same_caches (subst (λ (x : Operation T). WorkLeft h.joined.fine.trace old.store.files old.page g x.doing h.caches n) same h.left),
        subst (λ (x : Operation T). again_of g x.doing ≤ again) same h.adds,
      )

  abbrev pub GoesOn : State T → ℕ → ℕ → ℕ → ℕ → Type 0
  GoesOn new op g again n = (rest : ℕ) × (rest + 1 ≤ n) × Has new op g again rest

  pub look_goes : (old : State T) (op g again n : ℕ) (said : Told T) (new : State T) → Reached old → Takes encode decode get_epoch set_epoch old (events.Look op) said new → Listings new.store.files old.page g → Has old op g again n → GoesOn new op g again n
  look_goes old op g again n said new r t now h =
      let v = t.step in
      let o = v.operation in
      let own = own_left old op g again n o v.caches h v.acts.found v.acts.kept in
      own_goes old new r (taken_reached encode decode get_epoch set_epoch old (events.Look op) said new r t) op g again n o v.caches Look v.acts h.joined None (reached_looks encode decode get_epoch set_epoch old r op o v.acts.found v.acts.asks)
      (v.acts.asks, ap (λ (s : State T). s.store) v.state) v.next v.turns.refused v.turns.turns now own.0 own.1 (ap (λ (s : State T). s.operations) v.state) (ap (λ (s : State T). s.caches) v.state) (ap (λ (s : State T). s.page) v.state)

  pub serve_goes : (old : State T) (op g again n : ℕ) (said : Told T) (new : State T) → Reached old → Takes encode decode get_epoch set_epoch old (events.Serve op) said new → Listings new.store.files old.page g → Has old op g again n → GoesOn new op g again n
  serve_goes old op g again n said new r t now h =
      let v = t.step in
      let o = v.call.operation in
      let own = own_left old op g again n o v.call.caches h v.call.acts.found v.call.acts.kept in
      let store : new.store ≡ v.call.store = ap (λ (s : State T). s.store) v.state in
      own_goes old new r (taken_reached encode decode get_epoch set_epoch old (events.Serve op) said new r t) op g again n o v.call.caches (Store v.call.request) v.call.acts h.joined (Some v.call.reply)
      (reached_replies encode decode get_epoch set_epoch old r op o v.call.acts.found v.call.request v.call.reply v.call.store v.call.acts.asks v.call.reaches.serves)
      (v.call.request, v.call.acts.asks, subst (λ (st : StoreState). Serves v.call.request old.store v.call.reply st) (sym store) v.call.reaches.serves, ap (λ (st : StoreState). st.failures) store ∙ v.call.reaches.honest)
      v.next v.turns.refused v.turns.turns now own.0 own.1 (ap (λ (s : State T). s.operations) v.state) (ap (λ (s : State T). s.caches) v.state) (ap (λ (s : State T). s.page) v.state)
