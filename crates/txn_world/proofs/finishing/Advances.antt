-- How many looks and serves an advance takes.
use Rattle.std.proofs.Common.{◌≡◌, ℕ, ◌+◌, ◌*◌, ◌-◌, ◌≤◌, ◌==◌, List, [], ◌∷◌, set, Bool, true, false, Option, Some, None, Result, Ok, Err, ◌⊎◌, inl, inr, refl, sym, ◌∙◌, ap, subst, arith}
use Rattle.std.specs.FinMap.{get}
use Rattle.std.proofs.lemmas.Bool.{cases_Bool, eqb-true}
use Rattle.std.proofs.lemmas.Option.{same_Some}
use Rattle.txn_store.specs.Store.{Files, State as StoreState}
use Rattle.txn_store.specs.Requests.{Serves}
use Rattle.txn_store.specs.declared.store.Got.{Got}
use Rattle.txn_store.specs.declared.request.Request.{Request}
use Rattle.txn_store.specs.declared.request.Reply.{Reply}
use Rattle.txn_steps.specs.declared.boundary.advance.AdvanceOp.{AdvanceOp}
use Rattle.txn_steps.specs.declared.boundary.advance.AdvanceOp.TheVariants as advances
use Rattle.txn_steps.specs.declared.boundary.advance.BoundaryAdvance.{BoundaryAdvance}
use Rattle.txn_steps.specs.declared.boundary.advance.BoundaryAdvance.TheVariants as raising
use Rattle.txn_steps.specs.declared.boundary.boundary_read.BoundaryRead.TheVariants as reading
use Rattle.txn_steps.specs.declared.boundary.caches.CachedBoundary.{CachedBoundary}
use Rattle.txn_steps.specs.declared.boundary.caches.Caches.{Caches}
use Rattle.txn_steps.specs.declared.boundary.turned.Turned.{Turned}
use Rattle.txn_steps.specs.declared.boundary.turned.Turned.TheVariants.{Goes, Done}
use Rattle.txn_steps.specs.boundary.Advances.{advance_asked, advance_turned, advance_caches, raises_turned, IsAdvanceReply}
use Rattle.txn_steps.specs.boundary.BoundaryAdvances.{asks_put, boundary_advance_asked, boundary_advance_turned, boundary_advance_cached}
use Rattle.txn_history.specs.declared.event.PlainCall.{PlainCall}
use Rattle.txn_history.specs.declared.event.PlainCall.TheVariants as calls
use Rattle.txn_history.specs.declared.event.EventOf.TheVariants as events
use Rattle.txn_history.specs.declared.event.Call.TheVariants as any
use Rattle.txn_history.specs.Calls.{view_used}
use Rattle.txn_history.specs.Lists.{numbered}
use Rattle.txn_history.specs.Names.{world_boundary}
use Rattle.txn_history.specs.Seen.{Ask, Store, Look}
use Rattle.txn_history.specs.Trace.{PlainRow, Event, Told}
use Rattle.txn_machine.specs.declared.plain.doing.PlainDoing.{PlainDoing}
use Rattle.txn_machine.specs.declared.plain.doing.PlainDoing.TheVariants as doings
use Rattle.txn_machine.specs.plain.Doing as plain
use Rattle.txn_machine.specs.plain.Machine.{next_op}
use Rattle.txn_machine.proofs.plain.BoundServes.{asks_request}
use Rattle.txn_machine.proofs.plain.Lists.{within, numbered_here, numbered_new}
use Rattle.txn_machine.proofs.plain.Stands.{IsQuiet, KnownFits, OpStands, RaiseStands, AdvanceStands, KnowStands}
use Rattle.txn_machine.proofs.plain.States.{at_place}
use Rattle.txn_machine.proofs.plain.World.{client_within}
use Rattle.txn_machine.specs.views.Layer.{look_up, local_of}
use Rattle.txn_machine.specs.declared.doing.Doing.{Doing}
use Rattle.txn_machine.specs.declared.doing.Doing.TheVariants as does
use Rattle.txn_machine.specs.declared.doing.Operation.{Operation}
use Rattle.txn_machine.specs.Doing.{Next, ended, asked, turned, caches_after, plain_next, IsReply}
use Rattle.txn_machine.specs.Machine.{State, doing_next, with_doing, new_operation, Takes, IsReached}
use Rattle.txn_machine.specs.Machine as world
use Rattle.txn_machine.proofs.Joined.{as_fine}
use Rattle.txn_machine.proofs.Joining.{nothing, reached_joins}
use Rattle.txn_machine.proofs.Matched.{Matched}
use Rattle.txn_machine.proofs.Reached.{reached_replies, reached_looks, reached_wide}
use Rattle.txn_machine.proofs.Runs.{taken_reached, takes_same}
use Rattle.txn_machine.proofs.Serving.{asking, held_of}
use Rattle.txn_world.specs.finishing.Progress.{is_own, own_count, caches_by, caches_of, LeavesAlone, Disturbed}
use Rattle.txn_world.proofs.finishing.Bounds.{others_stay, client_keeps, known_client, or_true}
use Rattle.txn_world.proofs.finishing.Moves.{Offer, plain_fine, known, caches_fit}
use Rattle.txn_world.proofs.finishing.Quiet.{quiet_files}
use Rattle.txn_world.proofs.finishing.Unheld.{UnheldAdvance, Unheld}
use Rattle.txn_world.proofs.finishing.Unraised.{reached_keeps_none, reached_unheld}
use Rattle.txn_world.proofs.finishing.Raising.{RaiseLeft, RaiseOn, raise_step, raise_begins, raise_some, raise_small, raise_disturbed}

-- what it has left

abbrev AdvanceLeft : Option Got → Option CachedBoundary → AdvanceOp → ℕ → Type 0
AdvanceLeft file cached (advances.Raises target raise) n = RaiseLeft file cached raise n
AdvanceLeft file cached (advances.Drops target) n = 1 ≤ n

abbrev AdvanceOn : Option Got → Option CachedBoundary → ℕ → AdvanceOp × Turned (Result (Unit {0}) ℕ) → Type 0
AdvanceOn file cached n (op, Goes) = (rest : ℕ) × (rest + 1 ≤ n) × AdvanceLeft file cached op rest
AdvanceOn file cached n (op, Done answer) = Unit {0}

raised_on : (file : Option Got) (cached : Option CachedBoundary) (n target : ℕ) (x : BoundaryAdvance × Turned (Result (Unit {0}) ℕ)) → RaiseOn file cached n x → AdvanceOn file cached n (raises_turned target x)
raised_on file cached n target (raise, Goes) h = h
raised_on file cached n target (raise, Done (Ok done)) h = (1, h, omega arith)
raised_on file cached n target (raise, Done (Err number)) h = tt

advance_some : (file : Option Got) (cached : Option CachedBoundary) (op : AdvanceOp) (n : ℕ) → AdvanceLeft file cached op n → 1 ≤ n
advance_some file cached (advances.Raises target raise) n l = raise_some file cached raise n l
advance_some file cached (advances.Drops target) n l = l

advance_small : (file : Option Got) (cached : Option CachedBoundary) (op : AdvanceOp) (n : ℕ) → 11 ≤ n → AdvanceLeft file cached op n
advance_small file cached (advances.Raises target raise) n enough = raise_small file cached raise n enough
advance_small file cached (advances.Drops target) n enough = omega (arith, enough)

advance_disturbed : (file now : Option Got) (cached after : Option CachedBoundary) (op : AdvanceOp) (n : ℕ) → AdvanceLeft file cached op n → AdvanceLeft now after op (n + 5)
advance_disturbed file now cached after (advances.Raises target raise) n l = raise_disturbed file now cached after raise n l
advance_disturbed file now cached after (advances.Drops target) n l = omega (arith, l)

-- a look has no reply; else the store serves what is asked for
abbrev AdvanceGiven : AdvanceOp → StoreState → Option Reply → StoreState → Type 0
AdvanceGiven op old None new = new ≡ old
AdvanceGiven op old (Some reply) new = (request : Request) × (advance_asked op ≡ Some request) × Serves request old reply new × (new.failures ≡ 0)

module _ {T : Type 0} (decode : List ℕ → Option T) (get_epoch : T → ℕ) (failed : List ℕ) (rows : List (PlainRow T)) (store new : StoreState) (k : KnowStands decode get_epoch failed rows store) where
  -- what is no put leaves the file
  raise_quiet : (cached : Option CachedBoundary) (target : ℕ) (raise : BoundaryAdvance) (request : Request) → RaiseStands rows store cached target raise → asks_put raise ≡ false → boundary_advance_asked raise ≡ Some request → IsQuiet request
  raise_quiet cached target (raising.Looks t) request h e asks = cc
  raise_quiet cached target (raising.Reads t again (reading.Looks path)) request h e asks = cc
  raise_quiet cached target (raising.Reads t again (reading.Gets own)) request h e asks = subst IsQuiet (sym h.1.asks ∙ same_Some own request asks) tt
  raise_quiet cached target (raising.Reads t again (reading.Holds held)) request h e asks = cc
  raise_quiet cached target (raising.Puts t own) request h e asks = cc
  raise_quiet cached target (raising.Keeps t token) request h e asks = cc

  advance_step : (call : PlainCall T) (op : AdvanceOp) (caches : Caches) (reply : Option Reply) (n : ℕ) → (get store.files world_boundary ≡ None → caches.boundary ≡ None) → (get store.files world_boundary ≡ None → UnheldAdvance op) → AdvanceStands rows store caches.boundary call op → KnownFits rows store caches.boundary → IsAdvanceReply op reply → AdvanceGiven op store reply new → AdvanceLeft (get store.files world_boundary) caches.boundary op n →
      AdvanceOn (get new.files world_boundary) (advance_caches op caches).boundary n (advance_turned world_boundary op caches reply)
  advance_step call (advances.Drops target) caches reply n unraised first h fits is given l = tt
  advance_step call (advances.Raises target raise) caches reply n unraised first h fits is given l =
      raised_on (get new.files world_boundary) (boundary_advance_cached raise caches.boundary) n target (boundary_advance_turned world_boundary raise caches.boundary reply)
      (raise_step decode get_epoch failed rows store new k caches.boundary fits unraised (get new.files world_boundary) raise target n reply h.2 is serves (λ quiet. ap (λ (files : Files). get files world_boundary) (files_stay quiet reply refl)) first l)
    where
      given_at : (told : Reply) → reply ≡ Some told → AdvanceGiven (advances.Raises target raise) store (Some told) new
      given_at told e = subst (λ (r : Option Reply). AdvanceGiven (advances.Raises target raise) store r new) e given

      serves : (request : Request) (told : Reply) → reply ≡ Some told → boundary_advance_asked raise ≡ Some request → Serves request store told new
      serves request told e asks = (let g = given_at told e in subst (λ (r : Request). Serves r store told new) (same_Some g.0 request (sym g.1 ∙ asks)) g.2)

      files_stay : asks_put raise ≡ false → (r : Option Reply) → reply ≡ r → new.files ≡ store.files
      files_stay quiet None e = ap (λ (s : StoreState). s.files) (subst (λ (r : Option Reply). AdvanceGiven (advances.Raises target raise) store r new) e given)
      files_stay quiet (Some told) e = (let g = given_at told e in quiet_files g.0 told store new (raise_quiet caches.boundary target raise g.0 h.2 quiet g.1) g.2 g.3)

module _ {T : Type 0} (encode : T → List ℕ) (decode : List ℕ → Option T) (get_epoch : T → ℕ) (set_epoch : T → ℕ → T) where
  -- An advance, or its end.
  pub record Advancing (s : State T) (op n : ℕ) : Type 0 where
    pub operation : Operation T
    pub there : numbered s.operations op ≡ Some operation
    pub caches : Caches
    pub kept : numbered s.caches operation.client ≡ Some caches
    pub left : (operation.doing ≡ ended) ⊎ ((advance : AdvanceOp) × (operation.doing ≡ does.Plain (doings.Advance advance)) × AdvanceLeft (get s.store.files world_boundary) caches.boundary advance n)

  advance_given : (advance : AdvanceOp) (old : StoreState) (reply : Option Reply) (new : StoreState) → Offer {T = T} (does.Plain (doings.Advance advance)) old reply new → AdvanceGiven advance old reply new
  advance_given advance old None new offer = offer.1
  advance_given advance old (Some reply) new offer = (offer.0, asks_request (advance_asked advance) offer.0 offer.1, offer.2, offer.3)

  -- its next state
  next_left : (file : Option Got) (advance : AdvanceOp) (caches : Caches) (n : ℕ) (lacking : Bool) (x : AdvanceOp × Turned (Result (Unit {0}) ℕ)) → 1 ≤ n → AdvanceOn file (advance_caches advance caches).boundary n x →
      (rest : ℕ) × (rest + 1 ≤ n) × (((plain_next {T = T} (plain.or_no_memory lacking (plain.advance_next x))).0 ≡ ended) ⊎ ((next : AdvanceOp) × ((plain_next {T = T} (plain.or_no_memory lacking (plain.advance_next x))).0 ≡ does.Plain (doings.Advance next)) × AdvanceLeft file (advance_caches advance caches).boundary next rest))
  next_left file advance caches n true x some h = (0, some, inl refl)
  next_left file advance caches n false (next, Goes) some h = (h.0, h.1, inr (next, refl, h.2))
  next_left file advance caches n false (next, Done (Ok done)) some h = (0, some, inl refl)
  next_left file advance caches n false (next, Done (Err number)) some h = (0, some, inl refl)

  module _ (old new : State T) (r : IsReached encode decode get_epoch set_epoch old) (op n : ℕ) (h : Advancing old op n) (o : Operation T) (caches : Caches) (ask : Ask) (acts : world.Acts old op o ask caches) (reply : Option Reply) (is : IsReply o.doing reply) (offer : Offer o.doing old.store reply new.store)
      (next : Next T) (lacking : Bool) (turns : next ≡ turned old.page encode decode get_epoch set_epoch lacking o.doing caches reply) (operations : new.operations ≡ with_doing old.operations op o next.0) (caches_are : new.caches ≡ set old.caches (o.client - 1) (caches_after o.doing caches next.1)) where
    same : h.operation ≡ o
    same = same_Some h.operation o (sym h.there ∙ acts.found)

    same_caches : h.caches ≡ caches
    same_caches = same_Some h.caches caches (sym (subst (λ (x : Operation T). numbered old.caches x.client ≡ Some h.caches) same h.kept) ∙ acts.kept)

    lands : (rest : ℕ) (after : Caches) → caches_after o.doing caches next.1 ≡ after → rest + 1 ≤ n → ((next.0 ≡ ended) ⊎ ((advance : AdvanceOp) × (next.0 ≡ does.Plain (doings.Advance advance)) × AdvanceLeft (get new.store.files world_boundary) after.boundary advance rest)) → (m : ℕ) × (m + 1 ≤ n) × Advancing new op m
    lands rest after e less left = (
      rest,
      less,
      record {
        operation = doing_next o next.0;
        there = ap (λ (os : List (Operation T)). numbered os op) operations ∙ numbered_here old.operations op (doing_next o next.0) o acts.found;
        caches = after;
        kept = ap (λ (cs : List Caches). numbered cs o.client) caches_are ∙ (numbered_here old.caches o.client (caches_after o.doing caches next.1) caches acts.kept ∙ ap Some e);
        left = left;
      },
    )

    own : (m : ℕ) × (m + 1 ≤ n) × Advancing new op m
    own =
        elim h.left [
          | inl gone ↦ absurd (
              let none : asked o.doing ≡ None = ap asked (ap (λ (x : Operation T). x.doing) (sym same) ∙ gone) in
              let clash : Some ask ≡ None = sym acts.asks ∙ none in
              cc
              )
          | inr runs ↦ (
              let advance = runs.0 in
              let doing : o.doing ≡ does.Plain (doings.Advance advance) = ap (λ (x : Operation T). x.doing) (sym same) ∙ runs.1 in
              let j = reached_joins encode decode get_epoch set_epoch old r in
              let a = asking encode decode get_epoch set_epoch nothing old j op o ask caches acts in
              let fine : a.held.doing ≡ doings.Advance advance = plain_fine decode get_epoch a.held.call (local_of (look_up j.l.views (view_used a.held.call))) a.held.inner (doings.Advance advance) a.held.doing (subst (λ (d : Doing T). Matched get_epoch a.held.call (local_of (look_up j.l.views (view_used a.held.call))) a.held.inner d a.held.doing) doing a.held.matched) in
              let at = at_place decode get_epoch j.fine (j.now op) (as_fine o.client a.held.doing) j.stands a.acts.found in
              let at_caches : at.0 ≡ caches = same_Some at.0 caches (sym at.1 ∙ a.acts.kept) in
              let own1 : OpStands decode get_epoch j.fine.trace j.fine.store at.0.boundary (j.now op) (doings.Advance advance) = subst (λ (d : PlainDoing T). OpStands decode get_epoch j.fine.trace j.fine.store at.0.boundary (j.now op) d) fine at.2 in
              let own2 : OpStands decode get_epoch j.fine.trace j.fine.store caches.boundary (j.now op) (doings.Advance advance) = subst (λ (c : Caches). OpStands decode get_epoch j.fine.trace j.fine.store c.boundary (j.now op) (doings.Advance advance)) at_caches own1 in
              let own3 : OpStands decode get_epoch j.fine.trace old.store caches.boundary (j.now op) (doings.Advance advance) = subst (λ (store : StoreState). OpStands decode get_epoch j.fine.trace store caches.boundary (j.now op) (doings.Advance advance)) j.tie.store own2 in
              let given = advance_given advance old.store reply new.store (subst (λ (d : Doing T). Offer d old.store reply new.store) doing offer) in
              let answers : IsAdvanceReply advance reply = subst (λ (d : Doing T). IsReply d reply) doing is in
              let left : AdvanceLeft (get old.store.files world_boundary) caches.boundary advance n = subst (λ (c : Caches). AdvanceLeft (get old.store.files world_boundary) c.boundary advance n) same_caches runs.2 in
              let fits = (caches_fit encode decode get_epoch set_epoch old j o.client caches acts.kept).boundary in
              let on = advance_step decode get_epoch j.fine.failed j.fine.trace old.store new.store (known encode decode get_epoch set_epoch old j) own3.0 advance caches reply n (λ none. reached_keeps_none encode decode get_epoch set_epoch old o.client caches r acts.kept none) (λ none. subst Unheld doing (reached_unheld encode decode get_epoch set_epoch old op o r acts.found none)) own3.1.stands fits answers given left in
              let n' = next_left (get new.store.files world_boundary) advance caches n lacking (advance_turned world_boundary advance caches reply) (advance_some (get old.store.files world_boundary) caches.boundary advance n left) on in
              let next_is : next ≡ plain_next (plain.or_no_memory lacking (plain.advance_next (advance_turned world_boundary advance caches reply))) = turns ∙ ap (λ (d : Doing T). turned old.page encode decode get_epoch set_epoch lacking d caches reply) doing in
              lands n'.0 (advance_caches advance caches) (ap (λ (d : Doing T). caches_after d caches next.1) doing) n'.1
              (subst (λ (x : Next T). (x.0 ≡ ended) ⊎ ((following : AdvanceOp) × (x.0 ≡ does.Plain (doings.Advance following)) × AdvanceLeft (get new.store.files world_boundary) (advance_caches advance caches).boundary following n'.0)) (sym next_is) n'.2)
              )
        ]

  look_on : (old : State T) (op n : ℕ) (said : Told T) (new : State T) → IsReached encode decode get_epoch set_epoch old → Takes encode decode get_epoch set_epoch old (events.Look op) said new → Advancing old op n → (m : ℕ) × (m + 1 ≤ n) × Advancing new op m
  look_on old op n said new r t h =
      let v = t.step in
      own old new r op n h v.operation v.caches Look v.acts None (reached_looks encode decode get_epoch set_epoch old r op v.operation v.acts.found v.acts.asks) (v.acts.asks, ap (λ (s : State T). s.store) v.state) v.next v.turns.refused v.turns.turns (ap (λ (s : State T). s.operations) v.state) (ap (λ (s : State T). s.caches) v.state)

  serve_on : (old : State T) (op n : ℕ) (said : Told T) (new : State T) → IsReached encode decode get_epoch set_epoch old → Takes encode decode get_epoch set_epoch old (events.Serve op) said new → Advancing old op n → (m : ℕ) × (m + 1 ≤ n) × Advancing new op m
  serve_on old op n said new r t h =
      let v = t.step in
      let store : new.store ≡ v.call.store = ap (λ (s : State T). s.store) v.state in
      own old new r op n h v.call.operation v.call.caches (Store v.call.request) v.call.acts (Some v.call.reply)
      (reached_replies encode decode get_epoch set_epoch old r op v.call.operation v.call.acts.found v.call.request v.call.reply v.call.store v.call.acts.asks v.call.reaches.serves)
      (v.call.request, v.call.acts.asks, subst (λ (st : StoreState). Serves v.call.request old.store v.call.reply st) (sym store) v.call.reaches.serves, ap (λ (st : StoreState). st.failures) store ∙ v.call.reaches.honest)
      v.next v.turns.refused v.turns.turns (ap (λ (s : State T). s.operations) v.state) (ap (λ (s : State T). s.caches) v.state)

  pub own_on : (old : State T) (event : Event T) (said : Told T) (new : State T) (op n : ℕ) → IsReached encode decode get_epoch set_epoch old → Takes encode decode get_epoch set_epoch old event said new → is_own op event ≡ true → Advancing old op n → (m : ℕ) × (m + 1 ≤ n) × Advancing new op m
  own_on old (events.Look k) said new op n r t own' h = (let same : k ≡ op = eqb-true k op (or_true (k == op) own') in look_on old op n said new r (subst (λ (i : ℕ). Takes encode decode get_epoch set_epoch old (events.Look i) said new) same t) h)
  own_on old (events.Serve k) said new op n r t own' h = (let same : k ≡ op = eqb-true k op own' in serve_on old op n said new r (subst (λ (i : ℕ). Takes encode decode get_epoch set_epoch old (events.Serve i) said new) same t) h)
  own_on old (events.Begin client call) said new op n r t own' h = absurd (let clash : false ≡ true = own' in cc)
  own_on old (events.Fail k failure) said new op n r t own' h = absurd (let clash : false ≡ true = own' in cc)
  own_on old (events.GiveUp k) said new op n r t own' h = absurd (let clash : false ≡ true = own' in cc)
  own_on old (events.Land k) said new op n r t own' h = absurd (let clash : false ≡ true = own' in cc)
  own_on old (events.Crash client) said new op n r t own' h = absurd (let clash : false ≡ true = own' in cc)

  -- others

  pub calm_on : (old : State T) (event : Event T) (said : Told T) (new : State T) (op n : ℕ) → Takes encode decode get_epoch set_epoch old event said new → is_own op event ≡ false → LeavesAlone op old new → Advancing old op n → Advancing new op n
  calm_on old event said new op n t other calm h =
      let before : caches_of old op ≡ Some h.caches = ap (caches_by old) h.there ∙ h.kept in
      elim (others_stay encode decode get_epoch set_epoch old event said new op h.operation t other h.there) [
        | inl there ↦ record { operation = h.operation; there = there; caches = h.caches; kept = sym (ap (caches_by new) there) ∙ (calm.kept ∙ before); left = subst (λ (files : Files). (h.operation.doing ≡ ended) ⊎ ((advance : AdvanceOp) × (h.operation.doing ≡ does.Plain (doings.Advance advance)) × AdvanceLeft (get files world_boundary) h.caches.boundary advance n)) (sym calm.files) h.left }
        | inr there ↦ record { operation = doing_next h.operation ended; there = there; caches = h.caches; kept = sym (ap (caches_by new) there) ∙ (calm.kept ∙ before); left = inl refl }
      ]

  pub disturbed_on : (old : State T) (event : Event T) (said : Told T) (new : State T) (op n : ℕ) → IsReached encode decode get_epoch set_epoch old → Takes encode decode get_epoch set_epoch old event said new → is_own op event ≡ false → Advancing old op n → Advancing new op (n + 5)
  disturbed_on old event said new op n r t other h =
      let r' = taken_reached encode decode get_epoch set_epoch old event said new r t in
      let clients = (takes_same encode decode get_epoch set_epoch old event said new t).0 in
      let place = within old.caches h.operation.client h.caches h.kept in
      let wide = reached_wide encode decode get_epoch set_epoch old r in
      let now = client_keeps encode decode get_epoch set_epoch new h.operation.client r' place.0 (let le = place.1 in omega (arith, le, wide, clients)) in
      elim (others_stay encode decode get_epoch set_epoch old event said new op h.operation t other h.there) [
        | inl there ↦ record { operation = h.operation; there = there; caches = now.0; kept = now.1; left = elim h.left [ inl gone ↦ inl gone | inr runs ↦ inr (runs.0, runs.1, advance_disturbed (get old.store.files world_boundary) (get new.store.files world_boundary) h.caches.boundary now.0.boundary runs.0 n runs.2) ] }
        | inr there ↦ record { operation = doing_next h.operation ended; there = there; caches = now.0; kept = now.1; left = inl refl }
      ]

  advance_run : (taken : List (Event T × Told T)) (times n : ℕ) (old new : State T) (op pages : ℕ) → IsReached encode decode get_epoch set_epoch old → Disturbed encode decode get_epoch set_epoch op pages times old taken new → Advancing old op n → own_count op taken ≤ n + times * 5
  advance_run [] times n old new op pages r d h = omega arith
  advance_run (one ∷ rest) times n old new op pages r d h =
      let t = d.1 in
      let r' = taken_reached encode decode get_epoch set_epoch old one.0 one.1 d.0 r t in
      elim (cases_Bool (is_own op one.0)) [
        | inl own' ↦ rw own' (
            let on = own_on old one.0 one.1 d.0 op n r t own' h in
            let less = on.1 in
            elim d.3 [
              | inl calm ↦ (let bound = advance_run rest times on.0 d.0 new op pages r' calm.1 on.2 in omega (arith, bound, less))
              | inr hit ↦ (let bound = advance_run rest hit.0 on.0 d.0 new op pages r' hit.2 on.2 in let is = hit.1 in omega (arith, bound, less, is))
            ]
            )
        | inr other ↦ rw other (
            elim d.3 [
              | inl calm ↦ elim calm.0 [
                | inl own' ↦ absurd (let clash : true ≡ false = sym own' ∙ other in cc)
                | inr alone ↦ (let bound = advance_run rest times n d.0 new op pages r' calm.1 (calm_on old one.0 one.1 d.0 op n t other alone h) in omega (arith, bound))
              ]
              | inr hit ↦ (let bound = advance_run rest hit.0 (n + 5) d.0 new op pages r' hit.2 (disturbed_on old one.0 one.1 d.0 op n r t other h) in let is = hit.1 in omega (arith, bound, is))
            ]
            )
      ]

  -- what it has left as its call begins
  pub advance_has : (old : State T) (client to : ℕ) (said : Told T) (first : State T) → IsReached encode decode get_epoch set_epoch old → Takes encode decode get_epoch set_epoch old (events.Begin client (any.Plain (calls.Advance to))) said first → Advancing first (next_op old) 9
  advance_has old client to said first r t =
      let v = t.step in
      let r' = taken_reached encode decode get_epoch set_epoch old (events.Begin client (any.Plain (calls.Advance to))) said first r t in
      let clients = (takes_same encode decode get_epoch set_epoch old (events.Begin client (any.Plain (calls.Advance to))) said first t).0 in
      let is = client_within old.clients client (known_client encode decode get_epoch set_epoch old client (any.Plain (calls.Advance to)) t.allowed) in
      let now = client_keeps encode decode get_epoch set_epoch first client r' is.0 (let le = is.1 in omega (arith, le, clients)) in
      let one : Operation T = new_operation client (any.Plain (calls.Advance to)) v.next.0 in
      record {
        operation = one;
        there = ap (λ (s : State T). numbered s.operations (next_op old)) v.state ∙ numbered_new old.operations one;
        caches = now.0;
        kept = now.1;
        left = inr (advances.Raises to (raising.Looks to), ap (λ (x : Next T). x.0) v.starts, raise_begins (get first.store.files world_boundary) now.0.boundary to);
      }

  pub advance_bound : (old : State T) (client to : ℕ) (said : Told T) (first : State T) (pages times : ℕ) (taken : List (Event T × Told T)) (new : State T) → IsReached encode decode get_epoch set_epoch old → Takes encode decode get_epoch set_epoch old (events.Begin client (any.Plain (calls.Advance to))) said first →
      Disturbed encode decode get_epoch set_epoch (next_op old) pages times first taken new → own_count (next_op old) taken ≤ 9 + times * 5
  advance_bound old client to said first pages times taken new r t d =
      advance_run taken times 9 first new (next_op old) pages (taken_reached encode decode get_epoch set_epoch old (events.Begin client (any.Plain (calls.Advance to))) said first r t) d (advance_has old client to said first r t)

  -- from any state in which it runs
  pub advance_alone : (s : State T) (op : ℕ) (o : Operation T) (ask : Ask) (advance : AdvanceOp) (pages : ℕ) (taken : List (Event T × Told T)) (new : State T) → IsReached encode decode get_epoch set_epoch s → numbered s.operations op ≡ Some o → asked o.doing ≡ Some ask → o.doing ≡ does.Plain (doings.Advance advance) →
      Disturbed encode decode get_epoch set_epoch op pages 0 s taken new → own_count op taken ≤ 11
  advance_alone s op o ask advance pages taken new r found asks doing d =
      let j = reached_joins encode decode get_epoch set_epoch s r in
      let held = held_of encode decode get_epoch set_epoch nothing s j op o ask found asks in
      let at = at_place decode get_epoch j.fine (j.now op) (as_fine o.client held.doing) j.stands held.there in
      let h : Advancing s op 11 = record {
        operation = o;
        there = found;
        caches = at.0;
        kept = ap (λ (cs : List Caches). numbered cs o.client) (sym j.caches) ∙ at.1;
        left = inr (advance, doing, advance_small (get s.store.files world_boundary) at.0.boundary advance 11 (omega arith));
      } in
      let bound = advance_run taken 0 11 s new op pages r d h in
      omega (arith, bound)
