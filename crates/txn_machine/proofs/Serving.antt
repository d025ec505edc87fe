-- Looks and serves keep a world joined.
use Rattle.std.proofs.Common.{◌≡◌, ℕ, ◌-◌, ◌<◌, ◌≤◌, List, [], ◌++◌, length, slice_set, Option, Some, None, inl, inr, refl, sym, ◌∙◌, ap, subst, arith}
use Rattle.std.proofs.lemmas.List.{append-nil}
use Rattle.txn_store.specs.Store.{State as StoreState}
use Rattle.txn_store.specs.Requests.{Serves}
use Rattle.txn_store.specs.declared.request.Request.{Request}
use Rattle.txn_steps.specs.declared.boundary.caches.Caches.{Caches}
use Rattle.txn_history.specs.declared.event.ToldOf.TheVariants as told
use Rattle.txn_history.specs.Lists.{numbered}
use Rattle.txn_history.specs.Seen.{Ask, Store, Look}
use Rattle.txn_history.specs.Added.{told_of, answer_rows, effect_rows}
use Rattle.txn_machine.specs.plain.Doing as plain
use Rattle.txn_machine.specs.plain.Machine as machine
use Rattle.txn_machine.proofs.plain.Lists.{within}
use Rattle.txn_machine.proofs.plain.Stands as machine_stands
use Rattle.txn_machine.proofs.plain.Events.{look_keeps, serve_keeps}
use Rattle.txn_machine.proofs.plain.Replies.{stood_replies, stood_looks}
use Rattle.txn_history.specs.Trace.{Row, Told, PlainRow}
use Rattle.txn_history.specs.Calls.{view_used}
use Rattle.txn_machine.specs.views.Layer.{Used, look_up, local_of}
use Rattle.txn_machine.proofs.views.Stands as layer_stands
use Rattle.txn_machine.specs.declared.doing.Operation.{Operation}
use Rattle.txn_machine.specs.Doing.{Next, asked}
use Rattle.txn_machine.specs.plain.Machine.{effected}
use Rattle.txn_machine.specs.Machine.{State, acted, Looks, Served, Acts}
use Rattle.txn_machine.proofs.Matched.{Answered as IsAnswered}
use Rattle.txn_machine.proofs.Turning.{every_turn}
use Rattle.txn_machine.proofs.Joined.{Past, as_fine, Held, At, Core, Tie, Joined}
use Rattle.txn_machine.proofs.Alike.{matched_same}
use Rattle.txn_machine.proofs.Reaching.{laid_on, effect_over, core_after, reach_mid, reach_views, reach_page}
use Rattle.txn_machine.proofs.Turned.{turn_joins}

module _ {T : Type 0} (encode : T → List ℕ) (decode : List ℕ → Option T) (get_epoch : T → ℕ) (set_epoch : T → ℕ → T) (past : Past T) (s : State T) (j : Joined decode get_epoch set_epoch past s) where
  -- what holds of an operation of this world
  abbrev pub HeldBy : ℕ → Operation T → Type 0
  HeldBy op operation = Held decode get_epoch j.fine.operations j.fine.trace j.l.rows j.owner j.now j.l.ops j.l.views j.l.asked op operation

  -- an operation that asks runs
  pub held_of : (op : ℕ) (operation : Operation T) (ask : Ask) → numbered s.operations op ≡ Some operation → asked operation.doing ≡ Some ask → HeldBy op operation
  held_of op operation ask found asks = by (subst (λ (x : Option (Operation T)). At decode get_epoch j.fine.operations j.fine.trace j.l.rows j.owner j.now j.l.ops j.l.views j.l.asked op x) found (j.rest.each op))
    where
      by : At decode get_epoch j.fine.operations j.fine.trace j.l.rows j.owner j.now j.l.ops j.l.views j.l.asked op (Some operation) → HeldBy op operation
      by (inl h) = absurd (let none : asked operation.doing ≡ None = ap asked h.0 in let clash : Some ask ≡ None = sym asks ∙ none in cc)
      by (inr h) = h

  -- its client is one of the world's
  pub client_of : (client : ℕ) (caches : Caches) → numbered s.caches client ≡ Some caches → (0 < client) × (client ≤ j.fine.clients)
  client_of client caches kept =
      let w = within s.caches client caches kept in
      let wide : length s.caches ≡ j.fine.clients = sym (ap (λ (cs : List Caches). length cs) j.caches) ∙ j.stands.wide in
      (w.0, (let le = w.1 in omega (arith, le, wide)))

  -- An operation that asks: what holds of it, its client, and its fine operation, which asks for the same.
  pub record Asking (op : ℕ) (operation : Operation T) (ask : Ask) (caches : Caches) : Type 0 where
    pub held : HeldBy op operation
    pub client : (0 < operation.client) × (operation.client ≤ j.fine.clients)
    pub acts : machine.Acts j.fine (j.now op) (as_fine operation.client held.doing) ask caches

  pub asking : (op : ℕ) (operation : Operation T) (ask : Ask) (caches : Caches) → Acts s op operation ask caches → Asking op operation ask caches
  asking op operation ask caches a =
      let held = held_of op operation ask a.found a.asks in
      let same = matched_same get_epoch held.call (local_of (look_up j.l.views (view_used held.call))) held.inner operation.doing held.doing held.matched in
      record {
        held = held;
        client = client_of operation.client caches a.kept;
        acts = record { found = held.there; asks = sym same.asks ∙ a.asks; kept = ap (λ (cs : List Caches). numbered cs operation.client) j.caches ∙ a.kept };
      }

  module _ (op : ℕ) (operation : Operation T) (found : numbered s.operations op ≡ Some operation) (held : HeldBy op operation) (client : (0 < operation.client) × (operation.client ≤ j.fine.clients)) where
    abbrev local : Option ℕ
    local = local_of (look_up j.l.views (view_used held.call))

    -- its fine operation has gone on, and it goes on with that
    pub acts_joins : (effect : Option Request) (after : plain.Next T) (store' : StoreState) (left : Caches) (next : Next T) →
        machine_stands.Stands decode get_epoch (record j.fine { store = store'; caches = slice_set s.caches (operation.client - 1) left; operations = machine.with_doing j.fine.operations (j.now op) (as_fine operation.client held.doing) after.0; trace = (j.fine.trace ++ effect_rows (j.now op) effect) ++ answer_rows (j.now op) after.1 }) →
        IsAnswered s.page encode decode get_epoch set_epoch held.call local held.inner after.0 after.1 next → Joined decode get_epoch set_epoch past (acted (record s { store = store'; trace = s.trace ++ effect_rows op effect }) op operation next left)
    acts_joins effect after store' left next stands answered =
        let failed = j.tie.failed in
        let kept = slice_set s.caches (operation.client - 1) left in
        let over = subst (λ (f : List ℕ). layer_stands.Stands decode get_epoch set_epoch (laid_on decode get_epoch set_epoch j.l op effect f)) failed (effect_over decode get_epoch set_epoch past s j op operation found held effect after store' kept j.fine.loose j.fine.failed s.failed stands) in
        let core = subst (λ (f : List ℕ). Core (j.fine.trace ++ effect_rows (j.now op) effect) j.fine.failed (j.l.rows ++ effect_rows op effect) j.l.views f j.owner) failed (core_after decode get_epoch set_epoch past s j op operation found held effect after store' kept j.fine.loose j.fine.failed s.failed) in
        let tie : Tie (record s { store = store'; trace = s.trace ++ effect_rows op effect }) (record j.fine { store = store'; caches = kept; operations = machine.with_doing j.fine.operations (j.now op) (as_fine operation.client held.doing) after.0; trace = (j.fine.trace ++ effect_rows (j.now op) effect) ++ answer_rows (j.now op) after.1 }) (laid_on decode get_epoch set_epoch j.l op effect s.failed) = record {
          clients = j.tie.clients;
          page = j.tie.page;
          store = refl;
          rows = ap (λ (rs : List (Row T)). rs ++ effect_rows op effect) j.tie.rows;
          failed = refl;
          views = j.tie.views;
          count = j.tie.count;
          next = j.tie.next;
        } in
        let m = reach_mid decode get_epoch set_epoch past s j op operation found held effect after store' kept j.fine.loose j.fine.failed s.failed stands over core (λ k i request e. e) client tie in
        let views = reach_views decode get_epoch set_epoch past s j op operation found held effect after store' kept j.fine.loose j.fine.failed s.failed stands over core (λ k i request e. e) client tie in
        let page = reach_page decode get_epoch set_epoch past s j op operation found held effect after store' kept j.fine.loose j.fine.failed s.failed stands over core (λ k i request e. e) client tie in
        turn_joins encode decode get_epoch set_epoch past (record s { store = store'; trace = s.trace ++ effect_rows op effect }) op operation left held.call held.inner after.0 after.1 m next
        (subst (λ (p : ℕ). IsAnswered p encode decode get_epoch set_epoch held.call (local_of (look_up m.opened.l.views (view_used held.call))) held.inner after.0 after.1 next) (sym (page ∙ j.tie.page))
        (subst (λ (vs : ℕ → Option (Used T)). IsAnswered s.page encode decode get_epoch set_epoch held.call (local_of (look_up vs (view_used held.call))) held.inner after.0 after.1 next) (sym views) answered))

    -- the same where nothing reached the store
    pub rests_joins : (after : plain.Next T) (left : Caches) (next : Next T) → machine_stands.Stands decode get_epoch (machine.acted j.fine (j.now op) (as_fine operation.client held.doing) after left) → IsAnswered s.page encode decode get_epoch set_epoch held.call local held.inner after.0 after.1 next →
        Joined decode get_epoch set_epoch past (acted s op operation next left)
    rests_joins after left next stands answered =
        let n = j.now op in
        let fine = machine.acted j.fine n (as_fine operation.client held.doing) after left in
        let stood =
        subst (λ (st : StoreState). machine_stands.Stands decode get_epoch (record fine { store = st; caches = slice_set s.caches (operation.client - 1) left; trace = (j.fine.trace ++ []) ++ answer_rows n after.1 })) j.tie.store
        (subst (λ (cs : List Caches). machine_stands.Stands decode get_epoch (record fine { caches = slice_set cs (operation.client - 1) left; trace = (j.fine.trace ++ []) ++ answer_rows n after.1 })) j.caches
        (subst (λ (tr : List (PlainRow T)). machine_stands.Stands decode get_epoch (record fine { trace = tr ++ answer_rows n after.1 })) (sym (append-nil j.fine.trace)) stands))
        in
        subst (λ (tr : List (Row T)). Joined decode get_epoch set_epoch past (acted (record s { trace = tr }) op operation next left)) (append-nil s.trace) (acts_joins None after s.store left next stood answered)

  -- a look

  pub look_joins : (op : ℕ) (said : Told T) (new : State T) → Looks encode decode get_epoch set_epoch s op said new → Joined decode get_epoch set_epoch past new
  look_joins op said new v =
      let operation = v.operation in
      let h = asking op operation Look v.caches v.acts in
      let held = h.held in
      let n = j.now op in
      let o = as_fine operation.client held.doing in
      let t = every_turn s.page encode decode get_epoch set_epoch held.call (local_of (look_up j.l.views (view_used held.call))) held.inner operation.doing held.doing v.caches None v.next held.matched (stood_looks decode get_epoch j.fine j.stands n o held.there h.acts.asks) v.turns in
      let left = plain.plain_caches_after held.doing v.caches t.after.1 in
      let fine = machine.acted j.fine n o t.after left in
      let stands = look_keeps decode get_epoch j.fine n (told_of (told.Went n) n t.after.1) fine
      (record { operation = o; caches = v.caches; acts = h.acts; refused = t.refused; next = t.after; turns = t.turns ∙ ap (λ (p : ℕ). plain.turned p decode t.refused held.doing v.caches None) (sym j.tie.page); tells = refl; state = refl }) j.stands in
      subst (λ (x : State T). Joined decode get_epoch set_epoch past x) (sym v.state)
      (subst (λ (c : Caches). Joined decode get_epoch set_epoch past (acted s op operation v.next c)) (sym t.leaves) (rests_joins op operation v.acts.found held h.client t.after left v.next stands t.answered))

  -- a serve

  pub serve_joins : (op : ℕ) (said : Told T) (new : State T) → Served encode decode get_epoch set_epoch s op said new → Joined decode get_epoch set_epoch past new
  serve_joins op said new v =
      let operation = v.call.operation in
      let h = asking op operation (Store v.call.request) v.call.caches v.call.acts in
      let held = h.held in
      let n = j.now op in
      let o = as_fine operation.client held.doing in
      let serves : Serves v.call.request j.fine.store v.call.reply v.call.store = subst (λ (st : StoreState). Serves v.call.request st v.call.reply v.call.store) (sym j.tie.store) v.call.reaches.serves in
      let t = every_turn s.page encode decode get_epoch set_epoch held.call (local_of (look_up j.l.views (view_used held.call))) held.inner operation.doing held.doing v.call.caches (Some v.call.reply) v.next held.matched (stood_replies decode get_epoch j.fine j.stands n o held.there v.call.request v.call.reply v.call.store h.acts.asks serves) v.turns in
      let left = plain.plain_caches_after held.doing v.call.caches t.after.1 in
      let fine = machine.acted (machine.effected j.fine n v.call.request v.call.reply v.call.store) n o t.after left in
      let stands = serve_keeps decode get_epoch j.fine n (told_of (told.Went n) n t.after.1) fine
      (record { call = record { operation = o; request = v.call.request; caches = v.call.caches; acts = h.acts; reply = v.call.reply; store = v.call.store; reaches = record { serves = serves; honest = v.call.reaches.honest } }; refused = t.refused; next = t.after; turns = t.turns ∙ ap (λ (p : ℕ). plain.turned p decode t.refused held.doing v.call.caches (Some v.call.reply)) (sym j.tie.page); tells = refl; state = refl }) j.stands in
      let stood =
      subst (λ (st : StoreState). machine_stands.Stands decode get_epoch (record fine { caches = slice_set s.caches (operation.client - 1) left; trace = (j.fine.trace ++ effect_rows n (machine.effect_of st.files v.call.request v.call.reply)) ++ answer_rows n t.after.1 })) j.tie.store
      (subst (λ (cs : List Caches). machine_stands.Stands decode get_epoch (record fine { caches = slice_set cs (operation.client - 1) left })) j.caches stands)
      in
      let joined = acts_joins op operation v.call.acts.found held h.client (machine.effect_of s.store.files v.call.request v.call.reply) t.after v.call.store left v.next stood t.answered in
      subst (λ (x : State T). Joined decode get_epoch set_epoch past x) (sym v.state)
      (subst (λ (c : Caches). Joined decode get_epoch set_epoch past (acted (effected s op v.call.request v.call.reply v.call.store) op operation v.next c)) (sym t.leaves) joined)
