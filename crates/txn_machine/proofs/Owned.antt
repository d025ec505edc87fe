-- Each operation and each view is of one of the clients, of which there are always as many.
use Rattle.std.proofs.Common.{◌≡◌, ℕ, zero, suc, ◌-◌, ◌<◌, ◌≤◌, ◌==◌, ◌&&◌, List, [], ◌∷◌, set, slice_get, Bool, true, false, not, if◌then◌else◌, Option, Some, None, inl, inr, refl, sym, ◌∙◌, ap, subst, arith}
use Rattle.std.specs.Option.{option_map}
use Rattle.std.proofs.lemmas.Bool.{and_parts}
use Rattle.std.proofs.lemmas.Option.{same_Some}
use Rattle.txn_steps.specs.declared.boundary.caches.Caches.{Caches}
use Rattle.txn_history.specs.declared.event.EventFault.TheVariants as faults
use Rattle.txn_history.specs.declared.event.EventOf.TheVariants as events
use Rattle.txn_history.specs.declared.event.Failure.{Failure}
use Rattle.txn_history.specs.declared.event.Failure.TheVariants as failures
use Rattle.txn_history.specs.Allowed.{is_client, may_use, is_busy, base_seen}
use Rattle.txn_history.specs.Lists.{numbered}
use Rattle.txn_history.specs.Seen.{Store, view_of}
use Rattle.txn_history.proofs.Lists.{get_set, numbered_more}
use Rattle.txn_machine.proofs.plain.Lists.{numbered_append, numbered_map}
use Rattle.txn_machine.proofs.plain.World.{client_within, first_true}
use Rattle.txn_steps_views.specs.declared.outcome.Outcome.TheVariants as outcomes
use Rattle.txn_history.specs.declared.event.Call.{Call}
use Rattle.txn_history.specs.Trace.{Event, Told}
use Rattle.txn_history.specs.Calls.{view_used, is_holders}
use Rattle.txn_history.specs.Views.{View}
use Rattle.txn_history.specs.OneHistory.{is_known_base, has_low_boundary, keeps_epoch}
use Rattle.txn_machine.specs.views.Layer.{Used, Change, Keeps, Puts, Makes, Closes, with_busy, changed, new_view}
use Rattle.txn_machine.specs.views.Steps.{view_without}
use Rattle.txn_machine.specs.declared.doing.Operation.{Operation}
use Rattle.txn_machine.specs.declared.doing.Ending.{Ending}
use Rattle.txn_machine.specs.declared.doing.Ending.TheVariants as endings
use Rattle.txn_machine.specs.Doing.{Next, ended, refused, caches_after}
use Rattle.txn_machine.specs.views.Parts.{is_claim_call}
use Rattle.txn_machine.specs.plain.Machine.{effected, loosened, failing, next_op}
use Rattle.txn_machine.specs.Machine.{State, opening, refusal_of, seen_of, seen_views, used_in, used_by, views_changed, let_go, change_of, made_by, views_after, views_taken, doing_next, acted, given_up, ended_by, crashed, new_operation, begun_as, Fails, TakesOrLacks, RunsOrLacks, IsReached}
use Rattle.txn_machine.specs.Laws.{KeepsClients}
use Rattle.txn_machine.proofs.Busy.{view_there}
use Rattle.txn_machine.proofs.Runs.{takes_same_or_lacking, runs_keep}

-- one of so many clients
abbrev pub IsOf : ℕ → ℕ → Type 0
IsOf clients client = (1 ≤ client) × (client ≤ clients)

module _ {T : Type 0} where
  abbrev AreOf : ℕ → List (Operation T) → Type 0
  AreOf clients operations = (op : ℕ) (o : Operation T) → numbered operations op ≡ Some o → IsOf clients o.client

  abbrev ViewsOf : ℕ → List (Option (Used T)) → Type 0
  ViewsOf clients views = (number : ℕ) (used : Used T) → numbered views number ≡ Some (Some used) → IsOf clients used.view.client

  pub record Owned (s : State T) : Type 0 where
    pub operations : AreOf s.clients s.operations
    pub views : ViewsOf s.clients s.views

  -- views, where one of them has changed

  put_of : (clients : ℕ) (views : List (Option (Used T))) (n : ℕ) (now : Option (Used T)) → ViewsOf clients views → ((used : Used T) → now ≡ Some used → IsOf clients used.view.client) → ViewsOf clients (set views (n - 1) now)
  put_of clients views n now all own zero used e = absurd (cc)
  put_of clients views n now all own (suc k) used e = elim (get_set views (n - 1) now k (Some used) e) [ inl same ↦ own used same.1 | inr other ↦ all (suc k) used other.1 ]

  client_kept : (used : Used T) (change : Change T) (after : Used T) → changed (Some used) change ≡ Some after → used.view.client ≡ after.view.client
  client_kept used Keeps after e = ap (λ (u : Used T). u.view.client) (same_Some _ after e)
  client_kept used (Puts id value) after e = ap (λ (u : Used T). u.view.client) (same_Some _ after e)
  client_kept used (Makes id value epoch) after e = ap (λ (u : Used T). u.view.client) (same_Some _ after e)
  client_kept used Closes after e = absurd (cc)

  changed_of : (clients : ℕ) (views : List (Option (Used T))) (number : Option ℕ) (change : Change T) → ViewsOf clients views → ViewsOf clients (views_changed views number change)
  changed_of clients views None change all = all
  changed_of clients views (Some n) change all = put_of clients views n (changed (used_by views (Some n)) change) all (λ after e. by (numbered views n) refl after e)
    where
      by : (found : Option (Option (Used T))) → numbered views n ≡ found → (after : Used T) → changed (used_in found) change ≡ Some after → IsOf clients after.view.client
      by None is after e = absurd (cc)
      by (Some None) is after e = absurd (cc)
      by (Some (Some used)) is after e = subst (IsOf clients) (client_kept used change after e) (all n used is)

  taken_of : (clients : ℕ) (views : List (Option (Used T))) (number : Option ℕ) (op : ℕ) → ViewsOf clients views → ViewsOf clients (views_taken views number op)
  taken_of clients views None op all = all
  taken_of clients views (Some n) op all = put_of clients views n (option_map (with_busy (Some op)) (used_by views (Some n))) all (λ after e. by (numbered views n) refl after e)
    where
      by : (found : Option (Option (Used T))) → numbered views n ≡ found → (after : Used T) → option_map (with_busy (Some op)) (used_in found) ≡ Some after → IsOf clients after.view.client
      by None is after e = absurd (cc)
      by (Some None) is after e = absurd (cc)
      by (Some (Some used)) is after e = subst (IsOf clients) (ap (λ (u : Used T). u.view.client) (same_Some (with_busy (Some op) used) after e)) (all n used is)

  made_of : (clients client : ℕ) → IsOf clients client → (ending : Ending T) (j : ℕ) (used : Used T) → slice_get (made_by client ending) j ≡ Some (Some used) → IsOf clients used.view.client
  made_of clients client own (endings.Answers answer) j used e = absurd (cc)
  made_of clients client own (endings.Comes (outcomes.Viewed id value)) zero used e =
      subst (IsOf clients) (ap (λ (u : Used T). u.view.client) (same_Some (new_view client id value) used (same_Some (Some (new_view client id value)) (Some used) e))) own
  made_of clients client own (endings.Comes (outcomes.Viewed id value)) (suc j) used e = absurd (cc)
  made_of clients client own (endings.Comes (outcomes.Held id value epoch)) j used e = absurd (cc)
  made_of clients client own (endings.Comes (outcomes.Shut id value error)) j used e = absurd (cc)

  after_of : (clients client : ℕ) → IsOf clients client → (views : List (Option (Used T))) (view : Option ℕ) (claims : Bool) (ending : Option (Ending T)) → ViewsOf clients views → ViewsOf clients (views_after views client view claims ending)
  after_of clients client own views view claims None all = all
  after_of clients client own views (Some n) claims (Some ending) all = changed_of clients views (Some n) (change_of claims ending) all
  after_of clients client own views None claims (Some ending) all =
      λ number used e. elim (numbered_append views (made_by client ending) number (Some used) e) [ inl old ↦ all number used old | inr new ↦ made_of clients client own ending new.0 used new.1 ]

  -- operations, where one of them does something else

  set_of : (clients : ℕ) (operations : List (Operation T)) (k : ℕ) (o : Operation T) → IsOf clients o.client → AreOf clients operations → AreOf clients (set operations k o)
  set_of clients operations k o own all zero p e = absurd (cc)
  set_of clients operations k o own all (suc n) p e = elim (get_set operations k o n p e) [ inl same ↦ subst (λ (x : Operation T). IsOf clients x.client) same.1 own | inr other ↦ all (suc n) p other.1 ]

  -- each event

  acted_owned : (s : State T) (op : ℕ) (o : Operation T) (next : Next T) (caches : Caches) → Owned s → numbered s.operations op ≡ Some o → Owned (acted s op o next caches)
  acted_owned s op o next caches h found = record {
    operations = set_of s.clients s.operations (op - 1) (doing_next o next.0) (h.operations op o found) h.operations;
    views = after_of s.clients o.client (h.operations op o found) s.views o.view o.claims next.1 h.views;
  }

  given_up_owned : (s : State T) (op : ℕ) (o : Operation T) → Owned s → numbered s.operations op ≡ Some o → Owned (given_up s op o)
  given_up_owned s op o h found = record {
    operations = set_of s.clients s.operations (op - 1) (doing_next o ended) (h.operations op o found) h.operations;
    views = changed_of s.clients s.views o.view (let_go o.claims) h.views;
  }

  begun_owned : (s : State T) (client : ℕ) (call : Call T) (next : Next T) → Owned s → IsOf s.clients client → Owned (begun_as s client call next)
  begun_owned s client call next h own = record {
    operations = λ op o e. elim (numbered_more s.operations (new_operation client call next.0) op o e) [ inl old ↦ h.operations op o old | inr new ↦ subst (λ (x : Operation T). IsOf s.clients x.client) new.1 own ];
    views = after_of s.clients client own (views_taken s.views (view_used call) (next_op s)) (view_used call) (is_claim_call call) next.1 (taken_of s.clients s.views (view_used call) (next_op s) h.views);
  }

  either_client : (b : Bool) (o : Operation T) → (if◌then◌else◌ {A = Operation T} b (doing_next o ended) o).client ≡ o.client
  either_client true o = refl
  either_client false o = refl

  kept_there : (b : Bool) (was used : Used T) → Some used ≡ if◌then◌else◌ {A = Option (Used T)} b None (Some was) → was.view.client ≡ used.view.client
  kept_there true was used e = absurd (cc)
  kept_there false was used e = ap (λ (u : Used T). u.view.client) (same_Some was used (sym e))

  crashed_owned : (s : State T) (client : ℕ) → Owned s → Owned (crashed s client)
  crashed_owned s client h = record {
    operations = λ op o e. (
        let was = numbered_map (ended_by client) s.operations op o e in
        subst (IsOf s.clients) (sym (ap (λ (x : Operation T). x.client) was.2 ∙ either_client (was.0.client == client) was.0)) (h.operations op was.0 was.1)
        );
    views = λ number used e. (let was = numbered_map (view_without client) s.views number (Some used) e in by number used was.0 was.1 was.2);
  }
    where
      by : (number : ℕ) (used : Used T) (was : Option (Used T)) → numbered s.views number ≡ Some was → Some used ≡ view_without client was → IsOf s.clients used.view.client
      by number used None there is = absurd (cc)
      by number used (Some was) there is = subst (IsOf s.clients) (kept_there (was.view.client == client) was used is) (h.views number was there)

  -- where neither the operations nor the views change
  as_owned : (s t : State T) → t.clients ≡ s.clients → t.operations ≡ s.operations → t.views ≡ s.views → Owned s → Owned t
  as_owned s t clients operations views h = record {
    operations = λ op o e. subst (λ (n : ℕ). IsOf n o.client) (sym clients) (h.operations op o (ap (λ (os : List (Operation T)). numbered os op) (sym operations) ∙ e));
    views = λ number used e. subst (λ (n : ℕ). IsOf n used.view.client) (sym clients) (h.views number used (ap (λ (vs : List (Option (Used T))). numbered vs number) (sym views) ∙ e));
  }

  fails_owned : (failure : Failure) (old : State T) (op : ℕ) (said : Told T) (new : State T) → Owned old → Fails old op failure said new → Owned new
  fails_owned failures.Before old op said new h v = subst Owned (sym v.state) (acted_owned (failing old op) op v.operation (refused 2) v.caches (as_owned old (failing old op) refl refl refl h) v.acts.found)
  fails_owned failures.After old op said new h v =
      let middle = failing (effected old op v.call.request v.call.reply v.call.store) op in
      subst Owned (sym v.state) (acted_owned middle op v.call.operation (refused 2) v.call.caches (as_owned old middle refl refl refl h) v.call.acts.found)
  fails_owned failures.Loose old op said new h v =
      let middle = failing (loosened old op (Store v.request)) op in
      subst Owned (sym v.state) (acted_owned middle op v.operation (refused 2) v.caches (as_owned old middle refl refl refl h) v.acts.found)

module _ {T : Type 0} (encode : T → List ℕ) (decode : List ℕ → Option T) (get_epoch : T → ℕ) (set_epoch : T → ℕ → T) where
  -- the client of a begin that is allowed
  begins_own : (s : State T) (client : ℕ) (call : Call T) → refusal_of encode decode get_epoch set_epoch s (events.Begin client call) ≡ None → IsOf s.clients client
  begins_own s client call allowed =
      let known = is_client s.clients client in
      let may = may_use (seen_of s) client (is_holders call) (view_used call) in
      let later = (not (is_busy (seen_of s) s.trace (view_used call)), faults.ViewBusy) ∷ (is_known_base s.trace (base_seen (seen_of s) call), faults.UnknownBase) ∷ (has_low_boundary s.trace call, faults.BoundaryTooHigh) ∷ (keeps_epoch decode get_epoch s.trace (base_seen (seen_of s) call) call, faults.EpochLowered) ∷ [] in
      let within = client_within s.clients client (and_parts known may (first_true (known && may) faults.UnknownNumber later allowed)).0 in
      let some : 0 < client = within.0 in
      (omega (arith, some), within.1)

  takes_owned : (old : State T) (event : Event T) (said : Told T) (new : State T) → Owned old → TakesOrLacks encode decode get_epoch set_epoch old event said new → Owned new
  takes_owned old (events.Begin client call) said new h t = subst Owned (sym t.step.state) (begun_owned old client call t.step.next h (begins_own old client call t.allowed))
  takes_owned old (events.Look op) said new h t = (let v = t.step in subst Owned (sym v.state) (acted_owned old op v.operation v.next (caches_after v.operation.doing v.caches v.next.1) h v.acts.found))
  takes_owned old (events.Serve op) said new h t = elim t.step [
    | inl v ↦ (
        let middle = effected old op v.call.request v.call.reply v.call.store in
        subst Owned (sym v.state) (acted_owned middle op v.call.operation v.next (caches_after v.call.operation.doing v.call.caches v.next.1) (as_owned old middle refl refl refl h) v.call.acts.found)
        )
    | inr v ↦ subst Owned (sym v.state) (acted_owned old op v.operation (refused 9) v.caches h v.acts.found)
  ]
  takes_owned old (events.Fail op failure) said new h t = fails_owned failure old op said new h t.step
  takes_owned old (events.GiveUp op) said new h t = (
      let v = t.step in
      let middle = loosened old op v.ask in
      subst Owned (sym v.state) (given_up_owned middle op v.operation (as_owned old middle refl refl refl h) v.found)
      )
  takes_owned old (events.Land k) said new h t = (let v = t.step in subst Owned (sym v.state) (as_owned old (effected old v.loose.op v.loose.request v.loose.reply v.loose.store) refl refl refl h))
  takes_owned old (events.Crash client) said new h t = subst Owned (sym t.step.state) (crashed_owned old client h)

  -- in each state of a run

  pub run_same : (clients page : ℕ) (taken : List (Event T × Told T)) (s : State T) → RunsOrLacks encode decode get_epoch set_epoch (opening clients page) taken s → (s.clients ≡ clients) × (s.page ≡ page)
  run_same clients page taken s runs =
      runs_keep encode decode get_epoch set_epoch (λ (t : State T). (t.clients ≡ clients) × (t.page ≡ page))
      (λ old event said new h t. (let same = takes_same_or_lacking encode decode get_epoch set_epoch old event said new t in (same.0 ∙ h.0, same.1 ∙ h.1)))
      (opening clients page) taken s runs (refl, refl)

  pub run_owned : (clients page : ℕ) (taken : List (Event T × Told T)) (s : State T) → RunsOrLacks encode decode get_epoch set_epoch (opening clients page) taken s → (number : ℕ) (used : Used T) → numbered s.views number ≡ Some (Some used) → (1 ≤ used.view.client) × (used.view.client ≤ clients)
  run_owned clients page taken s runs number used there =
      let owned = runs_keep encode decode get_epoch set_epoch Owned takes_owned (opening clients page) taken s runs (record { operations = λ op o e. none_numbered op o e; views = λ n u e. none_numbered n (Some u) e }) in
      subst (λ (n : ℕ). IsOf n used.view.client) (run_same clients page taken s runs).0 (owned.views number used there)
    where
      none_numbered : {A : Type 0} {P : Type 0} (n : ℕ) (x : A) → numbered {A = A} [] n ≡ Some x → P
      none_numbered zero x e = absurd (cc)
      none_numbered (suc n) x e = absurd (cc)

  pub run_keeps_clients : (clients page : ℕ) (taken : List (Event T × Told T)) (s : State T) → RunsOrLacks encode decode get_epoch set_epoch (opening clients page) taken s → KeepsClients clients page s
  run_keeps_clients clients page taken s runs = (let same = run_same clients page taken s runs in record { clients_are = same.0; page_is = same.1; owners = run_owned clients page taken s runs })

  -- in each state that is reached, of each view as it is seen
  pub reached_owned : (s : State T) → IsReached encode decode get_epoch set_epoch s → (number : ℕ) (view : View T) → view_of (seen_of s) number ≡ Some view → (1 ≤ view.client) × (view.client ≤ s.clients)
  reached_owned s r number view e =
      let there = view_there s.views number view (numbered (seen_views s.views) number) refl e in
      subst (λ (v : View T). IsOf s.clients v.client) there.2 (run_owned s.clients s.page r.0 s r.1 number there.0 there.1)
