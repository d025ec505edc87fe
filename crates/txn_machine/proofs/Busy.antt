-- A view is busy just where a running operation began on it, in every state that is reached.
use Rattle.std.proofs.Common.{◌≡◌, ℕ, ◌+◌, ◌-◌, ◌<◌, zero, suc, List, [], ◌∷◌, ◌++◌, length, set, slice_get, ◌==◌, ◌&&◌, not, Bool, true, false, is_some, Option, Some, None, inl, inr, refl, sym, ◌∙◌, ap, subst, arith}
use Rattle.std.specs.List.{list_any}
use Rattle.std.specs.Option.{option_map}
use Rattle.std.proofs.lemmas.Bool.{and_parts, and_from, eqb-true, eq-eqb}
use Rattle.std.proofs.lemmas.Option.{same_Some}
use Rattle.txn_store.specs.Store.{State as StoreState}
use Rattle.txn_store.specs.declared.request.Request.{Request}
use Rattle.txn_store.specs.declared.request.Reply.{Reply}
use Rattle.txn_steps.specs.declared.boundary.caches.Caches.{Caches}
use Rattle.txn_steps.specs.Reads.{read_started}
use Rattle.txn_history.specs.declared.event.EventFault.{EventFault}
use Rattle.txn_history.specs.declared.event.EventFault.TheVariants as faults
use Rattle.txn_history.specs.declared.event.EventOf.TheVariants as events
use Rattle.txn_history.specs.declared.event.Failure.{Failure}
use Rattle.txn_history.specs.declared.event.Failure.TheVariants as failures
use Rattle.txn_history.specs.declared.trace.RowOf.TheVariants.{Effect, Begun, Answered}
use Rattle.txn_history.specs.Allowed.{first_fault, is_client, is_own, may_use, keeps_busy, is_busy, base_seen}
use Rattle.txn_history.specs.History.{is_id}
use Rattle.txn_history.specs.Lists.{numbered}
use Rattle.txn_history.specs.Names.{world_boundary}
use Rattle.txn_history.specs.Seen.{Store, Look, asks_in, asks_of, view_of, view_in}
use Rattle.txn_history.specs.Added.{answer_rows, effect_rows}
use Rattle.txn_history.proofs.Rows.{is_id_some}
use Rattle.txn_history.proofs.Lists.{numbered_kept}
use Rattle.txn_machine.proofs.plain.Lists.{numbered_here, numbered_other, numbered_map, numbered_append, within, numbered_of_map, numbered_new}
use Rattle.txn_machine.specs.declared.plain.doing.PlainDoing.TheVariants as doings
use Rattle.txn_machine.specs.plain.Machine.{effect_of, effected, loosened, failing, next_op}
use Rattle.txn_steps_views.specs.declared.outcome.Outcome.TheVariants as outcomes
use Rattle.txn_history.specs.declared.event.Call.{Call}
use Rattle.txn_history.specs.declared.event.Answer.{Answer}
use Rattle.txn_history.specs.Trace.{Row, Event, Told}
use Rattle.txn_history.specs.Calls.{view_used, is_holders}
use Rattle.txn_history.specs.Views.{View}
use Rattle.txn_history.specs.OneHistory.{agree, is_known_base, has_low_boundary, keeps_epoch}
use Rattle.txn_machine.specs.views.Layer.{Used, Change, Keeps, Puts, Makes, Closes, with_busy, changed, new_view}
use Rattle.txn_machine.specs.declared.doing.Doing.{Doing}
use Rattle.txn_machine.specs.declared.doing.Doing.TheVariants as does
use Rattle.txn_machine.specs.declared.doing.Operation.{Operation}
use Rattle.txn_machine.specs.declared.doing.Ending.{Ending}
use Rattle.txn_machine.specs.declared.doing.Ending.TheVariants as endings
use Rattle.txn_machine.specs.Doing.{Next, asked, ended, refused, caches_after}
use Rattle.txn_machine.specs.views.Parts.{is_claim_call}
use Rattle.txn_machine.specs.Machine.{State, opening, refusal_of, seen_operation, seen_operations, seen_view, seen_views, seen_of, used_in, used_by, with_used, let_go, made_by, change_of, views_after, views_taken, answered, doing_next, with_doing, acted, given_up, new_operation, begun_as, Fails, Looks, Served, Lacks, TakesOrLacks, IsReached}
use Rattle.txn_machine.proofs.Places.{set_new, any_at, place_of_any}
use Rattle.txn_machine.proofs.Fits.{Fits, turned_fits, started_fits}
use Rattle.txn_machine.proofs.Busies.{IsRunning, Busies, HasNoBegin, Frees, TakesOne, busies_opening, busies_rows, busies_goes, busies_ends, busies_begins, busies_crashes}
use Rattle.txn_machine.proofs.Runs.{runs_keep}

-- a fault that is not found leaves the other tests
first_passes : (b : Bool) (fault : EventFault) (tests : List (Bool × EventFault)) → first_fault ((b, fault) ∷ tests) ≡ None → (b ≡ true) × (first_fault tests ≡ None)
first_passes true fault tests e = (refl, e)
first_passes false fault tests e = absurd (cc)

not_true : (b : Bool) → not b ≡ true → b ≡ false
not_true true e = absurd (cc)
not_true false e = refl

none_of : {A : Type 0} (o : Option A) → is_some o ≡ false → o ≡ None
none_of None e = refl
none_of (Some x) e = absurd (cc)

module _ {T : Type 0} where
  -- an operation that is there asks for what it is seen to ask for
  pub seen_asks : (operations : List (Operation T)) (op : ℕ) (o : Operation T) → numbered operations op ≡ Some o → asks_in (numbered (seen_operations operations) op) ≡ asked o.doing
  seen_asks operations op o e = ap asks_in (numbered_of_map seen_operation operations op o e)

module _ {T : Type 0} (s : State T) (h : Busies s.operations s.views s.trace) (number : ℕ) where
  -- a view on which an operation runs is there, and busy
  begun_has_view : (k : ℕ) (row : Row T) → slice_get s.trace k ≡ Some row → keeps_busy (seen_of s) number row ≡ true → (used : Used T) × (numbered s.views number ≡ Some (Some used)) × (is_some used.busy ≡ true)
  begun_has_view k (Begun op call) e keeps =
      let both = and_parts (is_id number (view_used call)) (is_some (asks_of (seen_of s).calls op)) keeps in
      let on : view_used call ≡ Some number = is_id_some number (view_used call) both.0 in
      let of = h.begun k op call e in
      let runs : IsRunning of.operation = ap is_some (sym (seen_asks s.operations op of.operation of.found)) ∙ both.1 in
      let held = h.holds op number of.operation of.found runs (of.uses ∙ on) in
      (held.used, held.there, ap is_some held.busy)
  begun_has_view k (Effect op request) e keeps = absurd (cc)
  begun_has_view k (Answered op answer) e keeps = absurd (cc)

module _ {T : Type 0} (s : State T) (h : Busies s.operations s.views s.trace) (number : ℕ) (used : Used T) (there : numbered s.views number ≡ Some (Some used)) where
  -- a begin on the view, of an operation that runs
  row_is_busy : (k : ℕ) (row : Row T) → slice_get s.trace k ≡ Some row → keeps_busy (seen_of s) number row ≡ true → is_some used.busy ≡ true
  row_is_busy k row e keeps =
      let held = begun_has_view s h number k row e keeps in
      let same : held.0 ≡ used = same_Some held.0 used (same_Some (Some held.0) (Some used) (sym held.1 ∙ there)) in
      subst (λ (u : Used T). is_some u.busy ≡ true) same held.2

  busy_has_row : (op : ℕ) → used.busy ≡ Some op → list_any (keeps_busy (seen_of s) number) s.trace ≡ true
  busy_has_row op busy =
      let runs = h.runs number op used there busy in
      let noted = h.noted op runs.operation runs.found in
      let on : view_used noted.call ≡ Some number = noted.uses ∙ runs.uses in
      let is : is_id number (view_used noted.call) ≡ true = ap (is_id number) on ∙ eq-eqb number number refl in
      let asks : is_some (asks_of (seen_of s).calls op) ≡ true = ap is_some (seen_asks s.operations op runs.operation runs.found) ∙ runs.runs in
      any_at (keeps_busy (seen_of s) number) s.trace noted.place (Begun op noted.call) noted.row (and_from (is_id number (view_used noted.call)) (is_some (asks_of (seen_of s).calls op)) is asks)

  busy_by : (busy : Option ℕ) (found : Bool) → used.busy ≡ busy → list_any (keeps_busy (seen_of s) number) s.trace ≡ found → found ≡ is_some busy
  busy_by None true is some = (let row = place_of_any (keeps_busy (seen_of s) number) s.trace some in sym (row_is_busy row.0 row.1 row.2 row.3) ∙ ap is_some is)
  busy_by None false is some = refl
  busy_by (Some op) true is some = refl
  busy_by (Some op) false is some = sym some ∙ busy_has_row op is

  -- the rows show that the view is busy just where it is
  pub busy_as_shown : is_busy (seen_of s) s.trace (Some number) ≡ is_some used.busy
  busy_as_shown = busy_by used.busy (list_any (keeps_busy (seen_of s) number) s.trace) refl refl

module _ {T : Type 0} (s : State T) (h : Busies s.operations s.views s.trace) (number : ℕ) where
  -- no operation runs on a view that is not there
  pub idle_where_none : used_by s.views (Some number) ≡ None → is_busy (seen_of s) s.trace (Some number) ≡ false
  idle_where_none none = by (list_any (keeps_busy (seen_of s) number) s.trace) refl
    where
      by : (found : Bool) → list_any (keeps_busy (seen_of s) number) s.trace ≡ found → list_any (keeps_busy (seen_of s) number) s.trace ≡ false
      by true some =
          let row = place_of_any (keeps_busy (seen_of s) number) s.trace some in
          let used = begun_has_view s h number row.0 row.1 row.2 row.3 in
          let clash : None ≡ Some used.0 = sym none ∙ ap used_in used.1 in
          absurd (cc)
      by false idle = idle

module _ {T : Type 0} where
  -- what an ending leaves of the views

  change_frees : (used : Used T) (change : Change T) (after : Used T) → changed (Some used) change ≡ Some after → after.busy ≡ None
  change_frees used Keeps after e = ap (λ (u : Used T). u.busy) (sym (same_Some _ after e))
  change_frees used (Puts id value) after e = ap (λ (u : Used T). u.busy) (sym (same_Some _ after e))
  change_frees used (Makes id value epoch) after e = ap (λ (u : Used T). u.busy) (sym (same_Some _ after e))
  change_frees used Closes after e = absurd (cc)

  frees_changed : (views : List (Option (Used T))) (number : ℕ) (used : Used T) (change : Change T) → numbered views number ≡ Some (Some used) → Frees views (with_used views (Some number) (changed (used_by views (Some number)) change)) (Some number)
  frees_changed views number used change there =
      let now = changed (used_by views (Some number)) change in
      let was : now ≡ changed (Some used) change = ap (λ (u : Option (Option (Used T))). changed (used_in u) change) there in
      record {
        own = λ n u is f. (
            let same : n ≡ number = same_Some n number (sym is) in
            let here : numbered (set views (number - 1) now) number ≡ Some now = numbered_here views number now (Some used) there in
            change_frees used change u (sym was ∙ same_Some now (Some u) (sym here ∙ (ap (λ (m : ℕ). numbered (set views (number - 1) now) m) (sym same) ∙ f)))
            );
        others = λ n u apart f. inl (sym (numbered_other views number n now (within views number (Some used) there).0 (λ same. apart (ap Some (sym same)))) ∙ f);
        stay = λ n u apart f. numbered_other views number n now (within views number (Some used) there).0 (λ same. apart (ap Some (sym same))) ∙ f;
      }

  made_free : (client : ℕ) (ending : Ending T) (j : ℕ) (used : Used T) → slice_get (made_by client ending) j ≡ Some (Some used) → used.busy ≡ None
  made_free client (endings.Answers answer) j used e = absurd (cc)
  made_free client (endings.Comes (outcomes.Viewed id value)) zero used e = ap (λ (u : Used T). u.busy) (sym (same_Some (new_view client id value) used (same_Some (Some (new_view client id value)) (Some used) e)))
  made_free client (endings.Comes (outcomes.Viewed id value)) (suc j) used e = absurd (cc)
  made_free client (endings.Comes (outcomes.Held id value epoch)) j used e = absurd (cc)
  made_free client (endings.Comes (outcomes.Shut id value error)) j used e = absurd (cc)

  frees_made : (views : List (Option (Used T))) (client : ℕ) (ending : Ending T) → Frees views (views ++ made_by client ending) None
  frees_made views client ending = record {
    own = λ n u is f. absurd (cc);
    others = λ n u apart f. elim (numbered_append views (made_by client ending) n (Some u) f) [ inl old ↦ inl old | inr new ↦ inr (made_free client ending new.0 u new.1) ];
    stay = λ n u apart f. numbered_kept views (made_by client ending) n (Some u) f;
  }

  frees_none : (views : List (Option (Used T))) → Frees views views None
  frees_none views = record { own = λ n u is f. absurd (cc); others = λ n u apart f. inl f; stay = λ n u apart f. f }

  -- it holds the view that it uses, if it uses one
  abbrev pub HasOne : List (Option (Used T)) → Option ℕ → Type 0
  HasOne views view = (number : ℕ) → view ≡ Some number → (used : Used T) × (numbered views number ≡ Some (Some used))

  frees_ended : (views : List (Option (Used T))) (client : ℕ) (view : Option ℕ) (claims : Bool) (ending : Ending T) → HasOne views view → Frees views (views_after views client view claims (Some ending)) view
  frees_ended views client None claims ending has = frees_made views client ending
  frees_ended views client (Some number) claims ending has = (let one = has number refl in frees_changed views number one.0 (change_of claims ending) one.1)

  frees_let_go : (views : List (Option (Used T))) (view : Option ℕ) (claims : Bool) → HasOne views view → Frees views (with_used views view (changed (used_by views view) (let_go claims))) view
  frees_let_go views None claims has = frees_none views
  frees_let_go views (Some number) claims has = (let one = has number refl in frees_changed views number one.0 (let_go claims) one.1)

  -- rows that begin nothing

  no_begin : (rows : List (Row T)) → rows ≡ [] → HasNoBegin rows
  no_begin rows none = λ k op call e. let nothing : slice_get {X = Row T} [] k ≡ Some (Begun op call) = ap (λ (rs : List (Row T)). slice_get rs k) (sym none) ∙ e in absurd (cc nothing)

  answer_begins : (op : ℕ) (answer : Option (Answer T)) → HasNoBegin (answer_rows op answer)
  answer_begins op None = λ k o call e. absurd (cc)
  answer_begins op (Some answer) = one_begins
    where
      one_begins : (k o : ℕ) (call : Call T) → slice_get {X = Row T} (Answered op answer ∷ []) k ≡ Some (Begun o call) → ⊥
      one_begins zero o call e = cc
      one_begins (suc k) o call e = cc

  effect_begins : (op : ℕ) (effect : Option Request) → HasNoBegin {T = T} (effect_rows op effect)
  effect_begins op None = λ k o call e. absurd (cc)
  effect_begins op (Some request) = one_begins
    where
      one_begins : (k o : ℕ) (call : Call T) → slice_get {X = Row T} (Effect op request ∷ []) k ≡ Some (Begun o call) → ⊥
      one_begins zero o call e = cc
      one_begins (suc k) o call e = cc

  -- a begin takes the view that its call uses

  abbrev pub IsFree : List (Option (Used T)) → Option ℕ → ℕ → Type 0
  IsFree views view client = (number : ℕ) → view ≡ Some number → (used : Used T) × (numbered views number ≡ Some (Some used)) × (used.busy ≡ None) × (used.view.client ≡ client)

  pub takes_free : (views : List (Option (Used T))) (view : Option ℕ) (op client : ℕ) → IsFree views view client → TakesOne views (views_taken views view op) view op client
  takes_free views None op client free = record { held = λ n is. absurd (cc); free = λ n u is f. absurd (cc); back = λ n u apart f. f; stay = λ n u apart f. f }
  takes_free views (Some number) op client free =
      let one = free number refl in
      let now = option_map (with_busy (Some op)) (used_by views (Some number)) in
      let was : now ≡ Some (with_busy (Some op) one.0) = ap (λ (u : Option (Option (Used T))). option_map (with_busy (Some op)) (used_in u)) one.1 in
      let here : numbered (set views (number - 1) now) number ≡ Some now = numbered_here views number now (Some one.0) one.1 in
      let some : 0 < number = (within views number (Some one.0) one.1).0 in
      record {
        held = λ n is. (
            let same : n ≡ number = same_Some n number (sym is) in
            record { used = with_busy (Some op) one.0; there = ap (λ (m : ℕ). numbered (set views (number - 1) now) m) same ∙ (here ∙ ap Some was); busy = refl; own = one.3 }
            );
        free = λ n u is f. (
            let same : n ≡ number = same_Some n number (sym is) in
            let there : Some u ≡ Some one.0 = same_Some (Some u) (Some one.0) (sym f ∙ (ap (λ (m : ℕ). numbered views m) same ∙ one.1)) in
            ap (λ (w : Used T). w.busy) (same_Some u one.0 there) ∙ one.2
            );
        back = λ n u apart f. sym (numbered_other views number n now some (λ same. apart (ap Some (sym same)))) ∙ f;
        stay = λ n u apart f. numbered_other views number n now some (λ same. apart (ap Some (sym same))) ∙ f;
      }

  -- states

  abbrev pub Busied : State T → Type 0
  Busied s = Busies s.operations s.views s.trace

  pub has_one : (s : State T) → Busied s → (op : ℕ) (o : Operation T) → numbered s.operations op ≡ Some o → IsRunning o → HasOne s.views o.view
  has_one s h op o found runs = λ number is. let held = h.holds op number o found runs is in (held.used, held.there)

  -- an operation takes its turn
  acted_busied : (s : State T) (op : ℕ) (o : Operation T) (next : Next T) (caches : Caches) → Busied s → numbered s.operations op ≡ Some o → IsRunning o → Fits next → Busied (acted s op o next caches)
  acted_busied s op o (doing, None) caches h found runs fits =
      busies_rows (with_doing s.operations op o doing) s.views s.trace (busies_goes s.operations s.views s.trace h op o found doing runs fits) (answer_rows op None) (answer_begins op None)
  acted_busied s op o (doing, Some ending) caches h found runs fits =
      let after = views_after s.views o.client o.view o.claims (Some ending) in
      let frees = frees_ended s.views o.client o.view o.claims ending (has_one s h op o found runs) in
      let answer = answered (length s.views) o.view (Some ending) in
      busies_rows (with_doing s.operations op o doing) after s.trace (busies_ends s.operations s.views s.trace h op o found doing after runs fits frees) (answer_rows op answer) (answer_begins op answer)

  pub effected_busied : (s : State T) (op : ℕ) (request : Request) (reply : Reply) (store : StoreState) → Busied s → Busied (effected s op request reply store)
  effected_busied s op request reply store h = let effect = effect_of s.store.files request reply in busies_rows s.operations s.views s.trace h (effect_rows op effect) (effect_begins op effect)

  given_up_busied : (s : State T) (op : ℕ) (o : Operation T) → Busied s → numbered s.operations op ≡ Some o → IsRunning o → Busied (given_up s op o)
  given_up_busied s op o h found runs =
      busies_ends s.operations s.views s.trace h op o found ended (with_used s.views o.view (changed (used_by s.views o.view) (let_go o.claims))) runs refl (frees_let_go s.views o.view o.claims (has_one s h op o found runs))

  begun_busied : (s : State T) (client : ℕ) (call : Call T) (next : Next T) → Busied s → IsFree s.views (view_used call) client → Fits next → Busied (begun_as s client call next)
  begun_busied s client call (doing, None) h free fits =
      let op = next_op s in
      let taken = views_taken s.views (view_used call) op in
      busies_rows (s.operations ++ new_operation client call doing ∷ []) taken (s.trace ++ Begun op call ∷ [])
      (busies_begins s.operations s.views s.trace h taken client call doing fits (takes_free s.views (view_used call) op client free)) (answer_rows op None) (answer_begins op None)
  begun_busied s client call (doing, Some ending) h free fits =
      -- as one that begins to read, and ends
      let op = next_op s in
      let reads : Doing T = does.Plain (doings.Read (read_started world_boundary)) in
      let one : Operation T = new_operation client call reads in
      let taken = views_taken s.views (view_used call) op in
      let rows = s.trace ++ Begun op call ∷ [] in
      let begun = busies_begins s.operations s.views s.trace h taken client call reads refl (takes_free s.views (view_used call) op client free) in
      let found = numbered_new s.operations one in
      let has : HasOne taken (view_used call) = λ number is. let held = begun.holds op number one found refl is in (held.used, held.there) in
      let after = views_after taken client (view_used call) (is_claim_call call) (Some ending) in
      let ends = busies_ends (s.operations ++ one ∷ []) taken rows begun op one found doing after refl fits (frees_ended taken client (view_used call) (is_claim_call call) ending has) in
      let place : length s.operations + 1 - 1 ≡ length s.operations = omega arith in
      let same : with_doing (s.operations ++ one ∷ []) op one doing ≡ s.operations ++ new_operation client call doing ∷ [] =
      ap (λ (n : ℕ). set (s.operations ++ one ∷ []) n (doing_next one doing)) place ∙ set_new s.operations one (doing_next one doing) in
      let answer = answered (length s.views) (view_used call) (Some ending) in
      busies_rows (s.operations ++ new_operation client call doing ∷ []) after rows (subst (λ (os : List (Operation T)). Busies os after rows) same ends) (answer_rows op answer) (answer_begins op answer)

  -- a begin that is allowed

  pub view_there : (views : List (Option (Used T))) (number : ℕ) (v : View T) (found : Option (Option (View T))) → numbered (seen_views views) number ≡ found → view_in found ≡ Some v → (used : Used T) × (numbered views number ≡ Some (Some used)) × (used.view ≡ v)
  view_there views number v None e f = absurd (cc)
  view_there views number v (Some None) e f = absurd (cc)
  view_there views number v (Some (Some w)) e f = by (at.0) at.1 at.2
    where
      at : (u : Option (Used T)) × (numbered views number ≡ Some u) × (Some w ≡ seen_view u)
      at = numbered_map seen_view views number (Some w) e

      by : (u : Option (Used T)) → numbered views number ≡ Some u → Some w ≡ seen_view u → (used : Used T) × (numbered views number ≡ Some (Some used)) × (used.view ≡ v)
      by None there is = absurd (cc)
      by (Some used) there is = (used, there, sym (same_Some w used.view is) ∙ same_Some w v f)

  own_client : (client : ℕ) (holders : Bool) (found : Option (View T)) → is_own client holders found ≡ true → (v : View T) × (found ≡ Some v) × (v.client ≡ client)
  own_client client holders None e = absurd (cc)
  own_client client holders (Some v) e = (v, refl, eqb-true v.client client (and_parts (v.client == client) (agree holders (is_some v.epoch)) e).0)

  free_where : (s : State T) → Busied s → (client : ℕ) (holders : Bool) (view : Option ℕ) → may_use (seen_of s) client holders view ≡ true → is_busy (seen_of s) s.trace view ≡ false → IsFree s.views view client
  free_where s h client holders None may idle = λ number is. absurd (cc)
  free_where s h client holders (Some n) may idle =
      λ number is. (
      let own = own_client client holders (view_of (seen_of s) n) may in
      let there = view_there s.views n own.0 (numbered (seen_views s.views) n) refl own.1 in
      let same : n ≡ number = same_Some n number is in
      let free : there.0.busy ≡ None = none_of there.0.busy (sym (busy_as_shown s h n there.0 there.1) ∙ idle) in
      (there.0, ap (λ (m : ℕ). numbered s.views m) (sym same) ∙ there.1, free, ap (λ (v : View T). v.client) there.2 ∙ own.2)
      )

module _ {T : Type 0} (encode : T → List ℕ) (decode : List ℕ → Option T) (get_epoch : T → ℕ) (set_epoch : T → ℕ → T) where
  pub free_begin : (s : State T) → Busied s → (client : ℕ) (call : Call T) → refusal_of encode decode get_epoch set_epoch s (events.Begin client call) ≡ None → IsFree s.views (view_used call) client
  free_begin s h client call e =
      let seen = seen_of s in
      let rest = (is_known_base s.trace (base_seen seen call), faults.UnknownBase) ∷ (has_low_boundary s.trace call, faults.BoundaryTooHigh) ∷ (keeps_epoch decode get_epoch s.trace (base_seen seen call) call, faults.EpochLowered) ∷ [] in
      let first = first_passes (is_client seen.calls.clients client && may_use seen client (is_holders call) (view_used call)) faults.UnknownNumber ((not (is_busy seen s.trace (view_used call)), faults.ViewBusy) ∷ rest) e in
      let second = first_passes (not (is_busy seen s.trace (view_used call))) faults.ViewBusy rest first.1 in
      free_where s h client (is_holders call) (view_used call)
      (and_parts (is_client seen.calls.clients client) (may_use seen client (is_holders call) (view_used call)) first.0).1 (not_true (is_busy seen s.trace (view_used call)) second.0)

  looks_busied : (old : State T) (op : ℕ) (said : Told T) (new : State T) → Busied old → Looks encode decode get_epoch set_epoch old op said new → Busied new
  looks_busied old op said new h v =
      subst Busied (sym v.state)
      (acted_busied old op v.operation v.next (caches_after v.operation.doing v.caches v.next.1) h v.acts.found (ap is_some v.acts.asks)
      (subst Fits (sym v.turns.turns) (turned_fits old.page encode decode get_epoch set_epoch v.turns.refused v.operation.doing v.caches None Look v.acts.asks)))

  served_busied : (old : State T) (op : ℕ) (said : Told T) (new : State T) → Busied old → Served encode decode get_epoch set_epoch old op said new → Busied new
  served_busied old op said new h v =
      subst Busied (sym v.state)
      (acted_busied (effected old op v.call.request v.call.reply v.call.store) op v.call.operation v.next (caches_after v.call.operation.doing v.call.caches v.next.1) (effected_busied old op v.call.request v.call.reply v.call.store h) v.call.acts.found (ap is_some v.call.acts.asks)
      (subst Fits (sym v.turns.turns) (turned_fits old.page encode decode get_epoch set_epoch v.turns.refused v.call.operation.doing v.call.caches (Some v.call.reply) (Store v.call.request) v.call.acts.asks)))

  lacks_busied : (old : State T) (op : ℕ) (said : Told T) (new : State T) → Busied old → Lacks old op said new → Busied new
  lacks_busied old op said new h v = subst Busied (sym v.state) (acted_busied old op v.operation (refused 9) v.caches h v.acts.found (ap is_some v.acts.asks) refl)

  fails_busied : (failure : Failure) (old : State T) (op : ℕ) (said : Told T) (new : State T) → Busied old → Fails old op failure said new → Busied new
  fails_busied failures.Before old op said new h v = subst Busied (sym v.state) (acted_busied (failing old op) op v.operation (refused 2) v.caches h v.acts.found (ap is_some v.acts.asks) refl)
  fails_busied failures.After old op said new h v =
      subst Busied (sym v.state) (acted_busied (failing (effected old op v.call.request v.call.reply v.call.store) op) op v.call.operation (refused 2) v.call.caches (effected_busied old op v.call.request v.call.reply v.call.store h) v.call.acts.found (ap is_some v.call.acts.asks) refl)
  fails_busied failures.Loose old op said new h v =
      subst Busied (sym v.state) (acted_busied (failing (loosened old op (Store v.request)) op) op v.operation (refused 2) v.caches h v.acts.found (ap is_some v.acts.asks) refl)

  -- what each event keeps
  pub takes_busied : (old : State T) (event : Event T) (said : Told T) (new : State T) → Busied old → TakesOrLacks encode decode get_epoch set_epoch old event said new → Busied new
  takes_busied old (events.Begin client call) said new h t =
      subst Busied (sym t.step.state)
      (begun_busied old client call t.step.next h (free_begin old h client call t.allowed) (subst Fits (sym t.step.starts) (started_fits old.page encode get_epoch set_epoch call (seen_view (used_by old.views (view_used call))))))
  takes_busied old (events.Look op) said new h t = looks_busied old op said new h t.step
  takes_busied old (events.Serve op) said new h t = elim t.step [ inl v ↦ served_busied old op said new h v | inr v ↦ lacks_busied old op said new h v ]
  takes_busied old (events.Fail op failure) said new h t = fails_busied failure old op said new h t.step
  takes_busied old (events.GiveUp op) said new h t = subst Busied (sym t.step.state) (given_up_busied (loosened old op t.step.ask) op t.step.operation h t.step.found (ap is_some t.step.asks))
  takes_busied old (events.Land k) said new h t = subst Busied (sym t.step.state) (effected_busied old t.step.loose.op t.step.loose.request t.step.loose.reply t.step.loose.store h)
  takes_busied old (events.Crash client) said new h t = subst Busied (sym t.step.state) (busies_crashes old.operations old.views old.trace h client)

  -- every reached state
  pub reached_busied : (s : State T) → IsReached encode decode get_epoch set_epoch s → Busied s
  reached_busied s r =
      runs_keep encode decode get_epoch set_epoch Busied takes_busied (opening s.clients s.page) r.0 s r.1 busies_opening

  -- The rows show that a view is busy just where it is.
  pub reached_busy : (s : State T) → IsReached encode decode get_epoch set_epoch s → (number : ℕ) (used : Used T) → numbered s.views number ≡ Some (Some used) → is_busy (seen_of s) s.trace (Some number) ≡ is_some used.busy
  reached_busy s r number used there = busy_as_shown s (reached_busied s r) number used there

  pub reached_idle : (s : State T) → IsReached encode decode get_epoch set_epoch s → (number : ℕ) → used_by s.views (Some number) ≡ None → is_busy (seen_of s) s.trace (Some number) ≡ false
  reached_idle s r number none = idle_where_none s (reached_busied s r) number none
