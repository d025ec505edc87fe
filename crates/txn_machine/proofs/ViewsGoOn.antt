-- What stands beside the rows goes on with each event that is taken: the views too.
use Rattle.std.proofs.Common.{◌≡◌, ◌≢◌, ℕ, ◌+◌, ◌-◌, ◌<◌, ◌==◌, ◌&&◌, List, [], ◌∷◌, ◌++◌, length, map, set, Bool, true, false, not, if◌then◌else◌, is_some, Option, Some, None, inl, inr, refl, sym, ◌∙◌, ap, subst}
use Rattle.std.specs.List.{list_any}
use Rattle.std.specs.Option.{option_map}
use Rattle.std.proofs.lemmas.Bool.{cases_Bool, both_ways, eqb-true, eq-eqb, ne_eqb}
use Rattle.std.proofs.lemmas.List.{length-set}
use Rattle.std.proofs.lemmas.Option.{same_Some, cond_some}
use Rattle.txn_steps.specs.declared.boundary.caches.Caches.{Caches}
use Rattle.txn_history.specs.declared.event.PlainAnswer.TheVariants as plain_answers
use Rattle.txn_history.specs.declared.event.EventOf.TheVariants as events
use Rattle.txn_history.specs.declared.event.Failure.{Failure}
use Rattle.txn_history.specs.declared.event.Failure.TheVariants as failures
use Rattle.txn_history.specs.declared.event.ToldOf.TheVariants as told
use Rattle.txn_history.specs.History.{is_id}
use Rattle.txn_history.specs.Lists.{numbered}
use Rattle.txn_history.specs.Seen.{Operation as SeenOperation, Store, Look, view_of, view_in}
use Rattle.txn_history.specs.Added.{told_of}
use Rattle.txn_machine.specs.plain.Machine.{effect_of, effected, loosened, failing, next_op}
use Rattle.txn_history.proofs.Lists.{numbered_kept}
use Rattle.txn_machine.proofs.plain.Lists.{numbered_here, numbered_other, numbered_map, within, numbered_of_map, numbered_new}
use Rattle.txn_steps_views.specs.declared.outcome.Outcome.TheVariants as outcomes
use Rattle.txn_history.specs.declared.event.Call.{Call}
use Rattle.txn_history.specs.declared.event.Answer.{Answer}
use Rattle.txn_history.specs.declared.event.Answer.TheVariants as answers
use Rattle.txn_history.specs.Trace.{Row, Event, Told}
use Rattle.txn_history.specs.Calls.{view_used}
use Rattle.txn_history.specs.Views.{View, ViewGoesOn, id_shown}
use Rattle.txn_history.specs.GoesOn.{is_claim_on, ends_view, IsShown, GoesOn}
use Rattle.txn_machine.specs.views.Layer.{Used, Change, Puts, Makes, with_busy, changed, new_view, view_put}
use Rattle.txn_machine.specs.views.Steps.{view_without}
use Rattle.txn_machine.specs.declared.doing.Operation.{Operation}
use Rattle.txn_machine.specs.declared.doing.Ending.{Ending}
use Rattle.txn_machine.specs.declared.doing.Ending.TheVariants as endings
use Rattle.txn_machine.specs.Doing.{Next, ended, refused, caches_after}
use Rattle.txn_machine.specs.views.Parts.{is_claim_call}
use Rattle.txn_machine.specs.Machine.{State, seen_operation, seen_view, seen_views, seen_of, used_in, used_by, with_used, let_go, answer_of, change_of, made_by, views_after, views_taken, answered, doing_next, answer_next, acted, given_up, crashed, new_operation, begun_as, Fails, TakesOrLacks, IsReached}
use Rattle.txn_machine.proofs.Busies.{IsRunning, uses_or_not}
use Rattle.txn_machine.proofs.Busy.{Busied, IsFree, takes_free, effected_busied, view_there, takes_busied, reached_busied, free_begin}
use Rattle.txn_machine.proofs.CallsGoOn.{calls_go_on}
use Rattle.txn_machine.proofs.Claims.{EndsFit, NextFits, turned_claims, started_claims}
use Rattle.txn_machine.proofs.Claimed.{ClaimsFit, claim_has_view, claims_shown, reached_claiming}

and_false : (b : Bool) → (b && false) ≡ false
and_false true = refl
and_false false = refl

and_is_true : (b c : Bool) → c ≡ true → (b && c) ≡ b
and_is_true true c e = e
and_is_true false c e = refl

and_is_false : (b c : Bool) → c ≡ false → (b && c) ≡ false
and_is_false true c e = e
and_is_false false c e = refl

same_tests : (n m : ℕ) → (n == m) ≡ (m == n)
same_tests n m =
    elim (cases_Bool (n == m)) [
      | inl is ↦ is ∙ sym (eq-eqb m n (sym (eqb-true n m is)))
      | inr differ ↦ differ ∙ sym (ne_eqb m n (λ same. both_ways _ differ (eq-eqb n m (sym same))))
    ]

module _ {T : Type 0} where
  -- a view as it is seen

  used_seen : (views : List (Option (Used T))) (number : ℕ) (used : Used T) → numbered views number ≡ Some (Some used) → view_in (numbered (seen_views views) number) ≡ Some used.view
  used_seen views number used e = ap view_in (numbered_of_map seen_view views number (Some used) e)

  there_seen : (views : List (Option (Used T))) (number : ℕ) (now : Option (Used T)) → numbered views number ≡ Some now → is_some (view_in (numbered (seen_views views) number)) ≡ is_some now
  there_seen views number now e = ap (λ (found : Option (Option (View T))). is_some (view_in found)) (numbered_of_map seen_view views number now e) ∙ seen_some now
    where
      seen_some : (u : Option (Used T)) → is_some (view_in (Some (seen_view u))) ≡ is_some u
      seen_some None = refl
      seen_some (Some u) = refl

  -- what is told ends a view that a claim which is not held used

  let_go_some : (used : Used T) (claims : Bool) → is_some (changed (Some used) (let_go claims)) ≡ not claims
  let_go_some used true = refl
  let_go_some used false = refl

  own_ends : (rows : List (Row T)) (op number client count : ℕ) (claims : Bool) (used : Used T) (ending : Ending T) → list_any (is_claim_on number op) rows ≡ claims → EndsFit claims ending →
      is_some (changed (Some used) (change_of claims ending)) ≡ not (ends_view rows (told.Answered op (answer_of count (Some number) ending)) client number)
  own_ends rows op number client count claims used (endings.Answers answer) e fits = let_go_some used claims ∙ ap not (sym e)
  own_ends rows op number client count claims used (endings.Comes (outcomes.Viewed id value)) e fits = ap not (sym (e ∙ fits))
  own_ends rows op number client count claims used (endings.Comes (outcomes.Held id value epoch)) e fits = refl
  own_ends rows op number client count claims used (endings.Comes (outcomes.Shut id value error)) e fits = ap not (sym (e ∙ fits))

  apart_ends : (rows : List (Row T)) (op number client : ℕ) (answer : Answer T) → list_any (is_claim_on number op) rows ≡ false → true ≡ not (ends_view rows (told.Answered op answer) client number)
  apart_ends rows op number client (answers.Plain answer) e = ap not (sym e)
  apart_ends rows op number client (answers.View view id value) e = ap not (sym e)
  apart_ends rows op number client (answers.Held view id value epoch) e = refl

  -- the rows show which view the operation claims
  abbrev Shown : List (Row T) → ℕ → Bool → Option ℕ → Type 0
  Shown rows op claims view = (number : ℕ) → list_any (is_claim_on number op) rows ≡ (claims && is_id number view)

  -- it uses a view of this client, if it uses one
  abbrev Holds : List (Option (Used T)) → Option ℕ → ℕ → Type 0
  Holds views view client = (number : ℕ) → view ≡ Some number → (used : Used T) × (numbered views number ≡ Some (Some used)) × (used.view.client ≡ client)

  -- a view stays where another one that is there changes
  there_apart : (views : List (Option (Used T))) (n number : ℕ) (now : Option (Used T)) (used : Used T) → 0 < n → number ≢ n → numbered views number ≡ Some (Some used) → is_some (view_in (numbered (seen_views (set views (n - 1) now)) number)) ≡ true
  there_apart views n number now used some ne there = there_seen (set views (n - 1) now) number (Some used) (numbered_other views n number now some ne ∙ there)

  ended_views : (views : List (Option (Used T))) (rows : List (Row T)) (op client count : ℕ) (view : Option ℕ) (claims : Bool) (ending : Ending T) → Holds views view client → Shown rows op claims view → EndsFit claims ending → (number owner : ℕ) (used : Used T) → numbered views number ≡ Some (Some used) →
      is_some (view_in (numbered (seen_views (views_after views client view claims (Some ending))) number)) ≡ not (ends_view rows (told.Answered op (answer_of count view ending)) owner number)
  ended_views views rows op client count None claims ending holds shown fits number owner used there =
      there_seen (views ++ made_by client ending) number (Some used) (numbered_kept views (made_by client ending) number (Some used) there)
      ∙ apart_ends rows op number owner (answer_of count None ending) (shown number ∙ and_false claims)
  ended_views views rows op client count (Some n) claims ending holds shown fits number owner used there =
      elim (uses_or_not (Some n) number) [
        | inl own ↦ (
            let same : n ≡ number = same_Some n number own in
            let now = changed (used_by views (Some n)) (change_of claims ending) in
            let at : numbered views n ≡ Some (Some used) = ap (λ (m : ℕ). numbered views m) same ∙ there in
            let is : now ≡ changed (Some used) (change_of claims ending) = ap (λ (u : Option (Option (Used T))). changed (used_in u) (change_of claims ending)) at in
            let here : numbered (set views (n - 1) now) number ≡ Some now = ap (λ (m : ℕ). numbered (set views (n - 1) now) m) (sym same) ∙ numbered_here views n now (Some used) at in
            let claimed : list_any (is_claim_on n op) rows ≡ claims = shown n ∙ and_is_true claims (n == n) (eq-eqb n n refl) in
            there_seen (set views (n - 1) now) number now here
            ∙ (ap is_some is
            ∙ (own_ends rows op n owner count claims used ending claimed fits ∙ ap (λ (m : ℕ). not (ends_view rows (told.Answered op (answer_of count (Some n) ending)) owner m)) same))
            )
        | inr apart ↦ (
            let now = changed (used_by views (Some n)) (change_of claims ending) in
            let ne : number ≢ n = λ same. apart (ap Some (sym same)) in
            let off : is_id number (Some n) ≡ false = ne_eqb n number (λ same. ne (sym same)) in
            there_apart views n number now used (let one = holds n refl in (within views n (Some one.0) one.1).0) ne there ∙ apart_ends rows op number owner (answer_of count (Some n) ending) (shown number ∙ and_is_false claims (is_id number (Some n)) off)
            )
      ]

  let_go_views : (views : List (Option (Used T))) (rows : List (Row T)) (op : ℕ) (client : ℕ) (view : Option ℕ) (claims : Bool) → Holds views view client → Shown rows op claims view → (number : ℕ) (used : Used T) → numbered views number ≡ Some (Some used) →
      is_some (view_in (numbered (seen_views (with_used views view (changed (used_by views view) (let_go claims)))) number)) ≡ not (list_any (is_claim_on number op) rows)
  let_go_views views rows op client None claims holds shown number used there = there_seen views number (Some used) there ∙ ap not (sym (shown number ∙ and_false claims))
  let_go_views views rows op client (Some n) claims holds shown number used there =
      elim (uses_or_not (Some n) number) [
        | inl own ↦ (
            let same : n ≡ number = same_Some n number own in
            let now = changed (used_by views (Some n)) (let_go claims) in
            let at : numbered views n ≡ Some (Some used) = ap (λ (m : ℕ). numbered views m) same ∙ there in
            let is : now ≡ changed (Some used) (let_go claims) = ap (λ (u : Option (Option (Used T))). changed (used_in u) (let_go claims)) at in
            let here : numbered (set views (n - 1) now) number ≡ Some now = ap (λ (m : ℕ). numbered (set views (n - 1) now) m) (sym same) ∙ numbered_here views n now (Some used) at in
            let claimed : list_any (is_claim_on number op) rows ≡ claims = shown number ∙ and_is_true claims (n == number) (eq-eqb n number same) in
            there_seen (set views (n - 1) now) number now here ∙ (ap is_some is ∙ (let_go_some used claims ∙ ap not (sym claimed)))
            )
        | inr apart ↦ (
            let now = changed (used_by views (Some n)) (let_go claims) in
            let ne : number ≢ n = λ same. apart (ap Some (sym same)) in
            let off : is_id number (Some n) ≡ false = ne_eqb n number (λ same. ne (sym same)) in
            there_apart views n number now used (let one = holds n refl in (within views n (Some one.0) one.1).0) ne there ∙ ap not (sym (shown number ∙ and_is_false claims (is_id number (Some n)) off))
            )
      ]

  -- ended views stay ended

  set_stays : (views : List (Option (Used T))) (n number : ℕ) (now : Option (Used T)) (used : Used T) → numbered views n ≡ Some (Some used) → numbered views number ≡ Some None → numbered (set views (n - 1) now) number ≡ Some None
  set_stays views n number now used there gone =
      let ne : number ≢ n = λ same. (let clash : Some None ≡ Some (Some used) = sym gone ∙ (ap (λ (m : ℕ). numbered views m) same ∙ there) in cc) in
      numbered_other views n number now (within views n (Some used) there).0 ne ∙ gone

  after_stays : (views : List (Option (Used T))) (client : ℕ) (view : Option ℕ) (claims : Bool) (ending : Ending T) → Holds views view client → (number : ℕ) → numbered views number ≡ Some None → numbered (views_after views client view claims (Some ending)) number ≡ Some None
  after_stays views client None claims ending holds number gone = numbered_kept views (made_by client ending) number None gone
  after_stays views client (Some n) claims ending holds number gone = (let one = holds n refl in set_stays views n number (changed (used_by views (Some n)) (change_of claims ending)) one.0 one.1 gone)

  let_go_stays : (views : List (Option (Used T))) (client : ℕ) (view : Option ℕ) (claims : Bool) → Holds views view client → (number : ℕ) → numbered views number ≡ Some None → numbered (with_used views view (changed (used_by views view) (let_go claims))) number ≡ Some None
  let_go_stays views client None claims holds number gone = gone
  let_go_stays views client (Some n) claims holds number gone = (let one = holds n refl in set_stays views n number (changed (used_by views (Some n)) (let_go claims)) one.0 one.1 gone)

  -- the view that an answer shows

  -- The view of this number is at this id, and is this client's.
  record Stands (views : List (Option (Used T))) (number id client : ℕ) : Type 0 where
    pub used : Used T
    pub there : numbered views number ≡ Some (Some used)
    pub at : used.view.id ≡ id
    pub own : used.view.client ≡ client

  put_stands : (views : List (Option (Used T))) (n client i : ℕ) (after : Used T → Used T) (change : Change T) → Holds views (Some n) client → ((used : Used T) → changed (Some used) change ≡ Some (after used)) → ((used : Used T) → ((after used).view.id ≡ i) × ((after used).view.client ≡ used.view.client)) →
      (number id : ℕ) → (n == number) ≡ true → i ≡ id → Stands (with_used views (Some n) (changed (used_by views (Some n)) change)) number id client
  put_stands views n client i after change holds becomes is number id place same =
      let one = holds n refl in
      let now = changed (used_by views (Some n)) change in
      let put : now ≡ Some (after one.0) = ap (λ (u : Option (Option (Used T))). changed (used_in u) change) one.1 ∙ becomes one.0 in
      record {
        used = after one.0;
        there = ap (λ (m : ℕ). numbered (set views (n - 1) now) m) (sym (eqb-true n number place)) ∙ (numbered_here views n now (Some one.0) one.1 ∙ ap Some put);
        at = (is one.0).0 ∙ same;
        own = (is one.0).1 ∙ one.2;
      }

  ending_shows : (views : List (Option (Used T))) (client count : ℕ) (view : Option ℕ) (claims : Bool) (ending : Ending T) → count ≡ length views → Holds views view client → EndsFit claims ending → (claims ≡ true → view ≡ None → ⊥) → (number id : ℕ) →
      id_shown number (answer_of count view ending) ≡ Some id → Stands (views_after views client view claims (Some ending)) number id client
  ending_shows views client count None claims (endings.Answers answer) all holds fits has number id e = absurd (cc)
  ending_shows views client count (Some n) claims (endings.Answers answer) all holds fits has number id e = absurd (cc)
  ending_shows views client count None claims (endings.Comes (outcomes.Shut i value error)) all holds fits has number id e = absurd (cc)
  ending_shows views client count (Some n) claims (endings.Comes (outcomes.Shut i value error)) all holds fits has number id e = absurd (cc)
  ending_shows views client count None claims (endings.Comes (outcomes.Held i value epoch)) all holds fits has number id e = absurd (has fits refl)
  ending_shows views client count None claims (endings.Comes (outcomes.Viewed i value)) all holds fits has number id e =
      let shows = cond_some (count + 1 == number) i id e in
      let place : number ≡ length views + 1 = sym (eqb-true (count + 1) number shows.0) ∙ ap (λ (n : ℕ). n + 1) all in
      let new = new_view client i value in
      record { used = new; there = ap (λ (m : ℕ). numbered (views ++ Some new ∷ []) m) place ∙ numbered_new views (Some new); at = shows.1; own = refl }
  ending_shows views client count (Some n) claims (endings.Comes (outcomes.Viewed i value)) all holds fits has number id e =
      let shows = cond_some (n == number) i id e in
      put_stands views n client i (λ used. view_put used.view i value used.view.epoch) (Puts i value) holds (λ used. refl) (λ used. (refl, refl)) number id shows.0 shows.1
  ending_shows views client count (Some n) claims (endings.Comes (outcomes.Held i value epoch)) all holds fits has number id e =
      let shows = cond_some (n == number) i id e in
      put_stands views n client i (λ used. view_put used.view i value (Some epoch)) (Makes i value epoch) holds (λ used. refl) (λ used. (refl, refl)) number id shows.0 shows.1

  -- how the views go on with what is told
  pub record Goes (was : List (Option (Used T))) (said : Told T) (new : State T) : Type 0 where
    pub stays : (number : ℕ) → numbered was number ≡ Some None → numbered new.views number ≡ Some None
    pub ends : (number : ℕ) (used : Used T) → numbered was number ≡ Some (Some used) → is_some (view_of (seen_of new) number) ≡ not (ends_view new.trace said used.view.client number)
    pub shows : (op number id : ℕ) (answer : Answer T) → said ≡ told.Answered op answer → id_shown number answer ≡ Some id → IsShown (seen_of new) op number id

  -- an operation that shows a view
  is_shown : (s : State T) (op number id : ℕ) (o : Operation T) → numbered s.operations op ≡ Some o → Stands s.views number id o.client → IsShown (seen_of s) op number id
  is_shown s op number id o found stands = record {
    view = stands.used.view;
    stands = used_seen s.views number stands.used stands.there;
    same = stands.at;
    client = ap (λ (found : Option SeenOperation). option_map (λ (p : SeenOperation). p.client) found) (numbered_of_map seen_operation s.operations op o found) ∙ ap Some (sym stands.own);
  }

  -- the answer is that of the operation
  same_answer : (op other : ℕ) (answer given : Answer T) → ◌≡◌ {A = Told T} (told.Answered op answer) (told.Answered other given) → (other ≡ op) × (given ≡ answer)
  same_answer op other answer given e = (cc, cc)

  -- each event

  holds_view : (s : State T) → Busied s → (op : ℕ) (o : Operation T) → numbered s.operations op ≡ Some o → IsRunning o → Holds s.views o.view o.client
  holds_view s h op o found runs = λ number is. let held = h.holds op number o found runs is in (held.used, held.there, held.own)

  acted_goes : (s : State T) (op : ℕ) (o : Operation T) (next : Next T) (caches : Caches) → Busied s → numbered s.operations op ≡ Some o → IsRunning o → NextFits o.claims next → Busied (acted s op o next caches) →
      Goes s.views (told_of (told.Went op) op (answer_next s o next)) (acted s op o next caches)
  acted_goes s op o (doing, None) caches h found runs fits after = record { stays = λ number gone. gone; ends = λ number used there. there_seen s.views number (Some used) there; shows = λ other number id answer e f. absurd (cc) }
  acted_goes s op o (doing, Some ending) caches h found runs fits after =
      let new = acted s op o (doing, Some ending) caches in
      let holds = holds_view s h op o found runs in
      let here = numbered_here s.operations op (doing_next o doing) o found in
      let shown = claims_shown new after op (doing_next o doing) here in
      record {
        stays = after_stays s.views o.client o.view o.claims ending holds;
        ends = λ number used there. ended_views s.views new.trace op o.client (length s.views) o.view o.claims ending holds shown fits.1 number used.view.client used there;
        shows = λ other number id answer e f. (
            let same = same_answer op other (answer_of (length s.views) o.view ending) answer e in
            let shows = ending_shows s.views o.client (length s.views) o.view o.claims ending refl holds fits.1 (claim_has_view new after op (doing_next o doing) here) number id (ap (id_shown number) (sym same.1) ∙ f) in
            subst (λ (n : ℕ). IsShown (seen_of new) n number id) (sym same.0) (is_shown new op number id (doing_next o doing) here shows)
            );
      }

  given_up_goes : (s : State T) (op : ℕ) (o : Operation T) → Busied s → numbered s.operations op ≡ Some o → IsRunning o → Busied (given_up s op o) → Goes s.views (told.GaveUp op) (given_up s op o)
  given_up_goes s op o h found runs after =
      let new = given_up s op o in
      let holds = holds_view s h op o found runs in
      let here = numbered_here s.operations op (doing_next o ended) o found in
      let shown = claims_shown new after op (doing_next o ended) here in
      record {
        stays = let_go_stays s.views o.client o.view o.claims holds;
        ends = λ number used there. let_go_views s.views new.trace op o.client o.view o.claims holds shown number used there;
        shows = λ other number id answer e f. absurd (cc);
      }

  without_some : (b : Bool) (used : Used T) → is_some (if◌then◌else◌ {A = Option (Used T)} b None (Some used)) ≡ not b
  without_some true used = refl
  without_some false used = refl

  crashed_goes : (s : State T) (client : ℕ) → Goes s.views (told.Crashed client) (crashed s client)
  crashed_goes s client = record {
    stays = λ number gone. numbered_of_map (view_without client) s.views number None gone;
    ends = λ number used there.
        there_seen (map (view_without client) s.views) number (view_without client (Some used)) (numbered_of_map (view_without client) s.views number (Some used) there)
        ∙ (without_some (used.view.client == client) used ∙ ap not (same_tests used.view.client client));
    shows = λ other number id answer e f. absurd (cc);
  }

  landed_goes : (s new : State T) (k : ℕ) (effect : Bool) → new.views ≡ s.views → Goes s.views (told.Landed k effect) new
  landed_goes s new k effect same = record {
    stays = λ number gone. ap (λ (views : List (Option (Used T))). numbered views number) same ∙ gone;
    ends = λ number used there. there_seen new.views number (Some used) (ap (λ (views : List (Option (Used T))). numbered views number) same ∙ there);
    shows = λ other number id answer e f. absurd (cc);
  }

  -- a begin takes the view that it uses

  taken_view : (views : List (Option (Used T))) (view : Option ℕ) (op client : ℕ) → IsFree views view client → (number : ℕ) (used : Used T) → numbered views number ≡ Some (Some used) → (u : Used T) × (numbered (views_taken views view op) number ≡ Some (Some u))
  taken_view views None op client free number used there = (used, there)
  taken_view views (Some n) op client free number used there =
      let one = free n refl in
      let now = option_map (with_busy (Some op)) (used_by views (Some n)) in
      let put : now ≡ Some (with_busy (Some op) one.0) = ap (λ (u : Option (Option (Used T))). option_map (with_busy (Some op)) (used_in u)) one.1 in
      elim (uses_or_not (Some n) number) [
        | inl own ↦ (with_busy (Some op) one.0, ap (λ (m : ℕ). numbered (set views (n - 1) now) m) (sym (same_Some n number own)) ∙ (numbered_here views n now (Some one.0) one.1 ∙ ap Some put))
        | inr apart ↦ (used, numbered_other views n number now (within views n (Some one.0) one.1).0 (λ same. apart (ap Some (sym same))) ∙ there)
      ]

  taken_stays : (views : List (Option (Used T))) (view : Option ℕ) (op client : ℕ) → IsFree views view client → (number : ℕ) → numbered views number ≡ Some None → numbered (views_taken views view op) number ≡ Some None
  taken_stays views None op client free number gone = gone
  taken_stays views (Some n) op client free number gone = (let one = free n refl in set_stays views n number (option_map (with_busy (Some op)) (used_by views (Some n))) one.0 one.1 gone)

  taken_holds : (views : List (Option (Used T))) (view : Option ℕ) (op client : ℕ) → IsFree views view client → Holds (views_taken views view op) view client
  taken_holds views view op client free = λ number is. let held = (takes_free views view op client free).held number is in (held.used, held.there, held.own)

  taken_length : (views : List (Option (Used T))) (view : Option ℕ) (op : ℕ) → length views ≡ length (views_taken views view op)
  taken_length views None op = refl
  taken_length views (Some n) op = sym (length-set views (n - 1) (option_map (with_busy (Some op)) (used_by views (Some n))))

  begun_goes : (s : State T) (client : ℕ) (call : Call T) (next : Next T) → IsFree s.views (view_used call) client → NextFits (is_claim_call call) next → Busied (begun_as s client call next) →
      Goes s.views (told_of (told.Began (next_op s)) (next_op s) (answered (length s.views) (view_used call) next.1)) (begun_as s client call next)
  begun_goes s client call (doing, None) free fits after =
      let op = next_op s in
      let taken = views_taken s.views (view_used call) op in
      record {
        stays = taken_stays s.views (view_used call) op client free;
        ends = λ number used there. (let u = taken_view s.views (view_used call) op client free number used there in there_seen taken number (Some u.0) u.1);
        shows = λ other number id answer e f. absurd (cc);
      }
  begun_goes s client call (doing, Some ending) free fits after =
      let op = next_op s in
      let new = begun_as s client call (doing, Some ending) in
      let one = new_operation client call doing in
      let taken = views_taken s.views (view_used call) op in
      let holds = taken_holds s.views (view_used call) op client free in
      let here = numbered_new s.operations one in
      let shown = claims_shown new after op one here in
      record {
        stays = λ number gone. after_stays taken client (view_used call) (is_claim_call call) ending holds number (taken_stays s.views (view_used call) op client free number gone);
        ends = λ number used there. (
            let u = taken_view s.views (view_used call) op client free number used there in
            ended_views taken new.trace op client (length s.views) (view_used call) (is_claim_call call) ending holds shown fits.1 number used.view.client u.0 u.1
            );
        shows = λ other number id answer e f. (
            let same = same_answer op other (answer_of (length s.views) (view_used call) ending) answer e in
            let shows = ending_shows taken client (length s.views) (view_used call) (is_claim_call call) ending (taken_length s.views (view_used call) op) holds fits.1 (claim_has_view new after op one here) number id (ap (id_shown number) (sym same.1) ∙ f) in
            subst (λ (n : ℕ). IsShown (seen_of new) n number id) (sym same.0) (is_shown new op number id one here shows)
            );
      }

  -- by what is told, and the state that is left
  goes_so : (was : List (Option (Used T))) (said t : Told T) (new s : State T) → said ≡ t → new ≡ s → Goes was t s → Goes was said new
  goes_so was said t new s tells is g = subst (λ (u : Told T). Goes was u new) (sym tells) (subst (λ (x : State T). Goes was t x) (sym is) g)

  fails_go : (failure : Failure) (old : State T) (op : ℕ) (said : Told T) (new : State T) → Busied old → Busied new → Fails old op failure said new → Goes old.views said new
  fails_go failures.Before old op said new h after v =
      let left = acted (failing old op) op v.operation (refused 2) v.caches in
      goes_so old.views said (told.Answered op (answers.Plain (plain_answers.Refused 2))) new left v.tells v.state (acted_goes (failing old op) op v.operation (refused 2) v.caches h v.acts.found (ap is_some v.acts.asks) (λ e. refl, tt) (subst Busied v.state after))
  fails_go failures.After old op said new h after v =
      let middle = failing (effected old op v.call.request v.call.reply v.call.store) op in
      goes_so old.views said (told.Answered op (answers.Plain (plain_answers.Refused 2))) new (acted middle op v.call.operation (refused 2) v.call.caches) v.tells v.state
      (acted_goes middle op v.call.operation (refused 2) v.call.caches (effected_busied old op v.call.request v.call.reply v.call.store h) v.call.acts.found (ap is_some v.call.acts.asks) (λ e. refl, tt) (subst Busied v.state after))
  fails_go failures.Loose old op said new h after v =
      let middle = failing (loosened old op (Store v.request)) op in
      goes_so old.views said (told.Answered op (answers.Plain (plain_answers.Refused 2))) new (acted middle op v.operation (refused 2) v.caches) v.tells v.state
      (acted_goes middle op v.operation (refused 2) v.caches h v.acts.found (ap is_some v.acts.asks) (λ e. refl, tt) (subst Busied v.state after))

module _ {T : Type 0} (encode : T → List ℕ) (decode : List ℕ → Option T) (get_epoch : T → ℕ) (set_epoch : T → ℕ → T) where
  takes_go : (old : State T) (event : Event T) (said : Told T) (new : State T) → Busied old → ClaimsFit old → Busied new → TakesOrLacks encode decode get_epoch set_epoch old event said new → Goes old.views said new
  takes_go old (events.Begin client call) said new h claims after t =
      let v = t.step in
      let fits = subst (NextFits (is_claim_call call)) (sym v.starts) (started_claims old.page encode get_epoch set_epoch call (seen_view (used_by old.views (view_used call)))) in
      let op = next_op old in
      goes_so old.views said (told_of (told.Began op) op (answered (length old.views) (view_used call) v.next.1)) new (begun_as old client call v.next) v.tells v.state
      (begun_goes old client call v.next (free_begin encode decode get_epoch set_epoch old h client call t.allowed) fits (subst Busied v.state after))
  takes_go old (events.Look op) said new h claims after t =
      let v = t.step in
      let fits = subst (NextFits v.operation.claims) (sym v.turns.turns) (turned_claims old.page encode decode get_epoch set_epoch v.operation.claims v.turns.refused v.operation.doing v.caches None Look v.acts.asks (claims op v.operation v.acts.found)) in
      let caches = caches_after v.operation.doing v.caches v.next.1 in
      goes_so old.views said (told_of (told.Went op) op (answer_next old v.operation v.next)) new (acted old op v.operation v.next caches) v.tells v.state
      (acted_goes old op v.operation v.next caches h v.acts.found (ap is_some v.acts.asks) fits (subst Busied v.state after))
  takes_go old (events.Serve op) said new h claims after t = elim t.step [
    | inl v ↦ (
        let fits = subst (NextFits v.call.operation.claims) (sym v.turns.turns) (turned_claims old.page encode decode get_epoch set_epoch v.call.operation.claims v.turns.refused v.call.operation.doing v.call.caches (Some v.call.reply) (Store v.call.request) v.call.acts.asks (claims op v.call.operation v.call.acts.found)) in
        let caches = caches_after v.call.operation.doing v.call.caches v.next.1 in
        let middle = effected old op v.call.request v.call.reply v.call.store in
        goes_so old.views said (told_of (told.Went op) op (answer_next old v.call.operation v.next)) new (acted middle op v.call.operation v.next caches) v.tells v.state
        (acted_goes middle op v.call.operation v.next caches (effected_busied old op v.call.request v.call.reply v.call.store h) v.call.acts.found (ap is_some v.call.acts.asks) fits (subst Busied v.state after)))
    | inr v ↦ goes_so old.views said (told.Answered op (answers.Plain (plain_answers.Refused 9))) new (acted old op v.operation (refused 9) v.caches) v.tells v.state
        (acted_goes old op v.operation (refused 9) v.caches h v.acts.found (ap is_some v.acts.asks) (λ e. refl, tt) (subst Busied v.state after))
  ]
  takes_go old (events.Fail op failure) said new h claims after t = fails_go failure old op said new h after t.step
  takes_go old (events.GiveUp op) said new h claims after t =
      let v = t.step in
      let middle = loosened old op v.ask in
      goes_so old.views said (told.GaveUp op) new (given_up middle op v.operation) v.tells v.state (given_up_goes middle op v.operation h v.found (ap is_some v.asks) (subst Busied v.state after))
  takes_go old (events.Land k) said new h claims after t =
      let v = t.step in
      let effect = is_some (effect_of old.store.files v.loose.request v.loose.reply) in
      goes_so old.views said (told.Landed k effect) new (effected old v.loose.op v.loose.request v.loose.reply v.loose.store) v.tells v.state (landed_goes old (effected old v.loose.op v.loose.request v.loose.reply v.loose.store) k effect refl)
  takes_go old (events.Crash client) said new h claims after t = goes_so old.views said (told.Crashed client) new (crashed old client) t.step.tells t.step.state (crashed_goes old client)

  none_view : (u : Option (Used T)) → None ≡ seen_view u → u ≡ None
  none_view None e = refl
  none_view (Some used) e = absurd (cc)

  -- What stands beside the rows goes on with each event that is taken, where each view that is there before and after goes on.
  pub goes_on_with : (old : State T) (event : Event T) (said : Told T) (new : State T) → IsReached encode decode get_epoch set_epoch old → TakesOrLacks encode decode get_epoch set_epoch old event said new →
      ((number : ℕ) (was is : Used T) → numbered old.views number ≡ Some (Some was) → numbered new.views number ≡ Some (Some is) → ViewGoesOn was.view is.view) → GoesOn (seen_of old) event said new.trace (seen_of new)
  goes_on_with old event said new r t each =
      let h = reached_busied encode decode get_epoch set_epoch old r in
      let go = takes_go old event said new h (reached_claiming encode decode get_epoch set_epoch old r) (takes_busied encode decode get_epoch set_epoch old event said new h t) t in
      record {
        calls = calls_go_on encode decode get_epoch set_epoch old event said new t;
        views = record {
          each = λ number was is e f. (
              let a = view_there old.views number was (Some (Some was)) e refl in
              let b = view_there new.views number is (Some (Some is)) f refl in
              subst (λ (v : View T). ViewGoesOn v is) a.2 (subst (λ (v : View T). ViewGoesOn a.0.view v) b.2 (each number a.0 b.0 a.1 b.1))
              );
          ended = λ number e. (
              let was = numbered_map seen_view old.views number None e in
              numbered_of_map seen_view new.views number None (go.stays number (was.1 ∙ ap Some (none_view was.0 was.2)))
              );
        };
        ended = λ number view e. (
            let there = view_there old.views number view (numbered (seen_views old.views) number) refl e in
            subst (λ (v : View T). is_some (view_of (seen_of new) number) ≡ not (ends_view new.trace said v.client number)) there.2 (go.ends number there.0 there.1)
            );
        shown = go.shows;
      }
