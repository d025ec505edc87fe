-- An operation that is given what it asks for, and nothing else happens: it goes on or is answered, and no run of it is longer than what it has left.
use Rattle.std.proofs.Common.{◌≡◌, ℕ, ◌+◌, ◌*◌, ◌<◌, ◌^◌, ◌≤◌, List, [], ◌∷◌, ◌++◌, length, cond, Bool, true, false, not, is_some, Option, Some, None, Err, ◌⊎◌, inl, inr, refl, sym, ◌∙◌, ap, subst, arith}
use Rattle.std.proofs.lemmas.Bool.{cases_Bool, eq-eqb}
use Rattle.std.proofs.lemmas.Option.{same_Some}
use Rattle.std.proofs.lemmas.List.{length-append}
use Rattle.std.proofs.lemmas.List.Elements.{All-append, All-cons, All-nil}
use Rattle.txn_history.specs.declared.event.Answer.{Answer}
use Rattle.txn_history.specs.declared.event.EventFault.{EventFault}
use Rattle.txn_history.specs.declared.event.EventFault.TheVariants as faults
use Rattle.txn_history.specs.declared.event.EventOf.TheVariants as events
use Rattle.txn_history.specs.declared.event.ToldOf.TheVariants as told
use Rattle.txn_history.specs.Added.{told_of}
use Rattle.txn_history.specs.Lists.{numbered}
use Rattle.txn_history.specs.Seen.{Ask, Store, Look, asks_in, asks_of, Operation as SeenOperation}
use Rattle.txn_history.specs.Trace.{Event, Told}
use Rattle.txn_machine.specs.plain.Machine.{fault_met}
use Rattle.txn_machine.proofs.plain.Lists.{numbered_here, numbered_map}
use Rattle.txn_machine.specs.declared.doing.Ending.{Ending}
use Rattle.txn_machine.specs.declared.doing.Operation.{Operation}
use Rattle.txn_machine.specs.Doing.{Next, asked}
use Rattle.txn_machine.specs.Machine.{State, seen_operation, seen_operations, seen_calls, asked_event, next_event, refusal_of, answered, answer_next, doing_next, with_doing, Looks, Served, Takes, Runs, IsReached}
use Rattle.txn_machine.proofs.Busy.{seen_asks}
use Rattle.txn_machine.proofs.Fits.{Fits, turned_fits}
use Rattle.txn_machine.proofs.Runs.{runs_more, taken_reached}
use Rattle.txn_world.specs.finishing.Progress.{cost_of, most_left, is_own, own_count, FewPages, Undisturbed}
use Rattle.txn_world.proofs.finishing.Calls.{any_bound, any_alone, any_allowed}
use Rattle.txn_world.proofs.finishing.Counted.{any_pages, reached_pages, most_small}
use Rattle.txn_world.specs.finishing.Telling.{answer_told}
use Rattle.txn_world.specs.finishing.Finishing.{AreOwn, AllWent, then_answered, GoesTo, IsInTime, Finishes, Stops}
use Rattle.txn_world.proofs.Reached.{is_reached}

module _ {T : Type 0} where
  -- It runs: it asks for something.
  pub record Running (s : State T) (op : ℕ) : Type 0 where
    pub operation : Operation T
    pub ask : Ask
    pub found : numbered s.operations op ≡ Some operation
    pub asks : asked operation.doing ≡ Some ask

  asks_some : (s : State T) (op : ℕ) (o : Operation T) → numbered s.operations op ≡ Some o → (ask : Option Ask) → asked o.doing ≡ ask → is_some ask ≡ true → Running s op
  asks_some s op o found None e some = cc
  asks_some s op o found (Some ask) e some = record { operation = o; ask = ask; found = found; asks = e }

  -- by what it is seen to ask for
  pub running_of : (s : State T) (op : ℕ) → is_some (asks_of (seen_calls s) op) ≡ true → Running s op
  running_of s op some = by (numbered (seen_operations s.operations) op) refl
    where
      by : (seen : Option SeenOperation) → numbered (seen_operations s.operations) op ≡ seen → Running s op
      by None e = absurd (let clash : false ≡ true = sym (ap (λ (o : Option SeenOperation). is_some (asks_in o)) e) ∙ some in cc)
      by (Some seen) e =
          let found = numbered_map seen_operation s.operations op seen e in
          asks_some s op found.0 found.1 (asked found.0.doing) refl (ap is_some (sym (seen_asks s.operations op found.0 found.1)) ∙ some)

  pub running_asks : (s : State T) (op : ℕ) (r : Running s op) → asks_of (seen_calls s) op ≡ Some r.ask
  running_asks s op r = seen_asks s.operations op r.operation r.found ∙ r.asks

  -- it goes on, or it is answered
  abbrev pub WentOn : ℕ → Told T → State T → Type 0
  WentOn op said new = ((said ≡ told.Went op) × Running new op) ⊎ ((answer : Answer T) × (said ≡ told.Answered op answer))

  turned_on : (old new : State T) (op : ℕ) (o : Operation T) (next : Next T) (said : Told T) (ending : Option (Ending T)) → next.1 ≡ ending → numbered old.operations op ≡ Some o → Fits next → said ≡ told_of (told.Went op) op (answer_next old o next) → new.operations ≡ with_doing old.operations op o next.0 → WentOn op said new
  turned_on old new op o next said None ends found fits tells operations =
      inl (
        tells ∙ ap (λ (e : Option (Ending T)). told_of (told.Went op) op (answered (length old.views) o.view e)) ends,
        asks_some new op (doing_next o next.0) (ap (λ (os : List (Operation T)). numbered os op) operations ∙ numbered_here old.operations op (doing_next o next.0) o found) (asked next.0) refl (fits ∙ ap (λ (e : Option (Ending T)). not (is_some e)) ends),
      )
  turned_on old new op o next said (Some ending) ends found fits tells operations =
      inr (_, tells ∙ ap (λ (e : Option (Ending T)). told_of (told.Went op) op (answered (length old.views) o.view e)) ends)

  -- what is told of it, by its answer
  pub answered_is : (op : ℕ) (said : Told T) (new : State T) (answer : Answer T) → WentOn op said new → answer_told said ≡ Some answer → said ≡ told.Answered op answer
  answered_is op said new answer on e = elim on [
    | inl went ↦ absurd (let clash : None ≡ Some answer = sym (ap answer_told went.0) ∙ e in cc)
    | inr answers ↦ answers.1 ∙ ap (λ (a : Answer T). told.Answered op a) (same_Some answers.0 answer (sym (ap answer_told answers.1) ∙ e))
  ]

  pub went_is : (op : ℕ) (said : Told T) (new : State T) → WentOn op said new → answer_told said ≡ None → (said ≡ told.Went op) × Running new op
  went_is op said new on e = elim on [
    | inl went ↦ went
    | inr answers ↦ absurd (let clash : Some answers.0 ≡ None = sym (ap answer_told answers.1) ∙ e in cc)
  ]

  -- own events

  abbrev WentAt : ℕ → Event T × Told T → Type 0
  WentAt op it = it.1 ≡ told.Went op

  own_most : (op : ℕ) (taken : List (Event T × Told T)) → own_count op taken ≤ length taken
  own_most op [] = omega arith
  own_most op (one ∷ rest) = elim (cases_Bool (is_own op one.0)) [
    | inl own ↦ rw own (let most = own_most op rest in omega (arith, most))
    | inr other ↦ rw other (let most = own_most op rest in omega (arith, most))
  ]

  own_parts : (op : ℕ) (one : Event T × Told T) (rest : List (Event T × Told T)) → AreOwn op (one ∷ rest) → (is_own op one.0 ≡ true) × AreOwn op rest
  own_parts op one rest all = by (is_own op one.0) refl
    where
      by : (b : Bool) → is_own op one.0 ≡ b → (is_own op one.0 ≡ true) × AreOwn op rest
      by true e = (e, (let count : 1 + own_count op rest ≡ length (one ∷ rest) = sym (ap (λ (b : Bool). cond b 1 0 + own_count op rest) e) ∙ all in omega (arith, count)))
      by false e = absurd (
          let count : 0 + own_count op rest ≡ length (one ∷ rest) = sym (ap (λ (b : Bool). cond b 1 0 + own_count op rest) e) ∙ all in
          let most = own_most op rest in
          omega (arith, count, most)
          )

  own_append : (op : ℕ) (taken more : List (Event T × Told T)) → own_count op (taken ++ more) ≡ own_count op taken + own_count op more
  own_append op [] more = omega arith
  own_append op (one ∷ rest) more = let same = own_append op rest more in omega (arith, same)

  own_one : (op : ℕ) (event : Event T) (said : Told T) → is_own op event ≡ true → own_count op ((event, said) ∷ []) ≡ 1
  own_one op event said own = rw own (omega arith)

  pub own_more : (op : ℕ) (taken : List (Event T × Told T)) (event : Event T) (said : Told T) → AreOwn op taken → is_own op event ≡ true → AreOwn op (taken ++ (event, said) ∷ [])
  own_more op taken event said all own =
      let both = own_append op taken ((event, said) ∷ []) in
      let one = own_one op event said own in
      let long = length-append taken ((event, said) ∷ []) in
      omega (arith, both, one, long, all)

  pub went_more : (op : ℕ) (taken : List (Event T × Told T)) (event : Event T) (said : Told T) → AllWent op taken → said ≡ told.Went op → AllWent op (taken ++ (event, said) ∷ [])
  went_more op taken event said all went = All-append (WentAt op) taken ((event, said) ∷ []) all (All-cons (WentAt op) (event, said) [] went (All-nil (WentAt op)))

  pub none_went : (op : ℕ) → AllWent {T = T} op []
  none_went op = All-nil (WentAt op)

  -- a bound on what an operation has left, whatever comes of it
  abbrev pub limit : Option (Operation T) → ℕ
  limit None = 0
  limit (Some o) = most_left o.doing any_pages

  pub limit_small : (found : Option (Operation T)) → limit found < 2 ^ 100
  limit_small None = omega arith
  limit_small (Some o) = let most = most_small o.doing any_pages in omega (arith, most)

own_look : (T : Type 0) (op : ℕ) → is_own {T = T} op (events.Look op) ≡ true
own_look T op = rw (eq-eqb op op refl) refl

own_serve : (T : Type 0) (op : ℕ) → is_own {T = T} op (events.Serve op) ≡ true
own_serve T op = rw (eq-eqb op op refl) refl

module _ {T : Type 0} (encode : T → List ℕ) (decode : List ℕ → Option T) (get_epoch : T → ℕ) (set_epoch : T → ℕ → T) where
  abbrev Taking : State T → Event T → Told T → State T → Type 0
  Taking old event said new = Takes encode decode get_epoch set_epoch old event said new

  looks_on : (old : State T) (op : ℕ) (said : Told T) (new : State T) → Looks encode decode get_epoch set_epoch old op said new → WentOn op said new
  looks_on old op said new v =
      turned_on old new op v.operation v.next said v.next.1 refl v.acts.found
      (subst Fits (sym v.turns.turns) (turned_fits old.page encode decode get_epoch set_epoch v.turns.refused v.operation.doing v.caches None Look v.acts.asks)) v.tells (ap (λ (s : State T). s.operations) v.state)

  serves_on : (old : State T) (op : ℕ) (said : Told T) (new : State T) → Served encode decode get_epoch set_epoch old op said new → WentOn op said new
  serves_on old op said new v =
      turned_on old new op v.call.operation v.next said v.next.1 refl v.call.acts.found
      (subst Fits (sym v.turns.turns) (turned_fits old.page encode decode get_epoch set_epoch v.turns.refused v.call.operation.doing v.call.caches (Some v.call.reply) (Store v.call.request) v.call.acts.asks)) v.tells (ap (λ (s : State T). s.operations) v.state)

  -- what it asks for leads it on
  pub went_on : (old : State T) (op : ℕ) (said : Told T) (new : State T) → Running old op → Taking old (next_event old op) said new → WentOn op said new
  went_on old op said new r t = by r.ask (running_asks old op r)
    where
      by : (ask : Ask) → asks_of (seen_calls old) op ≡ Some ask → WentOn op said new
      by Look e = looks_on old op said new (subst (λ (a : Option Ask). Taking old (asked_event op a) said new) e t).step
      by (Store request) e = serves_on old op said new (subst (λ (a : Option Ask). Taking old (asked_event op a) said new) e t).step

  pub next_own : (old : State T) (op : ℕ) → Running old op → is_own op (next_event old op) ≡ true
  next_own old op r = by r.ask (running_asks old op r)
    where
      by : (ask : Ask) → asks_of (seen_calls old) op ≡ Some ask → is_own op (next_event old op) ≡ true
      by Look e = ap (λ (a : Option Ask). is_own {T = T} op (asked_event op a)) e ∙ own_look T op
      by (Store request) e = ap (λ (a : Option Ask). is_own {T = T} op (asked_event op a)) e ∙ own_serve T op

  -- its own events alone disturb nothing
  undisturbed : (pages op : ℕ) (taken : List (Event T × Told T)) (old new : State T) → IsReached encode decode get_epoch set_epoch old → ((s : State T) → IsReached encode decode get_epoch set_epoch s → FewPages pages s) → Runs encode decode get_epoch set_epoch old taken new → AreOwn op taken → Undisturbed encode decode get_epoch set_epoch op pages old taken new
  undisturbed pages op [] old new r few runs own = runs
  undisturbed pages op (one ∷ rest) old new r few runs own =
      let r' = taken_reached encode decode get_epoch set_epoch old one.0 one.1 runs.0 r runs.1 in
      let parts = own_parts op one rest own in
      (runs.0, runs.1, few runs.0 r', inl (inl parts.0, undisturbed pages op rest runs.0 new r' few runs.2 parts.1))

  module _ (old : State T) (op : ℕ) (reached : IsReached encode decode get_epoch set_epoch old) (running : Running old op) (taken : List (Event T × Told T)) (new : State T) (own : AreOwn op taken) where
    found_asks : (operation : Operation T) → numbered old.operations op ≡ Some operation → asked operation.doing ≡ Some running.ask
    found_asks operation found = ap (λ (o : Operation T). asked o.doing) (same_Some operation running.operation (sym found ∙ running.found)) ∙ running.asks

    pub in_limit : Runs encode decode get_epoch set_epoch old taken new → length taken ≤ limit (numbered old.operations op)
    in_limit runs =
        let calm = undisturbed any_pages op taken old new reached (reached_pages encode decode get_epoch set_epoch) runs own in
        let bound = any_alone encode decode get_epoch set_epoch old op running.operation running.ask any_pages taken new reached running.found running.asks (reached_pages encode decode get_epoch set_epoch old reached) calm in
        let same = ap limit running.found in
        omega (arith, own, bound, same)

    pub in_time : IsInTime encode decode get_epoch set_epoch old op taken new
    in_time = record {
      left = λ operation pages found few calm. (let bound = any_alone encode decode get_epoch set_epoch old op operation running.ask pages taken new reached found (found_asks operation found) few calm in omega (arith, own, bound));
      alone = λ before client call said pages ends begins is few calm. (
          let bound = any_bound encode decode get_epoch set_epoch before client call said old pages 0 taken new (is_reached encode decode get_epoch set_epoch before ends) begins few (subst (λ (n : ℕ). Undisturbed encode decode get_epoch set_epoch n pages old taken new) is calm) in
          let same = ap (λ (n : ℕ). own_count n taken) is in
          let none : 0 * (cost_of call pages).again ≡ 0 = grind arith in
          omega (arith, own, bound, same, none)
          );
    }

  -- it is answered
  pub finishes : (old : State T) (op : ℕ) (taken : List (Event T × Told T)) (middle : State T) (event : Event T) (said : Told T) (answer : Answer T) (count : ℕ) (new : State T) → IsReached encode decode get_epoch set_epoch old → Running old op → GoesTo encode decode get_epoch set_epoch old op taken middle → Running middle op →
      event ≡ next_event middle op → Taking middle event said new → answer_told said ≡ Some answer → count ≡ length taken → Finishes encode decode get_epoch set_epoch old op answer (count + 1) new
  finishes old op taken middle event said answer count new reached running g r next t tells counted =
      let t' = subst (λ (e : Event T). Taking middle e said new) next t in
      let is = answered_is op said new answer (went_on middle op said new r t') tells in
      let all = then_answered taken event op answer in
      let own = own_more op taken event (told.Answered op answer) g.own (ap (is_own op) next ∙ next_own middle op r) in
      let long = length-append taken ((event, told.Answered op answer) ∷ []) in
      record {
        taken = taken;
        event = event;
        runs = runs_more encode decode get_epoch set_epoch old taken middle event (told.Answered op answer) new g.runs (subst (λ (s : Told T). Taking middle event s new) is t);
        own = own;
        went = g.went;
        counted = omega (arith, counted, long);
        in_time = in_time old op reached running all new own;
      }

  -- it goes on
  pub goes_more : (old : State T) (op : ℕ) (taken : List (Event T × Told T)) (middle : State T) (event : Event T) (said : Told T) (new : State T) → GoesTo encode decode get_epoch set_epoch old op taken middle → Running middle op →
      event ≡ next_event middle op → Taking middle event said new → answer_told said ≡ None → Running new op × GoesTo encode decode get_epoch set_epoch old op (taken ++ (event, said) ∷ []) new
  goes_more old op taken middle event said new g r next t tells =
      let on = went_is op said new (went_on middle op said new r (subst (λ (e : Event T). Taking middle e said new) next t)) tells in (
        on.1,
        record {
          runs = runs_more encode decode get_epoch set_epoch old taken middle event said new g.runs t;
          own = own_more op taken event said g.own (ap (is_own op) next ∙ next_own middle op r);
          went = went_more op taken event said g.went on.0;
        },
      )

  -- memory is wanting
  fault_is : (s : State T) (op : ℕ) (fault : EventFault) → Running s op → fault_met {A = Told T} (Err fault) ≡ refusal_of encode decode get_epoch set_epoch s (next_event s op) → fault ≡ faults.NoMemory
  fault_is s op fault running met =
      by fault (met ∙ any_allowed encode decode get_epoch set_epoch s op running.operation running.ask running.found running.asks)
    where
      by : (f : EventFault) → fault_met {A = Told T} (Err f) ≡ None → f ≡ faults.NoMemory
      by faults.UnknownNumber e = cc
      by faults.NotAsked e = cc
      by faults.UnknownBase e = cc
      by faults.BoundaryTooHigh e = cc
      by faults.EpochLowered e = cc
      by faults.ViewBusy e = cc
      by faults.NoMemory e = refl

  pub stops : (old : State T) (op : ℕ) (taken : List (Event T × Told T)) (middle : State T) (event : Event T) (fault : EventFault) (new : State T) → GoesTo encode decode get_epoch set_epoch old op taken middle → Running middle op → event ≡ next_event middle op → fault_met {A = Told T} (Err fault) ≡ refusal_of encode decode get_epoch set_epoch middle event → new ≡ middle → Stops encode decode get_epoch set_epoch old op fault new
  stops old op taken middle event fault new g r next met same =
      let is = fault_is middle op fault r (met ∙ ap (refusal_of encode decode get_epoch set_epoch middle) next) in
      subst (λ (f : EventFault). Stops encode decode get_epoch set_epoch old op f new) (sym is)
      (taken, subst (GoesTo encode decode get_epoch set_epoch old op taken) (sym same) g, ap (λ (s : State T). is_some (asks_of (seen_calls s) op)) same ∙ ap is_some (running_asks middle op r))
