-- Which operations what is told ends, of any calls: the one it is told of, or a client's. All others run on, and so does what is shown of them.
use Rattle.std.proofs.Common.{◌≡◌, ◌≢◌, ℕ, zero, suc, ◌+◌, ◌-◌, ◌≤◌, List, [], ◌∷◌, ◌++◌, length, map, set, slice_get, slice_set, option_map, Bool, true, false, not, ◌==◌, ◌&&◌, is_some, Option, Some, None, inl, inr, refl, sym, ◌∙◌, ap, subst, arith}
use Rattle.std.proofs.lemmas.Bool.{cases_Bool, both_ways, eqb-true, eq-eqb, ne_eqb}
use Rattle.std.proofs.lemmas.List.{length-map, map-append, map-set}
use Rattle.std.proofs.lemmas.Option.{same_Some, slice_get-map}
use Rattle.txn_store.specs.Store.{State as StoreState}
use Rattle.txn_store.specs.declared.request.Request.{Request}
use Rattle.txn_store.specs.declared.request.Reply.{Reply}
use Rattle.txn_history.specs.declared.event.ToldOf.{ToldOf}
use Rattle.txn_history.specs.declared.event.ToldOf.TheVariants as told
use Rattle.txn_history.specs.declared.event.EventOf.{EventOf}
use Rattle.txn_history.specs.declared.event.EventOf.TheVariants as events
use Rattle.txn_history.specs.Lists.{numbered}
use Rattle.txn_history.specs.Seen.{Operation}
use Rattle.txn_history.specs.GoesOn.{state_of, ends_operation, state_after, states_after, OperationsGoOn}
use Rattle.txn_history.specs.Added.{told_of}
use Rattle.txn_machine.specs.plain.Machine.{StateOf, seen_by, effect_of, effected}

-- an operation that is not ended runs on where it ran, and one that is ended runs no more
runs_on : (runs ends : Bool) → ends ≡ false → runs ≡ (runs && not ends)
runs_on true ends e = ap not (sym e)
runs_on false ends e = refl

no_more : (runs ends : Bool) → ends ≡ true → (runs && not ends) ≡ false
no_more true ends e = ap not e
no_more false ends e = refl

module _ {A : Type 0} where
  -- What is told ends no operation but the one of this number, and that one where it says so.
  pub record EndsOne (t : ToldOf A) (op : ℕ) (ends : Bool) : Type 0 where
    pub others : (client n : ℕ) → n ≢ op → ends_operation t client n ≡ false
    pub own : (client : ℕ) → ends_operation t client op ≡ ends

  pub answer_ends : (op : ℕ) (answer : A) → EndsOne (told.Answered op answer) op true
  answer_ends op answer = record { others = λ client n ne. ne_eqb op n (λ e. ne (sym e)); own = λ client. eq-eqb op op refl }

  pub give_up_ends : (op : ℕ) → EndsOne (told.GaveUp op) op true
  give_up_ends op = record { others = λ client n ne. ne_eqb op n (λ e. ne (sym e)); own = λ client. eq-eqb op op refl }

  pub told_ends : (otherwise : ToldOf A) (op : ℕ) (answer : Option A) → ((client n : ℕ) → ends_operation otherwise client n ≡ false) → EndsOne (told_of otherwise op answer) op (is_some answer)
  told_ends otherwise op None none = record { others = λ client n ne. none client n; own = λ client. none client op }
  told_ends otherwise op (Some answer) none = answer_ends op answer

  -- operations that nothing ends stay as they were
  state_stays : (t : ToldOf A) (n : ℕ) (o : Operation) → ends_operation t o.client n ≡ false → state_of o ≡ state_after t n o
  state_stays t n o e = ap (λ (b : Bool). (o.client, b)) (runs_on (is_some o.asks) (ends_operation t o.client n) e)

  pub states_stay : (t : ToldOf A) (from : ℕ) (os : List Operation) → ((client n : ℕ) → from ≤ n → ends_operation t client n ≡ false) → map state_of os ≡ states_after t from os None
  states_stay t from [] none = refl
  states_stay t from (o ∷ os) none = ap (λ s. s ∷ map state_of os) (state_stays t from o (none o.client from (omega arith))) ∙ ap (λ ss. state_after t from o ∷ ss) (states_stay t (from + 1) os (λ client n le. none client n (omega (arith, le))))

  -- the operation that what is told may end: it did something, and does this next
  own_state : (t : ToldOf A) (op : ℕ) (ends : Bool) (o next : Operation) → EndsOne t op ends → next.client ≡ o.client → is_some o.asks ≡ true → is_some next.asks ≡ not ends → state_of next ≡ state_after t op o
  own_state t op ends o next one client runs fits =
      let now : (is_some o.asks && not (ends_operation t o.client op)) ≡ not ends = ap (λ b. b && not (ends_operation t o.client op)) runs ∙ ap not (one.own o.client) in
      ap (λ c. (c, is_some next.asks)) client ∙ ap (λ (b : Bool). (o.client, b)) (fits ∙ sym now)

  -- one of the operations does something else
  pub states_set : (t : ToldOf A) (from k op : ℕ) (ends : Bool) (os : List Operation) (o next : Operation) → slice_get os k ≡ Some o → op ≡ from + k → EndsOne t op ends → next.client ≡ o.client → is_some o.asks ≡ true → is_some next.asks ≡ not ends →
      map state_of (set os k next) ≡ states_after t from os None
  states_set t from k op ends [] o next e at one client runs fits = cc
  states_set t from zero op ends (x ∷ os) o next e at one client runs fits =
      let own : state_of next ≡ state_after t op o = own_state t op ends o next one client runs fits in
      let here : state_after t op o ≡ state_after t from x = (let same : op ≡ from = omega (arith, at) in ap (λ n. state_after t n o) same ∙ ap (λ y. state_after t from y) (sym (same_Some x o e))) in
      ap (λ s. s ∷ map state_of os) (own ∙ here)
      ∙ ap (λ ss. state_after t from x ∷ ss) (states_stay t (from + 1) os (λ client n le. one.others client n (λ same. omega (arith, at, le, same))))
  states_set t from (suc k) op ends (x ∷ os) o next e at one client runs fits =
      ap (λ s. s ∷ map state_of (set os k next)) (state_stays t from x (one.others x.client from (λ same. omega (arith, at, same))))
      ∙ ap (λ ss. state_after t from x ∷ ss) (states_set t (from + 1) k op ends os o next e (omega (arith, at)) one client runs fits)

  -- a new operation, which goes on or has ended
  pub states_begun : (t : ToldOf A) (from op : ℕ) (ends : Bool) (os : List Operation) (new : Operation) → op ≡ from + length os → EndsOne t op ends → is_some new.asks ≡ not ends →
      map state_of (os ++ new ∷ []) ≡ states_after t from os (Some new.client)
  states_begun t from op ends [] new at one fits =
      let same : op ≡ from = omega (arith, at) in
      ap (λ (b : Bool). (new.client, b) ∷ []) (fits ∙ ap not (sym (one.own new.client) ∙ ap (λ n. ends_operation t new.client n) same))
  states_begun t from op ends (x ∷ os) new at one fits =
      ap (λ s. s ∷ map state_of (os ++ new ∷ [])) (state_stays t from x (one.others x.client from (λ same. omega (arith, at, same))))
      ∙ ap (λ ss. state_after t from x ∷ ss) (states_begun t (from + 1) op ends os new (omega (arith, at)) one fits)

-- operations of any kind, by what is seen of them
module _ {O : Type 0} (seen : O → Operation) where
  -- an operation that is there is seen to be there
  pub seen_got : (os : List O) (k : ℕ) (o : O) → slice_get os k ≡ Some o → slice_get (map seen os) k ≡ Some (seen o)
  seen_got os k o e = slice_get-map seen os k ∙ ap (option_map seen) e

  -- one of them does something else
  pub states_acted : {A : Type 0} (t : ToldOf A) (op : ℕ) (ends : Bool) (os : List O) (o next : O) → numbered os op ≡ Some o → EndsOne t op ends → (seen next).client ≡ (seen o).client → is_some (seen o).asks ≡ true → is_some (seen next).asks ≡ not ends →
      map state_of (map seen (slice_set os (op - 1) next)) ≡ states_after t 1 (map seen os) None
  states_acted t zero ends os o next e one client runs fits = cc
  states_acted t (suc k) ends os o next e one client runs fits =
      ap (λ n. map state_of (map seen (set os n next))) (omega arith) ∙ ap (map state_of) (map-set seen os k next)
      ∙ states_set t 1 k (suc k) ends (map seen os) (seen o) (seen next) (seen_got os k o e) (omega arith) one client runs fits

  -- a new one goes on or has ended
  pub states_new : {A : Type 0} (t : ToldOf A) (ends : Bool) (os : List O) (new : O) → EndsOne t (length os + 1) ends → is_some (seen new).asks ≡ not ends → map state_of (map seen (os ++ new ∷ [])) ≡ states_after t 1 (map seen os) (Some (seen new).client)
  states_new t ends os new one fits =
      ap (map state_of) (map-append seen os (new ∷ []))
      ∙ states_begun t 1 (length os + 1) ends (map seen os) (seen new) (omega (arith, length-map os seen)) one fits

module _ (A : Type 0) where
  -- the operations of a client that crashed end
  crashed_state : (client n : ℕ) (o left : Operation) → (o.client ≡ client → state_of left ≡ (o.client, false)) → (o.client ≢ client → state_of left ≡ state_of o) → state_of left ≡ state_after {A = A} (told.Crashed client) n o
  crashed_state client n o left ends stays =
      elim (cases_Bool (o.client == client)) [
        | inl e ↦ (
            let same : o.client ≡ client = eqb-true o.client client e in
            ends same ∙ ap (λ (b : Bool). (o.client, b)) (sym (no_more (is_some o.asks) (client == o.client) (eq-eqb client o.client (sym same))))
            )
        | inr e ↦ (
            let differs : o.client ≢ client = λ same. both_ways _ e (eq-eqb o.client client same) in
            stays differs ∙ ap (λ (b : Bool). (o.client, b)) (runs_on (is_some o.asks) (client == o.client) (ne_eqb client o.client (λ same. differs (sym same))))
            )
      ]

  module _ {O : Type 0} (seen : O → Operation) (by : O → O) (client : ℕ) (ends : (o : O) → (seen o).client ≡ client → state_of (seen (by o)) ≡ ((seen o).client, false)) (stays : (o : O) → (seen o).client ≢ client → by o ≡ o) where
    pub states_crashed : (from : ℕ) (os : List O) → map state_of (map seen (map by os)) ≡ states_after {A = A} (told.Crashed client) from (map seen os) None
    states_crashed from [] = refl
    states_crashed from (x ∷ os) =
        ap (λ s. s ∷ map state_of (map seen (map by os))) (crashed_state client from (seen x) (seen (by x)) (ends x) (λ ne. ap (λ o. state_of (seen o)) (stays x ne)))
        ∙ ap (λ ss. state_after {A = A} (told.Crashed client) from (seen x) ∷ ss) (states_crashed (from + 1) os)

module _ {O V C A : Type 0} (see : O → Operation) where
  -- by what is told, and the state that is left
  pub told_so : (old : StateOf O V C A) (event : EventOf C) (said t : ToldOf A) (new s : StateOf O V C A) → said ≡ t → new ≡ s → OperationsGoOn (seen_by see old) event t (seen_by see s) → OperationsGoOn (seen_by see old) event said (seen_by see new)
  told_so old event said t new s tells is g = subst (λ (u : ToldOf A). OperationsGoOn (seen_by see old) event u (seen_by see new)) (sym tells) (subst (λ (x : StateOf O V C A). OperationsGoOn (seen_by see old) event t (seen_by see x)) (sym is) g)

  -- a landing ends none
  pub land_goes : (old : StateOf O V C A) (k op : ℕ) (request : Request) (reply : Reply) (store : StoreState) (said : ToldOf A) (new : StateOf O V C A) → said ≡ told.Landed k (is_some (effect_of old.store.files request reply)) → new ≡ effected old op request reply store → OperationsGoOn {C = C} (seen_by see old) (events.Land k) said (seen_by see new)
  land_goes old k op request reply store said new tells is =
      let t = told.Landed k (is_some (effect_of old.store.files request reply)) in
      told_so old (events.Land k) said t new (effected old op request reply store) tells is
      (record { clients = refl; operations = states_stay t 1 (map see old.operations) (λ client n le. refl); loose = refl; failed = refl })
