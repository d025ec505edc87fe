-- In every state that is reached, an operation does what a claim does just where it is one, and the rows show on which view it claims.
use Rattle.std.proofs.Common.{◌≡◌, ℕ, zero, suc, ◌-◌, ◌==◌, ◌&&◌, List, [], ◌∷◌, ◌++◌, map, set, Bool, true, false, if◌then◌else◌, Option, Some, None, inl, inr, refl, sym, ◌∙◌, ap, subst}
use Rattle.std.specs.List.{list_any}
use Rattle.std.proofs.lemmas.Bool.{cases_Bool, both_ways, and_parts, and_from, eqb-true, eq-eqb}
use Rattle.std.proofs.lemmas.Option.{same_Some}
use Rattle.txn_history.specs.declared.event.EventOf.TheVariants as events
use Rattle.txn_history.specs.declared.event.Failure.{Failure}
use Rattle.txn_history.specs.declared.event.Failure.TheVariants as failures
use Rattle.txn_history.specs.declared.trace.RowOf.TheVariants.{Effect, Begun, Answered}
use Rattle.txn_history.specs.History.{is_id}
use Rattle.txn_history.specs.Lists.{numbered}
use Rattle.txn_history.specs.Seen.{Store, Look}
use Rattle.txn_history.proofs.Rows.{is_id_some}
use Rattle.txn_history.proofs.Lists.{numbered_more}
use Rattle.txn_machine.proofs.plain.Lists.{numbered_here, numbered_other, numbered_map, within}
use Rattle.txn_history.specs.declared.event.ViewCall.TheVariants as view_calls
use Rattle.txn_history.specs.declared.event.Call.{Call}
use Rattle.txn_history.specs.declared.event.Call.TheVariants as any
use Rattle.txn_history.specs.Trace.{Row, Event, Told}
use Rattle.txn_history.specs.Calls.{view_used}
use Rattle.txn_history.specs.GoesOn.{is_claim_on}
use Rattle.txn_machine.specs.declared.doing.Operation.{Operation}
use Rattle.txn_machine.specs.Doing.{ended}
use Rattle.txn_machine.specs.views.Parts.{is_claim_call}
use Rattle.txn_machine.specs.Machine.{State, opening, seen_view, used_by, doing_next, new_operation, ended_by, Fails, TakesOrLacks, IsReached}
use Rattle.txn_machine.proofs.Places.{any_at, place_of_any}
use Rattle.txn_machine.proofs.Busy.{Busied}
use Rattle.txn_machine.proofs.Claims.{ClaimFits, NextFits, turned_claims, started_claims}
use Rattle.txn_machine.proofs.Runs.{runs_keep}

module _ {T : Type 0} (P : Operation T → Type 0) where
  -- what holds of each operation
  abbrev Each : List (Operation T) → Type 0
  Each operations = (n : ℕ) (o : Operation T) → numbered operations n ≡ Some o → P o

  each_set : (operations : List (Operation T)) (op : ℕ) (o new : Operation T) → numbered operations op ≡ Some o → Each operations → P new → Each (set operations (op - 1) new)
  each_set operations op o new found each p =
      λ n q f. elim (cases_Bool (n == op)) [
        | inl is ↦ (let here : numbered (set operations (op - 1) new) n ≡ Some new = ap (λ (m : ℕ). numbered (set operations (op - 1) new) m) (eqb-true n op is) ∙ numbered_here operations op new o found in subst P (same_Some new q (sym here ∙ f)) p)
        | inr not ↦ each n q (sym (numbered_other operations op n new (within operations op o found).0 (λ same. both_ways _ not (eq-eqb n op same))) ∙ f)
      ]

  each_new : (operations : List (Operation T)) (new : Operation T) → Each operations → P new → Each (operations ++ new ∷ [])
  each_new operations new each p = λ n q f. elim (numbered_more operations new n q f) [ inl old ↦ each n q old | inr one ↦ subst P one.1 p ]

  each_map : (change : Operation T → Operation T) (operations : List (Operation T)) → ((o : Operation T) → P o → P (change o)) → Each operations → Each (map change operations)
  each_map change operations keeps each = λ n q f. let was = numbered_map change operations n q f in subst P (sym was.2) (keeps was.0 (each n was.0 was.1))

same_both : (number op o v : ℕ) → ((o == op) && (v == number)) ≡ true → (o ≡ op) × (v ≡ number)
same_both number op o v e = let both = and_parts (o == op) (v == number) e in (eqb-true o op both.0, eqb-true v number both.1)

module _ {T : Type 0} where
  abbrev pub OpFits : Operation T → Type 0
  OpFits o = ClaimFits o.claims o.doing

  abbrev pub ClaimsFit : State T → Type 0
  ClaimsFit s = (n : ℕ) (o : Operation T) → numbered s.operations n ≡ Some o → OpFits o

  ended_fits : (b : Bool) (o : Operation T) → OpFits o → OpFits (if b then doing_next o ended else o)
  ended_fits true o h = λ e. refl
  ended_fits false o h = h

  fails_claims : (failure : Failure) (old : State T) (op : ℕ) (said : Told T) (new : State T) → ClaimsFit old → Fails old op failure said new → ClaimsFit new
  fails_claims failures.Before old op said new h v = subst ClaimsFit (sym v.state) (each_set OpFits old.operations op v.operation (doing_next v.operation ended) v.acts.found h (λ e. refl))
  fails_claims failures.After old op said new h v = subst ClaimsFit (sym v.state) (each_set OpFits old.operations op v.call.operation (doing_next v.call.operation ended) v.call.acts.found h (λ e. refl))
  fails_claims failures.Loose old op said new h v = subst ClaimsFit (sym v.state) (each_set OpFits old.operations op v.operation (doing_next v.operation ended) v.acts.found h (λ e. refl))

  -- which rows are the begin of a claim on a view

  -- The row is the begin of this operation, a claim on the view of this number.
  record IsClaimRow (number op : ℕ) (row : Row T) : Type 0 where
    pub call : Call T
    pub begun : row ≡ Begun op call
    pub claims : is_claim_call call ≡ true
    pub uses : view_used call ≡ Some number

  claim_row : (number op : ℕ) (row : Row T) → is_claim_on number op row ≡ true → IsClaimRow number op row
  claim_row number op (Begun o (any.View (view_calls.Claim v))) e =
      let same = same_both number op o v e in
      record { call = any.View (view_calls.Claim v); begun = ap (λ (n : ℕ). Begun n (any.View (view_calls.Claim v))) same.0; claims = refl; uses = ap Some same.1 }
  claim_row number op (Begun o (any.View (view_calls.ClaimAt v epoch))) e =
      let same = same_both number op o v e in
      record { call = any.View (view_calls.ClaimAt v epoch); begun = ap (λ (n : ℕ). Begun n (any.View (view_calls.ClaimAt v epoch))) same.0; claims = refl; uses = ap Some same.1 }
  claim_row number op (Begun o (any.Plain call)) e = absurd (cc)
  claim_row number op (Begun o (any.View (view_calls.Init value))) e = absurd (cc)
  claim_row number op (Begun o (any.View view_calls.Load)) e = absurd (cc)
  claim_row number op (Begun o (any.View (view_calls.Refresh v))) e = absurd (cc)
  claim_row number op (Begun o (any.View (view_calls.Update v value))) e = absurd (cc)
  claim_row number op (Begun o (any.View (view_calls.HolderRefresh v))) e = absurd (cc)
  claim_row number op (Begun o (any.View (view_calls.HolderUpdate v value))) e = absurd (cc)
  claim_row number op (Effect o request) e = absurd (cc)
  claim_row number op (Answered o answer) e = absurd (cc)

  row_claims : (number op : ℕ) (call : Call T) → is_claim_call call ≡ true → view_used call ≡ Some number → is_claim_on number op (Begun op call) ≡ true
  row_claims number op (any.View (view_calls.Claim v)) claims uses = and_from (op == op) (v == number) (eq-eqb op op refl) (eq-eqb v number (same_Some v number uses))
  row_claims number op (any.View (view_calls.ClaimAt v epoch)) claims uses = and_from (op == op) (v == number) (eq-eqb op op refl) (eq-eqb v number (same_Some v number uses))
  row_claims number op (any.Plain call) claims uses = absurd (cc)
  row_claims number op (any.View (view_calls.Init value)) claims uses = absurd (cc)
  row_claims number op (any.View view_calls.Load) claims uses = absurd (cc)
  row_claims number op (any.View (view_calls.Refresh v)) claims uses = absurd (cc)
  row_claims number op (any.View (view_calls.Update v value)) claims uses = absurd (cc)
  row_claims number op (any.View (view_calls.HolderRefresh v)) claims uses = absurd (cc)
  row_claims number op (any.View (view_calls.HolderUpdate v value)) claims uses = absurd (cc)

  -- a claim uses a view
  claim_uses : (call : Call T) → is_claim_call call ≡ true → view_used call ≡ None → ⊥
  claim_uses (any.View (view_calls.Claim v)) claims none = cc
  claim_uses (any.View (view_calls.ClaimAt v epoch)) claims none = cc
  claim_uses (any.Plain call) claims none = cc
  claim_uses (any.View (view_calls.Init value)) claims none = cc
  claim_uses (any.View view_calls.Load) claims none = cc
  claim_uses (any.View (view_calls.Refresh v)) claims none = cc
  claim_uses (any.View (view_calls.Update v value)) claims none = cc
  claim_uses (any.View (view_calls.HolderRefresh v)) claims none = cc
  claim_uses (any.View (view_calls.HolderUpdate v value)) claims none = cc

module _ {T : Type 0} (s : State T) (h : Busied s) (op : ℕ) (o : Operation T) (found : numbered s.operations op ≡ Some o) where
  pub claim_has_view : o.claims ≡ true → o.view ≡ None → ⊥
  claim_has_view claims none = let noted = h.noted op o found in claim_uses noted.call (noted.claims ∙ claims) (noted.uses ∙ none)

  shown_is : (number : ℕ) → list_any (is_claim_on number op) s.trace ≡ true → (o.claims && is_id number o.view) ≡ true
  shown_is number some =
      let row = place_of_any (is_claim_on number op) s.trace some in
      let is = claim_row number op row.1 row.3 in
      let of = h.begun row.0 op is.call (row.2 ∙ ap Some is.begun) in
      let same : of.operation ≡ o = same_Some of.operation o (sym of.found ∙ found) in
      let claims : o.claims ≡ true = ap (λ (q : Operation T). q.claims) (sym same) ∙ (of.claims ∙ is.claims) in
      let view : o.view ≡ Some number = ap (λ (q : Operation T). q.view) (sym same) ∙ (of.uses ∙ is.uses) in
      and_from o.claims (is_id number o.view) claims (ap (is_id number) view ∙ eq-eqb number number refl)

  is_shown : (number : ℕ) → (o.claims && is_id number o.view) ≡ true → list_any (is_claim_on number op) s.trace ≡ true
  is_shown number both =
      let parts = and_parts o.claims (is_id number o.view) both in
      let noted = h.noted op o found in
      any_at (is_claim_on number op) s.trace noted.place (Begun op noted.call) noted.row (row_claims number op noted.call (noted.claims ∙ parts.0) (noted.uses ∙ is_id_some number o.view parts.1))

  -- the rows show whether it claims the view of this number
  pub claims_shown : (number : ℕ) → list_any (is_claim_on number op) s.trace ≡ (o.claims && is_id number o.view)
  claims_shown number = same_tests (list_any (is_claim_on number op) s.trace) (o.claims && is_id number o.view) (shown_is number) (is_shown number)
    where
      same_tests : (a b : Bool) → (a ≡ true → b ≡ true) → (b ≡ true → a ≡ true) → a ≡ b
      same_tests true b to from = sym (to refl)
      same_tests false true to from = from refl
      same_tests false false to from = refl

module _ {T : Type 0} (encode : T → List ℕ) (decode : List ℕ → Option T) (get_epoch : T → ℕ) (set_epoch : T → ℕ → T) where
  takes_claims : (old : State T) (event : Event T) (said : Told T) (new : State T) → ClaimsFit old → TakesOrLacks encode decode get_epoch set_epoch old event said new → ClaimsFit new
  takes_claims old (events.Begin client call) said new h t =
      let v = t.step in
      let fits = subst (NextFits (is_claim_call call)) (sym v.starts) (started_claims old.page encode get_epoch set_epoch call (seen_view (used_by old.views (view_used call)))) in
      subst ClaimsFit (sym v.state) (each_new OpFits old.operations (new_operation client call v.next.0) h fits.0)
  takes_claims old (events.Look op) said new h t =
      let v = t.step in
      let fits = subst (NextFits v.operation.claims) (sym v.turns.turns) (turned_claims old.page encode decode get_epoch set_epoch v.operation.claims v.turns.refused v.operation.doing v.caches None Look v.acts.asks (h op v.operation v.acts.found)) in
      subst ClaimsFit (sym v.state) (each_set OpFits old.operations op v.operation (doing_next v.operation v.next.0) v.acts.found h fits.0)
  takes_claims old (events.Serve op) said new h t = elim t.step [
    | inl v ↦ (
        let fits = subst (NextFits v.call.operation.claims) (sym v.turns.turns) (turned_claims old.page encode decode get_epoch set_epoch v.call.operation.claims v.turns.refused v.call.operation.doing v.call.caches (Some v.call.reply) (Store v.call.request) v.call.acts.asks (h op v.call.operation v.call.acts.found)) in
        subst ClaimsFit (sym v.state) (each_set OpFits old.operations op v.call.operation (doing_next v.call.operation v.next.0) v.call.acts.found h fits.0))
    | inr v ↦ subst ClaimsFit (sym v.state) (each_set OpFits old.operations op v.operation (doing_next v.operation ended) v.acts.found h (λ e. refl))
  ]
  takes_claims old (events.Fail op failure) said new h t = fails_claims failure old op said new h t.step
  takes_claims old (events.GiveUp op) said new h t = subst ClaimsFit (sym t.step.state) (each_set OpFits old.operations op t.step.operation (doing_next t.step.operation ended) t.step.found h (λ e. refl))
  takes_claims old (events.Land k) said new h t = subst ClaimsFit (sym t.step.state) h
  takes_claims old (events.Crash client) said new h t = subst ClaimsFit (sym t.step.state) (each_map OpFits (ended_by client) old.operations (λ o fits. ended_fits (o.client == client) o fits) h)

  pub reached_claiming : (s : State T) → IsReached encode decode get_epoch set_epoch s → ClaimsFit s
  reached_claiming s r = runs_keep encode decode get_epoch set_epoch ClaimsFit takes_claims (opening s.clients s.page) r.0 s r.1 nothing
    where
      nothing : (n : ℕ) (o : Operation T) → numbered [] n ≡ Some o → OpFits o
      nothing zero o e = absurd (cc)
      nothing (suc n) o e = absurd (cc)
