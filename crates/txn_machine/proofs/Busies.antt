-- Which operations run on which views: what holds of the operations, the views and the rows of a world, whatever events come.
use Rattle.std.proofs.Common.{◌≡◌, ◌≢◌, ℕ, zero, suc, ◌+◌, List, [], ◌∷◌, ◌++◌, length, map, slice_get, ◌==◌, Bool, true, false, if◌then◌else◌, is_some, Option, Some, None, ◌⊎◌, inl, inr, sym, ◌∙◌, ap, subst}
use Rattle.std.proofs.lemmas.Bool.{cases_Bool, both_ways, eqb-true, eq-eqb}
use Rattle.std.proofs.lemmas.Option.{same_Some}
use Rattle.txn_history.specs.declared.trace.RowOf.TheVariants.{Begun}
use Rattle.txn_history.specs.Lists.{numbered}
use Rattle.txn_history.specs.declared.event.Call.{Call}
use Rattle.txn_history.specs.Trace.{Row}
use Rattle.txn_history.specs.Calls.{view_used}
use Rattle.txn_machine.specs.views.Layer.{Used}
use Rattle.txn_machine.specs.views.Steps.{view_without}
use Rattle.txn_history.proofs.Lists.{get_kept, get_last, get_more, numbered_kept, numbered_more}
use Rattle.txn_machine.proofs.plain.Lists.{numbered_here, numbered_other, numbered_map, within, get_append, numbered_new, numbered_of_map}
use Rattle.txn_machine.specs.declared.doing.Doing.{Doing}
use Rattle.txn_machine.specs.declared.doing.Operation.{Operation}
use Rattle.txn_machine.specs.Doing.{asked, ended}
use Rattle.txn_machine.specs.views.Parts.{is_claim_call}
use Rattle.txn_machine.specs.Machine.{doing_next, with_doing, ended_by, new_operation}

-- it is this number, or is not
pub uses_or_not : (view : Option ℕ) (number : ℕ) → (view ≡ Some number) ⊎ (view ≡ Some number → ⊥)
uses_or_not None number = inr (λ f. cc)
uses_or_not (Some n) number = elim (cases_Bool (n == number)) [
  | inl is ↦ inl (ap Some (eqb-true n number is))
  | inr not ↦ inr (λ f. both_ways _ not (eq-eqb n number (same_Some n number f)))
]

module _ {T : Type 0} where
  -- it goes on
  abbrev pub IsRunning : Operation T → Type 0
  IsRunning o = is_some (asked o.doing) ≡ true

  -- The view of this number is there, is used by this operation, and is this client's.
  pub record IsHeldBy (views : List (Option (Used T))) (number op client : ℕ) : Type 0 where
    pub used : Used T
    pub there : numbered views number ≡ Some (Some used)
    pub busy : used.busy ≡ Some op
    pub own : used.view.client ≡ client

  -- The operation runs on the view of this number, as an operation of its client.
  pub record RunsOn (operations : List (Operation T)) (op number client : ℕ) : Type 0 where
    pub operation : Operation T
    pub found : numbered operations op ≡ Some operation
    pub runs : IsRunning operation
    pub uses : operation.view ≡ Some number
    pub own : client ≡ operation.client

  -- The operation is one of this call.
  pub record IsOf (operations : List (Operation T)) (op : ℕ) (call : Call T) : Type 0 where
    pub operation : Operation T
    pub found : numbered operations op ≡ Some operation
    pub uses : operation.view ≡ view_used call
    pub claims : operation.claims ≡ is_claim_call call

  -- The operation has its begin among the rows.
  pub record IsNoted (rows : List (Row T)) (op : ℕ) (o : Operation T) : Type 0 where
    pub place : ℕ
    pub call : Call T
    pub row : slice_get rows place ≡ Some (Begun op call)
    pub uses : view_used call ≡ o.view
    pub claims : is_claim_call call ≡ o.claims

  -- A view is busy with the operation that runs on it, and each operation has its begin among the rows.
  pub record Busies (operations : List (Operation T)) (views : List (Option (Used T))) (rows : List (Row T)) : Type 0 where
    pub holds : (op number : ℕ) (o : Operation T) → numbered operations op ≡ Some o → IsRunning o → o.view ≡ Some number → IsHeldBy views number op o.client
    pub runs : (number op : ℕ) (used : Used T) → numbered views number ≡ Some (Some used) → used.busy ≡ Some op → RunsOn operations op number used.view.client
    pub begun : (k op : ℕ) (call : Call T) → slice_get rows k ≡ Some (Begun op call) → IsOf operations op call
    pub noted : (op : ℕ) (o : Operation T) → numbered operations op ≡ Some o → IsNoted rows op o

  -- The view that was used is free, or has ended; others stay, and a new one is free.
  pub record Frees (views after : List (Option (Used T))) (view : Option ℕ) : Type 0 where
    pub own : (number : ℕ) (used : Used T) → view ≡ Some number → numbered after number ≡ Some (Some used) → used.busy ≡ None
    pub others : (number : ℕ) (used : Used T) → (view ≡ Some number → ⊥) → numbered after number ≡ Some (Some used) → (numbered views number ≡ Some (Some used)) ⊎ (used.busy ≡ None)
    pub stay : (number : ℕ) (used : Used T) → (view ≡ Some number → ⊥) → numbered views number ≡ Some (Some used) → numbered after number ≡ Some (Some used)

  -- The view that is used was free, is the client's, and is busy now; others stay.
  pub record TakesOne (views after : List (Option (Used T))) (view : Option ℕ) (op client : ℕ) : Type 0 where
    pub held : (number : ℕ) → view ≡ Some number → IsHeldBy after number op client
    pub free : (number : ℕ) (used : Used T) → view ≡ Some number → numbered views number ≡ Some (Some used) → used.busy ≡ None
    pub back : (number : ℕ) (used : Used T) → (view ≡ Some number → ⊥) → numbered after number ≡ Some (Some used) → numbered views number ≡ Some (Some used)
    pub stay : (number : ℕ) (used : Used T) → (view ≡ Some number → ⊥) → numbered views number ≡ Some (Some used) → numbered after number ≡ Some (Some used)

  pub none_busy : (used : Used T) (op : ℕ) → used.busy ≡ None → used.busy ≡ Some op → ⊥
  none_busy used op free busy = let e : None ≡ Some op = sym free ∙ busy in cc

  -- no begin is among the rows
  abbrev pub HasNoBegin : List (Row T) → Type 0
  HasNoBegin rows = (k op : ℕ) (call : Call T) → slice_get rows k ≡ Some (Begun op call) → ⊥

  pub busies_opening : Busies [] [] []
  busies_opening = record {
    holds = λ op number o e. absurd (nothing op o e);
    runs = λ number op used e. absurd (nothing number (Some used) e);
    begun = λ k op call e. absurd (cc);
    noted = λ op o e. absurd (nothing op o e);
  }
    where
      nothing : {A : Type 0} (n : ℕ) (x : A) → numbered [] n ≡ Some x → ⊥
      nothing zero x e = cc
      nothing (suc n) x e = cc

module _ {T : Type 0} (operations : List (Operation T)) (views : List (Option (Used T))) (rows : List (Row T)) (h : Busies operations views rows) where
  -- rows that begin nothing
  pub busies_rows : (more : List (Row T)) → HasNoBegin more → Busies operations views (rows ++ more)
  busies_rows more none = record {
    holds = h.holds;
    runs = h.runs;
    begun = λ k op call e. elim (get_append rows more k (Begun op call) e) [ inl old ↦ h.begun k op call old | inr new ↦ absurd (none new.0 op call new.1) ];
    noted = λ op o e. let n = h.noted op o e in record { place = n.place; call = n.call; row = get_kept rows more n.place (Begun op n.call) n.row; uses = n.uses; claims = n.claims };
  }

  -- what an operation holds of its view

  -- two operations do not run on one view
  one_runs : (op other number : ℕ) (o p : Operation T) → numbered operations op ≡ Some o → IsRunning o → o.view ≡ Some number → numbered operations other ≡ Some p → IsRunning p → p.view ≡ Some number → op ≡ other
  one_runs op other number o p e runs uses f runs' uses' =
      let a = h.holds op number o e runs uses in
      let b = h.holds other number p f runs' uses' in
      let same : a.used ≡ b.used = same_Some a.used b.used (same_Some (Some a.used) (Some b.used) (sym a.there ∙ b.there)) in
      same_Some op other (sym a.busy ∙ (ap (λ (u : Used T). u.busy) same ∙ b.busy))

  module _ (op : ℕ) (o : Operation T) (e : numbered operations op ≡ Some o) (doing : Doing T) where
    abbrev next_operations : List (Operation T)
    next_operations = with_doing operations op o doing

    next_here : numbered next_operations op ≡ Some (doing_next o doing)
    next_here = numbered_here operations op (doing_next o doing) o e

    next_other : (n : ℕ) → n ≢ op → numbered next_operations n ≡ numbered operations n
    next_other n ne = numbered_other operations op n (doing_next o doing) (within operations op o e).0 ne

    -- an operation is the one that does this next, or another one
    next_cases : (n : ℕ) (p : Operation T) → numbered next_operations n ≡ Some p → ((n ≡ op) × (p ≡ doing_next o doing)) ⊎ ((n ≢ op) × (numbered operations n ≡ Some p))
    next_cases n p f =
        elim (cases_Bool (n == op)) [
          | inl is ↦ (let same = eqb-true n op is in inl (same, same_Some p (doing_next o doing) (sym f ∙ (ap (λ (m : ℕ). numbered next_operations m) same ∙ next_here))))
          | inr not ↦ (let ne : n ≢ op = λ same. both_ways _ not (eq-eqb n op same) in inr (ne, sym (next_other n ne) ∙ f))
        ]

    next_of : (n : ℕ) (call : Call T) → IsOf operations n call → IsOf next_operations n call
    next_of n call is =
        elim (cases_Bool (n == op)) [
          | inl e' ↦ (
              let same = eqb-true n op e' in
              let one : is.operation ≡ o = same_Some is.operation o (sym is.found ∙ (ap (λ (m : ℕ). numbered operations m) same ∙ e)) in
              record { operation = doing_next o doing; found = ap (λ (m : ℕ). numbered next_operations m) same ∙ next_here; uses = ap (λ (p : Operation T). p.view) (sym one) ∙ is.uses; claims = ap (λ (p : Operation T). p.claims) (sym one) ∙ is.claims }
              )
          | inr not ↦ record { operation = is.operation; found = next_other n (λ same. both_ways _ not (eq-eqb n op same)) ∙ is.found; uses = is.uses; claims = is.claims }
        ]

    next_noted : (n : ℕ) (p : Operation T) → numbered next_operations n ≡ Some p → IsNoted rows n p
    next_noted n p f =
        elim (next_cases n p f) [
          | inl is ↦ (let was = h.noted op o e in subst (λ (m : ℕ). IsNoted rows m p) (sym is.0) (subst (λ (q : Operation T). IsNoted rows op q) (sym is.1) (record { place = was.place; call = was.call; row = was.row; uses = was.uses; claims = was.claims })))
          | inr other ↦ h.noted n p other.1
        ]

    -- it goes on
    pub busies_goes : IsRunning o → is_some (asked doing) ≡ true → Busies next_operations views rows
    busies_goes ran runs = record {
      holds = λ n number p f r uses. elim (next_cases n p f) [
        | inl is ↦ (
            let was : IsHeldBy views number op o.client = h.holds op number o e ran (ap (λ (q : Operation T). q.view) (sym is.1) ∙ uses) in
            subst (λ (m : ℕ). IsHeldBy views number m p.client) (sym is.0) (subst (λ (q : Operation T). IsHeldBy views number op q.client) (sym is.1) was)
            )
        | inr other ↦ h.holds n number p other.1 r uses
      ];
      runs = λ number n used f busy. let was = h.runs number n used f busy in elim (cases_Bool (n == op)) [
        | inl e' ↦ (
            let same = eqb-true n op e' in
            let one : was.operation ≡ o = same_Some was.operation o (sym was.found ∙ (ap (λ (m : ℕ). numbered operations m) same ∙ e)) in
            record {
              operation = doing_next o doing;
              found = ap (λ (m : ℕ). numbered next_operations m) same ∙ next_here;
              runs = runs;
              uses = ap (λ (q : Operation T). q.view) (sym one) ∙ was.uses;
              own = was.own ∙ ap (λ (q : Operation T). q.client) one;
            }
            )
        | inr not ↦ record { operation = was.operation; found = next_other n (λ same. both_ways _ not (eq-eqb n op same)) ∙ was.found; runs = was.runs; uses = was.uses; own = was.own }
      ];
      begun = λ k n call f. next_of n call (h.begun k n call f);
      noted = next_noted;
    }

    -- it ends
    pub busies_ends : (after : List (Option (Used T))) → IsRunning o → is_some (asked doing) ≡ false → Frees views after o.view → Busies next_operations after rows
    busies_ends after ran ended frees = record {
      holds = λ n number p f r uses. elim (next_cases n p f) [
        | inl is ↦ absurd (both_ways _ (ap (λ (q : Operation T). is_some (asked q.doing)) is.1 ∙ ended) r)
        | inr other ↦ (
            let was = h.holds n number p other.1 r uses in
            let apart : o.view ≡ Some number → ⊥ = λ own. other.0 (one_runs n op number p o other.1 r uses e ran own) in
            record { used = was.used; there = frees.stay number was.used apart was.there; busy = was.busy; own = was.own }
            )
      ];
      runs = λ number n used f busy. elim (uses_or_not o.view number) [
        | inl own ↦ absurd (none_busy used n (frees.own number used own f) busy)
        | inr apart ↦ elim (frees.others number used apart f) [
          | inl old ↦ (
              let was = h.runs number n used old busy in
              let ne : n ≢ op = λ same. apart (ap (λ (q : Operation T). q.view) (same_Some o was.operation (sym e ∙ (ap (λ (m : ℕ). numbered operations m) (sym same) ∙ was.found))) ∙ was.uses) in
              record { operation = was.operation; found = next_other n ne ∙ was.found; runs = was.runs; uses = was.uses; own = was.own }
              )
          | inr free ↦ absurd (none_busy used n free busy)
        ]
      ];
      begun = λ k n call f. next_of n call (h.begun k n call f);
      noted = next_noted;
    }

  -- an operation begins

  module _ (after : List (Option (Used T))) (client : ℕ) (call : Call T) (doing : Doing T) (runs : is_some (asked doing) ≡ true) (takes : TakesOne views after (view_used call) (length operations + 1) client) where
    abbrev new_op : ℕ
    new_op = length operations + 1

    abbrev new_one : Operation T
    new_one = new_operation client call doing

    begun_holds : (n number : ℕ) (p : Operation T) → numbered (operations ++ new_one ∷ []) n ≡ Some p → IsRunning p → p.view ≡ Some number → IsHeldBy after number n p.client
    begun_holds n number p f r uses =
        elim (numbered_more operations new_one n p f) [
          | inl old ↦ (
              let was = h.holds n number p old r uses in
              let apart : view_used call ≡ Some number → ⊥ = λ own. none_busy was.used n (takes.free number was.used own was.there) was.busy in
              record { used = was.used; there = takes.stay number was.used apart was.there; busy = was.busy; own = was.own }
              )
          | inr new ↦ (
              let own : view_used call ≡ Some number = ap (λ (q : Operation T). q.view) new.1 ∙ uses in
              subst (λ (m : ℕ). IsHeldBy after number m p.client) (sym new.0) (subst (λ (q : Operation T). IsHeldBy after number new_op q.client) new.1 (takes.held number own))
              )
        ]

    begun_runs : (number n : ℕ) (used : Used T) → numbered after number ≡ Some (Some used) → used.busy ≡ Some n → RunsOn (operations ++ new_one ∷ []) n number used.view.client
    begun_runs number n used f busy =
        elim (uses_or_not (view_used call) number) [
          | inl own ↦ (
              let is = takes.held number own in
              let same : is.used ≡ used = same_Some is.used used (same_Some (Some is.used) (Some used) (sym is.there ∙ f)) in
              let place : n ≡ new_op = same_Some n new_op (sym busy ∙ (ap (λ (u : Used T). u.busy) (sym same) ∙ is.busy)) in
              record {
                operation = new_one;
                found = ap (λ (m : ℕ). numbered (operations ++ new_one ∷ []) m) place ∙ numbered_new operations new_one;
                runs = runs;
                uses = own;
                own = ap (λ (u : Used T). u.view.client) (sym same) ∙ is.own;
              }
              )
          | inr apart ↦ (
              let was = h.runs number n used (takes.back number used apart f) busy in
              record { operation = was.operation; found = numbered_kept operations (new_one ∷ []) n was.operation was.found; runs = was.runs; uses = was.uses; own = was.own }
              )
        ]

    begun_begun : (k n : ℕ) (c : Call T) → slice_get (rows ++ Begun new_op call ∷ []) k ≡ Some (Begun n c) → IsOf (operations ++ new_one ∷ []) n c
    begun_begun k n c f =
        elim (get_more rows (Begun new_op call) k (Begun n c) f) [
          | inl old ↦ (let was = h.begun k n c old in record { operation = was.operation; found = numbered_kept operations (new_one ∷ []) n was.operation was.found; uses = was.uses; claims = was.claims })
          | inr new ↦ (
              let row : ◌≡◌ {A = Row T} (Begun new_op call) (Begun n c) = new.1 in
              let number : new_op ≡ n = cc row in
              let same : call ≡ c = cc row in
              record { operation = new_one; found = ap (λ (m : ℕ). numbered (operations ++ new_one ∷ []) m) (sym number) ∙ numbered_new operations new_one; uses = ap view_used same; claims = ap is_claim_call same }
              )
        ]

    begun_noted : (n : ℕ) (p : Operation T) → numbered (operations ++ new_one ∷ []) n ≡ Some p → IsNoted (rows ++ Begun new_op call ∷ []) n p
    begun_noted n p f =
        elim (numbered_more operations new_one n p f) [
          | inl old ↦ (let was = h.noted n p old in record { place = was.place; call = was.call; row = get_kept rows (Begun new_op call ∷ []) was.place (Begun n was.call) was.row; uses = was.uses; claims = was.claims })
          | inr new ↦ record {
            place = length rows;
            call = call;
            row = get_last rows (Begun new_op call) ∙ ap (λ (m : ℕ). Some (Begun m call)) (sym new.0);
            uses = ap (λ (q : Operation T). q.view) new.1;
            claims = ap (λ (q : Operation T). q.claims) new.1;
          }
        ]

    pub busies_begins : Busies (operations ++ new_one ∷ []) after (rows ++ Begun new_op call ∷ [])
    busies_begins = record { holds = begun_holds; runs = begun_runs; begun = begun_begun; noted = begun_noted }

  -- a client's operations and views end

  module _ (client : ℕ) where
    pub ended_cases : (o : Operation T) → (((o.client == client) ≡ true) × (ended_by client o ≡ doing_next o ended)) ⊎ (((o.client == client) ≡ false) × (ended_by client o ≡ o))
    ended_cases o =
        elim (cases_Bool (o.client == client)) [
          | inl is ↦ inl (is, ap (λ (b : Bool). if◌then◌else◌ {A = Operation T} b (doing_next o ended) o) is)
          | inr not ↦ inr (not, ap (λ (b : Bool). if◌then◌else◌ {A = Operation T} b (doing_next o ended) o) not)
        ]

    same_view : (o : Operation T) → (ended_by client o).view ≡ o.view
    same_view o = elim (ended_cases o) [ inl is ↦ ap (λ (q : Operation T). q.view) is.1 | inr not ↦ ap (λ (q : Operation T). q.view) not.1 ]

    same_claims : (o : Operation T) → (ended_by client o).claims ≡ o.claims
    same_claims o = elim (ended_cases o) [ inl is ↦ ap (λ (q : Operation T). q.claims) is.1 | inr not ↦ ap (λ (q : Operation T). q.claims) not.1 ]

    pub view_stays : (used : Used T) → (used.view.client == client) ≡ false → view_without client (Some used) ≡ Some used
    view_stays used not = ap (λ (b : Bool). if◌then◌else◌ {A = Option (Used T)} b None (Some used)) not

    -- a view that is there was there, and is not the client's
    stayed : (was : Option (Used T)) (used : Used T) → Some used ≡ view_without client was → (was ≡ Some used) × ((used.view.client == client) ≡ false)
    stayed None used e = absurd (cc)
    stayed (Some u) used e =
        elim (cases_Bool (u.view.client == client)) [
          | inl is ↦ (let gone : Some used ≡ None = e ∙ ap (λ (b : Bool). if◌then◌else◌ {A = Option (Used T)} b None (Some u)) is in absurd (cc gone))
          | inr not ↦ (let same : used ≡ u = same_Some used u (e ∙ view_stays u not) in (ap Some (sym same), ap (λ (w : Used T). w.view.client == client) same ∙ not))
        ]

    crash_holds : (n number : ℕ) (p : Operation T) → numbered (map (ended_by client) operations) n ≡ Some p → IsRunning p → p.view ≡ Some number → IsHeldBy (map (view_without client) views) number n p.client
    crash_holds n number p f r uses =
        let was = numbered_map (ended_by client) operations n p f in
        elim (ended_cases was.0) [
          | inl gone ↦ absurd (both_ways _ (ap (λ (q : Operation T). is_some (asked q.doing)) (was.2 ∙ gone.1)) r)
          | inr there ↦ (
              let same : p ≡ was.0 = was.2 ∙ there.1 in
              let held = h.holds n number p (was.1 ∙ ap Some (sym same)) r uses in
              let apart : (held.used.view.client == client) ≡ false = ap (λ (c : ℕ). c == client) (held.own ∙ ap (λ (q : Operation T). q.client) same) ∙ there.0 in
              record { used = held.used; there = numbered_of_map (view_without client) views number (Some held.used) held.there ∙ ap Some (view_stays held.used apart); busy = held.busy; own = held.own }
              )
        ]

    crash_runs : (number n : ℕ) (used : Used T) → numbered (map (view_without client) views) number ≡ Some (Some used) → used.busy ≡ Some n → RunsOn (map (ended_by client) operations) n number used.view.client
    crash_runs number n used f busy =
        let at = numbered_map (view_without client) views number (Some used) f in
        let kept = stayed at.0 used at.2 in
        let was = h.runs number n used (at.1 ∙ ap Some kept.0) busy in
        elim (ended_cases was.operation) [
          | inl gone ↦ absurd (both_ways _ kept.1 (ap (λ (c : ℕ). c == client) was.own ∙ gone.0))
          | inr there ↦ record { operation = was.operation; found = numbered_of_map (ended_by client) operations n was.operation was.found ∙ ap Some there.1; runs = was.runs; uses = was.uses; own = was.own }
        ]

    crash_begun : (k n : ℕ) (c : Call T) → slice_get rows k ≡ Some (Begun n c) → IsOf (map (ended_by client) operations) n c
    crash_begun k n c f =
        let was = h.begun k n c f in
        record { operation = ended_by client was.operation; found = numbered_of_map (ended_by client) operations n was.operation was.found; uses = same_view was.operation ∙ was.uses; claims = same_claims was.operation ∙ was.claims }

    crash_noted : (n : ℕ) (p : Operation T) → numbered (map (ended_by client) operations) n ≡ Some p → IsNoted rows n p
    crash_noted n p f =
        let was = numbered_map (ended_by client) operations n p f in
        let noted = h.noted n was.0 was.1 in
        record { place = noted.place; call = noted.call; row = noted.row; uses = noted.uses ∙ (sym (same_view was.0) ∙ ap (λ (q : Operation T). q.view) (sym was.2)); claims = noted.claims ∙ (sym (same_claims was.0) ∙ ap (λ (q : Operation T). q.claims) (sym was.2)) }

    pub busies_crashes : Busies (map (ended_by client) operations) (map (view_without client) views) rows
    busies_crashes = record { holds = crash_holds; runs = crash_runs; begun = crash_begun; noted = crash_noted }
