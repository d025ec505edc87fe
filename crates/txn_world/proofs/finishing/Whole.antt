-- How many looks and serves all operations of a run take together: what is left of each, added up, is taken some of by each look and serve.
use Rattle.std.proofs.Common.{◌≡◌, ℕ, zero, suc, ◌+◌, ◌-◌, ◌<◌, ◌≤◌, ◌==◌, cond, List, [], ◌∷◌, length, Bool, true, false, Option, ◌⊎◌, inl, inr, refl, sym, ◌∙◌, ap, subst, arith}
use Rattle.std.proofs.lemmas.Bool.{cases_Bool, eq-eqb, ne_eqb, eqb-true}
use Rattle.std.proofs.lemmas.List.{length-append, length-map, length-set}
use Rattle.txn_history.specs.declared.event.Call.{Call}
use Rattle.txn_history.specs.declared.event.EventOf.TheVariants as events
use Rattle.txn_history.specs.declared.event.Failure.{Failure}
use Rattle.txn_history.specs.declared.event.Failure.TheVariants as failures
use Rattle.txn_history.specs.Lists.{numbered}
use Rattle.txn_history.specs.Trace.{Event, Told}
use Rattle.txn_machine.specs.declared.plain.doing.PlainDoing.TheVariants as doings
use Rattle.txn_machine.specs.plain.Machine.{next_op}
use Rattle.txn_machine.proofs.plain.Lists.{within}
use Rattle.txn_steps_views.specs.declared.op.ViewOp.TheVariants as ops
use Rattle.txn_steps.specs.declared.boundary.advance.AdvanceOp.{AdvanceOp}
use Rattle.txn_machine.specs.declared.doing.Doing.{Doing}
use Rattle.txn_machine.specs.declared.doing.Doing.TheVariants as does
use Rattle.txn_machine.specs.declared.doing.Operation.{Operation}
use Rattle.txn_machine.specs.Doing.{ended}
use Rattle.txn_machine.specs.Machine.{State, opening, doing_next, ended_by, new_operation, Fails, Takes, IsReached}
use Rattle.txn_machine.proofs.Joining.{reached_joins}
use Rattle.txn_machine.proofs.Runs.{taken_reached, takes_same}
use Rattle.txn_world.specs.finishing.Progress.{cost_of, is_own, LeavesAlone, FewPages}
use Rattle.txn_world.specs.finishing.Whole.{adds_to, adds_in, added_to, begun_cost, is_work, work_count, DisturbsOnly, Costs}
use Rattle.txn_world.proofs.finishing.Advances.{Advancing, own_on, calm_on, disturbed_on, advance_has}
use Rattle.txn_world.proofs.finishing.Bounds.{own_goes, calm_keeps, disturbed_keeps, call_has}
use Rattle.txn_world.proofs.finishing.Calls.{advance_or_not}
use Rattle.txn_world.proofs.finishing.Moves.{listings_of, Has}
use Rattle.txn_world.proofs.finishing.Work.{Listings, WorkLeft, again_of}

-- sums over the operations of a state, which are numbered from 1

abbrev total : (ℕ → ℕ) → ℕ → ℕ
total f zero = 0
total f (suc k) = total f k + f (suc k)

-- with one more value
abbrev with_next : (ℕ → ℕ) → ℕ → ℕ → ℕ → ℕ
with_next f k v op = cond (op == suc k) v (f op)

next_is : (f : ℕ → ℕ) (k v : ℕ) → with_next f k v (suc k) ≡ v
next_is f k v = ap (λ (b : Bool). cond b v (f (suc k))) (eq-eqb (suc k) (suc k) refl)

others_are : (f : ℕ → ℕ) (k v op : ℕ) → op ≤ k → with_next f k v op ≡ f op
others_are f k v op le = ap (λ (b : Bool). cond b v (f op)) (ne_eqb op (suc k) (λ e. omega (arith, le, e)))

total_same : (f : ℕ → ℕ) (k v j : ℕ) → j ≤ k → total (with_next f k v) j ≡ total f j
total_same f k v zero le = refl
total_same f k v (suc j) le =
    let before = total_same f k v j (omega (arith, le)) in
    let here = others_are f k v (suc j) le in
    omega (arith, before, here)

total_next : (f : ℕ → ℕ) (k v : ℕ) → total (with_next f k v) (suc k) ≡ total f k + v
total_next f k v = let before = total_same f k v k (omega arith) in let here = next_is f k v in omega (arith, before, here)

below_next : (op k : ℕ) → op ≤ suc k → (op == suc k) ≡ false → op ≤ k
below_next op k most differ = below (λ e. (let clash : true ≡ false = sym (eq-eqb op (suc k) e) ∙ differ in cc))
  where
    below : (op ≡ suc k → ⊥) → op ≤ k
    below apart = omega (arith, most, apart)

each_next : (P : ℕ → ℕ → Type 0) (f : ℕ → ℕ) (k v : ℕ) → ((op : ℕ) → 0 < op → op ≤ k → P op (f op)) → P (suc k) v → (op : ℕ) → 0 < op → op ≤ suc k → P op (with_next f k v op)
each_next P f k v before here op some most = elim (cases_Bool (op == suc k)) [
  | inl same ↦ (let is = eqb-true op (suc k) same in subst (λ (i : ℕ). P i (with_next f k v i)) (sym is) (subst (P (suc k)) (sym (next_is f k v)) here))
  | inr differ ↦ (let le = below_next op k most differ in subst (P op) (sym (others_are f k v op le)) (before op some le))
]

one_here : (f : ℕ → ℕ) (k op : ℕ) → op ≤ suc k → f op ≡ 1 → (op ≤ k → 1 ≤ total f k) → 1 ≤ total f (suc k)
one_here f k op most one before = elim (cases_Bool (op == suc k)) [
  | inl same ↦ (let here = ap f (sym (eqb-true op (suc k) same)) in omega (arith, here, one))
  | inr differ ↦ (let less = before (below_next op k most differ) in omega (arith, less))
]

one_of : (f : ℕ → ℕ) (k op : ℕ) → 0 < op → op ≤ k → f op ≡ 1 → 1 ≤ total f k
one_of f zero op some most one = absurd (omega (arith, some, most))
one_of f (suc k) op some most one = one_here f k op most one (λ le. one_of f k op some le one)

-- what a disturbance adds
module _ {T : Type 0} where
  again_small : (g : ℕ) (doing : Doing T) → again_of g doing ≤ adds_to doing g
  again_small g (does.Plain (doings.Read op)) = omega arith
  again_small g (does.Plain (doings.ListIds op)) = omega arith
  again_small g (does.Plain (doings.Advance op)) = omega arith
  again_small g (does.Plain (doings.Write op)) = omega arith
  again_small g (does.Plain (doings.WriteUnchecked op)) = omega arith
  again_small g (does.Plain (doings.ReadUnchecked op)) = omega arith
  again_small g (does.Plain (doings.ReadSeen op)) = omega arith
  again_small g (does.Plain (doings.Delete op)) = omega arith
  again_small g (does.Plain (doings.Check op)) = omega arith
  again_small g (does.Plain doings.Ended) = omega arith
  again_small g (does.View (ops.Enters op)) = omega arith
  again_small g (does.View (ops.Reads op)) = omega arith
  again_small g (does.View (ops.Claims op)) = omega arith

  -- a look or a serve of an operation counts one, and a hit what it adds

  abbrev owns : Event T → ℕ → ℕ
  owns event op = cond (is_own op event) 1 0

  abbrev hit_adds : (ℕ → Bool) → List (Operation T) → ℕ → ℕ → ℕ
  hit_adds hits operations g op = cond (hits op) (adds_in (numbered operations op) g) 0

  -- how many operations there are after an event

  fails_count : (failure : Failure) (old : State T) (op : ℕ) (said : Told T) (new : State T) → Fails old op failure said new → length new.operations ≡ length old.operations
  fails_count failures.Before old op said new v = ap (λ (s : State T). length s.operations) v.state ∙ length-set old.operations (op - 1) (doing_next v.operation ended)
  fails_count failures.After old op said new v = ap (λ (s : State T). length s.operations) v.state ∙ length-set old.operations (op - 1) (doing_next v.call.operation ended)
  fails_count failures.Loose old op said new v = ap (λ (s : State T). length s.operations) v.state ∙ length-set old.operations (op - 1) (doing_next v.operation ended)

  -- whether one begins
  abbrev begun_one : Event T → ℕ
  begun_one (events.Begin client call) = 1
  begun_one (events.Look op) = 0
  begun_one (events.Serve op) = 0
  begun_one (events.Fail op failure) = 0
  begun_one (events.GiveUp op) = 0
  begun_one (events.Land k) = 0
  begun_one (events.Crash client) = 0

one_look : (T : Type 0) (op : ℕ) → owns {T = T} (events.Look op) op ≡ 1
one_look T op = rw (eq-eqb op op refl) refl

one_serve : (T : Type 0) (op : ℕ) → owns {T = T} (events.Serve op) op ≡ 1
one_serve T op = rw (eq-eqb op op refl) refl

module _ {T : Type 0} (encode : T → List ℕ) (decode : List ℕ → Option T) (get_epoch : T → ℕ) (set_epoch : T → ℕ → T) where
  abbrev Reached : State T → Type 0
  Reached s = IsReached encode decode get_epoch set_epoch s

  abbrev Takes' : State T → Event T → Told T → State T → Type 0
  Takes' old event said new = Takes encode decode get_epoch set_epoch old event said new

  abbrev Has' : State T → ℕ → ℕ → ℕ → ℕ → Type 0
  Has' s op g again n = Has encode decode get_epoch set_epoch s op g again n

  abbrev Advancing' : State T → ℕ → ℕ → Type 0
  Advancing' s op n = Advancing encode decode get_epoch set_epoch s op n

  count_after : (old : State T) (event : Event T) (said : Told T) (new : State T) → Takes' old event said new → length new.operations ≡ length old.operations + begun_one event
  count_after old (events.Begin client call) said new t = let same = ap (λ (s : State T). length s.operations) t.step.state ∙ length-append old.operations (new_operation client call t.step.next.0 ∷ []) in omega (arith, same)
  count_after old (events.Look op) said new t = let same = ap (λ (s : State T). length s.operations) t.step.state ∙ length-set old.operations (op - 1) (doing_next t.step.operation t.step.next.0) in omega (arith, same)
  count_after old (events.Serve op) said new t = let same = ap (λ (s : State T). length s.operations) t.step.state ∙ length-set old.operations (op - 1) (doing_next t.step.call.operation t.step.next.0) in omega (arith, same)
  count_after old (events.Fail op failure) said new t = let same = fails_count failure old op said new t.step in omega (arith, same)
  count_after old (events.GiveUp op) said new t = let same = ap (λ (s : State T). length s.operations) t.step.state ∙ length-set old.operations (op - 1) (doing_next t.step.operation ended) in omega (arith, same)
  count_after old (events.Land k) said new t = let same = ap (λ (s : State T). length s.operations) t.step.state in omega (arith, same)
  count_after old (events.Crash client) said new t = let same = ap (λ (s : State T). length s.operations) t.step.state ∙ length-map old.operations (ended_by client) in omega (arith, same)

  -- What an operation has left, whatever its call.

  pub record Raises (s : State T) (op n : ℕ) : Type 0 where
    pub advancing : Advancing' s op n
    pub advance : AdvanceOp
    pub doing : advancing.operation.doing ≡ does.Plain (doings.Advance advance)

  abbrev Holds : State T → ℕ → ℕ → ℕ → Type 0
  Holds s op g n = Has' s op g (adds_in (numbered s.operations op) g) n ⊎ Raises s op n

  has_holds : (s : State T) (op g again n : ℕ) → Has' s op g again n → Holds s op g n
  has_holds s op g again n h = inl (record {
    operation = h.operation;
    there = h.there;
    caches = h.caches;
    kept = h.kept;
    joined = h.joined;
    left = h.left;
    adds = (let small = again_small g h.operation.doing in let same = ap (λ (o : Option (Operation T)). adds_in o g) h.there in omega (arith, small, same));
  })

  advance_holds : (s : State T) (op g n : ℕ) → Reached s → Advancing' s op n → Holds s op g n
  advance_holds s op g n r a = elim a.left [
    | inl gone ↦
        let j = reached_joins encode decode get_epoch set_epoch s r in
        has_holds s op g 0 n (record {
          operation = a.operation;
          there = a.there;
          caches = a.caches;
          kept = a.kept;
          joined = j;
          left = subst (λ (d : Doing T). WorkLeft j.fine.trace s.store.files s.page g d a.caches n) (sym gone) tt;
          adds = (let none = ap (again_of g) gone in omega (arith, none));
        })
    | inr runs ↦ inr (record { advancing = a; advance = runs.0; doing = runs.1 })
  ]

  module _ (old : State T) (event : Event T) (said : Told T) (new : State T) (g : ℕ) (r : Reached old) (t : Takes' old event said new) (few : FewPages g new) where
    r' : Reached new
    r' = taken_reached encode decode get_epoch set_epoch old event said new r t

    listings : Listings new.store.files old.page g
    listings = subst (λ (p : ℕ). Listings new.store.files p g) (takes_same encode decode get_epoch set_epoch old event said new t).1 (listings_of new.store.files new.page g r'.2 few)

    -- its own look or serve takes some of it
    own_holds : (op n : ℕ) → is_own op event ≡ true → Holds old op g n → (m : ℕ) × (m + 1 ≤ n) × Holds new op g m
    own_holds op n own h = elim h [
      | inl has ↦ (let on = own_goes encode decode get_epoch set_epoch old event said new op g (adds_in (numbered old.operations op) g) n r t own listings has in (on.0, on.1, has_holds new op g _ on.0 on.2))
      | inr raises ↦ (let on = own_on encode decode get_epoch set_epoch old event said new op n r t own raises.advancing in (on.0, on.1, advance_holds new op g on.0 r' on.2))
    ]

    -- what leaves it alone leaves it
    calm_holds : (op n : ℕ) → is_own op event ≡ false → LeavesAlone op old new → Holds old op g n → Holds new op g n
    calm_holds op n other calm h = elim h [
      | inl has ↦ has_holds new op g _ n (calm_keeps encode decode get_epoch set_epoch old event said new op g (adds_in (numbered old.operations op) g) n r t other calm has)
      | inr raises ↦ advance_holds new op g n r' (calm_on encode decode get_epoch set_epoch old event said new op n t other calm raises.advancing)
    ]

    -- what disturbs it adds to it
    hit_holds : (op n : ℕ) → is_own op event ≡ false → Holds old op g n → (m : ℕ) × (m ≤ n + adds_in (numbered old.operations op) g) × Holds new op g m
    hit_holds op n other h = elim h [
      | inl has ↦ (n + adds_in (numbered old.operations op) g, omega arith, has_holds new op g _ _ (disturbed_keeps encode decode get_epoch set_epoch old event said new op g (adds_in (numbered old.operations op) g) n r t other few has))
      | inr raises ↦ (
        n + 5,
        (let five = ap (λ (o : Option (Operation T)). adds_in o g) raises.advancing.there ∙ ap (λ (d : Doing T). adds_to d g) raises.doing in omega (arith, five)),
        advance_holds new op g (n + 5) r' (disturbed_on encode decode get_epoch set_epoch old event said new op n r t other raises.advancing),
      )
    ]

    -- any event
    holds_on : (hits : ℕ → Bool) → DisturbsOnly hits old event new → (op n : ℕ) → Holds old op g n → (m : ℕ) × (m + owns event op ≤ n + hit_adds hits old.operations g op) × Holds new op g m
    holds_on hits only op n h = by (is_own op event) (hits op) refl refl
      where
        by : (own hit : Bool) → is_own op event ≡ own → hits op ≡ hit → (m : ℕ) × (m + owns event op ≤ n + hit_adds hits old.operations g op) × Holds new op g m
        by true hit e e' = (
            let on = own_holds op n e h in
            let less = on.1 in
            let one : owns event op ≡ 1 = ap (λ (b : Bool). cond b 1 0) e in
            (on.0, omega (arith, less, one), on.2)
            )
        by false true e e' = (
            let on = hit_holds op n e h in
            let most = on.1 in
            let none : owns event op ≡ 0 = ap (λ (b : Bool). cond b 1 0) e in
            let adds : hit_adds hits old.operations g op ≡ adds_in (numbered old.operations op) g = ap (λ (b : Bool). cond b (adds_in (numbered old.operations op) g) 0) e' in
            (on.0, omega (arith, most, none, adds), on.2)
            )
        by false false e e' = elim (only op e') [
          | inl own ↦ absurd (let clash : true ≡ false = sym own ∙ e in cc)
          | inr calm ↦ (let none : owns event op ≡ 0 = ap (λ (b : Bool). cond b 1 0) e in (n, omega (arith, none), calm_holds op n e calm h))
        ]

    -- and so of the first so many
    all_on : (hits : ℕ → Bool) → DisturbsOnly hits old event new → (n : ℕ → ℕ) (k : ℕ) → ((op : ℕ) → 0 < op → op ≤ k → Holds old op g (n op)) →
        (m : ℕ → ℕ) × (total m k + total (owns event) k ≤ total n k + added_to hits old.operations g k) × ((op : ℕ) → 0 < op → op ≤ k → Holds new op g (m op))
    all_on hits only n zero h = (n, omega arith, λ op some most. absurd (omega (arith, some, most)))
    all_on hits only n (suc k) h =
        let before = all_on hits only n k (λ op some most. h op some (omega (arith, most))) in
        let here = holds_on hits only (suc k) (n (suc k)) (h (suc k) (omega arith) (omega arith)) in
        let sum = before.1 in
        let own = here.1 in
        let next = total_next before.0 k here.0 in
        (with_next before.0 k here.0, omega (arith, sum, own, next), each_next (λ op v. Holds new op g v) before.0 k here.0 before.2 here.2)

    -- a look or a serve is one of theirs
    work_one : cond (is_work event) 1 0 ≤ total (owns event) (length old.operations)
    work_one = by event refl t
      where
        by : (e : Event T) → event ≡ e → Takes' old e said new → cond (is_work e) 1 0 ≤ total (owns event) (length old.operations)
        by (events.Look op) e t' = (let place = within old.operations op t'.step.operation t'.step.acts.found in one_of (owns event) (length old.operations) op place.0 place.1 (ap (λ (it : Event T). owns it op) e ∙ one_look T op))
        by (events.Serve op) e t' = (let place = within old.operations op t'.step.call.operation t'.step.call.acts.found in one_of (owns event) (length old.operations) op place.0 place.1 (ap (λ (it : Event T). owns it op) e ∙ one_serve T op))
        by (events.Begin client call) e t' = omega arith
        by (events.Fail op failure) e t' = omega arith
        by (events.GiveUp op) e t' = omega arith
        by (events.Land k) e t' = omega arith
        by (events.Crash client) e t' = omega arith

  -- as a call begins
  begun_holds : (old : State T) (client : ℕ) (call : Call T) (said : Told T) (new : State T) (g : ℕ) → Reached old → Takes' old (events.Begin client call) said new → FewPages g new → Holds new (next_op old) g (cost_of call g).alone
  begun_holds old client call said new g r t few = elim (advance_or_not call) [
    | inl is ↦
        subst (λ (c : Call T). Holds new (next_op old) g (cost_of c g).alone) (sym is.1)
        (advance_holds new (next_op old) g 9 (taken_reached encode decode get_epoch set_epoch old (events.Begin client call) said new r t) (advance_has encode decode get_epoch set_epoch old client is.0 said new r (subst (λ (c : Call T). Takes' old (events.Begin client c) said new) is.1 t)))
    | inr fits ↦ has_holds new (next_op old) g _ _ (call_has encode decode get_epoch set_epoch old client call said new g r t fits few)
  ]

  abbrev AllHold : State T → ℕ → (ℕ → ℕ) → Type 0
  AllHold s g n = (op : ℕ) → 0 < op → op ≤ length s.operations → Holds s op g (n op)

  -- after an event that costs so much
  abbrev Costing : State T → Event T → State T → ℕ → (ℕ → Bool) → (ℕ → ℕ) → Type 0
  Costing old event new g hits n = (m : ℕ → ℕ) × (total m (length new.operations) + cond (is_work event) 1 0 ≤ total n (length old.operations) + (begun_cost event g + added_to hits old.operations g (length old.operations))) × AllHold new g m

  module _ (old : State T) (said : Told T) (new : State T) (g : ℕ) (hits : ℕ → Bool) (n m : ℕ → ℕ) (kept : (op : ℕ) → 0 < op → op ≤ length old.operations → Holds new op g (m op)) where
    abbrev Sum : Event T → Type 0
    Sum event = (total m (length old.operations) + total (owns event) (length old.operations) ≤ total n (length old.operations) + added_to hits old.operations g (length old.operations)) × (cond (is_work event) 1 0 ≤ total (owns event) (length old.operations))

    same_costs : (event : Event T) → Takes' old event said new → begun_one event ≡ 0 → begun_cost event g ≡ 0 → Sum event → Costing old event new g hits n
    same_costs event t none free sums =
        let count : length new.operations ≡ length old.operations = (let after = count_after old event said new t in omega (arith, after, none)) in
        let sum = sums.0 in
        let one = sums.1 in
        let same = ap (total m) count in
        (m, omega (arith, sum, one, same, free), λ op some most. kept op some (omega (arith, most, count)))

    begin_costs : (client : ℕ) (call : Call T) → Reached old → Takes' old (events.Begin client call) said new → FewPages g new → Sum (events.Begin client call) → Costing old (events.Begin client call) new g hits n
    begin_costs client call r t few sums =
        let count : length new.operations ≡ suc (length old.operations) = (let after = count_after old (events.Begin client call) said new t in omega (arith, after)) in
        let k = length old.operations in
        let v = (cost_of call g).alone in
        let here : Holds new (suc k) g v = subst (λ (i : ℕ). Holds new i g v) (next_suc k) (begun_holds old client call said new g r t few) in
        let sum = sums.0 in
        let next = ap (total (with_next m k v)) count ∙ total_next m k v in
        (with_next m k v, omega (arith, sum, next), λ op some most. each_next (λ i w. Holds new i g w) m k v kept here op some (omega (arith, most, count)))
      where
        next_suc : (k : ℕ) → k + 1 ≡ suc k
        next_suc k = omega arith

    costs : (event : Event T) → Reached old → Takes' old event said new → FewPages g new → Sum event → Costing old event new g hits n
    costs (events.Begin client call) r t few sums = begin_costs client call r t few sums
    costs (events.Look op) r t few sums = same_costs (events.Look op) t refl refl sums
    costs (events.Serve op) r t few sums = same_costs (events.Serve op) t refl refl sums
    costs (events.Fail op failure) r t few sums = same_costs (events.Fail op failure) t refl refl sums
    costs (events.GiveUp op) r t few sums = same_costs (events.GiveUp op) t refl refl sums
    costs (events.Land k) r t few sums = same_costs (events.Land k) t refl refl sums
    costs (events.Crash client) r t few sums = same_costs (events.Crash client) t refl refl sums

  one_costs : (old : State T) (event : Event T) (said : Told T) (new : State T) (g : ℕ) (hits : ℕ → Bool) (n : ℕ → ℕ) → Reached old → Takes' old event said new → FewPages g new → DisturbsOnly hits old event new → AllHold old g n → Costing old event new g hits n
  one_costs old event said new g hits n r t few only h =
      let on = all_on old event said new g r t few hits only n (length old.operations) h in
      costs old said new g hits n on.0 on.2 event r t few (on.1, work_one old event said new g r t few)

  -- in a run
  pub work_costs : (taken : List (Event T × Told T)) (cost : ℕ) (old new : State T) (g : ℕ) (n : ℕ → ℕ) → Reached old → Costs encode decode get_epoch set_epoch g cost old taken new → AllHold old g n → work_count taken ≤ total n (length old.operations) + cost
  work_costs [] cost old new g n r d h = omega arith
  work_costs (one ∷ rest) cost old new g n r d h =
      let middle = d.0 in
      let t = d.1 in
      let few = d.2 in
      let hits = d.3 in
      let only = d.4 in
      let left = d.5 in
      let is = d.6 in
      let on = one_costs old one.0 one.1 middle g hits n r t few only h in
      let bound = work_costs rest left middle new g on.0 (taken_reached encode decode get_epoch set_epoch old one.0 one.1 middle r t) d.7 on.2 in
      let sum = on.1 in
      omega (arith, bound, sum, is)

  pub none_hold : (clients page g : ℕ) (n : ℕ → ℕ) → AllHold (opening clients page) g n
  none_hold clients page g n op some most = absurd (omega (arith, some, most))
