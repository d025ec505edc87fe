-- A client is killed: what its operations and views become, and those of others.
use Rattle.std.proofs.Common.{◌≡◌, ◌≢◌, ℕ, zero, suc, ◌+◌, ◌≤◌, List, [], ◌∷◌, ◌++◌, length, map, slice_get, ◌==◌, Bool, if◌then◌else◌, Option, Some, None, option_map, inl, inr, refl, sym, ◌∙◌, ap, subst, arith}
use Rattle.std.proofs.lemmas.Bool.{cases_Bool, cases_eq, eq-eqb, ne_eqb}
use Rattle.std.proofs.lemmas.List.{length-map}
use Rattle.std.proofs.lemmas.Option.{same_Some, slice_get-map}
use Rattle.txn_store.specs.declared.request.Request.{Request}
use Rattle.txn_history.specs.Lists.{numbered}
use Rattle.txn_history.specs.Seen.{Ask}
use Rattle.txn_history.specs.GoesOn.{may_be_loose, as_loose, left_loose, all_left_loose}
use Rattle.txn_machine.specs.plain.Machine.{no_caches}
use Rattle.txn_machine.proofs.plain.Lists.{within, numbered_map, numbered_of_map, numbered_there}
use Rattle.txn_machine.specs.views.Layer.{Used}
use Rattle.txn_machine.specs.views.Steps.{view_without}
use Rattle.txn_machine.specs.declared.doing.Operation.{Operation}
use Rattle.txn_machine.specs.Doing.{asked}
use Rattle.txn_machine.specs.Machine.{State, seen_operations, ended_by, crashed}
use Rattle.txn_client_journals.specs.declared.rows.Left.{Left}
use Rattle.txn_client_journals.specs.Parts as diary
use Rattle.txn_client_journals.specs.Parts.{Part}
use Rattle.txn_client_journals.specs.Journals.{as_pair}
use Rattle.txn_client_journals.specs.Numbers.{count, number}
use Rattle.txn_client_journals.proofs.Numbers.{number_own, number_old, count_own, IsWithin}
use Rattle.txn_client_journals.proofs.Operations.{named_op, OpsTied, op_within}
use Rattle.txn_client_journals.proofs.Views.{named_used, OwnIf, ViewsTied}
use Rattle.txn_client_journals.proofs.Order.{Mine, left_in_order}
use Rattle.txn_client_journals.proofs.Ties.{TiedTo, caches_own, caches_other}

-- each number of all is some client's
record Owned (n : ℕ) (owners : List ℕ) : Type 0 where
  client : ℕ
  k : ℕ
  within : IsWithin k (count client owners)
  is : number owners client k ≡ n

within_grows : (owner client k : ℕ) (owners : List ℕ) → IsWithin k (count client owners) → IsWithin k (count client (owner ∷ owners))
within_grows owner client k owners w = Rattle.txn_client_journals.proofs.Operations.within_more owner client k owners w

owned : (n : ℕ) (owners : List ℕ) → 1 ≤ n → n ≤ length owners → Owned n owners
owned n [] some le = absurd (omega (arith, some, le))
owned n (owner ∷ owners) some le =
    elim (cases_eq n (length owners + 1)) [
      | inl last ↦ (let one = count_own owner owners in record { client = owner; k = count owner owners + 1; within = record { above = omega arith; below = omega (arith, one) }; is = number_own owner owners ∙ sym last })
      | inr ne ↦ (let old = owned n owners some (omega (arith, le, ne)) in record { client = old.client; k = old.k; within = within_grows owner old.client old.k owners old.within; is = number_old owner old.client old.k owners old.within.below ∙ old.is })
    ]

module _ {T : Type 0} where
  -- an operation of the client that leaves this
  pub record Leaver (client i : ℕ) (operations : List (Operation T)) (left : ℕ × Request) : Type 0 where
    pub place : ℕ
    pub o : Operation T
    pub at : slice_get operations place ≡ Some o
    pub op_is : left.0 ≡ place + i
    pub own : o.client ≡ client
    pub ask : Ask
    pub asks : asked o.doing ≡ Some ask

  later : (client i : ℕ) (o : Operation T) (os : List (Operation T)) (left : ℕ × Request) → Leaver client (i + 1) os left → Leaver client i (o ∷ os) left
  later client i o os left l = record { place = suc l.place; o = l.o; at = l.at; op_is = l.op_is ∙ omega arith; own = l.own; ask = l.ask; asks = l.asks }

  pub leaver : (client i : ℕ) (operations : List (Operation T)) (j : ℕ) (left : ℕ × Request) → slice_get (all_left_loose client i (seen_operations operations)) j ≡ Some left → Leaver client i operations left
  leaver client i [] j left e = absurd (cc)
  leaver client i (o ∷ os) j left e =
      elim (cases_eq o.client client) [
        | inl is ↦ mine (asked o.doing) refl j (ap (λ (b : Bool). slice_get ((if b then left_loose i (asked o.doing) else []) ++ all_left_loose client (i + 1) (seen_operations os)) j) (sym (eq-eqb o.client client is)) ∙ e) is (λ k h. leaver client (i + 1) os k left h)
        | inr ne ↦ later client i o os left (leaver client (i + 1) os j left (ap (λ (b : Bool). slice_get ((if b then left_loose i (asked o.doing) else []) ++ all_left_loose client (i + 1) (seen_operations os)) j) (sym (ne_eqb o.client client ne)) ∙ e))
      ]
    where
      one : (ask : Ask) (request : Option Request) → asked o.doing ≡ Some ask → (j : ℕ) → slice_get (as_loose i request ++ all_left_loose client (i + 1) (seen_operations os)) j ≡ Some left → o.client ≡ client → ((k : ℕ) → slice_get (all_left_loose client (i + 1) (seen_operations os)) k ≡ Some left → Leaver client (i + 1) os left) → Leaver client i (o ∷ os) left
      one ask None asks j e is rest = later client i o os left (rest j e)
      one ask (Some request) asks zero e is rest = record { place = 0; o = o; at = refl; op_is = ap (λ (p : ℕ × Request). p.0) (sym (same_Some (i, request) left e)) ∙ omega arith; own = is; ask = ask; asks = asks }
      one ask (Some request) asks (suc j) e is rest = later client i o os left (rest j e)

      mine : (asks : Option Ask) → asked o.doing ≡ asks → (j : ℕ) → slice_get (left_loose i asks ++ all_left_loose client (i + 1) (seen_operations os)) j ≡ Some left → o.client ≡ client → ((k : ℕ) → slice_get (all_left_loose client (i + 1) (seen_operations os)) k ≡ Some left → Leaver client (i + 1) os left) → Leaver client i (o ∷ os) left
      mine None asks j e is rest = later client i o os left (rest j e)
      mine (Some ask) asks j e is rest = one ask (may_be_loose ask) asks j e is rest

  -- of what a kill leaves
  pub killed_leaver : (client : ℕ) (operations : List (Operation T)) (lefts : List Left) → map as_pair lefts ≡ all_left_loose client 1 (seen_operations operations) → (j : ℕ) (left : Left) → slice_get lefts j ≡ Some left → Leaver client 1 operations (as_pair left)
  killed_leaver client operations lefts leaves j left e = leaver client 1 operations j (as_pair left) (ap (λ (xs : List (ℕ × Request)). slice_get xs j) (sym leaves) ∙ slice_get-map as_pair lefts j ∙ ap (option_map as_pair) e)

  -- operations

  ended_named : (names : ℕ → ℕ) (client : ℕ) (o : Operation T) → ended_by client (named_op names o) ≡ named_op names (ended_by client o)
  ended_named names client o = elim (cases_Bool (o.client == client)) [ inl h ↦ rw h refl | inr h ↦ rw h refl ]

  ended_owner : (client : ℕ) (o : Operation T) → (ended_by client o).client ≡ o.client
  ended_owner client o = elim (cases_Bool (o.client == client)) [ inl h ↦ rw h refl | inr h ↦ rw h refl ]

  ended_view : (client : ℕ) (o : Operation T) → (ended_by client o).view ≡ o.view
  ended_view client o = elim (cases_Bool (o.client == client)) [ inl h ↦ rw h refl | inr h ↦ rw h refl ]

  killed_ops_own : (all own : List (Operation T)) (client : ℕ) (begins views : List ℕ) → OpsTied all own client begins views → OpsTied (map (ended_by client) all) (map (ended_by client) own) client begins views
  killed_ops_own all own client begins views t =
      record {
        size = length-map own (ended_by client) ∙ t.size;
        each = λ k o is. (
            let was = numbered_map (ended_by client) own k o is in
            numbered_of_map (ended_by client) all (number begins client k) (named_op (number views client) was.0) (t.each k was.0 was.1)
            ∙ ap Some (ended_named (number views client) client was.0 ∙ ap (named_op (number views client)) (sym was.2)));
        owner = λ k o is. (let was = numbered_map (ended_by client) own k o is in ap (λ (x : Operation T). x.client) was.2 ∙ (ended_owner client was.0 ∙ t.owner k was.0 was.1));
        has = λ k o w is view. (let was = numbered_map (ended_by client) own k o is in t.has k was.0 w was.1 (sym (ended_view client was.0) ∙ (ap (λ (x : Operation T). x.view) (sym was.2) ∙ view)));
      }

  killed_ops_other : (all own : List (Operation T)) (client d : ℕ) (begins views : List ℕ) → client ≢ d → OpsTied all own d begins views → OpsTied (map (ended_by client) all) own d begins views
  killed_ops_other all own client d begins views ne t =
      record {
        size = t.size;
        each = λ k o is. (
            let other = ne_eqb o.client client (λ e. ne (sym e ∙ t.owner k o is)) in
            numbered_of_map (ended_by client) all (number begins d k) (named_op (number views d) o) (t.each k o is)
            ∙ ap Some (rw other refl));
        owner = t.owner;
        has = t.has;
      }

  -- views

  ended_used : (names : ℕ → ℕ) (client : ℕ) (u : Option (Used T)) → view_without client (option_map (named_used names) u) ≡ option_map (named_used names) (view_without client u)
  ended_used names client None = refl
  ended_used names client (Some used) = elim (cases_Bool (used.view.client == client)) [ inl h ↦ rw h refl | inr h ↦ rw h refl ]

  ended_own : (client d : ℕ) (begins : List ℕ) (u : Option (Used T)) → OwnIf d begins u → OwnIf d begins (view_without client u)
  ended_own client d begins None own = tt
  ended_own client d begins (Some used) own = elim (cases_Bool (used.view.client == client)) [ inl h ↦ rw h tt | inr h ↦ rw h own ]

  kept_used : (names : ℕ → ℕ) (client d : ℕ) (begins : List ℕ) (u : Option (Used T)) → client ≢ d → OwnIf d begins u → view_without client (option_map (named_used names) u) ≡ option_map (named_used names) u
  kept_used names client d begins None ne own = refl
  kept_used names client d begins (Some used) ne own = rw (ne_eqb used.view.client client (λ e. ne (sym e ∙ own.client_is))) refl

  killed_views_own : (all own : List (Option (Used T))) (client : ℕ) (begins views : List ℕ) → ViewsTied all own client begins views → ViewsTied (map (view_without client) all) (map (view_without client) own) client begins views
  killed_views_own all own client begins views t =
      record {
        size = length-map own (view_without client) ∙ t.size;
        each = λ w u is. (
            let was = numbered_map (view_without client) own w u is in
            numbered_of_map (view_without client) all (number views client w) (option_map (named_used (number begins client)) was.0) (t.each w was.0 was.1)
            ∙ ap Some (ended_used (number begins client) client was.0 ∙ ap (option_map (named_used (number begins client))) (sym was.2)));
        owned = λ w u is. (let was = numbered_map (view_without client) own w u is in subst (λ (x : Option (Used T)). OwnIf client begins x) (sym was.2) (ended_own client client begins was.0 (t.owned w was.0 was.1)));
      }

  killed_views_other : (all own : List (Option (Used T))) (client d : ℕ) (begins views : List ℕ) → client ≢ d → ViewsTied all own d begins views → ViewsTied (map (view_without client) all) own d begins views
  killed_views_other all own client d begins views ne t =
      record {
        size = t.size;
        each = λ w u is. (
            numbered_of_map (view_without client) all (number views d w) (option_map (named_used (number begins d)) u) (t.each w u is)
            ∙ ap Some (kept_used (number begins d) client d begins u ne (t.owned w u is)));
        owned = t.owned;
      }

-- A kill.
module _ {T : Type 0} (decode : List ℕ → Option T) (get_epoch : T → ℕ) (s : State T) (client : ℕ) (begins views : List ℕ) where
  pub killed_own : (part : Part T) → TiedTo decode get_epoch s client part begins views → TiedTo decode get_epoch (crashed s client) client (diary.killed client part) begins views
  killed_own part t =
      record {
        caches = λ some le. caches_own decode get_epoch s.caches client s.clients part.caches no_caches t.caches some le;
        ops = killed_ops_own s.operations part.operations client begins views t.ops;
        seen = killed_views_own s.views part.views client begins views t.seen;
        writes_size = t.writes_size;
        writes = t.writes;
        told = t.told;
      }

  pub killed_other : (d : ℕ) (other : Part T) → 1 ≤ client → client ≢ d → TiedTo decode get_epoch s d other begins views → TiedTo decode get_epoch (crashed s client) d other begins views
  killed_other d other one ne g =
      record {
        caches = λ some le. caches_other decode get_epoch s.caches client d s.clients other.caches no_caches one ne g.caches some le;
        ops = killed_ops_other s.operations other.operations client d begins views ne g.ops;
        seen = killed_views_other s.views other.views client d begins views ne g.seen;
        writes_size = g.writes_size;
        writes = g.writes;
        told = g.told;
      }

  -- what becomes loose is what the client leaves
  pub killed_loose : (parts : ℕ → Part T) → length s.operations ≡ length begins → ((d : ℕ) → TiedTo decode get_epoch s d (parts d) begins views) → (lefts : List Left) → map as_pair lefts ≡ all_left_loose client 1 (seen_operations (parts client).operations) →
      all_left_loose client 1 (seen_operations s.operations) ≡ map {B = ℕ × Request} (λ left. (number begins client left.op, left.request)) lefts
  killed_loose parts long ties lefts leaves =
      left_in_order s.operations (parts client).operations client begins views long (ties client).ops mine ∙ (ap (λ (xs : List (ℕ × Request)). map {B = ℕ × Request} (λ left. (number begins client left.0, left.1)) xs) (sym leaves) ∙ twice lefts)
    where
      twice : (lefts : List Left) → map {B = ℕ × Request} (λ left. (number begins client left.0, left.1)) (map as_pair lefts) ≡ map {B = ℕ × Request} (λ left. (number begins client left.op, left.request)) lefts
      twice [] = refl
      twice (left ∷ lefts) = ap (λ (xs : List (ℕ × Request)). (number begins client left.op, left.request) ∷ xs) (twice lefts)

      mine : (i : ℕ) (x : Operation T) → numbered s.operations i ≡ Some x → x.client ≡ client → Mine (parts client).operations client begins views i x
      mine i x is own =
          let at = within s.operations i x is in
          let w = owned i begins (omega (arith, at.0)) (omega (arith, at.1, long)) in
          let t = ties w.client in
          let there = numbered_there (parts w.client).operations w.k (omega (arith, w.within.above)) (omega (arith, w.within.below, t.ops.size)) in
          let same : named_op (number views w.client) there.0 ≡ x = same_Some (named_op (number views w.client) there.0) x (sym (t.ops.each w.k there.0 there.1) ∙ (ap (numbered s.operations) w.is ∙ is)) in
          let client_is : w.client ≡ client = sym (t.ops.owner w.k there.0 there.1) ∙ (ap (λ (y : Operation T). y.client) same ∙ own) in
          record {
            k = w.k;
            o = there.0;
            within = subst (λ (c : ℕ). IsWithin w.k (count c begins)) client_is w.within;
            is = ap (λ (c : ℕ). number begins c w.k) (sym client_is) ∙ w.is;
            there = subst (λ (c : ℕ). numbered (parts c).operations w.k ≡ Some there.0) client_is there.1;
            same = subst (λ (c : ℕ). named_op (number views c) there.0 ≡ x) client_is same;
          }

  -- of the client's operations
  pub killed_within : (part : Part T) → TiedTo decode get_epoch s client part begins views → (lefts : List Left) → map as_pair lefts ≡ all_left_loose client 1 (seen_operations part.operations) → (j : ℕ) (left : Left) → slice_get lefts j ≡ Some left → IsWithin left.op (count client begins)
  killed_within part t lefts leaves j left e =
      let l = killed_leaver client part.operations lefts leaves j left e in
      let next : l.place + 1 ≡ suc l.place = omega arith in
      subst (λ (n : ℕ). IsWithin n (count client begins)) (sym (l.op_is ∙ next)) (op_within s.operations part.operations client begins views t.ops (suc l.place) l.o l.at)
