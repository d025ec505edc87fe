-- A client's operations among those of a world, by the world's numbers: what steps of its own and of others keep.
use Rattle.std.proofs.Common.{◌≡◌, ◌≢◌, ℕ, ◌+◌, ◌-◌, List, [], ◌∷◌, ◌++◌, length, Option, Some, None, option_map, ◌⊎◌, inl, inr, refl, sym, ◌∙◌, ap, subst, arith}
use Rattle.std.proofs.lemmas.Bool.{cases_eq}
use Rattle.std.proofs.lemmas.List.{length-append, length-set}
use Rattle.std.proofs.lemmas.Option.{same_Some}
use Rattle.txn_history.specs.Lists.{numbered}
use Rattle.txn_history.proofs.Lists.{numbered_kept, numbered_more}
use Rattle.txn_machine.proofs.plain.Lists.{within, numbered_new, numbered_here, numbered_other}
use Rattle.txn_machine.specs.declared.doing.Doing.{Doing}
use Rattle.txn_machine.specs.declared.doing.Operation.{Operation}
use Rattle.txn_machine.specs.Machine.{doing_next, with_doing}
use Rattle.txn_client_journals.specs.Numbers.{count, number}
use Rattle.txn_client_journals.proofs.Numbers.{count_own, count_other, number_own, number_old, IsWithin, number_apart, set_apart}

-- names stay where another is numbered
pub named_stays : (client d : ℕ) (views : List ℕ) (view : Option ℕ) → ((w : ℕ) → view ≡ Some w → IsWithin w (count d views)) → option_map (number views d) view ≡ option_map (number (client ∷ views) d) view
named_stays client d views None has = refl
named_stays client d views (Some w) has = ap Some (sym (number_old client d w views (has w refl).below))

pub within_more : (client d w : ℕ) (owners : List ℕ) → IsWithin w (count d owners) → IsWithin w (count d (client ∷ owners))
within_more client d w owners h = elim (cases_eq client d) [
  | inl same ↦ (let one : count d (client ∷ owners) ≡ count d owners + 1 = ap (λ c. count d (c ∷ owners)) same ∙ count_own d owners in record { above = h.above; below = omega (arith, h.below, one) })
  | inr ne ↦ (let none = count_other client d owners ne in record { above = h.above; below = omega (arith, h.below, none) })
]

module _ {T : Type 0} where
  -- an operation by the world's numbers of views
  abbrev pub named_op : (ℕ → ℕ) → Operation T → Operation T
  named_op names o = record { client = o.client; view = option_map names o.view; claims = o.claims; doing = o.doing }

  pub record OpsTied (all own : List (Operation T)) (client : ℕ) (begins views : List ℕ) : Type 0 where
    pub size : length own ≡ count client begins
    pub each : (k : ℕ) (o : Operation T) → numbered own k ≡ Some o → numbered all (number begins client k) ≡ Some (named_op (number views client) o)
    pub owner : (k : ℕ) (o : Operation T) → numbered own k ≡ Some o → o.client ≡ client
    pub has : (k : ℕ) (o : Operation T) (w : ℕ) → numbered own k ≡ Some o → o.view ≡ Some w → IsWithin w (count client views)

  -- an operation's number is one of its client's
  pub op_within : (all own : List (Operation T)) (client : ℕ) (begins views : List ℕ) → OpsTied all own client begins views → (k : ℕ) (o : Operation T) → numbered own k ≡ Some o → IsWithin k (count client begins)
  op_within all own client begins views t k o e = let w = within own k o e in record { above = omega (arith, w.0); below = omega (arith, w.1, t.size) }

  -- the operation does something else

  -- which operation stands in a place after a change
  set_cases : (xs : List (Operation T)) (n m : ℕ) (x was y : Operation T) → numbered xs n ≡ Some was → numbered (Rattle.std.proofs.Common.set xs (n - 1) x) m ≡ Some y → ((m ≡ n) × (x ≡ y)) ⊎ ((m ≢ n) × (numbered xs m ≡ Some y))
  set_cases xs n m x was y e is =
      elim (cases_eq m n) [
        | inl same ↦ inl (same, same_Some x y (sym (subst (λ (j : ℕ). numbered (Rattle.std.proofs.Common.set xs (n - 1) x) j ≡ Some x) (sym same) (numbered_here xs n x was e)) ∙ is))
        | inr ne ↦ inr (ne, sym (numbered_other xs n m x (within xs n was e).0 ne) ∙ is)
      ]

  pub ops_own : (all own : List (Operation T)) (client : ℕ) (begins views : List ℕ) (k : ℕ) (o : Operation T) (doing : Doing T) → numbered own k ≡ Some o → OpsTied all own client begins views →
      OpsTied (with_doing all (number begins client k) (named_op (number views client) o) doing) (with_doing own k o doing) client begins views
  ops_own all own client begins views k o doing e t =
      let n = number begins client k in
      let new = doing_next o doing in
      let there = t.each k o e in
      let some = op_within all own client begins views t k o e in
      record {
        size = length-set own (k - 1) new ∙ t.size;
        each = λ j x is. elim (set_cases own k j new o x e is) [
          | inl h ↦ subst (λ (i : ℕ). numbered (with_doing all n (named_op (number views client) o) doing) (number begins client i) ≡ Some (named_op (number views client) x)) (sym h.0)
              (numbered_here all n (doing_next (named_op (number views client) o) doing) (named_op (number views client) o) there ∙ ap (λ (y : Operation T). Some (named_op (number views client) y)) h.1)
          | inr h ↦ (
              let in_own = op_within all own client begins views t j x h.1 in
              numbered_other all n (number begins client j) (doing_next (named_op (number views client) o) doing) (within all n (named_op (number views client) o) there).0
              (λ same. h.0 (number_apart client j client k begins in_own.above in_own.below some.above some.below same).1) ∙ t.each j x h.1)
        ];
        owner = λ j x is. elim (set_cases own k j new o x e is) [ inl h ↦ ap (λ (y : Operation T). y.client) (sym h.1) ∙ t.owner k o e | inr h ↦ t.owner j x h.1 ];
        has = λ j x w is. elim (set_cases own k j new o x e is) [ inl h ↦ (λ view. t.has k o w e (ap (λ (y : Operation T). y.view) h.1 ∙ view)) | inr h ↦ t.has j x w h.1 ];
      }

  pub ops_other : (all own : List (Operation T)) (client d k : ℕ) (begins views : List ℕ) (was x : Operation T) → numbered all (number begins client k) ≡ Some was → IsWithin k (count client begins) → client ≢ d → OpsTied all own d begins views →
      OpsTied (Rattle.std.proofs.Common.set all (number begins client k - 1) x) own d begins views
  ops_other all own client d k begins views was x there some ne t =
      record { size = t.size; each = λ j o is. set_apart all client d k j begins was x there some (op_within all own d begins views t j o is) ne ∙ t.each j o is; owner = t.owner; has = t.has }

  -- an operation more

  pub ops_begun : (all own : List (Operation T)) (client : ℕ) (begins views : List ℕ) (o : Operation T) → length all ≡ length begins → o.client ≡ client → ((w : ℕ) → o.view ≡ Some w → IsWithin w (count client views)) → OpsTied all own client begins views →
      OpsTied (all ++ named_op (number views client) o ∷ []) (own ++ o ∷ []) client (client ∷ begins) views
  ops_begun all own client begins views o long is_own has t =
      record {
        size = (let one = count_own client begins in let len = length-append own (o ∷ []) in omega (arith, one, len, t.size));
        each = λ k x is. elim (numbered_more own o k x is) [
          | inl old ↦ (
              let w = op_within all own client begins views t k x old in
              subst (λ (i : ℕ). numbered (all ++ named_op (number views client) o ∷ []) i ≡ Some (named_op (number views client) x)) (sym (number_old client client k begins w.below))
              (numbered_kept all (named_op (number views client) o ∷ []) (number begins client k) (named_op (number views client) x) (t.each k x old)))
          | inr new ↦ (
              let at : k ≡ count client begins + 1 = new.0 ∙ ap (λ n. n + 1) t.size in
              let place : number (client ∷ begins) client k ≡ length all + 1 = ap (number (client ∷ begins) client) at ∙ (number_own client begins ∙ ap (λ n. n + 1) (sym long)) in
              subst (λ (i : ℕ). numbered (all ++ named_op (number views client) o ∷ []) i ≡ Some (named_op (number views client) x)) (sym place)
              (numbered_new all (named_op (number views client) o) ∙ ap (λ (y : Operation T). Some (named_op (number views client) y)) new.1))
        ];
        owner = λ k x is. elim (numbered_more own o k x is) [ inl old ↦ t.owner k x old | inr new ↦ ap (λ (y : Operation T). y.client) (sym new.1) ∙ is_own ];
        has = λ k x w is. elim (numbered_more own o k x is) [ inl old ↦ t.has k x w old | inr new ↦ (λ view. has w (ap (λ (y : Operation T). y.view) new.1 ∙ view)) ];
      }

  pub ops_begun_other : (all own : List (Operation T)) (client d : ℕ) (begins views : List ℕ) (x : Operation T) → client ≢ d → OpsTied all own d begins views → OpsTied (all ++ x ∷ []) own d (client ∷ begins) views
  ops_begun_other all own client d begins views x ne t =
      record {
        size = t.size ∙ sym (count_other client d begins ne);
        each = λ k o is. (
            let w = op_within all own d begins views t k o is in
            subst (λ (i : ℕ). numbered (all ++ x ∷ []) i ≡ Some (named_op (number views d) o)) (sym (number_old client d k begins w.below)) (numbered_kept all (x ∷ []) (number begins d k) (named_op (number views d) o) (t.each k o is)));
        owner = t.owner;
        has = t.has;
      }

  -- a view more

  pub ops_view : (all own : List (Operation T)) (client d : ℕ) (begins views : List ℕ) → OpsTied all own d begins views → OpsTied all own d begins (client ∷ views)
  ops_view all own client d begins views t =
      record {
        size = t.size;
        each = λ k o is. t.each k o is ∙ ap (λ (view : Option ℕ). Some (record { client = o.client; view = view; claims = o.claims; doing = o.doing })) (named_stays client d views o.view (λ w. t.has k o w is));
        owner = t.owner;
        has = λ k o w is view. within_more client d w views (t.has k o w is view);
      }
