-- What the operations of a client leave stands among those of a world in the client's own order.
use Rattle.std.proofs.Common.{◌≡◌, ◌≢◌, ℕ, suc, ◌+◌, ◌<◌, ◌≤◌, List, [], ◌∷◌, ◌++◌, length, map, slice_get, Option, Some, None, inl, inr, refl, sym, ◌∙◌, ap, arith}
use Rattle.std.proofs.lemmas.Bool.{cases_eq, cases_lt, eq-eqb, ne_eqb}
use Rattle.std.proofs.lemmas.List.{map-append}
use Rattle.std.proofs.lemmas.Option.{same_Some}
use Rattle.txn_store.specs.declared.request.Request.{Request}
use Rattle.txn_history.specs.Lists.{numbered}
use Rattle.txn_history.specs.Seen.{Ask}
use Rattle.txn_history.specs.GoesOn.{may_be_loose, as_loose, left_loose, all_left_loose}
use Rattle.txn_machine.specs.declared.doing.Operation.{Operation}
use Rattle.txn_machine.specs.Doing.{asked}
use Rattle.txn_machine.specs.Machine.{seen_operations}
use Rattle.txn_client_journals.specs.Numbers.{count, number}
use Rattle.txn_client_journals.proofs.Numbers.{IsWithin, number_within, number_grows}
use Rattle.txn_client_journals.proofs.Operations.{named_op, OpsTied, op_within}

module _ {T : Type 0} where
  -- an operation of the world that is the client's
  pub record Mine (own : List (Operation T)) (client : ℕ) (begins views : List ℕ) (i : ℕ) (x : Operation T) : Type 0 where
    pub k : ℕ
    pub o : Operation T
    pub within : IsWithin k (count client begins)
    pub is : number begins client k ≡ i
    pub there : numbered own k ≡ Some o
    pub same : named_op (number views client) o ≡ x

module _ {T : Type 0} (all own : List (Operation T)) (client : ℕ) (begins views : List ℕ) (long : length all ≡ length begins) (t : OpsTied all own client begins views) (mine : (i : ℕ) (x : Operation T) → numbered all i ≡ Some x → x.client ≡ client → Mine own client begins views i x) where
  abbrev ren : ℕ × Request → ℕ × Request
  ren left = (number begins client left.0, left.1)

  ren_one : (k : ℕ) (request : Option Request) → map ren (as_loose k request) ≡ as_loose (number begins client k) request
  ren_one k None = refl
  ren_one k (Some request) = refl

  ren_left : (k : ℕ) (asks : Option Ask) → map ren (left_loose k asks) ≡ left_loose (number begins client k) asks
  ren_left k None = refl
  ren_left k (Some ask) = ren_one k (may_be_loose ask)

  -- the client's numbers below k are below i, and the others are not
  record Splits (i k : ℕ) : Type 0 where
    below : (j : ℕ) → 1 ≤ j → j < k → number begins client j < i
    above : (j : ℕ) → k ≤ j → j ≤ count client begins → i ≤ number begins client j

  -- an operation of another has no number of the client's
  not_mine : (i j : ℕ) (x : Operation T) → numbered all i ≡ Some x → x.client ≢ client → 1 ≤ j → j ≤ count client begins → number begins client j ≢ i
  not_mine i j x is ne one le e =
      let there = Rattle.txn_machine.proofs.plain.Lists.numbered_there own j (omega (arith, one)) (let size = t.size in omega (arith, le, size)) in
      let same = same_Some (named_op (number views client) there.0) x (sym (t.each j there.0 there.1) ∙ (ap (numbered all) e ∙ is)) in
      ne (ap (λ (y : Operation T). y.client) (sym same) ∙ t.owner j there.0 there.1)

  -- the client's operation of this place is its next
  is_next : (i k : ℕ) (x : Operation T) → 1 ≤ k → Splits i k → (m : Mine own client begins views i x) → m.k ≡ k
  is_next i k x one s m =
      let is = m.is in
      elim (cases_lt m.k k) [
        | inl lt ↦ absurd (let low = s.below m.k m.within.above lt in omega (arith, low, is))
        | inr ge ↦ elim (cases_lt k m.k) [
          | inl gt ↦ absurd (let le = m.within.below in let grows = number_grows client k m.k begins one gt le in let high = s.above k (omega arith) (omega (arith, gt, le)) in omega (arith, grows, high, is))
          | inr le ↦ omega (arith, ge, le)
        ]
      ]

  in_order : (i k : ℕ) (xs ys : List (Operation T)) → 1 ≤ i → 1 ≤ k → Splits i k → ((j : ℕ) (x : Operation T) → slice_get xs j ≡ Some x → numbered all (j + i) ≡ Some x) → length xs + i ≡ length all + 1 → ((j : ℕ) → slice_get ys j ≡ numbered own (j + k)) →
      all_left_loose client i (seen_operations xs) ≡ map ren (all_left_loose client k (seen_operations ys))
  in_order i k [] [] some one s at size rest = refl
  in_order i k [] (y ∷ ys) some one s at size rest = absurd (
      let zero_k : 0 + k ≡ k = omega arith in
      let w = op_within all own client begins views t k y (ap (numbered own) (sym zero_k) ∙ sym (rest 0)) in
      let high = s.above k (omega arith) w.below in
      let low = number_within client k begins w.above w.below in
      omega (arith, high, low.below, long, size))
  in_order i k (x ∷ xs) ys some one s at size rest =
      let here : numbered all i ≡ Some x = (let zero_i : 0 + i ≡ i = omega arith in ap (numbered all) (sym zero_i) ∙ at 0 x refl) in
      let at' : (j : ℕ) (y : Operation T) → slice_get xs j ≡ Some y → numbered all (j + (i + 1)) ≡ Some y = λ j y e. (let next : j + (i + 1) ≡ suc j + i = omega arith in ap (numbered all) next ∙ at (suc j) y e) in
      elim (cases_eq x.client client) [
        | inr ne ↦ rw (ne_eqb x.client client ne) (in_order (i + 1) k xs ys (omega arith) one
            (record {
              below = λ j low lt. (let b = s.below j low lt in omega (arith, b));
              above = λ j le high. (let a = s.above j le high in let no = not_mine i j x here ne (omega (arith, one, le)) high in omega (arith, a, no));
            })
            at' (omega (arith, size)) rest)
        | inl is ↦ (
            let m = mine i x here is in
            let k_is = is_next i k x one s m in
            let number_is : number begins client k ≡ i = ap (number begins client) (sym k_is) ∙ m.is in
            let k_in : k ≤ count client begins = (let w = m.within.below in omega (arith, w, k_is)) in
            let found : numbered own (0 + k) ≡ Some m.o = (let zero_k : 0 + k ≡ m.k = omega (arith, k_is) in ap (numbered own) zero_k ∙ m.there) in
            with_own i k x xs ys m number_is is (rest 0 ∙ found)
            (in_order (i + 1) (k + 1) xs (tail_of ys) (omega arith) (omega arith)
            (record {
              below = λ j low lt. elim (cases_lt j k) [
                | inl less ↦ (let b = s.below j low less in omega (arith, b))
                | inr ge ↦ (let e : j ≡ k = omega (arith, ge, lt) in let at_k = ap (number begins client) e ∙ number_is in omega (arith, at_k))
              ];
              above = λ j le high. (let grows = number_grows client k j begins one (omega (arith, le)) high in omega (arith, grows, number_is));
            })
            at' (omega (arith, size)) (λ j. tail_get ys j ∙ (rest (suc j) ∙ (let next : suc j + k ≡ j + (k + 1) = omega arith in ap (numbered own) next)))))
      ]
    where
      tail_of : List (Operation T) → List (Operation T)
      tail_of [] = []
      tail_of (y ∷ ys) = ys

      tail_get : (ys : List (Operation T)) (j : ℕ) → slice_get (tail_of ys) j ≡ slice_get ys (suc j)
      tail_get [] j = refl
      tail_get (y ∷ ys) j = refl

      with_own : (i k : ℕ) (x : Operation T) (xs ys : List (Operation T)) (m : Mine own client begins views i x) → number begins client k ≡ i → x.client ≡ client → slice_get ys 0 ≡ Some m.o → all_left_loose client (i + 1) (seen_operations xs) ≡ map ren (all_left_loose client (k + 1) (seen_operations (tail_of ys))) →
          all_left_loose client i (seen_operations (x ∷ xs)) ≡ map ren (all_left_loose client k (seen_operations ys))
      with_own i k x xs [] m number_is is found e = absurd (let clash : None ≡ Some m.o = found in cc)
      with_own i k x xs (y ∷ ys) m number_is is found e =
          let y_is : y ≡ m.o = same_Some y m.o found in
          let asks : asked y.doing ≡ asked x.doing = ap (λ (z : Operation T). asked z.doing) y_is ∙ ap (λ (z : Operation T). asked z.doing) m.same in
          let own_is : y.client ≡ client = ap (λ (z : Operation T). z.client) y_is ∙ (ap (λ (z : Operation T). z.client) m.same ∙ is) in
          let one : left_loose i (asked x.doing) ≡ map ren (left_loose k (asked y.doing)) = sym (ren_left k (asked y.doing) ∙ (ap (λ (n : ℕ). left_loose n (asked y.doing)) number_is ∙ ap (left_loose i) asks)) in
          rw (eq-eqb x.client client is, eq-eqb y.client client own_is) (ap (λ (ls : List (ℕ × Request)). ls ++ all_left_loose client (i + 1) (seen_operations xs)) one ∙ (ap (λ (ls : List (ℕ × Request)). map ren (left_loose k (asked y.doing)) ++ ls) e ∙ sym (map-append ren (left_loose k (asked y.doing)) (all_left_loose client (k + 1) (seen_operations ys)))))

  pub left_in_order : all_left_loose client 1 (seen_operations all) ≡ map ren (all_left_loose client 1 (seen_operations own))
  left_in_order =
      in_order 1 1 all own (omega arith) (omega arith)
      (record {
        below = λ j low lt. absurd (omega (arith, low, lt));
        above = λ j le high. (let w = number_within client j begins le high in w.above);
      })
      (λ j x e. (let next : j + 1 ≡ suc j = omega arith in ap (numbered all) next ∙ e)) (omega arith) (λ j. (let next : suc j ≡ j + 1 = omega arith in ap (numbered own) next))
