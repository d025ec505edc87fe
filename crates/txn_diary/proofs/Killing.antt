-- What a kill leaves, place by place.
use Rattle.std.proofs.Common.{◌≡◌, ℕ, zero, suc, ◌+◌, ◌<◌, ◌≤◌, ◌==◌, List, [], ◌∷◌, ◌++◌, length, map, set, take, drop, slice_get, get_or, Bool, true, false, cond, Option, Some, None, refl, sym, ◌∙◌, ap, subst, arith}
use Rattle.std.proofs.lemmas.List.{append_assoc, append-nil, drop_more, drop_all}
use Rattle.txn_store.specs.declared.request.Request.{Request}
use Rattle.txn_history.specs.Seen.{Ask}
use Rattle.txn_history.specs.GoesOn.{as_loose, left_loose, all_left_loose}
use Rattle.txn_machine.specs.declared.doing.Operation.{Operation}
use Rattle.txn_machine.specs.Doing.{asked}
use Rattle.txn_machine.specs.Machine.{seen_operations}
use Rattle.txn_client_journals.specs.tables.Operations.{loose_of}
use Rattle.txn_diary.specs.Kills.{left_here}
use Rattle.std.proofs.lemmas.Option.{same_Some}

-- the places before one are changed, and then that one too
pub changed_next : {A : Type 0} (f : A → A) (old now after : List A) (k : ℕ) (x : A) → now ≡ map f (take k old) ++ drop k old → slice_get now k ≡ Some x → after ≡ set now k (f x) → after ≡ map f (take (k + 1) old) ++ drop (k + 1) old
changed_next {A = A} f old now after k x is found changes =
    let more : suc k ≡ k + 1 = omega arith in
    subst (λ n. after ≡ map f (take n old) ++ drop n old) more (changes ∙ (ap (λ xs. set xs k (f x)) is ∙ by old k (ap (λ xs. slice_get xs k) (sym is) ∙ found)))
  where
    by : (old : List A) (k : ℕ) → slice_get (map f (take k old) ++ drop k old) k ≡ Some x → set (map f (take k old) ++ drop k old) k (f x) ≡ map f (take (suc k) old) ++ drop (suc k) old
    by [] zero h = cc
    by [] (suc k) h = cc
    by (y ∷ ys) zero h = ap (λ z. f z ∷ ys) (sym (same_Some y x h))
    by (y ∷ ys) (suc k) h = ap (λ zs. f y ∷ zs) (by ys k h)

module _ {T : Type 0} where
  left_as : (client op : ℕ) (o : Operation T) → as_loose op (left_here client o) ≡ cond (o.client == client) (left_loose op (asked o.doing)) []
  left_as client op o = by (o.client == client) (asked o.doing)
    where
      by : (b : Bool) (ask : Option Ask) → as_loose op (cond b (loose_of ask) None) ≡ cond b (left_loose op ask) []
      by true None = refl
      by true (Some ask) = refl
      by false ask = refl

  -- what one operation leaves, and then the rest
  pub left_more : (client op i : ℕ) (operations : List (Operation T)) (o : Operation T) (left : Option Request) (before after all : List (ℕ × Request)) → i < length operations → o ≡ get_or operations i o → left ≡ left_here client o → after ≡ before ++ as_loose op left →
      before ++ all_left_loose client op (seen_operations (drop i operations)) ≡ all → after ++ all_left_loose client (op + 1) (seen_operations (drop (i + 1) operations)) ≡ all
  left_more client op i operations o left before after all lt is leaves adds so_far =
      let rest = all_left_loose client (op + 1) (seen_operations (drop (i + 1) operations)) in
      let here : drop i operations ≡ o ∷ drop (i + 1) operations = drop_more operations i o lt ∙ ap (λ x. x ∷ drop (i + 1) operations) (sym is) in
      ap (λ xs. xs ++ rest) (adds ∙ ap (λ l. before ++ l) (ap (as_loose op) leaves ∙ left_as client op o)) ∙ (append_assoc before (cond (o.client == client) (left_loose op (asked o.doing)) []) rest
      ∙ (ap (λ os. before ++ all_left_loose client op (seen_operations os)) (sym here) ∙ so_far))

  -- nothing is left of no more operations
  pub left_all : (client op i : ℕ) (operations : List (Operation T)) (before all : List (ℕ × Request)) → length operations ≤ i → before ++ all_left_loose client op (seen_operations (drop i operations)) ≡ all → before ≡ all
  left_all client op i operations before all le so_far = sym (append-nil before) ∙ (ap (λ os. before ++ all_left_loose client op (seen_operations os)) (sym (drop_all i operations le)) ∙ so_far)
