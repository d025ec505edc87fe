-- An operation that stands in its place takes its turn, or ends.
use Rattle.std.proofs.Common.{◌≡◌, refl, ℕ, zero, suc, ◌-◌, ◌<◌, ◌≤◌, List, length, get_or, true, is_some, Option, Some, None, sym, ◌∙◌, ap, subst, arith}
use Rattle.std.proofs.lemmas.Option.{get_or_from_slice_get, slice_get_past, slice_get_read}
use Rattle.txn_store.specs.declared.request.Reply.{Reply}
use Rattle.txn_steps.specs.declared.boundary.caches.Caches.{Caches}
use Rattle.txn_history.specs.Lists.{numbered}
use Rattle.txn_machine.specs.declared.doing.Doing.{Doing}
use Rattle.txn_machine.specs.declared.doing.Operation.{Operation}
use Rattle.txn_machine.specs.Doing.{Next, IsReply, InRange, Turns, caches_after, ended}
use Rattle.txn_machine.specs.Machine.{with_doing}
use Rattle.txn_machine.proofs.plain.Lists.{within}
use Rattle.txn_client_journals.specs.tables.Operations.{TakesReply, Ends, TakesTurn}

-- what a place holds
pub held_at : {A : Type 0} (xs : List A) (n : ℕ) (x : A) → 0 < n → n ≤ length xs → x ≡ get_or xs (n - 1) x → numbered xs n ≡ Some x
held_at xs zero x some le e = absurd (omega (arith, some))
held_at xs (suc n) x some le e =
    let place : suc n - 1 ≡ n = omega arith in
    slice_get_read xs (length xs) n x refl (omega (arith, le)) (e ∙ ap (λ k. get_or xs k x) place)

pub numbered_past : {A : Type 0} (xs : List A) (n : ℕ) → length xs < n → numbered xs n ≡ None
numbered_past xs zero lt = refl
numbered_past xs (suc n) lt = slice_get_past xs n (omega (arith, lt))

-- what is found there is what the place holds
pub found_same : {A : Type 0} (xs : List A) (n : ℕ) (x y : A) → numbered xs n ≡ Some x → y ≡ get_or xs (n - 1) y → y ≡ x
found_same xs zero x y found e = cc
found_same xs (suc n) x y found e =
    let place : suc n - 1 ≡ n = omega arith in
    e ∙ (ap (λ m. get_or xs m y) place ∙ get_or_from_slice_get xs n x y found)

-- one that is there stands in its place
pub found_here : {A : Type 0} (xs : List A) (n : ℕ) (x : A) → is_some (numbered xs n) ≡ true → x ≡ get_or xs (n - 1) x → numbered xs n ≡ Some x
found_here {A = A} xs n x there is = by (numbered xs n) refl there
  where
    by : (found : Option A) → numbered xs n ≡ found → is_some found ≡ true → numbered xs n ≡ Some x
    by None e h = cc
    by (Some y) e h = e ∙ ap Some (sym (found_same xs n y x e is))

-- one that is there has a place
pub within_there : {A : Type 0} (xs : List A) (n : ℕ) → is_some (numbered xs n) ≡ true → (0 < n) × (n ≤ length xs)
within_there {A = A} xs n there = by (numbered xs n) refl there
  where
    by : (found : Option A) → numbered xs n ≡ found → is_some found ≡ true → (0 < n) × (n ≤ length xs)
    by None e h = cc
    by (Some x) e h = within xs n x e

module _ {T : Type 0} where
  -- what is known of an operation, of what stands in its place

  pub kind_of : (operations : List (Operation T)) (op : ℕ) (reply : Option Reply) (o : Operation T) → TakesReply operations op reply → o ≡ get_or operations (op - 1) o → IsReply o.doing reply
  kind_of operations op reply o takes is = subst (λ (x : Operation T). IsReply x.doing reply) (sym (found_same operations op takes.operation o takes.found is)) takes.kind

  pub range_of : (operations : List (Operation T)) (op : ℕ) (reply : Option Reply) (o : Operation T) → TakesReply operations op reply → o ≡ get_or operations (op - 1) o → InRange o.doing
  range_of operations op reply o takes is = subst (λ (x : Operation T). InRange x.doing) (sym (found_same operations op takes.operation o takes.found is)) takes.range

  found_of : (operations : List (Operation T)) (op : ℕ) (reply : Option Reply) (o : Operation T) → TakesReply operations op reply → o ≡ get_or operations (op - 1) o → numbered operations op ≡ Some o
  found_of operations op reply o takes is = takes.found ∙ ap Some (sym (found_same operations op takes.operation o takes.found is))

  pub ends_so : (operations : List (Operation T)) (op : ℕ) (o : Operation T) (doing : Doing T) → is_some (numbered operations op) ≡ true → o ≡ get_or operations (op - 1) o → doing ≡ ended → Ends operations op (with_doing operations op o doing)
  ends_so operations op o doing there at is = record { operation = o; found = found_here operations op o there at; operations = ap (with_doing operations op o) is }

module _ {T : Type 0} (page : ℕ) (encode : T → List ℕ) (decode : List ℕ → Option T) (get_epoch : T → ℕ) (set_epoch : T → ℕ → T) where
  pub turned_so : (operations : List (Operation T)) (caches left : Caches) (op : ℕ) (reply : Option Reply) (o : Operation T) (next : Next T) → TakesReply operations op reply → o ≡ get_or operations (op - 1) o → Turns page encode decode get_epoch set_epoch o.doing caches reply next → left ≡ caches_after o.doing caches next.1 →
      TakesTurn page encode decode get_epoch set_epoch operations caches op reply (with_doing operations op o next.0) left next.1
  turned_so operations caches left op reply o next takes at turns is = record { operation = o; found = found_of operations op reply o takes at; next = next; turns = turns; ends = refl; operations = refl; leaves = is }
