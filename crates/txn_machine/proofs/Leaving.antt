-- The requests that operations leave loose, by which of them asked for what.
use Rattle.std.proofs.Common.{◌≡◌, ℕ, zero, suc, ◌+◌, List, [], ◌∷◌, ◌++◌, length, slice_get, Bool, true, false, ◌==◌, cond, Option, Some, None, inl, inr, refl, sym, ◌∙◌, ap, subst, arith}
use Rattle.std.proofs.lemmas.Bool.{eqb-true, eq-eqb}
use Rattle.std.proofs.lemmas.Option.{same_Some}
use Rattle.txn_store.specs.declared.request.Request.{Request}
use Rattle.txn_history.specs.Lists.{numbered}
use Rattle.txn_history.specs.Seen.{Ask, Store, Operation}
use Rattle.txn_history.specs.GoesOn.{may_be_loose, as_loose, left_loose, all_left_loose}
use Rattle.txn_machine.proofs.plain.Lists.{none_got, get_split}
use Rattle.txn_machine.proofs.plain.States.{one_left}
use Rattle.txn_machine.proofs.plain.Events.{loose_is}

-- What an operation leaves loose: what it asks for, a put or a delete.
pub record Leaves (asks : Option Ask) (request : Request) : Type 0 where
  pub asked : asks ≡ Some (Store request)
  pub may : may_be_loose (Store request) ≡ Some request

leaves_of : (ask : Ask) (request : Request) → may_be_loose ask ≡ Some request → Leaves (Some ask) request
leaves_of ask request e =
    let is = loose_is ask request e in
    record { asked = ap Some is; may = subst (λ (a : Ask). may_be_loose a ≡ Some request) is e }

-- what one operation left
pub left_one : (op : ℕ) (asks : Option Ask) (j n : ℕ) (request : Request) → slice_get (left_loose op asks) j ≡ Some (n, request) → (n ≡ op) × Leaves asks request
left_one op None j n request e = cc
left_one op (Some ask) j n request e = (let is = one_left op (may_be_loose ask) j n request e in (is.0, leaves_of ask request is.1))

-- and that it left it
pub leaves_one : (op : ℕ) (asks : Option Ask) (request : Request) → Leaves asks request → slice_get (left_loose op asks) 0 ≡ Some (op, request)
leaves_one op asks request l = subst (λ (a : Option Ask). slice_get (left_loose op a) 0 ≡ Some (op, request)) (sym l.asked) (subst (λ (found : Option Request). slice_get (as_loose op found) 0 ≡ Some (op, request)) (sym l.may) refl)

module _ {A : Type 0} where
  get_past : (xs ys : List A) (k : ℕ) → slice_get (xs ++ ys) (length xs + k) ≡ slice_get ys k
  get_past [] ys k = (let zero_more : 0 + k ≡ k = omega arith in ap (slice_get ys) zero_more)
  get_past (x ∷ xs) ys k = (let one : length (x ∷ xs) + k ≡ suc (length xs + k) = omega arith in ap (slice_get (x ∷ (xs ++ ys))) one ∙ get_past xs ys k)

  -- an element of the second of two lists
  pub numbered_past : (xs ys : List A) (k : ℕ) (y : A) → slice_get ys k ≡ Some y → numbered (xs ++ ys) (suc (length xs + k)) ≡ Some y
  numbered_past xs ys k y e = get_past xs ys k ∙ e

-- an operation of a client that left this
pub record LeftBy (seen : List Operation) (client from op : ℕ) (request : Request) : Type 0 where
  pub operation : Operation
  pub place : ℕ
  pub there : slice_get seen place ≡ Some operation
  pub number : op ≡ from + place
  pub client_is : operation.client ≡ client
  pub leaves : Leaves operation.asks request

-- what the operations of a client left was asked for by one of them
pub left_from : (client from : ℕ) (seen : List Operation) (j op : ℕ) (request : Request) → slice_get (all_left_loose client from seen) j ≡ Some (op, request) → LeftBy seen client from op request
left_from client from [] j op request e = none_got j (op, request) e
left_from client from (o ∷ rest) j op request e =
    elim (get_split (cond (o.client == client) (left_loose from o.asks) []) (all_left_loose client (from + 1) rest) j (op, request) e) [
      | inl here ↦ by (o.client == client) refl j here
      | inr there ↦ (let l = left_from client (from + 1) rest there.0 op request there.1 in record { operation = l.operation; place = suc l.place; there = l.there; number = (let is = l.number in omega (arith, is)); client_is = l.client_is; leaves = l.leaves })
    ]
  where
    by : (same : Bool) → (o.client == client) ≡ same → (k : ℕ) → slice_get (cond same (left_loose from o.asks) []) k ≡ Some (op, request) → LeftBy (o ∷ rest) client from op request
    by true same k e = (let is = left_one from o.asks k op request e in record { operation = o; place = 0; there = refl; number = (let n = is.0 in omega (arith, n)); client_is = eqb-true o.client client same; leaves = is.1 })
    by false same k e = none_got k (op, request) e

-- and each that asked for such left it
pub left_to : (client from : ℕ) (seen : List Operation) (place : ℕ) (o : Operation) (request : Request) → slice_get seen place ≡ Some o → o.client ≡ client → Leaves o.asks request → (j : ℕ) × (slice_get (all_left_loose client from seen) j ≡ Some (from + place, request))
left_to client from [] place o request e own leaves = none_got place o e
left_to client from (x ∷ rest) zero o request e own leaves =
    let is : x ≡ o = same_Some x o e in
    let same : (x.client == client) ≡ true = eq-eqb x.client client (ap (λ (y : Operation). y.client) is ∙ own) in
    let left : slice_get (left_loose from x.asks) 0 ≡ Some (from, request) = leaves_one from x.asks request (subst (λ (y : Operation). Leaves y.asks request) (sym is) leaves) in
    let at : from + 0 ≡ from = omega arith in
    (0, rw (same, at) (first (left_loose from x.asks) (all_left_loose client (from + 1) rest) (from, request) left))
  where
    first : (xs ys : List (ℕ × Request)) (y : ℕ × Request) → slice_get xs 0 ≡ Some y → slice_get (xs ++ ys) 0 ≡ Some y
    first [] ys y e = cc
    first (z ∷ zs) ys y e = e
left_to client from (x ∷ rest) (suc place) o request e own leaves =
    let l = left_to client (from + 1) rest place o request e own leaves in
    let before = cond (x.client == client) (left_loose from x.asks) [] in
    let at : (from + 1) + place ≡ from + suc place = omega arith in
    (length before + l.0, get_past before (all_left_loose client (from + 1) rest) l.0 ∙ (l.1 ∙ ap (λ (n : ℕ). Some (n, request)) at))
