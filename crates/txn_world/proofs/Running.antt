-- The operations that run, and what they leave loose.
use Rattle.std.proofs.Common.{◌≡◌, ◌≢◌, ℕ, zero, suc, ◌+◌, ◌-◌, ◌<◌, ◌≤◌, ◌==◌, ◌&&◌, ◌||◌, nat_eq, nat_lt, List, [], ◌∷◌, ◌++◌, length, map, take, slice_get, get_or, not, Bool, true, false, cond, is_some, Option, Some, None, ◌⊎◌, inl, inr, refl, sym, ◌∙◌, ap, subst, arith}
use Rattle.std.proofs.lemmas.List.{append_assoc, append-nil, take_more}
use Rattle.std.proofs.lemmas.Bool.{eq-eqb, ne_eqb, eqb-true, both_ways, cases_lt, lt-ltb, le-ltb}
use Rattle.std.proofs.lemmas.Option.{same_Some, slice_get_within}
use Rattle.std.proofs.lemmas.Map.Keys.{sorted_head, sorted_tail}
use Rattle.std.specs.Option.{option_map}
use Rattle.std.specs.List.{list_any, AllByRecursion}
use Rattle.std.specs.List.Sorted.{IsStrictlySortedBy}
use Rattle.std.specs.Ordering.{nat_cmp}
use Rattle.std.specs.declared.cmp.Ordering.TheVariants.{Less, Equal, Greater}
use Rattle.std.specs.HashSet.{HashSet, contains}
use Rattle.std.proofs.Math.Bool.{or-false}
use Rattle.txn_store.specs.declared.request.Request.{Request}
use Rattle.txn_history.specs.Lists.{numbered, AreAscending}
use Rattle.txn_history.specs.Seen.{Ask}
use Rattle.txn_history.specs.GoesOn.{as_loose, left_loose, all_left_loose}
use Rattle.txn_machine.specs.declared.plain.doing.PlainDoing.{PlainDoing}
use Rattle.txn_machine.specs.declared.plain.doing.PlainDoing.TheVariants.{Write, WriteUnchecked, Read, ReadUnchecked, ReadSeen, ListIds, Delete, Check, Advance, Ended}
use Rattle.txn_machine.specs.plain.Doing as plain
use Rattle.txn_machine.specs.declared.doing.Doing.{Doing}
use Rattle.txn_machine.specs.declared.doing.Doing.TheVariants as does
use Rattle.txn_machine.specs.declared.doing.Operation.{Operation}
use Rattle.txn_machine.specs.Doing.{asked, ended}
use Rattle.txn_machine.specs.Machine.{doing_next, with_doing, ended_by, seen_operations}
use Rattle.txn_history.proofs.Lists.{numbered_last}
use Rattle.txn_machine.proofs.plain.Lists.{numbered_here, numbered_other}
use Rattle.txn_client_journals.specs.tables.Operations.{asked_of, asked_by, loose_of}
use Rattle.txn_client_journals.proofs.tables.Acting.{held_at, numbered_past}
use Rattle.txn_world.specs.Running.{runs_as, runs_for, requests_left, ended_where}
use Rattle.txn_world.specs.Owning.{is_in_set, owns}

-- what is left loose, operation by operation

pub as_left : (op : ℕ) (ask : Option Ask) → as_loose op (loose_of ask) ≡ left_loose op ask
as_left op None = refl
as_left op (Some ask) = refl

module _ {T : Type 0} where
  requests_left-append : (operations : List (Operation T)) (xs ys : List ℕ) → requests_left operations (xs ++ ys) ≡ requests_left operations xs ++ requests_left operations ys
  requests_left-append operations [] ys = refl
  requests_left-append operations (x ∷ xs) ys = ap (λ (rest : List (ℕ × Request)). left_loose x (asked_by operations x) ++ rest) (requests_left-append operations xs ys) ∙ sym (append_assoc (left_loose x (asked_by operations x)) (requests_left operations xs) (requests_left operations ys))

  pub one_left : (operations : List (Operation T)) (ops : List ℕ) (i : ℕ) (copy : Option Request) (left new : List (ℕ × Request)) → i < length ops → copy ≡ loose_of (asked_by operations (get_or ops i 0)) → left ≡ requests_left operations (take i ops) → new ≡ left ++ as_loose (get_or ops i 0) copy → new ≡ requests_left operations (take (i + 1) ops)
  one_left operations ops i copy left new lt is so_far e =
      let op = get_or ops i 0 in
      e ∙ (ap (λ (o : Option Request). left ++ as_loose op o) is ∙ (ap (λ (rest : List (ℕ × Request)). left ++ rest) (as_left op (asked_by operations op)) ∙ (ap (λ (front : List (ℕ × Request)). front ++ left_loose op (asked_by operations op)) so_far
      ∙ (ap (λ (rest : List (ℕ × Request)). requests_left operations (take i ops) ++ rest) (sym (append-nil (left_loose op (asked_by operations op))))
      ∙ (sym (requests_left-append operations (take i ops) (op ∷ [])) ∙ ap (requests_left operations) (sym (take_more ops i 0 lt)))))))

-- lists of numbers that ascend

below_less : (x y : ℕ) → nat_cmp x y ≡ Less → x < y
below_less x y e = elim (cases_lt x y) [ inl lt ↦ lt | inr ge ↦ absurd (not_less (nat_lt x y) (x == y) (le-ltb x y ge) e) ]
  where
    not_less : (a b : Bool) → a ≡ false → cond a Less (cond b Equal Greater) ≡ Less → ⊥
    not_less true b f h = cc
    not_less false true f h = cc
    not_less false false f h = cc

absent_after : (k n : ℕ) (ks : List ℕ) → AllByRecursion (λ y. nat_cmp k y ≡ Less) ks → n ≤ k → list_any (nat_eq n) ks ≡ false
absent_after k n [] all le = refl
absent_after k n (x ∷ ks) all le =
    let lt = below_less k x all.0 in
    let this : nat_eq n x ≡ false = ne_eqb n x (λ e. omega (arith, e, lt, le)) in
    ap (λ b. b || list_any (nat_eq n) ks) this ∙ absent_after k n ks all.1 le

has_first : (k : ℕ) (ks : List ℕ) → list_any (nat_eq k) (k ∷ ks) ≡ true
has_first k ks = ap (λ b. b || list_any (nat_eq k) ks) (eq-eqb k k refl)

abbrev nat_at_most : ℕ → ℕ → Bool
nat_at_most first n = not (nat_lt n first)

-- the elements of two lists, one by one

same_elements : {A : Type 0} (xs ys : List A) → ((k : ℕ) → slice_get xs k ≡ slice_get ys k) → xs ≡ ys
same_elements [] [] h = refl
same_elements [] (y ∷ ys) h = let clash : None ≡ Some y = h 0 in cc
same_elements (x ∷ xs) [] h = let clash : Some x ≡ None = h 0 in cc
same_elements (x ∷ xs) (y ∷ ys) h =
    let head : x ≡ y = same_Some x y (h 0) in
    let tail : xs ≡ ys = same_elements xs ys (λ k. h (suc k)) in
    cc

pub same_numbered : {A : Type 0} (xs ys : List A) → ((n : ℕ) → numbered xs n ≡ numbered ys n) → xs ≡ ys
same_numbered xs ys h = same_elements xs ys (λ k. h (suc k))

get_mapped : {A B : Type 0} (f : A → B) (xs : List A) (k : ℕ) → slice_get (map f xs) k ≡ option_map f (slice_get xs k)
get_mapped f [] k = refl
get_mapped f (x ∷ xs) zero = refl
get_mapped f (x ∷ xs) (suc k) = get_mapped f xs k

pub numbered_mapped : {A B : Type 0} (f : A → B) (xs : List A) (n : ℕ) → numbered (map f xs) n ≡ option_map f (numbered xs n)
numbered_mapped f xs zero = refl
numbered_mapped f xs (suc n) = get_mapped f xs n

get_longer : {A : Type 0} (xs : List A) (x : A) (k : ℕ) → k ≢ length xs → slice_get (xs ++ x ∷ []) k ≡ slice_get xs k
get_longer [] x zero ne = absurd (ne refl)
get_longer [] x (suc k) ne = refl
get_longer (z ∷ zs) x zero ne = refl
get_longer (z ∷ zs) x (suc k) ne = get_longer zs x k (λ e. ne (ap suc e))

-- a number of a list of one element more
pub numbered_longer : {A : Type 0} (xs : List A) (x : A) (n : ℕ) → n ≢ length xs + 1 → numbered (xs ++ x ∷ []) n ≡ numbered xs n
numbered_longer xs x zero ne = refl
numbered_longer xs x (suc n) ne = get_longer xs x n (λ e. ne (omega (arith, e)))

pub numbered_end : {A : Type 0} (xs : List A) (x : A) → numbered (xs ++ x ∷ []) (length xs + 1) ≡ Some x
numbered_end xs x = let next : length xs + 1 ≡ suc (length xs) = omega arith in ap (numbered (xs ++ x ∷ [])) next ∙ numbered_last xs x

pub eq_cases : (m n : ℕ) → (m ≡ n) ⊎ (m ≢ n)
eq_cases m n = by (m == n) refl
  where
    by : (b : Bool) → (m == n) ≡ b → (m ≡ n) ⊎ (m ≢ n)
    by true e = inl (eqb-true m n e)
    by false e = inr (λ same. absurd (both_ways (m == n) e (eq-eqb m n same)))

-- truth tables

and_not : (b r ends : Bool) → (b && not (ends && (b && true))) ≡ (b && not ends)
and_not true r true = refl
and_not true r false = refl
and_not false r ends = refl

pub keeps_other : (i b ends : Bool) → (i && not (ends && (b && false))) ≡ i
keeps_other true true true = refl
keeps_other true true false = refl
keeps_other true false true = refl
keeps_other true false false = refl
keeps_other false b ends = refl

pub no_more : (i b runs : Bool) → (i || (runs && (b && false))) ≡ i
no_more true b runs = refl
no_more false true true = refl
no_more false true false = refl
no_more false false true = refl
no_more false false false = refl

enters : (b runs : Bool) → (false || (runs && (b && true))) ≡ (b && runs)
enters true true = refl
enters true false = refl
enters false true = refl
enters false false = refl

pub and_true : (a b : Bool) → (a && b) ≡ true → (a ≡ true) × (b ≡ true)
and_true true true h = (refl, refl)
and_true true false h = cc
and_true false b h = cc

-- sets of numbers, by client

module _ {S : Type 0} where
  -- a client that has a number is there
  pub owner_there : (owned : List (HashSet ℕ S)) (client n : ℕ) → owns owned client n ≡ true → (1 ≤ client) × (client ≤ length owned)
  owner_there owned zero n h = cc
  owner_there owned (suc client) n h = (omega arith, within (slice_get owned client) refl h)
    where
      within : (found : Option (HashSet ℕ S)) → slice_get owned client ≡ found → is_in_set found n ≡ true → suc client ≤ length owned
      within None e h = cc
      within (Some found) e h = let lt = slice_get_within owned client found e in omega (arith, lt)

  -- the set of a client
  pub set_of : (owned : List (HashSet ℕ S)) (client n : ℕ) (found : HashSet ℕ S) → 1 ≤ client → client ≤ length owned → found ≡ get_or owned (client - 1) found → owns owned client n ≡ contains nat_eq found n
  set_of owned client n found some within e = ap (λ (s : Option (HashSet ℕ S)). is_in_set s n) (held_at owned client found some within e)

  -- one empty set more
  pub more_empty : (sets : List (HashSet ℕ S)) (found : HashSet ℕ S) → ((c n : ℕ) → owns sets c n ≡ false) → found.keys ≡ [] → (c n : ℕ) → owns (sets ++ found ∷ []) c n ≡ false
  more_empty sets found all none c n =
      elim (eq_cases c (length sets + 1)) [
        | inl same ↦ ap (λ (s : Option (HashSet ℕ S)). is_in_set s n) (ap (numbered (sets ++ found ∷ [])) same ∙ numbered_end sets found) ∙ ap (list_any (nat_eq n)) none
        | inr ne ↦ ap (λ (s : Option (HashSet ℕ S)). is_in_set s n) (numbered_longer sets found c ne) ∙ all c n
      ]

module _ {T : Type 0} where
  -- the sets of those that run
  abbrev pub AreRunning : {S : Type 0} → List (HashSet ℕ S) → List (Operation T) → Type 0
  AreRunning running operations = (client op : ℕ) → owns running client op ≡ runs_for operations client op

  runs_here : (operations : List (Operation T)) (op : ℕ) (o : Operation T) (client : ℕ) → numbered operations op ≡ Some o → runs_for operations client op ≡ (o.client == client && is_some (asked o.doing))
  runs_here operations op o client found = ap (runs_as client) found

  -- the client of an operation that runs is there
  pub client_there : {S : Type 0} (running : List (HashSet ℕ S)) (operations : List (Operation T)) (op : ℕ) (o : Operation T) → AreRunning running operations → numbered operations op ≡ Some o → is_some (asked o.doing) ≡ true → (1 ≤ o.client) × (o.client ≤ length running)
  client_there running operations op o all found runs =
      owner_there running o.client op (all o.client op ∙ (runs_here operations op o o.client found ∙ (ap (λ b. b && is_some (asked o.doing)) (eq-eqb o.client o.client refl) ∙ runs)))

  running_here : {S : Type 0} (running new : List (HashSet ℕ S)) (operations : List (Operation T)) (op : ℕ) (o : Operation T) (doing : Doing T) (ends : Bool) → AreRunning running operations → numbered operations op ≡ Some o → is_some (asked o.doing) ≡ true → is_some (asked doing) ≡ not ends →
      ((c n : ℕ) → owns new c n ≡ (owns running c n && not (ends && ((o.client == c) && (op == n))))) → (c : ℕ) → owns new c op ≡ runs_for (with_doing operations op o doing) c op
  running_here running new operations op o doing ends all found runs after left c =
      let itself : (op == op) ≡ true = eq-eqb op op refl in
      let was : owns running c op ≡ (o.client == c) = all c op ∙ (runs_here operations op o c found ∙ (ap (λ b. (o.client == c) && b) runs ∙ and_same (o.client == c))) in
      left c op ∙ (ap (λ b. b && not (ends && ((o.client == c) && (op == op)))) was ∙ (ap (λ b. (o.client == c) && not (ends && ((o.client == c) && b))) itself ∙ (and_not (o.client == c) true ends
      ∙ (ap (λ b. (o.client == c) && b) (sym after) ∙ sym (ap (runs_as c) (numbered_here operations op (doing_next o doing) o found))))))
    where
      and_same : (b : Bool) → (b && true) ≡ b
      and_same true = refl
      and_same false = refl

  running_other : {S : Type 0} (running new : List (HashSet ℕ S)) (operations : List (Operation T)) (op : ℕ) (o : Operation T) (doing : Doing T) (ends : Bool) → AreRunning running operations → 0 < op →
      ((c n : ℕ) → owns new c n ≡ (owns running c n && not (ends && ((o.client == c) && (op == n))))) → (c n : ℕ) → n ≢ op → owns new c n ≡ runs_for (with_doing operations op o doing) c n
  running_other running new operations op o doing ends all some left c n ne =
      let apart : (op == n) ≡ false = ne_eqb op n (λ e. ne (sym e)) in
      left c n ∙ (ap (λ b. owns running c n && not (ends && ((o.client == c) && b))) apart ∙ (keeps_other (owns running c n) (o.client == c) ends ∙ (all c n ∙ sym (ap (runs_as c) (numbered_other operations op n (doing_next o doing) some ne)))))

  found_some : (operations : List (Operation T)) (op : ℕ) (o : Operation T) → numbered operations op ≡ Some o → 0 < op
  found_some operations zero o found = cc
  found_some operations (suc op) o found = omega arith

  -- an operation does something else, or has ended
  pub running_with : {S : Type 0} (running new : List (HashSet ℕ S)) (operations : List (Operation T)) (op : ℕ) (o : Operation T) (doing : Doing T) (ends : Bool) → AreRunning running operations → numbered operations op ≡ Some o → is_some (asked o.doing) ≡ true → is_some (asked doing) ≡ not ends →
      ((c n : ℕ) → owns new c n ≡ (owns running c n && not (ends && ((o.client == c) && (op == n))))) → AreRunning new (with_doing operations op o doing)
  running_with running new operations op o doing ends all found runs after left c n =
      elim (eq_cases n op) [
        | inl same ↦ subst (λ (m : ℕ). owns new c m ≡ runs_for (with_doing operations op o doing) c m) (sym same) (running_here running new operations op o doing ends all found runs after left c)
        | inr ne ↦ running_other running new operations op o doing ends all (found_some operations op o found) left c n ne
      ]

  -- one operation more
  pub running_more : {S : Type 0} (running new : List (HashSet ℕ S)) (operations : List (Operation T)) (op : ℕ) (o : Operation T) → AreRunning running operations → op ≡ length operations + 1 →
      ((c n : ℕ) → owns new c n ≡ (owns running c n || (is_some (asked o.doing) && ((o.client == c) && (op == n))))) → AreRunning new (operations ++ o ∷ [])
  running_more running new operations op o all is entered c n =
      elim (eq_cases n op) [
        | inl same ↦
            let at : n ≡ length operations + 1 = same ∙ is in
            let itself : (op == n) ≡ true = eq-eqb op n (sym same) in
            let none : owns running c n ≡ false = all c n ∙ ap (runs_as c) (numbered_past operations n (omega (arith, at))) in
            let there : numbered (operations ++ o ∷ []) n ≡ Some o = ap (numbered (operations ++ o ∷ [])) at ∙ numbered_end operations o in
            entered c n ∙ (ap (λ b. owns running c n || (is_some (asked o.doing) && ((o.client == c) && b))) itself ∙ (ap (λ b. b || (is_some (asked o.doing) && ((o.client == c) && true))) none ∙ (enters (o.client == c) (is_some (asked o.doing)) ∙ sym (ap (runs_as c) there))))
        | inr ne ↦
            let apart : (op == n) ≡ false = ne_eqb op n (λ e. ne (sym e)) in
            entered c n ∙ (ap (λ b. owns running c n || (is_some (asked o.doing) && ((o.client == c) && b))) apart ∙ (no_more (owns running c n) (o.client == c) (is_some (asked o.doing)) ∙ (all c n ∙ sym (ap (runs_as c) (numbered_longer operations o n (λ e. ne (e ∙ sym is)))))))
      ]

-- a crash

and_true_same : (b : Bool) → (b && true) ≡ b
and_true_same true = refl
and_true_same false = refl

and_false : (b : Bool) → (b && false) ≡ false
and_false true = refl
and_false false = refl

gone_twice : (d : Bool) → ((d && true) && not d) ≡ (d && false)
gone_twice true = refl
gone_twice false = refl

gone : (b r d e : Bool) → (b && r) ≡ true → (b ≡ true → e ≡ d) → ((e && r) && not d) ≡ (e && false)
gone true true d e t h = subst (λ (x : Bool). ((x && true) && not d) ≡ (x && false)) (sym (h refl)) (gone_twice d)
gone true false d e t h = cc
gone false r d e t h = cc

stays : (b r d e : Bool) → (b && r) ≡ false → (d ≡ true → e ≡ b) → ((e && r) && not d) ≡ (e && r)
stays b r false e t h = and_true_same (e && r)
stays b r true e t h = let none : (e && r) ≡ false = ap (λ x. x && r) (h refl) ∙ t in and_false (e && r) ∙ sym none

plain_ended : {T : Type 0} (doing : PlainDoing T) → is_some (plain.asked doing) ≡ false → doing ≡ Ended
plain_ended (Write op) h = cc
plain_ended (WriteUnchecked op) h = cc
plain_ended (Read op) h = cc
plain_ended (ReadUnchecked op) h = cc
plain_ended (ReadSeen op) h = cc
plain_ended (ListIds op) h = cc
plain_ended (Delete op) h = cc
plain_ended (Check op) h = cc
plain_ended (Advance op) h = cc
plain_ended Ended h = refl

ended_doing : {T : Type 0} (doing : Doing T) → is_some (asked doing) ≡ false → doing ≡ ended
ended_doing (does.Plain doing) h = ap does.Plain (plain_ended doing h)
ended_doing (does.View op) h = cc

not_running_left : (op : ℕ) (ask : Option Ask) (b : Bool) → (b && is_some ask) ≡ false → cond b (left_loose op ask) [] ≡ []
not_running_left op None true h = refl
not_running_left op (Some ask) true h = cc
not_running_left op ask false h = refl

running_left : (op : ℕ) (ask : Option Ask) (b : Bool) → (b && is_some ask) ≡ true → cond b (left_loose op ask) [] ≡ left_loose op ask
running_left op ask true h = refl
running_left op ask false h = cc

-- a number at least the first, and not the first
at_most_next : (first n : ℕ) → n ≢ first → nat_at_most (first + 1) n ≡ nat_at_most first n
at_most_next first n ne =
    elim (cases_lt n first) [
      | inl lt ↦ ap not (lt-ltb n (first + 1) (omega (arith, lt)) ∙ sym (lt-ltb n first lt))
      | inr ge ↦ ap not (le-ltb n (first + 1) (above ge) ∙ sym (le-ltb n first ge))
    ]
  where
    above : first ≤ n → first + 1 ≤ n
    above ge = elim (cases_lt first n) [ inl lt ↦ omega (arith, lt) | inr le ↦ absurd (ne (omega (arith, ge, le))) ]

at_most_itself : (first : ℕ) → nat_at_most first first ≡ true
at_most_itself first = ap not (le-ltb first first (omega arith))

not_at_most_next : (first : ℕ) → nat_at_most (first + 1) first ≡ false
not_at_most_next first = ap not (lt-ltb first (first + 1) (omega arith))

from_at_most : (first n : ℕ) → nat_at_most first n ≡ true → first ≤ n
from_at_most first n h = elim (cases_lt n first) [ inl lt ↦ absurd (both_ways (nat_at_most first n) (ap not (lt-ltb n first lt)) h) | inr ge ↦ ge ]

module _ {T : Type 0} where
  -- the numbers of the operations of a client that run, from the first on
  abbrev HasFrom : List (Operation T) → ℕ → ℕ → List ℕ → Type 0
  HasFrom operations client first keys = (n : ℕ) → list_any (nat_eq n) keys ≡ (nat_at_most first n && runs_for operations client n)

  -- the rest of the operations, from the first on
  abbrev AreFrom : List (Operation T) → ℕ → List (Operation T) → Type 0
  AreFrom operations first rest = (k : ℕ) → slice_get rest k ≡ numbered operations (k + first)

  rest_from : (operations : List (Operation T)) (first : ℕ) (o : Operation T) (rest : List (Operation T)) → AreFrom operations first (o ∷ rest) → AreFrom operations (first + 1) rest
  rest_from operations first o rest from k = let place : suc k + first ≡ k + (first + 1) = omega arith in from (suc k) ∙ ap (numbered operations) place

  head_from : (operations : List (Operation T)) (first : ℕ) (o : Operation T) (rest : List (Operation T)) → AreFrom operations first (o ∷ rest) → numbered operations first ≡ Some o
  head_from operations first o rest from = let place : 0 + first ≡ first = omega arith in sym (from 0 ∙ ap (numbered operations) place)

  none_from : (operations : List (Operation T)) (client first n : ℕ) → AreFrom operations first [] → first ≤ n → runs_for operations client n ≡ false
  none_from operations client first n from le =
      let place : (n - first) + first ≡ n = omega (arith, le) in
      ap (runs_as client) (sym (from (n - first) ∙ ap (numbered operations) place))

  skip_first : (operations : List (Operation T)) (client first : ℕ) (keys : List ℕ) → runs_for operations client first ≡ false → HasFrom operations client first keys → HasFrom operations client (first + 1) keys
  skip_first operations client first keys idle has n =
      elim (eq_cases n first) [
        | inl same ↦ has n ∙ (ap (λ b. nat_at_most first n && b) (ap (runs_for operations client) same ∙ idle) ∙ (and_false (nat_at_most first n) ∙ sym (ap (λ b. b && runs_for operations client n) (ap (nat_at_most (first + 1)) same ∙ not_at_most_next first))))
        | inr ne ↦ has n ∙ ap (λ b. b && runs_for operations client n) (sym (at_most_next first n ne))
      ]

  drop_first : (operations : List (Operation T)) (client first : ℕ) (keys : List ℕ) → AllByRecursion (λ y. nat_cmp first y ≡ Less) keys → HasFrom operations client first (first ∷ keys) → HasFrom operations client (first + 1) keys
  drop_first operations client first keys above has n =
      elim (eq_cases n first) [
        | inl same ↦ ap (λ m. list_any (nat_eq m) keys) same ∙ (absent_after first first keys above (omega arith) ∙ sym (ap (λ b. b && runs_for operations client n) (ap (nat_at_most (first + 1)) same ∙ not_at_most_next first)))
        | inr ne ↦ sym (ap (λ b. b || list_any (nat_eq n) keys) (ne_eqb n first ne)) ∙ (has n ∙ ap (λ b. b && runs_for operations client n) (sym (at_most_next first n ne)))
      ]

  -- the first of them is the least number
  is_first : (operations : List (Operation T)) (client first k : ℕ) (keys : List ℕ) → runs_for operations client first ≡ true → IsStrictlySortedBy nat_cmp (k ∷ keys) → HasFrom operations client first (k ∷ keys) → k ≡ first
  is_first operations client first k keys runs sorted has =
      let least : first ≤ k = from_at_most first k ((and_true (nat_at_most first k) (runs_for operations client k) (sym (has k) ∙ has_first k keys)).0) in
      let there : list_any (nat_eq first) (k ∷ keys) ≡ true = has first ∙ (ap (λ b. b && runs_for operations client first) (at_most_itself first) ∙ runs) in
      elim (eq_cases first k) [
        | inl same ↦ sym same
        | inr ne ↦
            let missing : list_any (nat_eq first) (k ∷ keys) ≡ false = ap (λ b. b || list_any (nat_eq first) keys) (ne_eqb first k ne) ∙ absent_after k first keys (sorted_head nat_cmp k keys sorted) least in
            absurd (both_ways (list_any (nat_eq first) (k ∷ keys)) missing there)
      ]

  not_empty : (operations : List (Operation T)) (client first : ℕ) → runs_for operations client first ≡ true → HasFrom operations client first [] → ⊥
  not_empty operations client first runs has = both_ways false refl (has first ∙ (ap (λ b. b && runs_for operations client first) (at_most_itself first) ∙ runs))

  left_from : (operations : List (Operation T)) (client first : ℕ) (rest : List (Operation T)) (keys : List ℕ) → AreFrom operations first rest → IsStrictlySortedBy nat_cmp keys → HasFrom operations client first keys → requests_left operations keys ≡ all_left_loose client first (seen_operations rest)
  left_from operations client first [] [] from sorted has = refl
  left_from operations client first [] (k ∷ keys) from sorted has =
      let both = and_true (nat_at_most first k) (runs_for operations client k) (sym (has k) ∙ has_first k keys) in
      absurd (both_ways (runs_for operations client k) (none_from operations client first k from (from_at_most first k both.0)) both.1)
  left_from operations client first (o ∷ rest) keys from sorted has =
      by (λ ks above more. left_from operations client (first + 1) rest ks (rest_from operations first o rest from) above more) (runs_for operations client first) refl keys sorted has
    where
      here : numbered operations first ≡ Some o
      here = head_from operations first o rest from

      by : ((ks : List ℕ) → IsStrictlySortedBy nat_cmp ks → HasFrom operations client (first + 1) ks → requests_left operations ks ≡ all_left_loose client (first + 1) (seen_operations rest)) →
          (b : Bool) → runs_for operations client first ≡ b → (ks : List ℕ) → IsStrictlySortedBy nat_cmp ks → HasFrom operations client first ks → requests_left operations ks ≡ all_left_loose client first (seen_operations (o ∷ rest))
      by next false idle ks above has =
          next ks above (skip_first operations client first ks idle has)
          ∙ sym (ap (λ (ls : List (ℕ × Request)). ls ++ all_left_loose client (first + 1) (seen_operations rest)) (not_running_left first (asked o.doing) (o.client == client) (sym (ap (runs_as client) here) ∙ idle)))
      by next true runs [] above has = absurd (not_empty operations client first runs has)
      by next true runs (k ∷ ks) above has =
          let same = is_first operations client first k ks runs above has in
          let tail = next ks (sorted_tail nat_cmp k ks above)
          (drop_first operations client first ks (subst (λ (m : ℕ). AllByRecursion (λ y. nat_cmp m y ≡ Less) ks) same (sorted_head nat_cmp k ks above)) (subst (λ (m : ℕ). HasFrom operations client first (m ∷ ks)) same has)) in
          let ask : asked_by operations k ≡ asked o.doing = ap (asked_by operations) same ∙ ap asked_of here in
          ap (λ (m : ℕ). left_loose m (asked_by operations k) ++ requests_left operations ks) same ∙ (ap (λ (a : Option Ask). left_loose first a ++ requests_left operations ks) ask ∙ (ap (λ (ls : List (ℕ × Request)). left_loose first (asked o.doing) ++ ls) tail
          ∙ sym (ap (λ (ls : List (ℕ × Request)). ls ++ all_left_loose client (first + 1) (seen_operations rest)) (running_left first (asked o.doing) (o.client == client) (sym (ap (runs_as client) here) ∙ runs)))))

  -- what the operations of a client leave loose
  pub crash_leaves : {S : Type 0} (running : List (HashSet ℕ S)) (operations : List (Operation T)) (client : ℕ) (keys : List ℕ) → AreRunning running operations → IsStrictlySortedBy nat_cmp keys → ((n : ℕ) → list_any (nat_eq n) keys ≡ owns running client n) → requests_left operations keys ≡ all_left_loose client 1 (seen_operations operations)
  crash_leaves running operations client keys all sorted has = left_from operations client 1 operations keys at_first sorted from_first
    where
      at_first : AreFrom operations 1 operations
      at_first k = let place : suc k ≡ k + 1 = omega arith in ap (numbered operations) place

      from_first : HasFrom operations client 1 keys
      from_first zero = has 0 ∙ (all client 0 ∙ sym (and_false (nat_at_most 1 0)))
      from_first (suc n) = has (suc n) ∙ (all client (suc n) ∙ sym (ap (λ b. b && runs_for operations client (suc n)) (ap not (le-ltb (suc n) 1 (omega arith)))))

  ends_running : (client c : ℕ) (o : Operation T) (t : Bool) → (o.client == client && is_some (asked o.doing)) ≡ t → ((o.client == c && is_some (asked o.doing)) && not (client == c)) ≡ runs_as c (ended_where t (Some o))
  ends_running client c o true e = gone (o.client == client) (is_some (asked o.doing)) (client == c) (o.client == c) e (λ same. ap (λ m. m == c) (eqb-true o.client client same))
  ends_running client c o false e = stays (o.client == client) (is_some (asked o.doing)) (client == c) (o.client == c) e (λ same. ap (λ m. o.client == m) (sym (eqb-true client c same)))

  -- those that run after a crash
  pub crash_running : {S : Type 0} (running new : List (HashSet ℕ S)) (operations ended : List (Operation T)) (client : ℕ) (keys : List ℕ) → AreRunning running operations → ((n : ℕ) → list_any (nat_eq n) keys ≡ owns running client n) → ((n : ℕ) → numbered ended n ≡ ended_where (list_any (nat_eq n) keys) (numbered operations n)) →
      ((c n : ℕ) → owns new c n ≡ (owns running c n && not (client == c))) → AreRunning new ended
  crash_running running new operations ended client keys all has ends left c n = by (numbered operations n) refl
    where
      by : (found : Option (Operation T)) → numbered operations n ≡ found → owns new c n ≡ runs_for ended c n
      by None e =
          let none : owns running c n ≡ false = all c n ∙ ap (runs_as c) e in
          left c n ∙ (ap (λ b. b && not (client == c)) none ∙ sym (ap (runs_as c) (ends n ∙ ap (ended_where (list_any (nat_eq n) keys)) e)))
      by (Some o) e =
          let was : owns running c n ≡ (o.client == c && is_some (asked o.doing)) = all c n ∙ ap (runs_as c) e in
          let test : (o.client == client && is_some (asked o.doing)) ≡ list_any (nat_eq n) keys = sym (has n ∙ (all client n ∙ ap (runs_as client) e)) in
          left c n ∙ (ap (λ b. b && not (client == c)) was ∙ (ends_running client c o (list_any (nat_eq n) keys) test ∙ sym (ap (runs_as c) (ends n ∙ ap (ended_where (list_any (nat_eq n) keys)) e))))

  ends_all : (client : ℕ) (o : Operation T) (b r : Bool) → (o.client == client) ≡ b → is_some (asked o.doing) ≡ r → ended_where (b && r) (Some o) ≡ Some (ended_by client o)
  ends_all client o true true e h = ap (λ b. Some (cond b (doing_next o ended) o)) (sym e)
  ends_all client o true false e h = ap (λ (doing : Doing T). Some (doing_next o doing)) (ended_doing o.doing h) ∙ ap (λ b. Some (cond b (doing_next o ended) o)) (sym e)
  ends_all client o false r e h = ap (λ b. Some (cond b (doing_next o ended) o)) (sym e)

  -- the operations after a crash
  pub crash_operations : {S : Type 0} (running : List (HashSet ℕ S)) (operations ended : List (Operation T)) (client : ℕ) (keys : List ℕ) → AreRunning running operations → ((n : ℕ) → list_any (nat_eq n) keys ≡ owns running client n) → ((n : ℕ) → numbered ended n ≡ ended_where (list_any (nat_eq n) keys) (numbered operations n)) →
      ended ≡ map (ended_by client) operations
  crash_operations running operations ended client keys all has ends = same_numbered ended (map (ended_by client) operations) (λ n. by n (numbered operations n) refl)
    where
      by : (n : ℕ) (found : Option (Operation T)) → numbered operations n ≡ found → numbered ended n ≡ numbered (map (ended_by client) operations) n
      by n None e = ends n ∙ (ap (ended_where (list_any (nat_eq n) keys)) e ∙ sym (numbered_mapped (ended_by client) operations n ∙ ap (option_map (ended_by client)) e))
      by n (Some o) e =
          let test : list_any (nat_eq n) keys ≡ (o.client == client && is_some (asked o.doing)) = has n ∙ (all client n ∙ ap (runs_as client) e) in
          ends n ∙ (ap (ended_where (list_any (nat_eq n) keys)) e ∙ (ap (λ b. ended_where b (Some o)) test ∙ (ends_all client o (o.client == client) (is_some (asked o.doing)) refl refl ∙ sym (numbered_mapped (ended_by client) operations n ∙ ap (option_map (ended_by client)) e))))

  -- those that run are there
  pub running_found : {S : Type 0} (running : List (HashSet ℕ S)) (operations : List (Operation T)) (client n : ℕ) → AreRunning running operations → owns running client n ≡ true → is_some (numbered operations n) ≡ true
  running_found running operations client n all h = by (numbered operations n) refl
    where
      by : (found : Option (Operation T)) → numbered operations n ≡ found → is_some found ≡ true
      by None e = absurd (both_ways (owns running client n) (all client n ∙ ap (runs_as client) e) h)
      by (Some o) e = refl

module _ {T : Type 0} where
  -- one operation more, where room was made
  pub running_entered : {S : Type 0} (running new : List (HashSet ℕ S)) (operations kept after : List (Operation T)) (o : Operation T) (runs made : Bool) (next : ℕ) → AreRunning running operations → next ≡ length operations + 1 → runs ≡ is_some (asked o.doing) → kept ≡ operations → after ≡ cond made (kept ++ o ∷ []) kept →
      ((c n : ℕ) → owns new c n ≡ (owns running c n || ((made && runs) && ((o.client == c) && (next == n))))) → AreRunning new after
  running_entered running new operations kept after o runs true next all at is same more entered =
      subst (λ (os : List (Operation T)). AreRunning new os) (sym (more ∙ ap (λ (os : List (Operation T)). os ++ o ∷ []) same))
      (running_more running new operations next o all at (λ c n. entered c n ∙ ap (λ (b : Bool). owns running c n || (b && ((o.client == c) && (next == n)))) is))
  running_entered running new operations kept after o runs false next all at is same more entered = λ c n. entered c n ∙ (or-false (owns running c n) ∙ (all c n ∙ ap (λ (os : List (Operation T)). runs_for os c n) (sym (more ∙ same))))

-- the numbers of a client's set, listed
pub has_all : {S : Type 0} (running : List (HashSet ℕ S)) (client : ℕ) (found : HashSet ℕ S) (listed keys : List ℕ) → 1 ≤ client → client ≤ length running → found ≡ get_or running (client - 1) found → AreAscending (contains nat_eq found) listed → keys ≡ listed → (n : ℕ) → list_any (nat_eq n) keys ≡ owns running client n
has_all running client found listed keys some within e all is n = ap (list_any (nat_eq n)) is ∙ (all.all n ∙ sym (set_of running client n found some within e))
