-- A listing of all versions has as many as there are.
use Rattle.std.proofs.Common.{◌≡◌, ◌⊎◌, ℕ, ◌+◌, ◌-◌, ◌<◌, ◌≤◌, ◌==◌, true, List, [], ◌∷◌, length, refl, sym, subst, inl, inr, arith}
use Rattle.std.specs.List.{AllByRecursion}
use Rattle.std.specs.List.Sorted.{IsStrictlySortedBy}
use Rattle.std.specs.Ordering.{nat_cmp, MatchOrdering}
use Rattle.std.specs.Cmp.{ranks}
use Rattle.std.specs.declared.cmp.Ordering.{Ordering}
use Rattle.std.specs.declared.cmp.Ordering.TheVariants.{Less}
use Rattle.std.specs.declared.ops.Bound.TheVariants.{Unbounded}
use Rattle.std.proofs.lemmas.Bool.{cases_lt, or_cases, or_left, or_right, eqb-true, eq-eqb}
use Rattle.slatedb_txn_obj.specs.Protocol.{is_among, AreListed}
use Rattle.slatedb_txn_obj_uses.specs.Workloads.{numbers_to}
use Rattle.slatedb_txn_obj_uses.proofs.Numbers.{length-numbers_to}

-- these are the ids above one number and at most another
record Fills (low high : ℕ) (ids : List ℕ) : Type 0 where
  within : (n : ℕ) → is_among n ids ≡ true → (low < n) × (n ≤ high)
  every : (n : ℕ) → low < n → n ≤ high → is_among n ids ≡ true

among_first : (x : ℕ) (ids : List ℕ) → is_among x (x ∷ ids) ≡ true
among_first x ids = or_left (x == x) (is_among x ids) (eq-eqb x x refl)

among_rest : (n x : ℕ) (ids : List ℕ) → is_among n ids ≡ true → is_among n (x ∷ ids) ≡ true
among_rest n x ids among = or_right (n == x) (is_among n ids) among

among_cases : (n x : ℕ) (ids : List ℕ) → is_among n (x ∷ ids) ≡ true → (n ≡ x) ⊎ (is_among n ids ≡ true)
among_cases n x ids among = elim (or_cases (n == x) (is_among n ids) among) [ inl here ↦ inl (eqb-true n x here) | inr rest ↦ inr rest ]

less_below : (x y : ℕ) → nat_cmp x y ≡ Less → x < y
less_below x y less = subst (λ (o : Ordering). MatchOrdering o (x < y) (x ≡ y) (y < x)) less (ranks x y)

-- what comes after an id is above it
later : (x : ℕ) (ids : List ℕ) → AllByRecursion (λ y. nat_cmp x y ≡ Less) ids → (n : ℕ) → is_among n ids ≡ true → x < n
later x [] above n among = cc
later x (y ∷ ids) above n among = elim (among_cases n y ids among) [
  | inl is ↦ subst (λ m. x < m) (sym is) (less_below x y above.0)
  | inr rest ↦ later x ids above.1 n rest
]

-- the first of them follows the lower number
first_is : (low high x : ℕ) (ids : List ℕ) → AllByRecursion (λ y. nat_cmp x y ≡ Less) ids → Fills low high (x ∷ ids) → x ≡ low + 1
first_is low high x ids above fills =
    let bounds = fills.within x (among_first x ids) in
    elim (among_cases (low + 1) x ids (fills.every (low + 1) (omega arith) (omega (arith, bounds.0, bounds.1)))) [
      | inl is ↦ sym is
      | inr rest ↦ let up = later x ids above (low + 1) rest in absurd (omega (arith, bounds.0, up))
    ]

rest_fills : (low high x : ℕ) (ids : List ℕ) → AllByRecursion (λ y. nat_cmp x y ≡ Less) ids → Fills low high (x ∷ ids) → Fills x high ids
rest_fills low high x ids above fills =
    let bounds = fills.within x (among_first x ids) in
    record {
      within = λ n among. (later x ids above n among, (fills.within n (among_rest n x ids among)).1);
      every = λ n up most. elim (among_cases n x ids (fills.every n (omega (arith, bounds.0, up)) most)) [
        | inl is ↦ absurd (omega (arith, is, up))
        | inr rest ↦ rest
      ];
    }

filled : (low high : ℕ) (ids : List ℕ) → IsStrictlySortedBy nat_cmp ids → Fills low high ids → length ids ≡ high - low
unfolding IsStrictlySortedBy
filled low high [] ascend fills =
    elim (cases_lt low high) [
      | inl some ↦ let one = fills.every (low + 1) (omega arith) (omega (arith, some)) in absurd (cc)
      | inr none ↦ omega (arith, none)
    ]
filled low high (x ∷ ids) ascend fills =
    let bounds = fills.within x (among_first x ids) in
    let is = first_is low high x ids ascend.0 fills in
    let rest = filled x high ids ascend.1 (rest_fills low high x ids ascend.0 fills) in
    omega (arith, bounds.1, is, rest)

pub all_listed : (newest : ℕ) (ids : List ℕ) → AreListed (numbers_to newest) 0 Unbounded Unbounded ids → length ids ≡ newest
all_listed newest ids listed =
    let count = length-numbers_to newest in
    let all = filled 0 newest ids listed.ascend (record {
      within = λ n among. let within = listed.within n among in (omega (arith, within.0), subst (λ m. n ≤ m) count within.1);
      every = λ n above most. listed.every n above (subst (λ m. n ≤ m) (sym count) most) refl;
    }) in
    omega (arith, all)
