-- Ids that ascend, as a listing tells them.
use Rattle.std.proofs.Common.{◌≡◌, nat_eq, ℕ, zero, suc, ◌<◌, ◌≤◌, List, [], ◌∷◌, ◌++◌, take, filter, max, Bool, true, Option, Some, None, ◌⊎◌, inl, inr, refl, sym, ◌∙◌, ap, arith}
use Rattle.std.specs.List.{list_any, AllByRecursion}
use Rattle.std.specs.List.Sorted.{IsStrictlySortedBy}
use Rattle.std.specs.Ordering.{nat_cmp}
use Rattle.std.specs.Cmp.{nat_cmp_is}
use Rattle.std.specs.declared.cmp.Ordering.TheVariants.{Less}
use Rattle.std.proofs.lemmas.Bool.{cases_Bool, cases_lt, or_cases, or_left, or_right, eqb-true, eq-eqb}
use Rattle.std.proofs.lemmas.Option.{same_Some}
use Rattle.txn_steps.specs.Latest.{greater_of}

-- an id is among these
abbrev pub is_in : ℕ → List ℕ → Bool
is_in n ids = list_any (nat_eq n) ids

-- ids that ascend from above a bound
abbrev pub AscendsFrom : ℕ → List ℕ → Type 0
AscendsFrom low [] = Unit {0}
AscendsFrom low (id ∷ ids) = (low < id) × AscendsFrom id ids

-- the last of them, or the bound where there is none
abbrev pub last_or : ℕ → List ℕ → ℕ
last_or low [] = low
last_or low (id ∷ ids) = last_or id ids

-- the greatest of an id and these
abbrev pub greatest_of : Option ℕ → List ℕ → Option ℕ
greatest_of found [] = found
greatest_of found (id ∷ ids) = greatest_of (greater_of found (Some id)) ids

-- the first of ids is among them, and so are the rest

pub in_first : (n id : ℕ) (ids : List ℕ) → n ≡ id → is_in n (id ∷ ids) ≡ true
in_first n id ids e = or_left (nat_eq n id) (is_in n ids) (eq-eqb n id e)

pub in_rest : (n id : ℕ) (ids : List ℕ) → is_in n ids ≡ true → is_in n (id ∷ ids) ≡ true
in_rest n id ids h = or_right (nat_eq n id) (is_in n ids) h

pub in_cases : (n id : ℕ) (ids : List ℕ) → is_in n (id ∷ ids) ≡ true → (n ≡ id) ⊎ (is_in n ids ≡ true)
in_cases n id ids h = elim (or_cases (nat_eq n id) (is_in n ids) h) [ inl here ↦ inl (eqb-true n id here) | inr rest ↦ inr rest ]

-- the last is at or above the bound, and among them if it is not the bound

pub last_in : (low : ℕ) (ids : List ℕ) → (last_or low ids ≡ low) ⊎ (is_in (last_or low ids) ids ≡ true)
last_in low [] = inl refl
last_in low (id ∷ ids) = elim (last_in id ids) [ inl e ↦ inr (in_first (last_or id ids) id ids e) | inr h ↦ inr (in_rest (last_or id ids) id ids h) ]

pub last_least : (low : ℕ) (ids : List ℕ) → AscendsFrom low ids → low ≤ last_or low ids
last_least low [] h = omega arith
last_least low (id ∷ ids) h = omega (arith, h.0, last_least id ids h.1)

-- each is above the bound, and at most the last
pub ascends_within : (low : ℕ) (ids : List ℕ) → AscendsFrom low ids → (n : ℕ) → is_in n ids ≡ true → (low < n) × (n ≤ last_or low ids)
ascends_within low [] h n e = cc
ascends_within low (id ∷ ids) h n e =
    elim (in_cases n id ids e) [
      | inl here ↦ (omega (arith, here, h.0), omega (arith, here, last_least id ids h.1))
      | inr rest ↦ (let w = ascends_within id ids h.1 n rest in (omega (arith, w.0, h.0), w.1))
    ]

ascends_less : (low less : ℕ) (ids : List ℕ) → less ≤ low → AscendsFrom low ids → AscendsFrom less ids
ascends_less low less [] le h = tt
ascends_less low less (id ∷ ids) le h = (omega (arith, le, h.0), h.1)

-- the first so many of them

pub take_ascends : (limit low : ℕ) (ids : List ℕ) → AscendsFrom low ids → AscendsFrom low (take limit ids)
take_ascends zero low ids h = tt
take_ascends (suc limit) low [] h = tt
take_ascends (suc limit) low (id ∷ ids) h = (h.0, take_ascends limit id ids h.1)

pub take_in : (limit : ℕ) (ids : List ℕ) (n : ℕ) → is_in n (take limit ids) ≡ true → is_in n ids ≡ true
take_in zero ids n e = cc
take_in (suc limit) [] n e = cc
take_in (suc limit) (id ∷ ids) n e = elim (in_cases n id (take limit ids) e) [ inl here ↦ in_first n id ids here | inr rest ↦ in_rest n id ids (take_in limit ids n rest) ]

-- they have each that is at most their last
pub take_has : (limit low : ℕ) (ids : List ℕ) → AscendsFrom low ids → (n : ℕ) → is_in n ids ≡ true → n ≤ last_or low (take limit ids) → is_in n (take limit ids) ≡ true
take_has zero low ids h n e le = absurd (let w = ascends_within low ids h n e in omega (arith, w.0, le))
take_has (suc limit) low [] h n e le = cc
take_has (suc limit) low (id ∷ ids) h n e le = elim (in_cases n id ids e) [ inl here ↦ in_first n id (take limit ids) here | inr rest ↦ in_rest n id (take limit ids) (take_has limit id ids h.1 n rest le) ]

-- those that pass a test

pub filter_ascends : (p : ℕ → Bool) (low : ℕ) (ids : List ℕ) → AscendsFrom low ids → AscendsFrom low (filter p ids)
filter_ascends p low [] h = tt
filter_ascends p low (id ∷ ids) h =
    let rest = filter_ascends p id ids h.1 in
    elim (cases_Bool (p id)) [
      | inl e ↦ rw e (h.0, rest)
      | inr e ↦ rw e (let lt = h.0 in ascends_less id low (filter p ids) (omega (arith, lt)) rest)
    ]

pub filter_in : (p : ℕ → Bool) (ids : List ℕ) (n : ℕ) → is_in n (filter p ids) ≡ true → (is_in n ids ≡ true) × (p n ≡ true)
filter_in p [] n e = cc
filter_in p (id ∷ ids) n e =
    elim (cases_Bool (p id)) [
      | inl passes ↦
          elim (in_cases n id (filter p ids) (rw passes at e)) [
            | inl here ↦ (in_first n id ids here, ap p here ∙ passes)
            | inr rest ↦ (let w = filter_in p ids n rest in (in_rest n id ids w.0, w.1))
          ]
      | inr fails ↦ (let w = filter_in p ids n (rw fails at e) in (in_rest n id ids w.0, w.1))
    ]

pub filter_has : (p : ℕ → Bool) (ids : List ℕ) (n : ℕ) → is_in n ids ≡ true → p n ≡ true → is_in n (filter p ids) ≡ true
filter_has p [] n e h = cc
filter_has p (id ∷ ids) n e h =
    elim (in_cases n id ids e) [
      | inl here ↦ (let passes : p id ≡ true = sym (ap p here) ∙ h in rw passes (in_first n id (filter p ids) here))
      | inr rest ↦
          let found = filter_has p ids n rest h in
          elim (cases_Bool (p id)) [ inl passes ↦ rw passes (in_rest n id (filter p ids) found) | inr fails ↦ rw fails found ]
    ]

-- ascending ids after ascending ids

less : (n m : ℕ) → n < m → nat_cmp n m ≡ Less
less n m lt = sym (nat_cmp_is n m Less lt)

below_all : (n low : ℕ) (ids : List ℕ) → n ≤ low → AscendsFrom low ids → AllByRecursion (λ m. nat_cmp n m ≡ Less) ids
below_all n low [] le h = tt
below_all n low (id ∷ ids) le h = let lt = h.0 in (less n id (omega (arith, le, lt)), below_all n id ids (omega (arith, le, lt)) h.1)

below_append : (n low : ℕ) (xs ys : List ℕ) → n ≤ low → AllByRecursion (λ m. nat_cmp n m ≡ Less) xs → AscendsFrom low ys → AllByRecursion (λ m. nat_cmp n m ≡ Less) (xs ++ ys)
below_append n low [] ys le h g = below_all n low ys le g
below_append n low (x ∷ xs) ys le h g = (h.0, below_append n low xs ys le h.1 g)

sorted_from : (low : ℕ) (ids : List ℕ) → AscendsFrom low ids → IsStrictlySortedBy nat_cmp ids
unfolding IsStrictlySortedBy
sorted_from low [] h = tt
sorted_from low (id ∷ ids) h = (below_all id id ids (omega arith) h.1, sorted_from id ids h.1)

pub sorted_append : (low : ℕ) (xs ys : List ℕ) → IsStrictlySortedBy nat_cmp xs → ((n : ℕ) → is_in n xs ≡ true → n ≤ low) → AscendsFrom low ys → IsStrictlySortedBy nat_cmp (xs ++ ys)
unfolding IsStrictlySortedBy
sorted_append low [] ys h up g = sorted_from low ys g
sorted_append low (x ∷ xs) ys h up g = (below_append x low xs ys (up x (in_first x x xs refl)) h.0 g, sorted_append low xs ys h.1 (λ n e. up n (in_rest n x xs e)) g)

-- the greater of two is one of them, and neither is above it

greater_one : (a b : Option ℕ) (n : ℕ) → greater_of a b ≡ Some n → (a ≡ Some n) ⊎ (b ≡ Some n)
greater_one None b n e = inr e
greater_one (Some k) None n e = inl e
greater_one (Some k) (Some m) n e =
    elim (cases_lt k m) [
      | inl lt ↦ inr (let is = same_Some (max k m) n e in ap Some (omega (arith, lt, is)))
      | inr le ↦ inl (let is = same_Some (max k m) n e in ap Some (omega (arith, le, is)))
    ]

greater_left : (a b : Option ℕ) (n : ℕ) → a ≡ Some n → (m : ℕ) × (greater_of a b ≡ Some m) × (n ≤ m)
greater_left None b n e = cc
greater_left (Some k) None n e = let is = same_Some k n e in (k, refl, omega (arith, is))
greater_left (Some k) (Some m) n e = let is = same_Some k n e in (max k m, refl, omega (arith, is))

greater_right : (a b : Option ℕ) (n : ℕ) → b ≡ Some n → (m : ℕ) × (greater_of a b ≡ Some m) × (n ≤ m)
greater_right None b n e = (n, e, omega arith)
greater_right (Some k) None n e = cc
greater_right (Some k) (Some m) n e = let is = same_Some m n e in (max k m, refl, omega (arith, is))

-- the greatest is one of them, and none is above it

pub greatest_one : (found : Option ℕ) (ids : List ℕ) (n : ℕ) → greatest_of found ids ≡ Some n → (found ≡ Some n) ⊎ (is_in n ids ≡ true)
greatest_one found [] n e = inl e
greatest_one found (id ∷ ids) n e =
    elim (greatest_one (greater_of found (Some id)) ids n e) [
      | inl h ↦ elim (greater_one found (Some id) n h) [ inl a ↦ inl a | inr b ↦ inr (in_first n id ids (sym (same_Some id n b))) ]
      | inr h ↦ inr (in_rest n id ids h)
    ]

pub greatest_most : (found : Option ℕ) (ids : List ℕ) (n : ℕ) → (found ≡ Some n) ⊎ (is_in n ids ≡ true) → (m : ℕ) × (greatest_of found ids ≡ Some m) × (n ≤ m)
greatest_most found [] n (inl e) = (n, e, omega arith)
greatest_most found [] n (inr h) = cc
greatest_most found (id ∷ ids) n (inl e) =
    let up = greater_left found (Some id) n e in
    let rest = greatest_most (greater_of found (Some id)) ids up.0 (inl up.1) in
    (rest.0, rest.1, omega (arith, up.2, rest.2))
greatest_most found (id ∷ ids) n (inr h) =
    elim (in_cases n id ids h) [
      | inl here ↦
          let up = greater_right found (Some id) n (ap Some (sym here)) in
          let rest = greatest_most (greater_of found (Some id)) ids up.0 (inl up.1) in
          (rest.0, rest.1, omega (arith, up.2, rest.2))
      | inr there ↦ greatest_most (greater_of found (Some id)) ids n (inr there)
    ]
