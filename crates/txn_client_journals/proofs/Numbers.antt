-- Numbers of what clients count by themselves.
use Rattle.std.proofs.Common.{◌≡◌, ◌≢◌, ℕ, ◌+◌, ◌-◌, ◌<◌, ◌≤◌, List, [], ◌∷◌, length, set, Some, ◌==◌, nat_lt, false, ◌⊎◌, inl, inr, refl, sym, ◌∙◌, ap, arith}
use Rattle.std.proofs.lemmas.Bool.{cases_Bool, cases_eq, eq-eqb, ne_eqb, lt-ltb}
use Rattle.txn_history.specs.Lists.{numbered}
use Rattle.txn_machine.proofs.plain.Lists.{within, numbered_other}
use Rattle.txn_client_journals.specs.Numbers.{count, number, number_or_next}

pub count_own : (client : ℕ) (owners : List ℕ) → count client (client ∷ owners) ≡ count client owners + 1
count_own client owners = rw (eq-eqb client client refl) refl

pub count_other : (owner client : ℕ) (owners : List ℕ) → owner ≢ client → count client (owner ∷ owners) ≡ count client owners
count_other owner client owners ne = rw (ne_eqb owner client ne) refl

count_grows : (owner client : ℕ) (owners : List ℕ) → count client owners ≤ count client (owner ∷ owners)
count_grows owner client owners = elim (cases_Bool (owner == client)) [ inl e ↦ rw e (omega arith) | inr e ↦ rw e (omega arith) ]

-- the newest
pub number_own : (client : ℕ) (owners : List ℕ) → number (client ∷ owners) client (count client owners + 1) ≡ length owners + 1
number_own client owners = rw (eq-eqb client client refl, eq-eqb (count client owners + 1) (count client owners + 1) refl) refl

-- those before it stay
pub number_old : (owner client k : ℕ) (owners : List ℕ) → k ≤ count client owners → number (owner ∷ owners) client k ≡ number owners client k
number_old owner client k owners le =
    let other : (k == count client owners + 1) ≡ false = ne_eqb k (count client owners + 1) (λ e. absurd (omega (arith, e, le))) in
    elim (cases_Bool (owner == client)) [ inl e ↦ rw (e, other) refl | inr e ↦ rw e refl ]

-- it is the newest, or one of those before
record IsNewest (owner client k : ℕ) (owners : List ℕ) : Type 0 where
  own : owner ≡ client
  last : k ≡ count client owners + 1
  at : number (owner ∷ owners) client k ≡ length owners + 1

record IsOlder (owner client k : ℕ) (owners : List ℕ) : Type 0 where
  before : k ≤ count client owners
  at : number (owner ∷ owners) client k ≡ number owners client k

placed : (owner client k : ℕ) (owners : List ℕ) → k ≤ count client (owner ∷ owners) → IsNewest owner client k owners ⊎ IsOlder owner client k owners
placed owner client k owners le =
    elim (cases_eq owner client) [
      | inl own ↦ elim (cases_eq k (count client owners + 1)) [
        | inl last ↦ inl (record { own = own; last = last; at = rw (eq-eqb owner client own, eq-eqb k (count client owners + 1) last) refl })
        | inr ne ↦ (let total : count client (owner ∷ owners) ≡ count client owners + 1 = rw (eq-eqb owner client own) refl in let lo : k ≤ count client owners = omega (arith, le, ne, total) in inr (record { before = lo; at = number_old owner client k owners lo }))
      ]
      | inr other ↦ (let total = count_other owner client owners other in let lo : k ≤ count client owners = omega (arith, le, total) in inr (record { before = lo; at = number_old owner client k owners lo }))
    ]

pub record IsWithin (n total : ℕ) : Type 0 where
  pub above : 1 ≤ n
  pub below : n ≤ total

pub number_within : (client k : ℕ) (owners : List ℕ) → 1 ≤ k → k ≤ count client owners → IsWithin (number owners client k) (length owners)
number_within client k [] some le = absurd (omega (arith, some, le))
number_within client k (owner ∷ owners) some le =
    elim (placed owner client k owners le) [
      | inl new ↦ (let at = new.at in record { above = omega (arith, at); below = omega (arith, at) })
      | inr old ↦ (let at = old.at in let rest = number_within client k owners some old.before in record { above = omega (arith, at, rest.above); below = omega (arith, at, rest.below) })
    ]

-- different numbers of clients are different numbers of all
pub number_apart : (client k other j : ℕ) (owners : List ℕ) → 1 ≤ k → k ≤ count client owners → 1 ≤ j → j ≤ count other owners → number owners client k ≡ number owners other j → (client ≡ other) × (k ≡ j)
number_apart client k other j [] some le one less same = absurd (omega (arith, some, le))
number_apart client k other j (owner ∷ owners) some le one less same =
    elim (placed owner client k owners le) [
      | inl new ↦ elim (placed owner other j owners less) [
        | inl now ↦ (let client_is : client ≡ other = sym new.own ∙ now.own in (client_is, new.last ∙ (ap (λ c. count c owners + 1) client_is ∙ sym now.last)))
        | inr old ↦ absurd (let w = number_within other j owners one old.before in omega (arith, new.at, old.at, same, w.below))
      ]
      | inr old ↦ elim (placed owner other j owners less) [
        | inl now ↦ absurd (let w = number_within client k owners some old.before in omega (arith, now.at, old.at, same, w.below))
        | inr older ↦ number_apart client k other j owners some old.before one older.before (sym old.at ∙ (same ∙ older.at))
      ]
    ]

-- with the next number

pub known_number : (client k : ℕ) (owners : List ℕ) → k ≤ count client owners → number_or_next owners client k ≡ number owners client k
known_number client k owners le = elim (cases_Bool (nat_lt (count client owners) k)) [
  | inl e ↦ absurd (let lt = Rattle.std.proofs.lemmas.Bool.ltb-true (count client owners) k e in omega (arith, lt, le))
  | inr e ↦ rw e refl
]

pub next_number : (client : ℕ) (owners : List ℕ) → number_or_next owners client (count client owners + 1) ≡ length owners + 1
next_number client owners = rw (lt-ltb (count client owners) (count client owners + 1) (omega arith)) refl

-- a client's later numbers are greater
pub number_grows : (client j k : ℕ) (owners : List ℕ) → 1 ≤ j → j < k → k ≤ count client owners → number owners client j < number owners client k
number_grows client j k [] one lt le = absurd (omega (arith, one, lt, le))
number_grows client j k (owner ∷ owners) one lt le =
    elim (placed owner client k owners le) [
      | inl new ↦ (
          let last = new.last in
          let lo : j ≤ count client owners = omega (arith, lt, last) in
          let w = number_within client j owners one lo in
          let old = number_old owner client j owners lo in
          let at = new.at in
          omega (arith, at, old, w.below))
      | inr older ↦ (
          let le' = older.before in
          let lo : j ≤ count client owners = omega (arith, lt, le') in
          let less = number_grows client j k owners one lt le' in
          let old = number_old owner client j owners lo in
          let at = older.at in
          omega (arith, at, old, less))
    ]

-- where one is set under a client's number, what stands under another client's stays
pub set_apart : {A : Type 0} (all : List A) (client d k j : ℕ) (owners : List ℕ) (was x : A) → numbered all (number owners client k) ≡ Some was → IsWithin k (count client owners) → IsWithin j (count d owners) → client ≢ d →
    numbered (set all (number owners client k - 1) x) (number owners d j) ≡ numbered all (number owners d j)
set_apart all client d k j owners was x there some own ne =
    numbered_other all (number owners client k) (number owners d j) x (within all (number owners client k) was there).0 (λ same. ne (number_apart client k d j owners some.above some.below own.above own.below (sym same)).0)
