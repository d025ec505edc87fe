-- The versions that a read holds: what holds of each, and which is the greatest.
use Rattle.std.proofs.Common.{◌≡◌, ℕ, zero, suc, ◌-◌, ◌<◌, ◌≤◌, ◌==◌, nat_lt, true, false, List, [], ◌∷◌, length, slice_get, Option, Some, None, inl, inr, refl, sym, ap, subst, arith}
use Rattle.std.proofs.lemmas.Bool.{cases_Bool, eq-eqb, eqb-true, eqb-false, ltb-false}
use Rattle.std.proofs.lemmas.Option.{same_Some}
use Rattle.txn_store.specs.VersionName.{Names}
use Rattle.txn_store.specs.Store.{Files}
use Rattle.txn_steps.specs.declared.boundary.caches.Cached.{Cached}
use Rattle.txn_steps.specs.boundary.Windows.{AscendsFrom, Ascends, held, greatest_held, placed, replaced, kept_beside, kept}
use Rattle.txn_steps_driven.specs.Standing.{Carried, WindowFits}
use Rattle.txn_steps_driven.specs.LatestReads.{IsOneOf, Every, UpTo, IsStored, IsHeldOrStored, kept_each, HasGrown}

module _ (P : Cached → Type 0) where
  every_placed : (version : Cached) (versions : List Cached) → P version → Every P versions → Every P (placed version versions)
  every_placed version [] p h = (p, tt)
  every_placed version (first ∷ versions) p h = elim (cases_Bool (nat_lt first.id version.id)) [ inl lt ↦ rw lt (h.0, every_placed version versions p h.1) | inr ge ↦ rw ge (p, h) ]

  every_replaced : (version : Cached) (versions : List Cached) → P version → Every P versions → Every P (replaced version versions)
  every_replaced version [] p h = tt
  every_replaced version (first ∷ versions) p h = elim (cases_Bool (nat_lt first.id version.id)) [ inl lt ↦ rw lt (every_placed version versions p h.1) | inr ge ↦ rw ge h ]

  every_beside : (same : Option Cached) (version : Cached) (versions : List Cached) → P version → Every P versions → Every P (kept_beside same version versions)
  every_beside (Some same) version versions p h = h
  every_beside None version versions p h = elim (cases_Bool (nat_lt (length versions) 8)) [ inl lt ↦ rw lt (every_placed version versions p h) | inr ge ↦ rw ge (every_replaced version versions p h) ]

  -- caching one more
  pub every_kept : (version : Cached) (versions : List Cached) → P version → Every P versions → Every P (kept version versions)
  every_kept version versions p h = every_beside (held version.id versions) version versions p h

  -- the held version of an id
  pub every_held : (id : ℕ) (versions : List Cached) (version : Cached) → Every P versions → held id versions ≡ Some version → P version × (version.id ≡ id)
  every_held id [] version h e = cc
  every_held id (first ∷ versions) version h e =
      elim (cases_Bool (first.id == id)) [
        | inl same ↦
            let is : Some first ≡ Some version = rw same at e in
            subst (λ (v : Cached). P v × (v.id ≡ id)) (same_Some first version is) (h.0, eqb-true first.id id same)
        | inr other ↦ every_held id versions version h.1 (rw other at e)
      ]

  pub every_one : (versions : List Cached) (version : Cached) → Every P versions → IsOneOf versions version → P version
  every_one [] version h is = absurd is
  every_one (first ∷ versions) version h (inl same) = subst P same h.0
  every_one (first ∷ versions) version h (inr more) = every_one versions version h.1 more

  pub every_if : (versions : List Cached) → ((version : Cached) → IsOneOf versions version → P version) → Every P versions
  every_if [] h = tt
  every_if (first ∷ versions) h = (h first (inl refl), every_if versions (λ version is. h version (inr is)))

-- what holds of each also holds in another form
pub every_as : (P Q : Cached → Type 0) (versions : List Cached) → ((version : Cached) → P version → Q version) → Every P versions → Every Q versions
every_as P Q [] f h = tt
every_as P Q (first ∷ versions) f h = (f first h.0, every_as P Q versions f h.1)

module _ {T : Type 0} (decode : List ℕ → Option T) (history : List T) (b : ℕ) where
  pub every_carried : (versions : List Cached) → WindowFits decode history b versions → Every (Carried decode history b) versions
  every_carried [] h = tt
  every_carried (first ∷ versions) h = (h.0, every_carried versions h.1)

  pub carried_every : (versions : List Cached) → Every (Carried decode history b) versions → WindowFits decode history b versions
  carried_every [] h = tt
  carried_every (first ∷ versions) h = (h.0, carried_every versions h.1)

-- what was held grows by stored versions
module _ (names : Names) (files : Files) (first : List Cached) where
  pub grown_none : HasGrown names files first first
  grown_none = ([], tt, refl)

  pub grown_kept : (version : Cached) (latest : List Cached) → IsStored names files version → HasGrown names files first latest → HasGrown names files first (kept version latest)
  grown_kept version latest stored (versions, each, is) = (version ∷ versions, (stored, each), ap (kept version) is)

  each_every : (versions : List Cached) → Every (IsStored names files) versions → Every (IsHeldOrStored names files first) (kept_each versions first)
  each_every [] each = every_if (IsHeldOrStored names files first) first (λ version one. inl one)
  each_every (version ∷ versions) each = every_kept (IsHeldOrStored names files first) version (kept_each versions first) (inr each.0) (each_every versions each.1)

  pub grown_every : (latest : List Cached) → HasGrown names files first latest → Every (IsHeldOrStored names files first) latest
  grown_every latest (versions, each, is) = subst (Every (IsHeldOrStored names files first)) (sym is) (each_every versions each)

-- at or below an id

abbrev AtMost : ℕ → Cached → Type 0
AtMost id version = version.id ≤ id

up_every : (id : ℕ) (versions : List Cached) → UpTo id versions → Every (AtMost id) versions
up_every id [] h = tt
up_every id (first ∷ versions) h = (h.0, up_every id versions h.1)

every_up : (id : ℕ) (versions : List Cached) → Every (AtMost id) versions → UpTo id versions
every_up id [] h = tt
every_up id (first ∷ versions) h = (h.0, every_up id versions h.1)

pub up_if : (P : Cached → Type 0) (id : ℕ) (versions : List Cached) → ((version : Cached) → P version → version.id ≤ id) → Every P versions → UpTo id versions
up_if P id versions f h = every_up id versions (every_as P (AtMost id) versions f h)

pub up_more : (id more : ℕ) (versions : List Cached) → id ≤ more → UpTo id versions → UpTo more versions
up_more id more versions le h = up_if (AtMost id) more versions (λ version at. omega (arith, at, le)) (up_every id versions h)

pub up_one : (id : ℕ) (versions : List Cached) (version : Cached) → UpTo id versions → IsOneOf versions version → version.id ≤ id
up_one id versions version h is = every_one (AtMost id) versions version (up_every id versions h) is

pub up_kept : (version : Cached) (versions : List Cached) → UpTo version.id versions → UpTo version.id (kept version versions)
up_kept version versions h = every_up version.id (kept version versions) (every_kept (AtMost version.id) version versions (omega arith) (up_every version.id versions h))

-- the greatest held is the last

last_up : (first : Cached) (versions : List Cached) (hand : Cached) → AscendsFrom first.id versions → slice_get (first ∷ versions) (length versions) ≡ Some hand → (first.id ≤ hand.id) × UpTo hand.id versions
last_up first [] hand h e = let same = ap (λ (c : Cached). c.id) (same_Some first hand e) in (omega (arith, same), tt)
last_up first (second ∷ versions) hand h e =
    let rest = last_up second versions hand h.1 e in
    let up = h.0 in
    (omega (arith, up, rest.0), (rest.0, rest.1))

pub up_greatest : (versions : List Cached) (hand : Cached) → Ascends versions → greatest_held versions ≡ Some hand → UpTo hand.id versions
up_greatest [] hand h e = tt
up_greatest (first ∷ versions) hand h e =
    let at : length (first ∷ versions) - 1 ≡ length versions = omega arith in
    last_up first versions hand h (subst (λ (k : ℕ). slice_get (first ∷ versions) k ≡ Some hand) at e)

one_get : (k : ℕ) (versions : List Cached) (version : Cached) → slice_get versions k ≡ Some version → IsOneOf versions version
one_get k [] version e = cc
one_get zero (first ∷ versions) version e = inl (same_Some first version e)
one_get (suc k) (first ∷ versions) version e = inr (one_get k versions version e)

pub one_greatest : (versions : List Cached) (version : Cached) → greatest_held versions ≡ Some version → IsOneOf versions version
one_greatest versions version e = one_get (length versions - 1) versions version e

last_there : (first : Cached) (versions : List Cached) → slice_get (first ∷ versions) (length versions) ≡ None → ⊥
last_there first [] e = cc
last_there first (second ∷ versions) e = last_there second versions e

pub none_greatest : (versions : List Cached) → greatest_held versions ≡ None → versions ≡ []
none_greatest [] e = refl
none_greatest (first ∷ versions) e =
    let at : length (first ∷ versions) - 1 ≡ length versions = omega arith in
    absurd (last_there first versions (subst (λ (k : ℕ). slice_get (first ∷ versions) k ≡ None) at e))

pub one_held : (id : ℕ) (versions : List Cached) (version : Cached) → held id versions ≡ Some version → IsOneOf versions version
one_held id [] version e = cc
one_held id (first ∷ versions) version e =
    elim (cases_Bool (first.id == id)) [
      | inl same ↦ inl (let is : Some first ≡ Some version = rw same at e in same_Some first version is)
      | inr other ↦ inr (one_held id versions version (rw other at e))
    ]

-- what is held once it is kept

itself : (n : ℕ) → (n == n) ≡ true
itself n = eq-eqb n n refl

first_other : (id : ℕ) (first : Cached) (versions : List Cached) → held id (first ∷ versions) ≡ None → ((first.id == id) ≡ false) × (held id versions ≡ None)
first_other id first versions none =
    elim (cases_Bool (first.id == id)) [
      | inl same ↦ (let is : Some first ≡ None = rw same at none in cc)
      | inr other ↦ (other, rw other at none)
    ]

pub held_above : (low id : ℕ) (versions : List Cached) → UpTo low versions → low < id → held id versions ≡ None
held_above low id [] h lt = refl
held_above low id (first ∷ versions) h lt =
    elim (cases_Bool (first.id == id)) [
      | inl same ↦ absurd (let e = eqb-true first.id id same in let le = h.0 in omega (arith, e, le, lt))
      | inr other ↦ rw other (held_above low id versions h.1 lt)
    ]

held_placed : (version : Cached) (versions : List Cached) → held version.id versions ≡ None → held version.id (placed version versions) ≡ Some version
held_placed version [] none = rw (itself version.id) refl
held_placed version (first ∷ versions) none =
    let other = first_other version.id first versions none in
    elim (cases_Bool (nat_lt first.id version.id)) [
      | inl lt ↦ rw (lt, other.0) (held_placed version versions other.1)
      | inr ge ↦ rw (ge, itself version.id) refl
    ]

held_replaced : (version : Cached) (versions : List Cached) → 0 < length versions → UpTo version.id versions → held version.id versions ≡ None → held version.id (replaced version versions) ≡ Some version
held_replaced version [] some up none = absurd (omega (arith, some))
held_replaced version (first ∷ versions) some up none =
    let other = first_other version.id first versions none in
    elim (cases_Bool (nat_lt first.id version.id)) [
      | inl lt ↦ rw lt (held_placed version versions other.1)
      | inr ge ↦ absurd (let le = ltb-false first.id version.id ge in let most = up.0 in let apart = eqb-false first.id version.id other.0 in omega (arith, le, most, apart))
    ]

pub held_kept : (version : Cached) (versions : List Cached) → UpTo version.id versions → held version.id versions ≡ None → held version.id (kept version versions) ≡ Some version
held_kept version versions up none =
    rw none (elim (cases_Bool (nat_lt (length versions) 8)) [
      | inl few ↦ rw few (held_placed version versions none)
      | inr many ↦ rw many (held_replaced version versions (let le = ltb-false (length versions) 8 many in omega (arith, le)) up none)
    ])

-- a version whose id is held changes nothing
pub held_same : (version same : Cached) (versions : List Cached) → held version.id versions ≡ Some same → held version.id (kept version versions) ≡ Some same
held_same version same versions is = rw is is

last_held : (first : Cached) (versions : List Cached) (hand : Cached) → AscendsFrom first.id versions → slice_get (first ∷ versions) (length versions) ≡ Some hand → held hand.id (first ∷ versions) ≡ Some hand
last_held first [] hand h e =
    let same : first ≡ hand = same_Some first hand e in
    let at : (first.id == hand.id) ≡ true = eq-eqb first.id hand.id (ap (λ (c : Cached). c.id) same) in
    rw at (ap Some same)
last_held first (second ∷ versions) hand h e =
    let up = (last_up second versions hand h.1 e).0 in
    let lt = h.0 in
    let other : (first.id == hand.id) ≡ false = apart first.id hand.id (omega (arith, up, lt)) in
    rw other (last_held second versions hand h.1 e)
  where
    apart : (n m : ℕ) → n < m → (n == m) ≡ false
    apart n m lt = elim (cases_Bool (n == m)) [ inl same ↦ absurd (let e = eqb-true n m same in omega (arith, e, lt)) | inr other ↦ other ]

pub held_greatest : (versions : List Cached) (hand : Cached) → Ascends versions → greatest_held versions ≡ Some hand → held hand.id versions ≡ Some hand
held_greatest [] hand h e = cc
held_greatest (first ∷ versions) hand h e =
    let at : length (first ∷ versions) - 1 ≡ length versions = omega arith in
    last_held first versions hand h (subst (λ (k : ℕ). slice_get (first ∷ versions) k ≡ Some hand) at e)
