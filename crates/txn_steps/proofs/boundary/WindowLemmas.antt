-- Lemmas on windows.
use Rattle.std.proofs.Common.{◌≡◌, ℕ, suc, ◌-◌, ◌<◌, ◌≤◌, ◌==◌, nat_lt, Bool, true, false, not, if◌then◌else◌, List, [], ◌∷◌, filter, insert, remove, length, Option, Some, None, refl, sym, ap, subst, arith}
use Rattle.std.proofs.lemmas.Bool.{eqb-false, ltb-true, ltb-false, lt-ltb, le-ltb}
use Rattle.txn_steps.specs.declared.boundary.caches.Cached.{Cached}
use Rattle.txn_steps.specs.boundary.Windows.{AscendsFrom, Ascends, held, place_of, placed, replaced, added, kept, without, above}

-- ids that ascend from above a bound ascend from above a smaller one
from_lower : (low high : ℕ) (xs : List Cached) → low ≤ high → AscendsFrom high xs → AscendsFrom low xs
from_lower low high [] le h = h
from_lower low high (x ∷ xs) le h = (omega arith, h.1)

ascends_from : (low : ℕ) (xs : List Cached) → AscendsFrom low xs → Ascends xs
ascends_from low [] h = tt
ascends_from low (x ∷ xs) h = h.1

-- what passes a test ascends as well
module _ (test : Cached → Bool) where
  passing_beside : (b : Bool) (low : ℕ) (x : Cached) (kept : List Cached) → low < x.id → AscendsFrom x.id kept → AscendsFrom low (if b then x ∷ kept else kept)
  passing_beside true low x kept lt h = (lt, h)
  passing_beside false low x kept lt h = from_lower low x.id kept (omega arith) h

  pub passing_from : (low : ℕ) (xs : List Cached) → AscendsFrom low xs → AscendsFrom low (filter test xs)
  passing_from low [] h = h
  passing_from low (x ∷ xs) h = passing_beside (test x) low x (filter test xs) h.0 (passing_from x.id xs h.1)

  passing_first : (b : Bool) (x : Cached) (kept : List Cached) → AscendsFrom x.id kept → Ascends (if b then x ∷ kept else kept)
  passing_first true x kept h = h
  passing_first false x kept h = ascends_from x.id kept h

  pub passing_ascends : (xs : List Cached) → Ascends xs → Ascends (filter test xs)
  passing_ascends [] h = tt
  passing_ascends (x ∷ xs) h = passing_first (test x) x (filter test xs) (passing_from x.id xs h)

pub without_ascends : (id : ℕ) (xs : List Cached) → Ascends xs → Ascends (without id xs)
without_ascends id xs h = passing_ascends (λ version. not (version.id == id)) xs h

pub above_ascends : (id : ℕ) (xs : List Cached) → Ascends xs → Ascends (above id xs)
above_ascends id xs h = passing_ascends (λ version. nat_lt id version.id) xs h

-- a version in its place is inserted there
placed_beside : (b : Bool) (v x : Cached) (xs : List Cached) → placed v xs ≡ insert xs (place_of v.id xs) v
    → (if b then x ∷ placed v xs else v ∷ x ∷ xs) ≡ insert (x ∷ xs) (if b then suc (place_of v.id xs) else 0) v
placed_beside true v x xs e = ap (λ ys. x ∷ ys) e
placed_beside false v x xs e = refl

pub placed_at : (v : Cached) (xs : List Cached) → placed v xs ≡ insert xs (place_of v.id xs) v
placed_at v [] = refl
placed_at v (x ∷ xs) = placed_beside (nat_lt x.id v.id) v x xs (placed_at v xs)

less_one : (n : ℕ) → suc n - 1 ≡ n
less_one n = omega arith

-- where eight are held
replaced_beside : (b : Bool) (v x : Cached) (xs : List Cached) → 0 < (if b then suc (place_of v.id xs) else 0)
    → (if b then placed v xs else x ∷ xs) ≡ insert (remove (x ∷ xs) 0) ((if b then suc (place_of v.id xs) else 0) - 1) v
replaced_beside true v x xs h = subst (λ n. placed v xs ≡ insert xs n v) (sym (less_one (place_of v.id xs))) (placed_at v xs)
replaced_beside false v x xs h = absurd (omega arith)

pub replaced_at : (v : Cached) (xs : List Cached) → 0 < place_of v.id xs → replaced v xs ≡ insert (remove xs 0) (place_of v.id xs - 1) v
replaced_at v [] h = absurd (omega arith)
replaced_at v (x ∷ xs) h = replaced_beside (nat_lt x.id v.id) v x xs h

-- a version that isn't held keeps the order
placed_from_beside : (lt eq : Bool) (low : ℕ) (v x : Cached) (xs : List Cached) → nat_lt x.id v.id ≡ lt → (x.id == v.id) ≡ eq → low < v.id → low < x.id → AscendsFrom x.id xs
    → (if eq then Some x else held v.id xs) ≡ None → (held v.id xs ≡ None → x.id < v.id → AscendsFrom x.id (placed v xs)) → AscendsFrom low (if lt then x ∷ placed v xs else v ∷ x ∷ xs)
placed_from_beside true true low v x xs lt eq lv lx h none rest = absurd (cc)
placed_from_beside true false low v x xs lt eq lv lx h none rest = (lx, rest none (ltb-true x.id v.id lt))
placed_from_beside false true low v x xs lt eq lv lx h none rest = absurd (cc)
placed_from_beside false false low v x xs lt eq lv lx h none rest = (lv, (omega (arith, ltb-false x.id v.id lt, eqb-false x.id v.id eq), h))

pub placed_from : (low : ℕ) (v : Cached) (xs : List Cached) → low < v.id → AscendsFrom low xs → held v.id xs ≡ None → AscendsFrom low (placed v xs)
placed_from low v [] lv h none = (lv, tt)
placed_from low v (x ∷ xs) lv h none = placed_from_beside (nat_lt x.id v.id) (x.id == v.id) low v x xs refl refl lv h.0 h.1 none (λ n l. placed_from x.id v xs l h.1 n)

placed_beside_ascends : (lt eq : Bool) (v x : Cached) (xs : List Cached) → nat_lt x.id v.id ≡ lt → (x.id == v.id) ≡ eq → AscendsFrom x.id xs
    → (if eq then Some x else held v.id xs) ≡ None → Ascends (if lt then x ∷ placed v xs else v ∷ x ∷ xs)
placed_beside_ascends true true v x xs lt eq h none = absurd (cc)
placed_beside_ascends true false v x xs lt eq h none = placed_from x.id v xs (ltb-true x.id v.id lt) h none
placed_beside_ascends false true v x xs lt eq h none = absurd (cc)
placed_beside_ascends false false v x xs lt eq h none = (omega (arith, ltb-false x.id v.id lt, eqb-false x.id v.id eq), h)

pub placed_ascends : (v : Cached) (xs : List Cached) → Ascends xs → held v.id xs ≡ None → Ascends (placed v xs)
placed_ascends v [] h none = tt
placed_ascends v (x ∷ xs) h none = placed_beside_ascends (nat_lt x.id v.id) (x.id == v.id) v x xs refl refl h none

held_later : (b : Bool) (x : Cached) (later : Option Cached) → (if b then Some x else later) ≡ None → later ≡ None
held_later true x later e = absurd (cc)
held_later false x later e = e

replaced_beside_ascends : (b : Bool) (v x : Cached) (xs : List Cached) → AscendsFrom x.id xs → held v.id xs ≡ None → Ascends (if b then placed v xs else x ∷ xs)
replaced_beside_ascends true v x xs h none = placed_ascends v xs (ascends_from x.id xs h) none
replaced_beside_ascends false v x xs h none = h

replaced_ascends : (v : Cached) (xs : List Cached) → Ascends xs → held v.id xs ≡ None → Ascends (replaced v xs)
replaced_ascends v [] h none = tt
replaced_ascends v (x ∷ xs) h none = replaced_beside_ascends (nat_lt x.id v.id) v x xs h (held_later (x.id == v.id) x (held v.id xs) none)

added_beside_ascends : (b : Bool) (v : Cached) (xs : List Cached) → Ascends xs → held v.id xs ≡ None → Ascends (if b then placed v xs else replaced v xs)
added_beside_ascends true v xs h none = placed_ascends v xs h none
added_beside_ascends false v xs h none = replaced_ascends v xs h none

pub added_ascends : (v : Cached) (xs : List Cached) → Ascends xs → held v.id xs ≡ None → Ascends (added v xs)
added_ascends v xs h none = added_beside_ascends (nat_lt (length xs) 8) v xs h none

few_beside : (b : Bool) (v : Cached) (xs : List Cached) → b ≡ true → (if b then placed v xs else replaced v xs) ≡ placed v xs
few_beside true v xs e = refl
few_beside false v xs e = absurd (cc)

pub added_few : (v : Cached) (xs : List Cached) → length xs < 8 → added v xs ≡ placed v xs
added_few v xs few = few_beside (nat_lt (length xs) 8) v xs (lt-ltb (length xs) 8 few)

many_beside : (b : Bool) (v : Cached) (xs : List Cached) → b ≡ false → (if b then placed v xs else replaced v xs) ≡ replaced v xs
many_beside true v xs e = absurd (cc)
many_beside false v xs e = refl

pub added_many : (v : Cached) (xs : List Cached) → 8 ≤ length xs → added v xs ≡ replaced v xs
added_many v xs many = many_beside (nat_lt (length xs) 8) v xs (le-ltb (length xs) 8 many)
