-- Lemmas on scans.
use Rattle.std.proofs.Common.{◌≡◌, ℕ, ◌<◌, ◌≤◌, ◌+◌, ◌==◌, Bool, true, false, cond, List, [], ◌∷◌, ◌++◌, length, get_or, take, drop, Result, Ok, Err, refl, ap, sym, ◌∙◌, arith, take-append-drop}
use Rattle.std.specs.Prelude.{nat_eq, nat_lt, slice_index, Contains, Decides, is_ok}
use Rattle.std.specs.List.Sorted.{IsStrictlyIncreasing}
use Rattle.std.specs.Result.{MatchResult}
use Rattle.std.specs.Cmp.Lexicographic.{pointwise, same_text, other_text}
use Rattle.std.proofs.lemmas.Bool.{ltb-true, ltb-false}
use Rattle.std.proofs.lemmas.List.{get_or_default, drop_more, drop_all}
use Rattle.std.proofs.lemmas.List.Kept.{AllPairs-from_increasing}
use Rattle.std.proofs.Math.Seq.{take-append_seam}
use Rattle.txn_folder.specs.steps.Scans.{BeginsAbove, IsSameUpTo, followed}

pub not_front : (these those : List ℕ) (last : ℕ) → pointwise nat_eq (take (length these) those) these ≡ false → ¬ (IsSameUpTo last these those)
not_front these those last h (rest, is, above) = other_text (take (length these) those) these (sym h) (ap (take (length these)) is ∙ take-append_seam these rest)

pub front : (these those rest : List ℕ) → pointwise nat_eq (take (length these) those) these ≡ true → rest ≡ drop (length these) those → those ≡ these ++ rest
front these those rest h is = sym (take-append-drop (length these) those) ∙ rw (same_text (take (length these) those) these (sym h), sym is) refl

after_front : (these xs ys : List ℕ) → these ++ xs ≡ these ++ ys → xs ≡ ys
after_front [] xs ys h = h
after_front (id ∷ these) xs ys h = after_front these xs ys cc

pub other_rest : (these those rest : List ℕ) (last : ℕ) → those ≡ these ++ rest → ¬ (BeginsAbove last rest) → ¬ (IsSameUpTo last these those)
other_rest these those rest last is not_above (others, others_are, above) =
    let same : rest ≡ others = after_front these rest others (sym is ∙ others_are) in
    not_above (rw same above)

pub ascends : (xs : List ℕ) → IsStrictlyIncreasing xs → (i j : ℕ) → i ≤ j → j < length xs → get_or xs i 0 ≤ get_or xs j 0
ascends xs up i j h l = by (nat_lt i j) refl
  where
    by : (b : Bool) → nat_lt i j ≡ b → get_or xs i 0 ≤ get_or xs j 0
    by true is = let below = AllPairs-from_increasing xs up i j 0 (ltb-true i j is) l in omega (arith, below)
    by false is = let least = ltb-false i j is in let same : i ≡ j = omega (arith, least, h) in rw same (omega arith)

pub found_in : (xs : List ℕ) (x : ℕ) (r : Result ℕ ℕ) (b : Bool) → MatchResult r (λ i. (i < length xs) × (get_or xs i 0 ≡ x)) (λ i. (i ≤ length xs) × ((k : ℕ) → k < i → get_or xs k 0 < x) × ((k : ℕ) → i ≤ k → k < length xs → x < get_or xs k 0)) → b ≡ is_ok r → Decides b (Contains xs x)
found_in xs x (Ok i) b h is = (λ _. (i, h.0, get_or_default xs i x 0 h.0 ∙ h.1), λ _. is)
found_in xs x (Err i) b h is = (λ e. absurd (cc), λ (k, l, found). absurd (lost k l (get_or_default xs k 0 x l ∙ found) (nat_lt k i) refl))
  where
    lost : (k : ℕ) → k < length xs → get_or xs k 0 ≡ x → (b : Bool) → nat_lt k i ≡ b → ⊥
    lost k l is true below = let less = h.1 k (ltb-true k i below) in omega (arith, less, is)
    lost k l is false not_below = let least = ltb-false k i not_below in let more = h.2 k (omega (arith, least)) l in omega (arith, more, is)

front_by : (last id : ℕ) (ids : List ℕ) → take (length (followed id ids)) ids ≡ followed id ids → (b : Bool) → take (length (cond b (id ∷ followed id ids) [])) (id ∷ ids) ≡ cond b (id ∷ followed id ids) []
front_by last id ids more true = ap (λ r. id ∷ r) more
front_by last id ids more false = refl

-- a run is the front of its list
pub run_front : (last : ℕ) (ids : List ℕ) → take (length (followed last ids)) ids ≡ followed last ids
run_front last [] = refl
run_front last (id ∷ ids) = front_by last id ids (run_front id ids) (id == last + 1)

-- where the next id does not follow, or none is left, the run has ended
ended : (count last end : ℕ) (ids left : List ℕ) → count + length (followed end left) ≡ length (followed last ids) → followed end left ≡ [] → take count ids ≡ followed last ids
ended count last end ids left so_far none =
    let all : count ≡ length (followed last ids) = let e = rw none at so_far in omega (arith, e) in
    rw all (run_front last ids)

pub ended_at : (count last end i : ℕ) (ids : List ℕ) → i < length ids → (get_or ids i 0 == end + 1) ≡ false → count + length (followed end (drop i ids)) ≡ length (followed last ids) → take count ids ≡ followed last ids
ended_at count last end i ids within other so_far = ended count last end ids (drop i ids) so_far (ap (followed end) (drop_more ids i 0 within) ∙ rw other refl)

pub ended_all : (count last end i : ℕ) (ids : List ℕ) → length ids ≤ i → count + length (followed end (drop i ids)) ≡ length (followed last ids) → take count ids ≡ followed last ids
ended_all count last end i ids all so_far = ended count last end ids (drop i ids) so_far (ap (followed end) (drop_all i ids all))

-- one more id is among those
pub more_among : (those these : List ℕ) (i : ℕ) → ((k : ℕ) → k < i → Contains those (slice_index these k)) → Contains those (slice_index these i) → (k : ℕ) → k < i + 1 → Contains those (slice_index these k)
more_among those these i before here k below = by (nat_lt k i) refl
  where
    by : (b : Bool) → nat_lt k i ≡ b → Contains those (slice_index these k)
    by true is = before k (ltb-true k i is)
    by false is = let least = ltb-false k i is in let same : k ≡ i = omega (arith, least, below) in rw same here
