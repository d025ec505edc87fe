-- Lemmas on parts and segments.
use Rattle.std.proofs.Common.{◌≡◌, ℕ, List, [], ◌∷◌, ◌++◌, Bool, true, false, cond, not, length, refl, ap, ◌||◌, ◌&&◌, ◌==◌}
use Rattle.std.specs.Prelude.{nat_eq}
use Rattle.std.specs.Cmp.Lexicographic.{pointwise}
use Rattle.std.proofs.lemmas.Bool.{eqb-true}
use Rattle.std.specs.List.{list_all}
use Rattle.txn_store.specs.Paths.{Segments, is_plain, all_plain, named}

-- both sides of a test
pub and_left : (a b : Bool) → (a && b) ≡ true → a ≡ true
and_left true b h = refl
and_left false b h = h

pub and_right : (a b : Bool) → (a && b) ≡ true → b ≡ true
and_right true b h = h
and_right false b h = absurd (cc)

-- a part is empty or plain
abbrev pub is_fine : List ℕ → Bool
is_fine p = length p == 0 || is_plain p

pub all_fine : (ps : Segments) → list_all is_fine ps ≡ all_plain (named ps)
all_fine [] = refl
all_fine (p ∷ ps) = elim (length p == 0) as (λ t. ((t || is_plain p) && list_all is_fine ps) ≡ all_plain (cond (not t) (p ∷ named ps) (named ps))) [
  | true ↦ all_fine ps
  | false ↦ ap (λ r. is_plain p && r) (all_fine ps)
]

-- lists that are equal by a test
same_by : {A : Type 0} (E : A → A → Bool) → ((x y : A) → E x y ≡ true → x ≡ y) → (xs ys : List A) → pointwise E xs ys ≡ true → xs ≡ ys
same_by E sound [] [] h = refl
same_by E sound [] (y ∷ ys) h = absurd (cc)
same_by E sound (x ∷ xs) [] h = absurd (cc)
same_by E sound (x ∷ xs) (y ∷ ys) h = rw (sound x y (and_left (E x y) (pointwise E xs ys) h), same_by E sound xs ys (and_right (E x y) (pointwise E xs ys) h)) refl

pub same_text : (xs ys : List ℕ) → pointwise nat_eq xs ys ≡ true → xs ≡ ys
same_text = same_by nat_eq eqb-true

pub same_segments : (xs ys : Segments) → pointwise (pointwise nat_eq) xs ys ≡ true → xs ≡ ys
same_segments = same_by (pointwise nat_eq) same_text

-- the parts with one more
named_more : (t : Bool) (p : List ℕ) (ps : Segments) → t ≡ false → cond (not t) (p ∷ ps) ps ≡ p ∷ ps
named_more true p ps is = absurd (cc)
named_more false p ps is = refl

pub named-push : (ps : Segments) (p : List ℕ) → (length p == 0) ≡ false → named (ps ++ p ∷ []) ≡ named ps ++ p ∷ []
named-push [] p full = named_more (length p == 0) p [] full
named-push (q ∷ ps) p full = elim (length q == 0) as (λ t. cond (not t) (q ∷ named (ps ++ p ∷ [])) (named (ps ++ p ∷ [])) ≡ cond (not t) (q ∷ named ps) (named ps) ++ p ∷ []) [
  | true ↦ named-push ps p full
  | false ↦ ap (λ r. q ∷ r) (named-push ps p full)
]
