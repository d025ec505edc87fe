-- Paths below a prefix stand together, behind it.
use Rattle.std.proofs.Common.{◌≡◌, ℕ, suc, Bool, true, false, ◌&&◌, List, [], ◌∷◌, length, take, refl, sym, ap, ◌∙◌, arith}
use Rattle.std.specs.Prelude.{nat_eq, nat_lt}
use Rattle.std.specs.Cmp.Lexicographic.{pointwise, slice_cmp, texts_ties, nat_list_cmp_total}
use Rattle.std.specs.FinMap.{IsAntisymmetric, nat_cmp-IsAntisymmetric, slice_cmp-IsAntisymmetric}
use Rattle.std.specs.Ordering.{nat_cmp, ordering_then, is_eq}
use Rattle.std.specs.declared.cmp.Ordering.{Ordering}
use Rattle.std.specs.declared.cmp.Ordering.TheVariants.{Less, Equal, Greater}
use Rattle.std.proofs.lemmas.Bool.Decides.{nat_tests}
use Rattle.txn_store.specs.Paths.{Segments, path_cmp, is_below}
use Rattle.txn_store.proofs.PathLemmas.{and_left, and_right}

text_cmp-IsAntisymmetric : IsAntisymmetric (slice_cmp nat_cmp)
text_cmp-IsAntisymmetric = slice_cmp-IsAntisymmetric nat_cmp-IsAntisymmetric

below_step : (s t : List ℕ) (p q : Segments) → is_below (s ∷ p) (t ∷ q) ≡ (pointwise nat_eq s t && is_below p q)
below_step s t p q = let longer : nat_lt (suc (length p)) (suc (length q)) ≡ nat_lt (length p) (length q) = grind (arith, nat_tests) in ap (λ r. (pointwise nat_eq s t && pointwise (pointwise nat_eq) p (take (length p) q)) && r) longer ∙ and_assoc (pointwise nat_eq s t) (pointwise (pointwise nat_eq) p (take (length p) q)) (nat_lt (length p) (length q))
  where
    and_assoc : (a b c : Bool) → ((a && b) && c) ≡ (a && (b && c))
    and_assoc true b c = refl
    and_assoc false b c = refl

-- what is below a prefix comes after it
below_first : (o : Ordering) (s t : List ℕ) → pointwise nat_eq s t ≡ true → slice_cmp nat_cmp s t ≡ o → o ≡ Equal
below_first Less s t same is = let ties = texts_ties s t in absurd (cc)
below_first Equal s t same is = refl
below_first Greater s t same is = let ties = texts_ties s t in absurd (cc)

pub below_above : (p q : Segments) → is_below p q ≡ true → path_cmp p q ≡ Less
below_above [] [] h = absurd (cc)
below_above [] (t ∷ q) h = refl
below_above (s ∷ p) [] h = absurd (cc)
below_above (s ∷ p) (t ∷ q) h =
    let step = sym (below_step s t p q) ∙ h in
    let same = below_first (slice_cmp nat_cmp s t) s t (and_left _ _ step) refl in
    ap (λ r. ordering_then r (path_cmp p q)) same ∙ below_above p q (and_right _ _ step)

-- no file below a prefix comes after one that has passed it
module _ (s t u : List ℕ) (p x y : Segments) (more : path_cmp p x ≡ Less → is_below p x ≡ false → path_cmp x y ≡ Less → is_below p y ≡ false) where
  other_text : slice_cmp nat_cmp s u ≡ Less → (pointwise nat_eq s u && is_below p y) ≡ false
  other_text less = ap (λ r. r && is_below p y) (texts_ties s u ∙ ap is_eq less)

  and_none : (a b : Bool) → b ≡ false → (a && b) ≡ false
  and_none true b h = h
  and_none false b h = refl

  passed : (v w : Ordering) → slice_cmp nat_cmp s t ≡ v → slice_cmp nat_cmp t u ≡ w → ordering_then v (path_cmp p x) ≡ Less → (pointwise nat_eq s t && is_below p x) ≡ false → ordering_then w (path_cmp x y) ≡ Less → (pointwise nat_eq s u && is_below p y) ≡ false
  passed Less Less st tu a b c = other_text (nat_list_cmp_total.trans s t u st tu)
  passed Less Equal st tu a b c = other_text (ap (λ r. slice_cmp nat_cmp s r) (sym (text_cmp-IsAntisymmetric t u tu)) ∙ st)
  passed Less Greater st tu a b c = absurd (cc)
  passed Equal Less st tu a b c = other_text (ap (λ r. slice_cmp nat_cmp r u) (text_cmp-IsAntisymmetric s t st) ∙ tu)
  passed Equal Equal st tu a b c =
      let same : pointwise nat_eq s t ≡ true = texts_ties s t ∙ ap is_eq st in
      and_none (pointwise nat_eq s u) (is_below p y) (more a (rw same at b) c)
  passed Equal Greater st tu a b c = absurd (cc)
  passed Greater w st tu a b c = absurd (cc)

pub none_beyond : (p x y : Segments) → path_cmp p x ≡ Less → is_below p x ≡ false → path_cmp x y ≡ Less → is_below p y ≡ false
none_beyond [] [] y a b c = absurd (cc)
none_beyond [] (t ∷ x) y a b c = let h : nat_lt 0 (suc (length x)) ≡ true = grind (arith, nat_tests) in absurd (cc)
none_beyond (s ∷ p) [] y a b c = absurd (cc)
none_beyond (s ∷ p) (t ∷ x) [] a b c = absurd (cc)
none_beyond (s ∷ p) (t ∷ x) (u ∷ y) a b c = below_step s u p y ∙ passed s t u p x y (none_beyond p x y) (slice_cmp nat_cmp s t) (slice_cmp nat_cmp t u) refl refl a (sym (below_step s t p x) ∙ b) c
