-- The last segment of a path, as the last line of its text.
use Rattle.std.proofs.Common.{◌≡◌, ◌≢◌, ℕ, suc, ◌-◌, ◌<◌, List, [], ◌∷◌, ◌++◌, true, false, cond, length, get_or, drop, Some, None, refl, ap, sym, ◌∙◌, arith, ◌==◌, append_assoc, append-nil, lit<}
use Rattle.std.specs.List.{slice_get}
use Rattle.std.specs.Str.Pattern.{RFindsChar, SplitsAroundMatch}
use Rattle.std.specs.Str.{NoCharPasses}
use Rattle.std.proofs.lemmas.Bool.{ne_eqb}
use Rattle.std.proofs.lemmas.Str.Pattern.{NoCharPasses-char, drop_at_char}
use Rattle.std.proofs.lemmas.List.{take-append-drop}
use Rattle.txn_store.specs.Paths.{Segments}
use Rattle.txn_store.specs.PathText.{lines_of, lines_from, segments_in}

-- no line feed stands in a text
abbrev pub IsOneLine : List ℕ → Type 0
IsOneLine s = (i : ℕ) → i < length s → get_or s i 0 ≢ 10

ends_line : (s : List ℕ) (ss : Segments) → (front : List ℕ) × (lines_of (s ∷ ss) ≡ front ++ 10 ∷ [])
ends_line s [] = (s, refl)
ends_line s (t ∷ ss) = let more = ends_line t ss in (s ++ 10 ∷ more.0, ap (λ r. s ++ 10 ∷ r) more.1 ∙ sym (append_assoc s (10 ∷ more.0) (10 ∷ [])))

-- only the path of no segment has no last line
pub no_line : (p : Segments) → ((front : List ℕ) → lines_of p ≢ front ++ 10 ∷ []) → None ≡ slice_get p (length p - 1)
no_line [] h = refl
no_line (s ∷ ss) h = let e = ends_line s ss in absurd (h e.0 e.1)

one_line : (begun s rest : List ℕ) → IsOneLine s → lines_from begun (s ++ 10 ∷ rest) ≡ (begun ++ s) ∷ lines_from [] rest
one_line begun [] rest h = ap (λ r. r ∷ lines_from [] rest) (sym (append-nil begun))
one_line begun (b ∷ s) rest h =
    let other = ne_eqb b 10 (h 0 (omega arith)) in
    let more = one_line (begun ++ b ∷ []) s rest (λ i l. h (suc i) (omega (arith, l))) in
    rw other (more ∙ ap (λ r. r ∷ lines_from [] rest) (append_assoc begun (b ∷ []) s))

-- lines before a line feed, and lines after it
lines_cut : (begun x y : List ℕ) → lines_from begun (x ++ 10 ∷ y) ≡ lines_from begun (x ++ 10 ∷ []) ++ lines_from [] y
lines_cut begun [] y = refl
lines_cut begun (b ∷ x) y = elim (b == 10) as (λ t. cond t (begun ∷ lines_from [] (x ++ 10 ∷ y)) (lines_from (begun ++ b ∷ []) (x ++ 10 ∷ y)) ≡ cond t (begun ∷ lines_from [] (x ++ 10 ∷ [])) (lines_from (begun ++ b ∷ []) (x ++ 10 ∷ [])) ++ lines_from [] y) [
  | true ↦ ap (λ r. begun ∷ r) (lines_cut [] x y)
  | false ↦ lines_cut (begun ++ b ∷ []) x y
]

last_get : (ss : Segments) (s : List ℕ) → slice_get (ss ++ s ∷ []) (length (ss ++ s ∷ []) - 1) ≡ Some s
last_get [] s = refl
last_get (t ∷ []) s = refl
last_get (t ∷ u ∷ ss) s = let n : suc (suc (length (ss ++ s ∷ []))) - 1 ≡ suc (suc (length (ss ++ s ∷ [])) - 1) = omega arith in rw n (last_get (u ∷ ss) s)

-- the segments of a text, and its last one
module _ (text lines : List ℕ) (p : Segments) (here : segments_in text ≡ p) (is : text ≡ lines ++ 10 ∷ []) where
  last_is : (ss : Segments) (s : List ℕ) → p ≡ ss ++ s ∷ [] → Some s ≡ slice_get p (length p - 1)
  last_is ss s e = sym (ap (λ q. slice_get q (length q - 1)) e ∙ last_get ss s)

  pub only_line : IsOneLine lines → Some lines ≡ slice_get p (length p - 1)
  only_line one = last_is [] lines (sym here ∙ ap segments_in is ∙ one_line [] lines [] one)

  pub last_line : (front last : List ℕ) → lines ≡ front ++ 10 ∷ last → IsOneLine last → Some last ≡ slice_get p (length p - 1)
  last_line front last cut one = last_is (lines_from [] (front ++ 10 ∷ [])) last (
      sym here ∙ ap segments_in (is ∙ ap (λ r. r ++ 10 ∷ []) cut ∙ append_assoc front (10 ∷ last) (10 ∷ []))
      ∙ lines_cut [] front (last ++ 10 ∷ []) ∙ ap (λ r. lines_from [] (front ++ 10 ∷ []) ++ r) (one_line [] last [] one))

pub no_feed : (s : List ℕ) → NoCharPasses (λ d. d == 10) s → IsOneLine s
no_feed s none i l = NoCharPasses-char 10 s i none (lit< tt) l

-- what `rsplit_once` cuts
pub feed_parts : (s front last : List ℕ) → SplitsAroundMatch (RFindsChar 10) s front last → (s ≡ front ++ 10 ∷ last) × IsOneLine last
feed_parts s front last (i, j, found, before, after, ordered, front_long, last_long) =
    let at = drop_at_char 10 s i j found.1 (lit< tt) in
    let whole = take-append-drop i s in
    let cut : s ≡ front ++ 10 ∷ last = sym whole ∙ rw (at, before, after) refl in
    let none = no_feed (drop j s) found.0 in
    (cut, rw after none)
