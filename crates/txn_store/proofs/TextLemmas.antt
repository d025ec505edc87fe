-- Lemmas on the text that keeps a path.
use Rattle.std.proofs.Common.{◌≡◌, ℕ, ◌<◌, ◌≤◌, List, [], ◌∷◌, ◌++◌, Bool, true, false, length, take, drop, refl, ap, sym, ◌∙◌, arith, ◌&&◌, ◌==◌, append_assoc, append-nil, length-append}
use Rattle.std.specs.Prelude.{nat_eq, nat_lt}
use Rattle.std.specs.Cmp.Lexicographic.{pointwise, slice_cmp, lists_ties, texts_ties}
use Rattle.std.specs.Ordering.{nat_cmp, ordering_then, is_eq}
use Rattle.std.specs.declared.cmp.Ordering.{Ordering}
use Rattle.std.specs.declared.cmp.Ordering.TheVariants.{Less, Equal, Greater}
use Rattle.std.specs.List.{list_all}
use Rattle.std.proofs.lemmas.Bool.{lt-ltb}
use Rattle.std.proofs.lemmas.Bool.Decides.{nat_tests}
use Rattle.std.proofs.lemmas.List.Folds.{list_all-append}
use Rattle.txn_store.specs.Paths.{Segments, is_plain_byte, is_plain, all_plain, path_cmp, is_below}
use Rattle.txn_store.specs.PathText.{lines_of, lines_from, segments_in, IsKept}
use Rattle.std.proofs.lemmas.List.{take-append-drop}
use Rattle.txn_store.proofs.PathLemmas.{and_left, and_right, same_segments}

-- a plain byte stands above the line feed
low_byte : (b : ℕ) → b ≤ 10 → is_plain_byte b ≡ false
low_byte b low = grind (arith, nat_tests)

pub plain_above : (b : ℕ) → is_plain_byte b ≡ true → 10 < b
plain_above b plain = by (nat_lt 10 b) refl
  where
    by : (t : Bool) → nat_lt 10 b ≡ t → 10 < b
    by true is = grind (arith, nat_tests)
    by false is = let low : b ≤ 10 = grind (arith, nat_tests) in let h = low_byte b low in absurd (cc)

pub plain_bytes : (s : List ℕ) → is_plain s ≡ true → list_all is_plain_byte s ≡ true
plain_bytes s h = and_right _ _ h

-- the lines of a text
line_first : (begun s rest : List ℕ) → list_all is_plain_byte s ≡ true → lines_from begun (s ++ 10 ∷ rest) ≡ (begun ++ s) ∷ lines_from [] rest
line_first begun [] rest h = ap (λ r. r ∷ lines_from [] rest) (sym (append-nil begun))
line_first begun (b ∷ s) rest h =
    let above : 10 < b = plain_above b (and_left _ _ h) in
    let other : (b == 10) ≡ false = grind (arith, nat_tests) in
    let more = line_first (begun ++ b ∷ []) s rest (and_right _ _ h) in
    rw other (more ∙ ap (λ r. r ∷ lines_from [] rest) (append_assoc begun (b ∷ []) s))

pub segments_in-lines_of : (ss : Segments) → all_plain ss ≡ true → segments_in (lines_of ss) ≡ ss
segments_in-lines_of [] h = refl
segments_in-lines_of (s ∷ ss) h =
    line_first [] s (lines_of ss) (plain_bytes s (and_left _ _ h)) ∙ ap (λ r. s ∷ r) (segments_in-lines_of ss (and_right _ _ h))

pub lines_of-append : (xs ys : Segments) → lines_of (xs ++ ys) ≡ lines_of xs ++ lines_of ys
lines_of-append [] ys = refl
lines_of-append (x ∷ xs) ys = ap (λ r. x ++ 10 ∷ r) (lines_of-append xs ys) ∙ sym (append_assoc x (10 ∷ lines_of xs) (lines_of ys))

pub lines_of-push : (ss : Segments) (s : List ℕ) → lines_of (ss ++ s ∷ []) ≡ lines_of ss ++ (s ++ 10 ∷ [])
lines_of-push ss s = lines_of-append ss (s ∷ [])

-- a text of plain segments is kept, and shows them
module _ (text : List ℕ) (ss : Segments) (plain : all_plain ss ≡ true) (is : text ≡ lines_of ss) where
  pub shows : segments_in text ≡ ss
  shows = ap segments_in is ∙ segments_in-lines_of ss plain

  pub kept : IsKept text
  kept = record { plain = ap all_plain shows ∙ plain; whole = is ∙ ap lines_of (sym shows) }

pub all_plain-push : (ss : Segments) (s : List ℕ) → all_plain ss ≡ true → is_plain s ≡ true → all_plain (ss ++ s ∷ []) ≡ true
all_plain-push ss s all one = list_all-append is_plain ss (s ∷ []) ∙ rw (all, one) refl

-- the order of texts is the order of paths
feed_below : (b : ℕ) → is_plain_byte b ≡ true → nat_cmp 10 b ≡ Less
feed_below b h = let above = plain_above b h in rw (lt-ltb 10 b above) refl

feed_above : (b : ℕ) → is_plain_byte b ≡ true → nat_cmp b 10 ≡ Greater
feed_above b h = let above = plain_above b h in grind (arith, nat_tests)

then_assoc : (p q r : Ordering) → ordering_then p (ordering_then q r) ≡ ordering_then (ordering_then p q) r
then_assoc Less q r = refl
then_assoc Equal q r = refl
then_assoc Greater q r = refl

line_cmp : (s t x y : List ℕ) → list_all is_plain_byte s ≡ true → list_all is_plain_byte t ≡ true → slice_cmp nat_cmp (s ++ 10 ∷ x) (t ++ 10 ∷ y) ≡ ordering_then (slice_cmp nat_cmp s t) (slice_cmp nat_cmp x y)
line_cmp [] [] x y p q = refl
line_cmp [] (c ∷ t) x y p q = rw (feed_below c (and_left _ _ q)) refl
line_cmp (b ∷ s) [] x y p q = rw (feed_above b (and_left _ _ p)) refl
line_cmp (b ∷ s) (c ∷ t) x y p q = ap (ordering_then (nat_cmp b c)) (line_cmp s t x y (and_right _ _ p) (and_right _ _ q)) ∙ then_assoc (nat_cmp b c) (slice_cmp nat_cmp s t) (slice_cmp nat_cmp x y)

empty_below : (s x : List ℕ) → slice_cmp nat_cmp [] (s ++ 10 ∷ x) ≡ Less
empty_below [] x = refl
empty_below (b ∷ s) x = refl

empty_above : (s x : List ℕ) → slice_cmp nat_cmp (s ++ 10 ∷ x) [] ≡ Greater
empty_above [] x = refl
empty_above (b ∷ s) x = refl

pub texts_cmp : (p q : Segments) → all_plain p ≡ true → all_plain q ≡ true → slice_cmp nat_cmp (lines_of p) (lines_of q) ≡ path_cmp p q
texts_cmp [] [] g h = refl
texts_cmp [] (t ∷ q) g h = empty_below t (lines_of q)
texts_cmp (s ∷ p) [] g h = empty_above s (lines_of p)
texts_cmp (s ∷ p) (t ∷ q) g h =
    line_cmp s t (lines_of p) (lines_of q) (plain_bytes s (and_left _ _ g)) (plain_bytes t (and_left _ _ h))
    ∙ ap (ordering_then (slice_cmp nat_cmp s t)) (texts_cmp p q (and_right _ _ g) (and_right _ _ h))

pub texts_eq : (p q : Segments) → all_plain p ≡ true → all_plain q ≡ true → pointwise nat_eq (lines_of p) (lines_of q) ≡ pointwise (pointwise nat_eq) p q
texts_eq p q g h = texts_ties (lines_of p) (lines_of q) ∙ ap is_eq (texts_cmp p q g h) ∙ sym (lists_ties (slice_cmp nat_cmp) texts_ties p q)

-- two kept texts
module _ (x y : List ℕ) (p q : Segments) (one : IsKept x) (other : IsKept y) (here : segments_in x ≡ p) (there : segments_in y ≡ q) where
  first : x ≡ lines_of p
  first = one.whole ∙ ap lines_of here

  second : y ≡ lines_of q
  second = other.whole ∙ ap lines_of there

  first_plain : all_plain p ≡ true
  first_plain = sym (ap all_plain here) ∙ one.plain

  second_plain : all_plain q ≡ true
  second_plain = sym (ap all_plain there) ∙ other.plain

  pub kept_cmp : slice_cmp nat_cmp x y ≡ path_cmp p q
  kept_cmp = rw (first, second) (texts_cmp p q first_plain second_plain)

  pub kept_eq : pointwise nat_eq x y ≡ pointwise (pointwise nat_eq) p q
  kept_eq = rw (first, second) (texts_eq p q first_plain second_plain)

-- a line more
module _ (x : List ℕ) (p : Segments) (s : List ℕ) (one : IsKept x) (here : segments_in x ≡ p) (more : is_plain s ≡ true) where
  pushed_plain : all_plain (p ++ s ∷ []) ≡ true
  pushed_plain = all_plain-push p s (sym (ap all_plain here) ∙ one.plain) more

  pushed_is : x ++ s ++ 10 ∷ [] ≡ lines_of (p ++ s ∷ [])
  pushed_is = ap (λ r. r ++ s ++ 10 ∷ []) (one.whole ∙ ap lines_of here) ∙ append_assoc (lines_of p) s (10 ∷ []) ∙ sym (lines_of-push p s)

  pub pushed_kept : IsKept (x ++ s ++ 10 ∷ [])
  pushed_kept = kept (x ++ s ++ 10 ∷ []) (p ++ s ∷ []) pushed_plain pushed_is

  pub pushed_shows : segments_in (x ++ s ++ 10 ∷ []) ≡ p ++ s ∷ []
  pushed_shows = shows (x ++ s ++ 10 ∷ []) (p ++ s ∷ []) pushed_plain pushed_is

-- a text that begins another
line_begins : (s t x y : List ℕ) → list_all is_plain_byte s ≡ true → list_all is_plain_byte t ≡ true → pointwise nat_eq (s ++ 10 ∷ x) (take (length (s ++ 10 ∷ x)) (t ++ 10 ∷ y)) ≡ (pointwise nat_eq s t && pointwise nat_eq x (take (length x) y))
line_begins [] [] x y p q = refl
line_begins [] (c ∷ t) x y p q =
    let above : 10 < c = plain_above c (and_left _ _ q) in
    let other : (10 == c) ≡ false = grind (arith, nat_tests) in
    rw other refl
line_begins (b ∷ s) [] x y p q =
    let above : 10 < b = plain_above b (and_left _ _ p) in
    let other : (b == 10) ≡ false = grind (arith, nat_tests) in
    rw other refl
line_begins (b ∷ s) (c ∷ t) x y p q = ap (λ r. (b == c) && r) (line_begins s t x y (and_right _ _ p) (and_right _ _ q)) ∙ and_then (b == c) (pointwise nat_eq s t) (pointwise nat_eq x (take (length x) y))
  where
    and_then : (u v w : Bool) → (u && (v && w)) ≡ (u && v && w)
    and_then true v w = refl
    and_then false v w = refl

none_begins : (s x : List ℕ) → pointwise nat_eq (s ++ 10 ∷ x) (take (length (s ++ 10 ∷ x)) []) ≡ false
none_begins [] x = refl
none_begins (b ∷ s) x = refl

texts_begin : (p q : Segments) → all_plain p ≡ true → all_plain q ≡ true → pointwise nat_eq (lines_of p) (take (length (lines_of p)) (lines_of q)) ≡ pointwise (pointwise nat_eq) p (take (length p) q)
texts_begin [] q g h = refl
texts_begin (s ∷ p) [] g h = none_begins s (lines_of p)
texts_begin (s ∷ p) (t ∷ q) g h =
    line_begins s t (lines_of p) (lines_of q) (plain_bytes s (and_left _ _ g)) (plain_bytes t (and_left _ _ h))
    ∙ ap (λ r. pointwise nat_eq s t && r) (texts_begin p q (and_right _ _ g) (and_right _ _ h))

-- a path below a prefix has more lines
longer : (p rest : Segments) → nat_lt (length (lines_of p)) (length (lines_of (p ++ rest))) ≡ nat_lt (length p) (length (p ++ rest))
longer p [] = rw (append-nil p) (same_lt (length (lines_of p)) (length p))
  where
    same_lt : (m n : ℕ) → nat_lt m m ≡ nat_lt n n
    same_lt m n = grind (arith, nat_tests)
longer p (t ∷ rest) =
    let text = length-append (lines_of p) (t ++ 10 ∷ lines_of rest) in
    let line = length-append t (10 ∷ lines_of rest) in
    let segments = length-append p (t ∷ rest) in
    let whole = ap length (lines_of-append p (t ∷ rest)) in
    lt-ltb (length (lines_of p)) (length (lines_of (p ++ t ∷ rest))) (omega (arith, text, line, whole))
    ∙ sym (lt-ltb (length p) (length (p ++ t ∷ rest)) (omega (arith, segments)))

texts_below : (p q : Segments) → all_plain p ≡ true → all_plain q ≡ true → (pointwise nat_eq (lines_of p) (take (length (lines_of p)) (lines_of q)) && nat_lt (length (lines_of p)) (length (lines_of q))) ≡ is_below p q
texts_below p q g h = ap (λ t. t && nat_lt (length (lines_of p)) (length (lines_of q))) (texts_begin p q g h) ∙ by (pointwise (pointwise nat_eq) p (take (length p) q)) refl
  where
    by : (t : Bool) → pointwise (pointwise nat_eq) p (take (length p) q) ≡ t → (t && nat_lt (length (lines_of p)) (length (lines_of q))) ≡ (t && nat_lt (length p) (length q))
    by false is = refl
    by true is =
        let front = same_segments p (take (length p) q) is in
        let whole : p ++ drop (length p) q ≡ q = ap (λ r. r ++ drop (length p) q) front ∙ take-append-drop (length p) q in
        rw whole at (longer p (drop (length p) q))

-- whether a kept text is below another
pub kept_below : (x y : List ℕ) (p q : Segments) → IsKept x → IsKept y → segments_in x ≡ p → segments_in y ≡ q → (pointwise nat_eq x (take (length x) y) && nat_lt (length x) (length y)) ≡ is_below p q
kept_below x y p q one other here there =
    let first : x ≡ lines_of p = one.whole ∙ ap lines_of here in
    let second : y ≡ lines_of q = other.whole ∙ ap lines_of there in
    rw (first, second) (texts_below p q (sym (ap all_plain here) ∙ one.plain) (sym (ap all_plain there) ∙ other.plain))
