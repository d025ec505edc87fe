-- What `Display` writes of a path.
use Rattle.std.proofs.Common.{◌≡◌, ℕ, List, [], ◌∷◌, ◌++◌, true, false, refl, ap, sym, ◌∙◌, arith, ◌==◌, append_assoc}
use Rattle.std.specs.List.{list_all, slice_split, join_with_byte}
use Rattle.std.proofs.lemmas.Bool.Decides.{nat_tests}
use Rattle.std.proofs.lemmas.List.{append_cancel_right}
use Rattle.txn_store.specs.Paths.{Segments, is_plain_byte, all_plain, shown}
use Rattle.txn_store.specs.PathText.{lines_of, segments_in, IsKept}
use Rattle.txn_store.proofs.PathLemmas.{and_left, and_right}
use Rattle.txn_store.proofs.TextLemmas.{plain_above, plain_bytes}

no_feed : (b : ℕ) → is_plain_byte b ≡ true → (b == 10) ≡ false
no_feed b plain = let above = plain_above b plain in grind (arith, nat_tests)

split_line : (s rest : List ℕ) → list_all is_plain_byte s ≡ true → slice_split (λ b. b == 10) (s ++ 10 ∷ rest) ≡ s ∷ slice_split (λ b. b == 10) rest
split_line [] rest h = refl
split_line (b ∷ s) rest h =
    let other = no_feed b (and_left _ _ h) in
    let more = split_line s rest (and_right _ _ h) in
    rw (other, more) refl

split_last : (s : List ℕ) → list_all is_plain_byte s ≡ true → slice_split (λ b. b == 10) s ≡ s ∷ []
split_last [] h = refl
split_last (b ∷ s) h =
    let other = no_feed b (and_left _ _ h) in
    let more = split_last s (and_right _ _ h) in
    rw (other, more) refl

split_joined : (s : List ℕ) (ss : Segments) → all_plain (s ∷ ss) ≡ true → slice_split (λ b. b == 10) (join_with_byte 10 (s ∷ ss)) ≡ s ∷ ss
split_joined s [] h = split_last s (plain_bytes s (and_left _ _ h))
split_joined s (t ∷ ss) h =
    split_line s (join_with_byte 10 (t ∷ ss)) (plain_bytes s (and_left _ _ h)) ∙ ap (λ r. s ∷ r) (split_joined t ss (and_right _ _ h))

joined_lines : (s : List ℕ) (ss : Segments) → lines_of (s ∷ ss) ≡ join_with_byte 10 (s ∷ ss) ++ 10 ∷ []
joined_lines s [] = refl
joined_lines s (t ∷ ss) = ap (λ r. s ++ 10 ∷ r) (joined_lines t ss) ∙ sym (append_assoc s (10 ∷ join_with_byte 10 (t ∷ ss)) (10 ∷ []))

no_lines : (lines : List ℕ) → lines ++ 10 ∷ [] ≡ [] → ⊥
no_lines [] h = cc
no_lines (b ∷ lines) h = cc

split_lines : (lines : List ℕ) (p : Segments) → all_plain p ≡ true → lines_of p ≡ lines ++ 10 ∷ [] → slice_split (λ b. b == 10) lines ≡ p
split_lines lines [] h is = absurd (no_lines lines (sym is))
split_lines lines (s ∷ ss) h is =
    let same = append_cancel_right lines (join_with_byte 10 (s ∷ ss)) (10 ∷ []) (sym is ∙ joined_lines s ss) in
    ap (slice_split (λ b. b == 10)) same ∙ split_joined s ss h

-- the pieces of the text before its last line feed are the segments
pub split_kept : (text lines : List ℕ) (p : Segments) → IsKept text → segments_in text ≡ p → text ≡ lines ++ 10 ∷ [] → slice_split (λ b. b == 10) lines ≡ p
split_kept text lines p one here is = split_lines lines p (sym (ap all_plain here) ∙ one.plain) (sym (one.whole ∙ ap lines_of here) ∙ is)

-- what stands before the next segment
abbrev pub separator_after : Segments → List ℕ
separator_after [] = []
separator_after (s ∷ ss) = 47 ∷ []

pub shown-push : (ss : Segments) (s : List ℕ) → shown (ss ++ s ∷ []) ≡ shown ss ++ (separator_after ss ++ s)
shown-push [] s = refl
shown-push (t ∷ []) s = refl
shown-push (t ∷ u ∷ ss) s = ap (λ r. t ++ 47 ∷ r) (shown-push (u ∷ ss) s) ∙ sym (append_assoc t (47 ∷ shown (u ∷ ss)) (47 ∷ s))

pub separator_after-push : (ss : Segments) (s : List ℕ) → separator_after (ss ++ s ∷ []) ≡ 47 ∷ []
separator_after-push [] s = refl
separator_after-push (t ∷ ss) s = refl

-- a text that ends in no line feed is that of the path of no segment
pub no_segment : (text : List ℕ) (p : Segments) → text ≡ lines_of p → ((front : List ℕ) → text ≡ front ++ 10 ∷ [] → ⊥) → [] ≡ shown p
no_segment text [] is none = refl
no_segment text (s ∷ ss) is none = absurd (none (join_with_byte 10 (s ∷ ss)) (is ∙ joined_lines s ss))
