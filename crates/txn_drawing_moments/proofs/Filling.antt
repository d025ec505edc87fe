-- A line of text that is written place by place.
use Rattle.std.proofs.Common.{◌≡◌, ℕ, ◌+◌, ◌<◌, List, [], ◌∷◌, ◌++◌, length, take, replicate, get_or, sym, ◌∙◌, ap, append_assoc, encode_utf8_all, lit<}
use Rattle.std.proofs.lemmas.List.{take_more, replicate_more, append-nil}
use Rattle.std.proofs.lemmas.Str.{encode_ascii}
use Rattle.std.specs.Prelude.{encode_utf8}

-- a character more
pub encodes-push : (cs : List ℕ) (c : ℕ) → encode_utf8_all (cs ++ c ∷ []) ≡ encode_utf8_all cs ++ encode_utf8 c
encodes-push [] c = append-nil (encode_utf8 c)
encodes-push (x ∷ xs) c = ap (λ it. encode_utf8 x ++ it) (encodes-push xs c) ∙ sym (append_assoc (encode_utf8 x) (encode_utf8_all xs) (encode_utf8 c))

-- the places so far, and one more
encodes-more : (xs : List ℕ) (i d : ℕ) → i < length xs → encode_utf8_all (take (i + 1) xs) ≡ encode_utf8_all (take i xs) ++ encode_utf8 (get_or xs i d)
encodes-more xs i d lt = ap encode_utf8_all (take_more xs i d lt) ∙ encodes-push (take i xs) (get_or xs i d)

-- a blank more
pub blank_more : (xs text : List ℕ) (i blanks : ℕ) → i < length xs → get_or xs i 0 ≡ 32 → text ++ replicate blanks 32 ≡ encode_utf8_all (take i xs) → text ++ replicate (blanks + 1) 32 ≡ encode_utf8_all (take (i + 1) xs)
blank_more xs text i blanks lt is so_far =
    ap (λ it. text ++ it) (sym (replicate_more blanks 32)) ∙ sym (append_assoc text (replicate blanks 32) (32 ∷ [])) ∙ ap (λ it. it ++ 32 ∷ []) so_far ∙ sym (encodes-more xs i 0 lt ∙ ap (λ it. encode_utf8_all (take i xs) ++ it) (ap encode_utf8 is ∙ encode_ascii 32 (lit< tt)))

-- any other character more, behind the blanks that were passed over
pub sign_more : (xs text new : List ℕ) (i blanks : ℕ) → i < length xs → text ++ replicate blanks 32 ≡ encode_utf8_all (take i xs) → new ≡ (text ++ replicate blanks 32) ++ encode_utf8 (get_or xs i 0) → new ++ replicate 0 32 ≡ encode_utf8_all (take (i + 1) xs)
sign_more xs text new i blanks lt so_far is =
    append-nil new ∙ is ∙ ap (λ it. it ++ encode_utf8 (get_or xs i 0)) so_far ∙ sym (encodes-more xs i 0 lt)
