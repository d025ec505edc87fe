-- Lemmas on the text of a boundary.
use Rattle.std.proofs.Common.{◌≡◌, ℕ, ◌<◌, ◌^◌, List, [], ◌∷◌, Bool, true, false, cond, Some, None, Result, Ok, Err, refl, ap, subst, ◌∙◌, arith}
use Rattle.std.specs.Result.{MatchResult, result_ok}
use Rattle.std.specs.Char.{is_ascii_digit, is_whitespace}
use Rattle.std.specs.List.{list_all}
use Rattle.std.specs.Str.{IsUtf8, IsAscii, is_utf8, trim, trim_start, trim_end, skip_leading_whitespace, drop_trailing_whitespace}
use Rattle.std.specs.Str.Parse.{ParsesUnsigned, without_leading_plus}
use Rattle.std.specs.Fmt.{decimal}
use Rattle.std.proofs.lemmas.Str.{is_utf8-from_IsUtf8, IsUtf8-from_is_utf8, IsUtf8-from_ascii, chars-IsAscii, encodes-IsAscii}
use Rattle.std.proofs.lemmas.Fmt.{IsAscii-decimal, decimal_nonempty}
use Rattle.std.proofs.lemmas.Str.Parse.{not_in_digits, without_leading_plus_none}
use Rattle.std.proofs.lemmas.Bool.Decides.{nat_tests}
use Rattle.txn_store.specs.Digits.{digits_read}
use Rattle.txn_store.proofs.PathLemmas.{and_left, and_right}
use Rattle.txn_store.proofs.DigitLemmas.{own, read_by_parse, decimal_digits, decimal_read_back}
use Rattle.txn_store.specs.types.BoundaryText.{boundary_read}

-- bytes that are no text say none
pub not_text : (bytes : List ℕ) → ¬ (IsUtf8 bytes) → None ≡ boundary_read bytes
not_text bytes h = by (is_utf8 bytes) refl
  where
    by : (b : Bool) → is_utf8 bytes ≡ b → None ≡ (cond b (digits_read (without_leading_plus (trim bytes))) None)
    by true is = absurd (h (IsUtf8-from_is_utf8 bytes is))
    by false is = refl

-- a text says what `parse` reads of it, trimmed
pub read_text : {E : Type 0} (bytes t : List ℕ) (r : Result ℕ E) → IsUtf8 bytes → t ≡ trim bytes → ParsesUnsigned 64 10 t r → result_ok r ≡ boundary_read bytes
read_text {E} bytes t r utf8 is h = read_by_parse {E = E} (without_leading_plus t) r h ∙ rw (is_utf8-from_IsUtf8 bytes utf8, is) refl

-- what `from_utf8` says of what it did not give, and of what it gave
pub at_none : {V E : Type 0} (P : V → Type 0) (Q : Type 0) (R : E → Type 0) (r : Result V E) → MatchResult r P (λ e. Q × R e) → None ≡ result_ok r → Q
at_none P Q R (Ok x) h e = absurd (cc)
at_none P Q R (Err d) h e = h.0

pub at_some : {V E : Type 0} (P : V → Type 0) (R : E → Type 0) (r : Result V E) (x : V) → MatchResult r P R → Some x ≡ result_ok r → P x
at_some P R (Ok y) x h e = let same : y ≡ x = cc in subst P same h
at_some P R (Err d) x h e = absurd (cc)

-- digits have no white space around them
digit_not_white : (d : ℕ) → is_ascii_digit d ≡ true → is_whitespace d ≡ false
digit_not_white d h = grind (arith, nat_tests)

skip_digits : (ds : List ℕ) → list_all is_ascii_digit ds ≡ true → skip_leading_whitespace ds ≡ ds
skip_digits [] h = refl
skip_digits (d ∷ ds) h = rw (digit_not_white d (and_left _ _ h)) refl

keep_digits : (ds : List ℕ) → list_all is_ascii_digit ds ≡ true → drop_trailing_whitespace ds ≡ ds
keep_digits [] h = refl
keep_digits (d ∷ ds) h = rw (digit_not_white d (and_left _ _ h)) (ap (λ r. d ∷ r) (keep_digits ds (and_right _ _ h)))

trim_start_digits : (ds : List ℕ) → list_all is_ascii_digit ds ≡ true → IsAscii ds → trim_start ds ≡ ds
unfolding trim_start
trim_start_digits ds h ascii = rw (chars-IsAscii ds ascii, skip_digits ds h) (encodes-IsAscii ds ascii)

trim_end_digits : (ds : List ℕ) → list_all is_ascii_digit ds ≡ true → IsAscii ds → trim_end ds ≡ ds
unfolding trim_end
trim_end_digits ds h ascii = rw (chars-IsAscii ds ascii, keep_digits ds h) (encodes-IsAscii ds ascii)

-- a plain decimal says its number
pub read_decimal_text : (n : ℕ) → n < 2 ^ 64 → boundary_read (decimal n) ≡ Some n
read_decimal_text n fits =
    let ascii = IsAscii-decimal n fits in
    let digits = decimal_digits n fits in
    let trimmed = ap trim_end (trim_start_digits (decimal n) digits ascii) ∙ trim_end_digits (decimal n) digits ascii in
    let bare = without_leading_plus_none (decimal n) (not_in_digits own (decimal n) 43 digits (λ r. omega (arith, r.0)) 0 (decimal_nonempty n fits)) in
    rw (is_utf8-from_IsUtf8 (decimal n) (IsUtf8-from_ascii (decimal n) ascii), trimmed, bare) (decimal_read_back n fits)
