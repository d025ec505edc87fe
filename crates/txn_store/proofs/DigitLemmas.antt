-- Lemmas on digits.
use Rattle.std.proofs.Common.{◌≡◌, ℕ, zero, suc, ◌<◌, ◌≤◌, ◌-◌, ◌^◌, List, [], ◌∷◌, ◌++◌, Bool, true, false, ◌==◌, cond, length, replicate, Option, Some, None, Result, Ok, Err, refl, ap, sym, ◌∙◌, arith, rules, length-append, ◌↔◌}
use Rattle.std.specs.Char.{is_ascii_digit}
use Rattle.std.specs.List.{list_all}
use Rattle.std.specs.Result.{OkIff, result_ok}
use Rattle.std.specs.Fmt.{decimal, styled_decimal, padded_integral, format_spec, char_count}
use Rattle.std.specs.Str.Parse.{digits_value, IsNumeral}
use Rattle.std.proofs.lemmas.Bool.{ltb-true, lt-ltb, eqb-true, eqb-false, and_parts}
use Rattle.std.proofs.lemmas.List.{length-replicate, append-nil}
use Rattle.std.proofs.lemmas.Str.Parse.{IsNumeralModel, numerals_by_value}
use Rattle.std.proofs.lemmas.Fmt.{decimal_is_IsNumeral, length-decimal-le, decimal-digits_value}
use Rattle.txn_store.specs.Digits.{is_number, digits_read, padded}
use Rattle.txn_store.specs.VersionName.{AreDigitsOf}

-- digits by test are the digits of `parse`
pub own : IsNumeralModel (λ ds. list_all is_ascii_digit ds ≡ true) (digits_value 10)
own = numerals_by_value _ (search rules)

pub number_from : (ds : List ℕ) → 0 < length ds → list_all is_ascii_digit ds ≡ true → digits_value 10 ds < 2 ^ 64 → is_number ds ≡ true
number_from ds some all fits = rw (lt-ltb 0 (length ds) some, all, lt-ltb (digits_value 10 ds) (2 ^ 64) fits) refl

pub number_parts : (ds : List ℕ) → is_number ds ≡ true → (0 < length ds) × (list_all is_ascii_digit ds ≡ true) × (digits_value 10 ds < 2 ^ 64)
number_parts ds h =
    let outer = and_parts _ _ h in
    let inner = and_parts _ _ outer.0 in
    (ltb-true _ _ inner.0, inner.1, ltb-true _ _ outer.1)

-- what `parse` reads
pub read_by_parse : {E : Type 0} (ds : List ℕ) (r : Result ℕ E) → OkIff r (IsNumeral 10 ds × (digits_value 10 ds < 2 ^ 64)) (digits_value 10 ds) → result_ok r ≡ digits_read ds
read_by_parse ds (Ok x) h = rw (number_from ds h.0.0.0 (own.from ds h.0.0.1) h.0.1, h.1) refl
read_by_parse ds (Err e) h = elim (is_number ds) as (λ b. is_number ds ≡ b → None ≡ (cond b (Some (digits_value 10 ds)) None)) [
  | true ↦ λ is. let p = number_parts ds is in absurd (h ((p.0, own.to ds p.1), p.2))
  | false ↦ λ _. refl
] refl

-- what is read is the number that the digits write
pub read_number : (ds : List ℕ) (n : ℕ) → digits_read ds ≡ Some n → (is_number ds ≡ true) × (digits_value 10 ds ≡ n)
read_number ds n h = elim (is_number ds) as (λ b. is_number ds ≡ b → cond b (Some (digits_value 10 ds)) None ≡ Some n → (is_number ds ≡ true) × (digits_value 10 ds ≡ n)) [
  | true ↦ λ is e. (is, cc)
  | false ↦ λ is e. absurd (cc)
] refl h

pub number_read : (ds : List ℕ) (n : ℕ) → 0 < length ds → list_all is_ascii_digit ds ≡ true → digits_value 10 ds ≡ n → n < 2 ^ 64 → digits_read ds ≡ Some n
number_read ds n some all is fits = let small : digits_value 10 ds < 2 ^ 64 = rw is fits in rw (number_from ds some all small) (ap Some is)

-- plain decimals
pub decimal_digits : (n : ℕ) → n < 2 ^ 64 → list_all is_ascii_digit (decimal n) ≡ true
decimal_digits n fits = own.from _ (decimal_is_IsNumeral n fits).0.1

pub decimal_read_back : (n : ℕ) → n < 2 ^ 64 → digits_read (decimal n) ≡ Some n
decimal_read_back n fits = let is = decimal_is_IsNumeral n fits in number_read (decimal n) n is.0.0 (decimal_digits n fits) is.1 fits

-- leading zeros
value_zeros : (k : ℕ) (ds : List ℕ) → digits_value 10 (replicate k 48 ++ ds) ≡ digits_value 10 ds
value_zeros zero ds = refl
value_zeros (suc k) ds = value_zeros k ds

digits_zeros : (k : ℕ) (ds : List ℕ) → list_all is_ascii_digit (replicate k 48 ++ ds) ≡ list_all is_ascii_digit ds
digits_zeros zero ds = refl
digits_zeros (suc k) ds = digits_zeros k ds

pub length_padded : (n : ℕ) → n < 2 ^ 64 → length (padded n) ≡ 20
length_padded n fits = let most : length (decimal n) ≤ 20 = length-decimal-le 20 n (omega arith) (omega arith) fits in simp (length-append, length-replicate) (omega (arith, most))

pub padded_digits : (n : ℕ) → n < 2 ^ 64 → list_all is_ascii_digit (padded n) ≡ true
padded_digits n fits = digits_zeros (20 - length (decimal n)) (decimal n) ∙ decimal_digits n fits

pub padded_read : (n : ℕ) → n < 2 ^ 64 → digits_read (padded n) ≡ Some n
padded_read n fits = let long = length_padded n fits in number_read (padded n) n (omega (arith, long)) (padded_digits n fits) (value_zeros (20 - length (decimal n)) (decimal n) ∙ (decimal_is_IsNumeral n fits).1) fits

-- digits are the decimal of their number, with zeros before it
abbrev pub IsBack : List ℕ → Type 0
IsBack ds = (length (decimal (digits_value 10 ds)) ≤ length ds) × (replicate (length ds - length (decimal (digits_value 10 ds))) 48 ++ decimal (digits_value 10 ds) ≡ ds)

back_plain : (ds : List ℕ) → decimal (digits_value 10 ds) ≡ ds → IsBack ds
back_plain ds is = let none : length ds - length ds ≡ 0 = omega arith in rw is (omega arith, rw none refl)

back_zero : (c : ℕ) (ds : List ℕ) → c ≡ 48 → IsBack ds → IsBack (c ∷ ds)
back_zero c ds is back =
    let most = back.0 in
    let one : suc (length ds) - length (decimal (digits_value 10 ds)) ≡ suc (length ds - length (decimal (digits_value 10 ds))) = omega (arith, most) in
    rw is (omega (arith, most), rw one (ap (λ r. 48 ∷ r) back.1))

back_more : (c d : ℕ) (ds : List ℕ) → list_all is_ascii_digit (c ∷ d ∷ ds) ≡ true → digits_value 10 (c ∷ d ∷ ds) < 2 ^ 64 → (digits_value 10 (d ∷ ds) < 2 ^ 64 → IsBack (d ∷ ds)) → (b : Bool) → (c == 48) ≡ b → IsBack (c ∷ d ∷ ds)
back_more c d ds all fits more true is = let zero_first : c ≡ 48 = eqb-true c 48 is in back_zero c (d ∷ ds) zero_first (more (rw zero_first at fits))
back_more c d ds all fits more false is = back_plain (c ∷ d ∷ ds) (decimal-digits_value own (c ∷ d ∷ ds) all (omega arith) (λ e. absurd (eqb-false c 48 is e)) fits)

padded_back : (ds : List ℕ) → 0 < length ds → list_all is_ascii_digit ds ≡ true → digits_value 10 ds < 2 ^ 64 → IsBack ds
padded_back [] some all fits = absurd (omega (arith, some))
padded_back (c ∷ []) some all fits = back_plain (c ∷ []) (decimal-digits_value own (c ∷ []) all some (λ _. refl) fits)
padded_back (c ∷ d ∷ ds) some all fits = back_more c d ds all fits (λ small. padded_back (d ∷ ds) (omega arith) (and_parts _ _ all).1 small) (c == 48) refl

pub read_padded : (ds : List ℕ) (n : ℕ) → length ds ≡ 20 → digits_read ds ≡ Some n → ds ≡ padded n
read_padded ds n long h =
    let is = read_number ds n h in
    let p = number_parts ds is.0 in
    let back = (padded_back ds p.0 p.1 p.2).1 in
    sym (rw (is.1, long) at back)

-- what the readers say
pub is_padded : (ds : List ℕ) (r : Option ℕ) → length ds ≡ 20 → r ≡ digits_read ds → (n : ℕ) → n < 2 ^ 64 → (r ≡ Some n) ↔ (ds ≡ padded n)
is_padded ds r long is n fits = (λ e. read_padded ds n long (sym is ∙ e), λ e. is ∙ ap digits_read e ∙ padded_read n fits)

pub not_padded : (ds : List ℕ) → ¬ (length ds ≡ 20) → (n : ℕ) → n < 2 ^ 64 → (None ≡ Some n) ↔ (ds ≡ padded n)
not_padded ds short n fits = (λ e. absurd (cc), λ e. absurd (short (ap length e ∙ length_padded n fits)))

pub read_by_digits : {E : Type 0} (ds : List ℕ) (r : Result ℕ E) → list_all is_ascii_digit ds ≡ true → OkIff r ((0 < length ds) × (digits_value 10 ds < 2 ^ 64)) (digits_value 10 ds) → result_ok r ≡ digits_read ds
read_by_digits {E} ds (Ok x) all h = read_by_parse {E = E} ds (Ok x) (((h.0.0, own.to ds all), h.0.1), h.1)
read_by_digits {E} ds (Err e) all h = read_by_parse ds (Err e) (λ p. h (p.0.0, p.1))

-- what `{:020}` writes
pub padded_shown : (n : ℕ) → styled_decimal (format_spec 32 0 4 20 (2 ^ 64 - 1)) n ≡ padded n
unfolding padded_integral char_count
padded_shown n = let none : 20 - length (decimal n) - 0 - 0 ≡ 20 - length (decimal n) = omega arith in simp (none, append-nil)

-- the twenty digits of a number, and no others
pub padded_writes : (n : ℕ) → n < 2 ^ 64 → AreDigitsOf n (padded n)
padded_writes n fits = record { twenty = length_padded n fits; digits = padded_digits n fits; number = (read_number (padded n) n (padded_read n fits)).1 }

pub padded_alone : (n : ℕ) (ds : List ℕ) → n < 2 ^ 64 → AreDigitsOf n ds → ds ≡ padded n
padded_alone n ds fits h = let long = h.twenty in read_padded ds n h.twenty (number_read ds n (omega (arith, long)) h.digits h.number fits)
