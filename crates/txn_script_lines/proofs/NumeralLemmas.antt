-- Lemmas on plain decimals.
use Rattle.std.proofs.Common.{◌≡◌, ℕ, zero, suc, ◌<◌, ◌^◌, List, [], ◌∷◌, Bool, true, false, ◌&&◌, ◌==◌, cond, length, get_or, Option, Some, None, refl, ap, sym, ◌∙◌, arith, lit<, ◌↔◌}
use Rattle.std.specs.Fmt.{decimal}
use Rattle.std.proofs.lemmas.Bool.{ltb-true, ltb-false, eqb-true, eq-eqb, and_parts}
use Rattle.std.proofs.Math.Bool.{and-true}
use Rattle.std.specs.Prelude.{nat_lt}
use Rattle.std.proofs.lemmas.Fmt.{decimal_digit, first_decimal, decimal-digits_value}
use Rattle.txn_store.specs.Digits.{digits_read}
use Rattle.txn_store.proofs.DigitLemmas.{own, number_parts, read_number, decimal_read_back}
use Rattle.txn_script_lines.specs.Numerals.{decimal_read}

-- plain decimals
pub decimal_leads : (n : ℕ) → n < 2 ^ 64 → get_or (decimal n) 0 0 ≡ 48 → length (decimal n) ≡ 1
decimal_leads zero fits lead = ap length (decimal_digit 0 (lit< tt))
decimal_leads (suc n) fits lead = let above : 48 < get_or (decimal (suc n)) 0 0 = first_decimal (suc n) (omega arith) fits in absurd (omega (arith, above, lead))

pub read_decimal : (ds : List ℕ) (n : ℕ) → (get_or ds 0 0 ≡ 48 → length ds ≡ 1) → digits_read ds ≡ Some n → ds ≡ decimal n
read_decimal ds n lead h =
    let is = read_number ds n h in
    let p = number_parts ds is.0 in
    sym (decimal-digits_value own ds p.1 p.0 lead p.2) ∙ ap decimal is.1

-- what the readers say
pub lead_some : (ds : List ℕ) → get_or ds 0 0 ≡ 48 → 0 < length ds
lead_some [] lead = absurd (omega (arith, lead))
lead_some (c ∷ cs) lead = omega arith

pub decimal_reads : (n : ℕ) → n < 2 ^ 64 → decimal_read (decimal n) ≡ Some n
decimal_reads n fits = by (nat_lt 1 (length (decimal n)) && get_or (decimal n) 0 0 == 48) refl
  where
    by : (b : Bool) → (nat_lt 1 (length (decimal n)) && get_or (decimal n) 0 0 == 48) ≡ b → (cond b None (digits_read (decimal n))) ≡ Some n
    by true is =
        let long : 1 < length (decimal n) = ltb-true 1 (length (decimal n)) (and_parts _ _ is).0 in
        let one : length (decimal n) ≡ 1 = decimal_leads n fits (eqb-true (get_or (decimal n) 0 0) 48 (and_parts _ _ is).1) in
        absurd (omega (arith, long, one))
    by false is = decimal_read_back n fits

pub decimal_read_is : (ds : List ℕ) (n : ℕ) → decimal_read ds ≡ Some n → (ds ≡ decimal n) × (n < 2 ^ 64)
decimal_read_is ds n = by (nat_lt 1 (length ds) && get_or ds 0 0 == 48) refl
  where
    one_long : (nat_lt 1 (length ds) && get_or ds 0 0 == 48) ≡ false → get_or ds 0 0 ≡ 48 → length ds ≡ 1
    one_long is lead =
        let not_long : nat_lt 1 (length ds) ≡ false = rw (eq-eqb (get_or ds 0 0) 48 lead, and-true) at is in
        let most = ltb-false 1 (length ds) not_long in
        omega (arith, most, lead_some ds lead)

    by : (b : Bool) → (nat_lt 1 (length ds) && get_or ds 0 0 == 48) ≡ b → (cond b None (digits_read ds)) ≡ Some n → (ds ≡ decimal n) × (n < 2 ^ 64)
    by true is e = absurd (cc)
    by false is e = let number = read_number ds n e in (read_decimal ds n (one_long is) e, rw number.1 at (number_parts ds number.0).2)

pub is_decimal : (ds : List ℕ) (r : Option ℕ) → r ≡ decimal_read ds → (n : ℕ) → n < 2 ^ 64 → (r ≡ Some n) ↔ (ds ≡ decimal n)
is_decimal ds r is n fits = (λ e. (decimal_read_is ds n (sym is ∙ e)).0, λ e. is ∙ ap decimal_read e ∙ decimal_reads n fits)
