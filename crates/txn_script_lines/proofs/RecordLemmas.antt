-- Lemmas on the text of a record.
use Rattle.std.proofs.Common.{◌≡◌, ◌≢◌, ℕ, zero, suc, ◌==◌, false, ◌<◌, ◌^◌, ◌↔◌, List, [], ◌∷◌, ◌++◌, length, get_or, Option, Some, None, refl, ap, sym, subst, ◌∙◌, arith, lit<}
use Rattle.std.specs.Option.{MatchOption, IfSome}
use Rattle.std.specs.List.{All, slice_split, join_with_byte}
use Rattle.std.proofs.lemmas.List.Splits.{slice_split_at, slice_split_none, join_with_byte-slice_split}
use Rattle.txn_script_lines.specs.Numerals.{decimal_read}
use Rattle.txn_script_lines.proofs.NumeralLemmas.{decimal_reads, decimal_read_is}
use Rattle.txn_script_lines.proofs.ExactReaders.{reads_alike}
use Rattle.std.specs.Str.{IsUtf8, IsAscii}
use Rattle.std.specs.Str.Parse.{AllDigits, digits_value}
use Rattle.std.specs.Fmt.{decimal}
use Rattle.std.proofs.lemmas.Str.{IsUtf8-append, IsUtf8-from_ascii}
use Rattle.std.proofs.lemmas.Str.Parse.{IsNumeralModel, numerals_by_value, tells_digits, not_in_digits}
use Rattle.std.proofs.lemmas.Str.Pattern.{IsSplitOnceResult, split_after, split_parts}
use Rattle.std.proofs.lemmas.Fmt.{decimal_is_IsNumeral, IsAscii-decimal}
use Rattle.std.proofs.lemmas.List.{get_or_default}
use Rattle.std.proofs.lemmas.Bool.{ne_eqb}
use denote.Ref.{Bor}
use Rattle.txn_script_lines.specs.declared.record.Record.{Record}
use Rattle.txn_script_lines.specs.Record.{record_text, record_read, both, of_parts, IsNumbers}

pub own : IsNumeralModel (AllDigits 10) (digits_value 10)
own = numerals_by_value _ tells_digits

no_colon_in : (n : ℕ) → n < 2 ^ 64 → (i : ℕ) → i < length (decimal n) → get_or (decimal n) i 0 ≢ 58
no_colon_in n fits = not_in_digits own (decimal n) 58 (decimal_is_IsNumeral n fits).0.1 (λ r. omega (arith, r.1))

colon_free : (n : ℕ) → n < 2 ^ 64 → All (λ b. (b == 58) ≡ false) (decimal n)
colon_free n fits k d l = rw (get_or_default (decimal n) k d 0 l) (ne_eqb (get_or (decimal n) k 0) 58 (no_colon_in n fits k l))

-- where the text of a record is cut at its first colon
cut : (bs : List ℕ) (r : Option (Bor (List ℕ) × Bor (List ℕ))) → IsSplitOnceResult 58 bs r → (v : Record) → IsNumbers v → bs ≡ record_text v → MatchOption r ⊥ (λ x. (x.0.now ≡ decimal v.epoch) × (x.1.now ≡ decimal v.payload))
cut bs r h v fits is = split_after 58 bs (decimal v.epoch) (decimal v.payload) r h (lit< tt) is (no_colon_in v.epoch fits.epoch)

colon_ascii : IsAscii (58 ∷ [])
colon_ascii zero = lit< tt
colon_ascii (suc i) = lit< tt

pub text_utf8 : (v : Record) → IsNumbers v → IsUtf8 (record_text v)
text_utf8 v fits = IsUtf8-append (decimal v.epoch) (58 ∷ decimal v.payload) (IsUtf8-from_ascii (decimal v.epoch) (IsAscii-decimal v.epoch fits.epoch)) (IsUtf8-append (58 ∷ []) (decimal v.payload) (IsUtf8-from_ascii (58 ∷ []) colon_ascii) (IsUtf8-from_ascii (decimal v.payload) (IsAscii-decimal v.payload fits.payload)))

pub not_utf8 : (bs : List ℕ) → ¬ (IsUtf8 bs) → (v : Record) → IsNumbers v → (None ≡ Some v) ↔ (bs ≡ record_text v)
not_utf8 bs h v fits = (λ e. absurd (cc), λ is. absurd (h (subst IsUtf8 (sym is) (text_utf8 v fits))))

pub no_colon : (bs : List ℕ) → IsSplitOnceResult 58 bs None → (v : Record) → IsNumbers v → (None ≡ Some v) ↔ (bs ≡ record_text v)
no_colon bs h v fits = (λ e. absurd (cc), λ is. absurd (cut bs None h v fits is))

-- what `read_decimal` says of a text
abbrev pub Reads : Option ℕ → List ℕ → Type 0
Reads r ds = (n : ℕ) → n < 2 ^ 64 → (r ≡ Some n) ↔ (ds ≡ decimal n)

pub bad_epoch : (bs : List ℕ) (x : Bor (List ℕ) × Bor (List ℕ)) → IsSplitOnceResult 58 bs (Some x) → Reads None x.0.now → (v : Record) → IsNumbers v → (None ≡ Some v) ↔ (bs ≡ record_text v)
bad_epoch bs x h none v fits = (λ e. absurd (cc), λ is. let no = (none v.epoch fits.epoch).1 (cut bs (Some x) h v fits is).0 in absurd (cc))

pub bad_payload : (bs : List ℕ) (x : Bor (List ℕ) × Bor (List ℕ)) → IsSplitOnceResult 58 bs (Some x) → Reads None x.1.now → (v : Record) → IsNumbers v → (None ≡ Some v) ↔ (bs ≡ record_text v)
bad_payload bs x h none v fits = (λ e. absurd (cc), λ is. let no = (none v.payload fits.payload).1 (cut bs (Some x) h v fits is).1 in absurd (cc))

joined : (xs ys es ps : List ℕ) → xs ≡ es → ys ≡ ps → xs ++ 58 ∷ ys ≡ es ++ 58 ∷ ps
joined xs ys es ps e p = rw (e, p) refl

pub reads : (bs : List ℕ) (x : Bor (List ℕ) × Bor (List ℕ)) (epoch payload : ℕ) → epoch < 2 ^ 64 → payload < 2 ^ 64 → IsSplitOnceResult 58 bs (Some x) → Reads (Some epoch) x.0.now → Reads (Some payload) x.1.now → (v : Record) → IsNumbers v → (Some (record { epoch = epoch; payload = payload }) ≡ Some v) ↔ (bs ≡ record_text v)
reads bs x epoch payload small fits h first second v is_numbers = (
  λ e. let same : record { epoch = epoch; payload = payload } ≡ v = cc in
      let parts = (split_parts 58 bs (Some x) h (lit< tt)).0 in
      let one = (first epoch small).0 refl in
      let two = (second payload fits).0 refl in
      parts ∙ joined x.0.now x.1.now (decimal epoch) (decimal payload) one two ∙ ap record_text same,
  λ is. let parts = cut bs (Some x) h v is_numbers is in
      let one = (first v.epoch is_numbers.epoch).1 parts.0 in
      let two = (second v.payload is_numbers.payload).1 parts.1 in
      let epochs : epoch ≡ v.epoch = cc in
      let payloads : payload ≡ v.payload = cc in
      rw (epochs, payloads) refl,
)

both_is : (e p : Option ℕ) (v : Record) → both e p ≡ Some v → (e ≡ Some v.epoch) × (p ≡ Some v.payload)
both_is (Some e) (Some p) v h = let same : record { epoch = e; payload = p } ≡ v = cc in (ap (λ (r : Record). Some r.epoch) same, ap (λ (r : Record). Some r.payload) same)
both_is (Some e) None v h = absurd (cc)
both_is None p v h = absurd (cc)

of_parts_is : (parts : List (List ℕ)) (v : Record) → of_parts parts ≡ Some v → IsNumbers v × (join_with_byte 58 parts ≡ record_text v)
of_parts_is [] v h = absurd (cc)
of_parts_is (e ∷ []) v h = absurd (cc)
of_parts_is (e ∷ p ∷ []) v h =
    let is = both_is (decimal_read e) (decimal_read p) v h in
    let one = decimal_read_is e v.epoch is.0 in
    let two = decimal_read_is p v.payload is.1 in
    (record { epoch = one.1; payload = two.1 }, joined e p (decimal v.epoch) (decimal v.payload) one.0 two.0)
of_parts_is (e ∷ p ∷ q ∷ parts) v h = absurd (cc)

-- what is read is a text of numbers
pub record_read_is : (bs : List ℕ) (v : Record) → record_read bs ≡ Some v → IsNumbers v × (bs ≡ record_text v)
record_read_is bs v h = let is = of_parts_is (slice_split (λ b. b == 58) bs) v h in (is.0, sym (join_with_byte-slice_split 58 bs) ∙ is.1)

parts_of_text : (v : Record) → IsNumbers v → slice_split (λ b. b == 58) (record_text v) ≡ decimal v.epoch ∷ decimal v.payload ∷ []
parts_of_text v fits =
    slice_split_at (λ b. b == 58) (decimal v.epoch) 58 (decimal v.payload) (colon_free v.epoch fits.epoch) refl
    ∙ ap (λ r. decimal v.epoch ∷ r) (slice_split_none (λ b. b == 58) (decimal v.payload) (colon_free v.payload fits.payload))

-- what is written reads back
pub record_reads : (v : Record) → IsNumbers v → record_read (record_text v) ≡ Some v
record_reads v fits = rw (parts_of_text v fits, decimal_reads v.epoch fits.epoch, decimal_reads v.payload fits.payload) refl

pub read_by : (bs : List ℕ) (r : Option Record) → IfSome r IsNumbers → ((v : Record) → IsNumbers v → (r ≡ Some v) ↔ (bs ≡ record_text v)) → r ≡ record_read bs
read_by = reads_alike record_text IsNumbers record_read record_reads record_read_is
