-- An entry is read back.
use Rattle.std.proofs.Common.{◌≡◌, ◌≢◌, ℕ, ◌+◌, ◌<◌, ◌≤◌, ◌^◌, Bool, true, false, cond, nat_lt, List, ◌∷◌, ◌++◌, length, get_or, Option, Some, None, Result, Ok, Err, IfOk, refl, ap, sym, subst, ◌∙◌, arith, suc}
use Rattle.std.specs.Fmt.{decimal}
use Rattle.std.specs.Prelude.{take, drop, slice_index}
use Rattle.std.specs.List.{position_or_len, before_first, after_first}
use Rattle.std.specs.Str.{IsUtf8}
use Rattle.std.proofs.lemmas.List.{length-append}
use Rattle.std.proofs.Math.ListN.{get_or-append}
use Rattle.std.proofs.Math.Seq.{get_or-append_seam, take-append_seam, drop-append-add}
use Rattle.std.proofs.lemmas.Bool.{lt-ltb, ltb-true, eqb-true, ne_eqb}
use Rattle.std.proofs.lemmas.List.Sums.{position_or_len_is, split_at_first, passes_at_first}
use Rattle.std.proofs.lemmas.Str.{IsUtf8-from_ascii}
use Rattle.txn_script_lines.specs.Numerals.{decimal_read}
use Rattle.txn_script_lines.proofs.NumeralLemmas.{decimal_reads, decimal_read_is}
use Rattle.std.proofs.lemmas.Str.Parse.{not_in_digits}
use Rattle.std.proofs.lemmas.Fmt.{IsAscii-decimal, decimal_is_IsNumeral}
use Rattle.txn_script_lines.proofs.RecordLemmas.{own}
use Rattle.txn_script_lines.specs.declared.values.entry.Entry.{Entry}
use Rattle.txn_script_lines.specs.values.Entry.{entry_bytes, entry_read, is_colon, with_payload}

pub no_colon_in : (n : ℕ) → n < 2 ^ 64 → (i : ℕ) → i < length (decimal n) → get_or (decimal n) i 0 ≢ 58
no_colon_in n fits = not_in_digits own (decimal n) 58 (decimal_is_IsNumeral n fits).0.1 (λ r. omega (arith, r.1))

not_colon : (b : ℕ) → b ≢ 58 → is_colon b ≡ false
not_colon b n = ne_eqb b 58 n

pub place_of : (xs : List ℕ) (i : ℕ) → i ≤ length xs → ((k : ℕ) → k < i → slice_index xs k ≢ 58) → (i < length xs → slice_index xs i ≡ 58) → position_or_len is_colon xs ≡ i
place_of xs i within before found = position_or_len_is is_colon xs i 0 within (λ k l. not_colon (get_or xs k 0) (before k l)) (λ l. rw (found l) refl)

longer : (ds rest : List ℕ) → length (ds ++ 58 ∷ rest) ≡ suc (length ds + length rest)
longer ds rest = length-append ds (58 ∷ rest) ∙ omega arith

colon_at : (ds rest : List ℕ) → ((i : ℕ) → i < length ds → get_or ds i 0 ≢ 58) → position_or_len is_colon (ds ++ 58 ∷ rest) ≡ length ds
colon_at ds rest free = place_of (ds ++ 58 ∷ rest) (length ds) (let e = longer ds rest in omega (arith, e)) (λ k l. subst (λ (b : ℕ). b ≢ 58) (sym (get_or-append ds (58 ∷ rest) 0 k l)) (free k l)) (λ l. get_or-append_seam ds 58 rest 0)

pub entry_reads : (v : Entry) → v.epoch < 2 ^ 64 → entry_read (entry_bytes v) ≡ Some v
entry_reads v fits =
    let at : position_or_len is_colon (decimal v.epoch ++ 58 ∷ v.payload) ≡ length (decimal v.epoch) = colon_at (decimal v.epoch) v.payload (no_colon_in v.epoch fits) in
    let before : take (length (decimal v.epoch)) (decimal v.epoch ++ 58 ∷ v.payload) ≡ decimal v.epoch = take-append_seam (decimal v.epoch) (58 ∷ v.payload) in
    let after : drop (length (decimal v.epoch) + 1) (decimal v.epoch ++ 58 ∷ v.payload) ≡ v.payload = drop-append-add (decimal v.epoch) (58 ∷ v.payload) 1 in
    let e = longer (decimal v.epoch) v.payload in
    let inside : nat_lt (length (decimal v.epoch)) (length (decimal v.epoch ++ 58 ∷ v.payload)) ≡ true = lt-ltb (length (decimal v.epoch)) (length (decimal v.epoch ++ 58 ∷ v.payload)) (omega (arith, e)) in
    rw (at, before, after, decimal_reads v.epoch fits, inside) refl

-- bytes that are no text are no plain decimal
pub not_plain : (bs : List ℕ) → ¬ (IsUtf8 bs) → None ≡ decimal_read bs
not_plain bs h = by (decimal_read bs) refl
  where
    by : (o : Option ℕ) → decimal_read bs ≡ o → None ≡ o
    by None is = refl
    by (Some n) is = let read = decimal_read_is bs n is in absurd (h (subst IsUtf8 (sym read.0) (IsUtf8-from_ascii (decimal n) (IsAscii-decimal n read.1))))

-- what is read is the bytes of what it is read as
entry_read_is : (bs : List ℕ) (v : Entry) → entry_read bs ≡ Some v → bs ≡ entry_bytes v
entry_read_is bs v = by (nat_lt (position_or_len is_colon bs) (length bs)) refl
  where
    of_epoch : (o : Option ℕ) → decimal_read (before_first is_colon bs) ≡ o → with_payload (after_first is_colon bs) o ≡ Some v → (before_first is_colon bs ≡ decimal v.epoch) × (after_first is_colon bs ≡ v.payload)
    of_epoch None is h = absurd (cc)
    of_epoch (Some epoch) is h =
        let same : record { epoch = epoch; payload = after_first is_colon bs } ≡ v = cc in
        ((decimal_read_is (before_first is_colon bs) epoch is).0 ∙ ap (λ (e : Entry). decimal e.epoch) same, ap (λ (e : Entry). e.payload) same)

    by : (b : Bool) → nat_lt (position_or_len is_colon bs) (length bs) ≡ b → (cond b (with_payload (after_first is_colon bs) (decimal_read (before_first is_colon bs))) None) ≡ Some v → bs ≡ entry_bytes v
    by false is h = absurd (cc)
    by true is h =
        let inside = ltb-true (position_or_len is_colon bs) (length bs) is in
        let parts = of_epoch (decimal_read (before_first is_colon bs)) refl h in
        let colon : get_or bs (position_or_len is_colon bs) 0 ≡ 58 = eqb-true (get_or bs (position_or_len is_colon bs) 0) 58 (passes_at_first is_colon bs 0 inside) in
        split_at_first is_colon bs 0 inside ∙ rw (parts.0, parts.1, colon) refl

pub read_exactly : {E : Type 0} (bs : List ℕ) (r : Result Entry E) → IfOk r (λ v. entry_read bs ≡ Some v) → IfOk r (λ v. bs ≡ entry_bytes v)
read_exactly bs (Ok v) h = entry_read_is bs v h
read_exactly bs (Err e) h = tt
