-- The paths of versions ascend with their ids, and their ids with their paths.
use Rattle.std.proofs.Common.{◌≡◌, ℕ, ◌+◌, ◌*◌, ◌<◌, ◌^◌, List, [], ◌∷◌, ◌++◌, length, inl, inr, refl, sym, ap, subst, ◌∙◌, arith}
use Rattle.std.specs.Char.{digit_value}
use Rattle.std.specs.Cmp.{nat_cmp_is, tied_itself}
use Rattle.std.specs.Cmp.Lexicographic.{slice_cmp}
use Rattle.std.specs.Ordering.{nat_cmp}
use Rattle.std.specs.Str.Parse.{AllDigits, digits_value_after}
use Rattle.std.specs.declared.cmp.Ordering.TheVariants.{Less, Equal, Greater}
use Rattle.std.proofs.lemmas.Bool.{cases_eq, cases_lt}
use Rattle.std.proofs.lemmas.Cmp.{nat_list_cmp_total}
use Rattle.std.proofs.lemmas.Str.{digit_value_digit}
use Rattle.std.proofs.lemmas.Str.Parse.{digit_from_value}
use Rattle.txn_store.specs.Paths.{Segments, path_cmp}
use Rattle.txn_store.specs.Digits.{padded}
use Rattle.txn_store.specs.VersionName.{Names, version_name, version_path}
use Rattle.txn_store.proofs.DigitLemmas.{own, padded_writes}
use Rattle.txn_store.proofs.FileLemmas.{path_cmp_total}
use Rattle.txn_store.proofs.SortedLemmas.{reversed}

digit_is : (c : ℕ) → digit_value c < 10 → digit_value c + 48 ≡ c
digit_is c fits = digit_value_digit c (digit_from_value c fits)

-- as many digits write more after a greater number
more_after : (xs ys : List ℕ) (n m : ℕ) → length xs ≡ length ys → AllDigits 10 xs → n < m → digits_value_after 10 n xs < digits_value_after 10 m ys
more_after [] [] n m long digits lt = lt
more_after [] (y ∷ ys) n m long digits lt = absurd (omega (arith, long))
more_after (x ∷ xs) [] n m long digits lt = absurd (omega (arith, long))
more_after (x ∷ xs) (y ∷ ys) n m long digits lt =
    let small = digits.0 in
    more_after xs ys (n * 10 + digit_value x) (m * 10 + digit_value y) (omega (arith, long)) digits.1 (omega (arith, small, lt))

-- as many digits are ordered as the numbers that they write, whatever follows them
digits_order : (xs ys s t : List ℕ) (n : ℕ) → length xs ≡ length ys → AllDigits 10 xs → AllDigits 10 ys → digits_value_after 10 n xs < digits_value_after 10 n ys → slice_cmp nat_cmp (xs ++ s) (ys ++ t) ≡ Less
digits_order [] [] s t n long dx dy lt = absurd (omega (arith, lt))
digits_order [] (y ∷ ys) s t n long dx dy lt = absurd (omega (arith, long))
digits_order (x ∷ xs) [] s t n long dx dy lt = absurd (omega (arith, long))
digits_order (x ∷ xs) (y ∷ ys) s t n long dx dy lt =
    elim (cases_lt x y) [
      | inl less ↦ rw (sym (nat_cmp_is x y Less less)) refl
      | inr most ↦ elim (cases_eq x y) [
        | inl same ↦
            rw (sym (nat_cmp_is x y Equal same))
            (digits_order xs ys s t (n * 10 + digit_value x) (omega (arith, long)) dx.1 dy.1 (subst (λ (c : ℕ). digits_value_after 10 (n * 10 + digit_value x) xs < digits_value_after 10 (n * 10 + digit_value c) ys) (sym same) lt))
        | inr other ↦
            let above : digit_value y < digit_value x = omega (arith, digit_is x dx.0, digit_is y dy.0, most, other) in
            let back = more_after ys xs (n * 10 + digit_value y) (n * 10 + digit_value x) (sym (omega (arith, long))) dy.1 (omega (arith, above)) in
            absurd (omega (arith, back, lt))
      ]
    ]

padded_order : (n m : ℕ) (s : List ℕ) → n < m → m < 2 ^ 64 → slice_cmp nat_cmp (padded n ++ s) (padded m ++ s) ≡ Less
padded_order n m s lt fits =
    let low = padded_writes n (omega (arith, lt, fits)) in
    let high = padded_writes m fits in
    digits_order (padded n) (padded m) s s 0 (omega (arith, low.twenty, high.twenty)) (own.to (padded n) low.digits) (own.to (padded m) high.digits) (omega (arith, low.number, high.number, lt))

-- names under one folder are ordered as the names are
folder_order : (dir : Segments) (low high : List ℕ) → slice_cmp nat_cmp low high ≡ Less → path_cmp (dir ++ low ∷ []) (dir ++ high ∷ []) ≡ Less
folder_order [] low high less = rw less refl
folder_order (segment ∷ dir) low high less = rw (tied_itself nat_list_cmp_total segment) (folder_order dir low high less)

pub version_order : (names : Names) (n m : ℕ) → n < m → m < 2 ^ 64 → path_cmp (version_path names n) (version_path names m) ≡ Less
version_order names n m lt fits = folder_order names.dir (version_name names.suffix n) (version_name names.suffix m) (padded_order n m (46 ∷ names.suffix) lt fits)

-- a version whose path stands behind another's has a greater id
pub path_up : (names : Names) (n m : ℕ) → n < 2 ^ 64 → path_cmp (version_path names n) (version_path names m) ≡ Less → n < m
path_up names n m fits up =
    elim (cases_lt n m) [
      | inl lt ↦ lt
      | inr ge ↦ elim (cases_eq m n) [
        | inl same ↦
            let level : path_cmp (version_path names n) (version_path names m) ≡ Equal = ap (λ k. path_cmp (version_path names n) (version_path names k)) same ∙ tied_itself path_cmp_total (version_path names n) in
            let clash : Less ≡ Equal = sym up ∙ level in
            absurd (cc)
        | inr apart ↦
            let back = reversed (version_path names m) (version_path names n) Less (version_order names m n (omega (arith, ge, apart)) fits) in
            let clash : Less ≡ Greater = sym up ∙ back in
            absurd (cc)
      ]
    ]
