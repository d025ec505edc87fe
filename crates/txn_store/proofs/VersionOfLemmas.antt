-- A path names at most one version, and `version_of` gives it.
use Rattle.std.proofs.Common.{◌≡◌, ℕ, ◌<◌, ◌^◌, ◌↔◌, List, [], ◌∷◌, ◌++◌, Bool, true, false, ◌&&◌, nat_eq, cond, length, take, IfSome, Option, Some, None, refl, sym, ◌∙◌, ap, arith}
use Rattle.std.specs.Prelude.{nat_lt}
use Rattle.std.specs.Cmp.Lexicographic.{pointwise}
use Rattle.std.specs.Str.Parse.{digits_value}
use Rattle.std.proofs.lemmas.Bool.{eq-eqb, ltb-true, lt-ltb}
use Rattle.std.proofs.lemmas.List.{length-append, take-append-le, take_all}
use Rattle.std.proofs.lemmas.Option.{same_Some}
use Rattle.txn_store.specs.Paths.{Segments, is_below}
use Rattle.txn_store.specs.Digits.{padded}
use Rattle.txn_store.specs.VersionName.{Names, version_name, version_path}
use Rattle.txn_store.specs.VersionOf.{last_segment, number_in, version_of}
use Rattle.txn_store.proofs.DigitLemmas.{length_padded, padded_read, read_number}
use Rattle.txn_store.proofs.PathLemmas.{same_segments, and_left, and_right}

text_equal : (xs : List ℕ) → pointwise nat_eq xs xs ≡ true
text_equal [] = refl
text_equal (x ∷ xs) = rw (eq-eqb x x refl) (text_equal xs)

segments_equal : (xs : Segments) → pointwise (pointwise nat_eq) xs xs ≡ true
segments_equal [] = refl
segments_equal (x ∷ xs) = rw (text_equal x) (segments_equal xs)

-- what stands right under a folder is below it
below_folder : (dir : Segments) (name : List ℕ) → is_below dir (dir ++ name ∷ []) ≡ true
below_folder dir name =
    let front : take (length dir) (dir ++ name ∷ []) ≡ dir = take-append-le (length dir) dir (name ∷ []) (omega arith) ∙ take_all (length dir) dir (omega arith) in
    let longer : nat_lt (length dir) (length (dir ++ name ∷ [])) ≡ true = lt-ltb (length dir) (length (dir ++ name ∷ [])) (omega (arith, length-append dir (name ∷ []))) in
    rw (front, segments_equal dir, longer) refl

pub version_below : (names : Names) (n : ℕ) → is_below names.dir (version_path names n) ≡ true
version_below names n = below_folder names.dir (version_name names.suffix n)

last_of : (dir : Segments) (name : List ℕ) → last_segment (dir ++ name ∷ []) ≡ name
last_of [] name = refl
last_of (s ∷ []) name = refl
last_of (s ∷ t ∷ dir) name = last_of (t ∷ dir) name

number_of_name : (suffix : List ℕ) (n : ℕ) → n < 2 ^ 64 → digits_value 10 (take 20 (version_name suffix n)) ≡ n
number_of_name suffix n fits =
    let long = length_padded n fits in
    let front : take 20 (version_name suffix n) ≡ padded n = take-append-le 20 (padded n) (46 ∷ suffix) (omega (arith, long)) ∙ take_all 20 (padded n) (omega (arith, long)) in
    ap (digits_value 10) front ∙ (read_number (padded n) n (padded_read n fits)).1

number_of_path : (names : Names) (n : ℕ) → n < 2 ^ 64 → number_in (version_path names n) ≡ n
number_of_path names n fits = ap (λ name. digits_value 10 (take 20 name)) (last_of names.dir (version_name names.suffix n)) ∙ number_of_name names.suffix n fits

-- the path of n names n
pub version_of_path : (names : Names) (n : ℕ) → n < 2 ^ 64 → version_of names (version_path names n) ≡ Some n
version_of_path names n fits = rw (number_of_path names n fits, segments_equal (version_path names n), lt-ltb n (2 ^ 64) fits) refl

-- two versions have two paths
pub one_path : (names : Names) (n m : ℕ) → n < 2 ^ 64 → m < 2 ^ 64 → version_path names n ≡ version_path names m → n ≡ m
one_path names n m small small' e = same_Some n m (sym (version_of_path names n small) ∙ (ap (version_of names) e ∙ version_of_path names m small'))

version_from : (names : Names) (path : Segments) (m n : ℕ) (b : Bool) → (pointwise (pointwise nat_eq) path (version_path names m) && nat_lt m (2 ^ 64)) ≡ b → cond b (Some m) None ≡ Some n → (path ≡ version_path names n) × (n < 2 ^ 64)
version_from names path m n true e is =
    let same : m ≡ n = same_Some m n is in
    let small = ltb-true m (2 ^ 64) (and_right _ _ e) in
    (same_segments path (version_path names m) (and_left _ _ e) ∙ ap (version_path names) same, omega (arith, small, same))
version_from names path m n false e is = cc

-- what names n is its path
pub path_of_version : (names : Names) (path : Segments) (n : ℕ) → version_of names path ≡ Some n → (path ≡ version_path names n) × (n < 2 ^ 64)
path_of_version names path n is = version_from names path (number_in path) n _ refl is

none_named : (names : Names) (path : Segments) (found : Option ℕ) → found ≡ version_of names path → ((n : ℕ) → n < 2 ^ 64 → (None ≡ Some n) ↔ (path ≡ version_path names n)) → None ≡ found
none_named names path None e exact = refl
none_named names path (Some n) e exact = let named = path_of_version names path n (sym e) in (exact n named.1).1 named.0

-- a reader that is exact reads `version_of`
pub read_exactly : (names : Names) (path : Segments) (read : Option ℕ) → IfSome read (λ n. n < 2 ^ 64) → ((n : ℕ) → n < 2 ^ 64 → (read ≡ Some n) ↔ (path ≡ version_path names n)) → read ≡ version_of names path
read_exactly names path None fits exact = none_named names path (version_of names path) refl exact
read_exactly names path (Some n) fits exact = sym (ap (version_of names) ((exact n fits).0 refl) ∙ version_of_path names n fits)
