-- Lemmas on the names of versions.
use Rattle.std.proofs.Common.{◌≡◌, ◌≢◌, ℕ, ◌<◌, ◌-◌, ◌^◌, ◌↔◌, List, [], ◌∷◌, ◌++◌, true, length, Option, Some, None, refl, ap, sym, ◌∙◌, arith, append_assoc}
use Rattle.std.specs.Char.{is_ascii_digit}
use Rattle.std.specs.Fmt.{format_spec, styled_decimal}
use Rattle.std.specs.List.{list_all}
use Rattle.std.specs.Str.Pattern.{FindsTextPrefix, FindsTextSuffix, StripsPrefix, StripsSuffix}
use Rattle.std.proofs.lemmas.Bool.{ne_eqb}
use Rattle.std.proofs.Math.Dec.{eqb-suc-zero}
use Rattle.std.proofs.lemmas.List.{append_cancel_left, append_cancel_right}
use Rattle.std.proofs.lemmas.List.Folds.{list_all-append}
use Rattle.txn_store.specs.Paths.{Segments, is_plain_byte, is_plain, all_plain}
use Rattle.txn_store.specs.PathText.{lines_of, segments_in}
use Rattle.txn_store.specs.Digits.{digits_read, padded}
use Rattle.txn_store.specs.VersionName.{Names, is_suffix, version_name, version_path}
use Rattle.txn_store.proofs.PathLemmas.{and_left, and_right}
use Rattle.txn_store.proofs.TextLemmas.{lines_of-push, segments_in-lines_of, all_plain-push}
use Rattle.txn_store.proofs.DigitLemmas.{padded_digits, padded_read, length_padded, padded_shown}

digit_plain : (d : ℕ) → is_ascii_digit d ≡ true → is_plain_byte d ≡ true
digit_plain d h = rw h refl

digits_plain : (ds : List ℕ) → list_all is_ascii_digit ds ≡ true → list_all is_plain_byte ds ≡ true
digits_plain [] h = refl
digits_plain (d ∷ ds) h = rw (digit_plain d (and_left _ _ h)) (digits_plain ds (and_right _ _ h))

dot_no_digit : (d : ℕ) → d ≡ 46 → is_ascii_digit d ≡ true → ⊥
dot_no_digit d e h = let h' = rw e at h in cc

-- a digit, and then plain bytes
digit_first : (d : ℕ) (rest : List ℕ) → is_ascii_digit d ≡ true → list_all is_plain_byte (d ∷ rest) ≡ true → is_plain (d ∷ rest) ≡ true
digit_first d rest digit plain = let other = ne_eqb d 46 (λ e. dot_no_digit d e digit) in rw (eqb-suc-zero (length rest), other) (rw other at plain)

named_plain : (ds suffix : List ℕ) → 0 < length ds → list_all is_ascii_digit ds ≡ true → list_all is_plain_byte suffix ≡ true → is_plain (ds ++ 46 ∷ suffix) ≡ true
named_plain [] suffix some digits plain = absurd (omega (arith, some))
named_plain (d ∷ ds) suffix some digits plain = digit_first d (ds ++ 46 ∷ suffix) (and_left _ _ digits) (list_all-append is_plain_byte (d ∷ ds) (46 ∷ suffix) ∙ rw (digits_plain (d ∷ ds) digits) plain)

-- the name of a version is a segment
pub version_plain : (suffix : List ℕ) (n : ℕ) → n < 2 ^ 64 → is_suffix suffix ≡ true → is_plain (version_name suffix n) ≡ true
version_plain suffix n fits h = let long = length_padded n fits in named_plain (padded n) suffix (omega (arith, long)) (padded_digits n fits) (and_right _ _ (and_left _ _ h))

same_last : (dir : Segments) (x y : List ℕ) → dir ++ x ∷ [] ≡ dir ++ y ∷ [] → x ≡ y
same_last dir x y h = let same = append_cancel_left dir _ _ h in cc

-- two versions have two paths
pub version_unique : (names : Names) (m n : ℕ) → m < 2 ^ 64 → n < 2 ^ 64 → version_path names m ≡ version_path names n → m ≡ n
version_unique names m n small fits h =
    let name = same_last names.dir _ _ h in
    let digits = append_cancel_right (padded m) (padded n) (46 ∷ names.suffix) name in
    let one = padded_read m small in
    let other = padded_read n fits in
    let same = ap digits_read digits in
    cc

-- the text of a version's path
module _ (names : Names) (plain : all_plain names.dir ≡ true) (ends : is_suffix names.suffix ≡ true) (n : ℕ) (fits : n < 2 ^ 64) where
  pub version_text : lines_of (version_path names n) ≡ lines_of names.dir ++ (padded n ++ 46 ∷ (names.suffix ++ 10 ∷ []))
  version_text = lines_of-push names.dir (version_name names.suffix n) ∙ ap (λ r. lines_of names.dir ++ r) (append_assoc (padded n) (46 ∷ names.suffix) (10 ∷ []))

  pub version_all_plain : all_plain (version_path names n) ≡ true
  version_all_plain = all_plain-push names.dir (version_name names.suffix n) plain (version_plain names.suffix n fits ends)

  -- a path is that of a version where its text is
  pub text_of_version : (path : Segments) → all_plain path ≡ true → (lines_of path ≡ lines_of names.dir ++ (padded n ++ 46 ∷ (names.suffix ++ 10 ∷ []))) ↔ (path ≡ version_path names n)
  text_of_version path all = (
    λ e. sym (segments_in-lines_of path all) ∙ ap segments_in (e ∙ sym version_text) ∙ segments_in-lines_of (version_path names n) version_all_plain,
    λ e. ap lines_of e ∙ version_text,
  )

-- what the format writes after an empty text
pub version_written : (spec : _) (n : ℕ) (none dir shown : List ℕ) (path : Segments) (suffix : List ℕ) → none ≡ [] → dir ≡ lines_of path → spec ≡ format_spec 32 0 4 20 (2 ^ 64 - 1) → shown ≡ suffix → none ++ (dir ++ (styled_decimal spec n ++ 46 ∷ (shown ++ 10 ∷ []))) ≡ lines_of path ++ (padded n ++ 46 ∷ (suffix ++ 10 ∷ []))
version_written spec n none dir shown path suffix empty in_dir is same = rw (empty, in_dir, is, same, padded_shown n) refl

-- what a stripped text leaves
pub prefix_parts : (n s x : List ℕ) → StripsPrefix (FindsTextPrefix n) s x → s ≡ n ++ x
prefix_parts n s x (k, found, is, long) = found.1 ∙ ap (λ r. n ++ r) (sym is)

pub suffix_parts : (n s x : List ℕ) → StripsSuffix (FindsTextSuffix n) s x → s ≡ x ++ n
suffix_parts n s x (k, found, is, long) = found.1 ∙ ap (λ r. r ++ n) (sym is)

-- a dot, a suffix and a line feed
abbrev pub tail : List ℕ → ℕ → List ℕ
tail suffix n = padded n ++ 46 ∷ (suffix ++ 10 ∷ [])

tail_feed : (suffix : List ℕ) (n : ℕ) → tail suffix n ≡ (padded n ++ 46 ∷ suffix) ++ 10 ∷ []
tail_feed suffix n = sym (append_assoc (padded n) (46 ∷ suffix) (10 ∷ []))

tail_suffix : (suffix : List ℕ) (n : ℕ) → padded n ++ 46 ∷ suffix ≡ (padded n ++ 46 ∷ []) ++ suffix
tail_suffix suffix n = sym (append_assoc (padded n) (46 ∷ []) suffix)

-- The readings of a path's text, one step of `parse_id` after another: `text` is the path's, `dir` the directory's, `name` what follows it, `stem` the name before its line feed, `begun` the stem before the suffix, `digits` what stands before the dot.
module _ (names : Names) (path : Segments) (text dir : List ℕ) (all : all_plain path ≡ true) (plain : all_plain names.dir ≡ true) (ends : is_suffix names.suffix ≡ true) (is_text : text ≡ lines_of path) (is_dir : dir ≡ lines_of names.dir) where
  text_is : (n : ℕ) → n < 2 ^ 64 → path ≡ version_path names n → text ≡ dir ++ tail names.suffix n
  text_is n fits e = is_text ∙ (text_of_version names plain ends n fits path all).1 e ∙ ap (λ r. r ++ tail names.suffix n) (sym is_dir)

  refused : (r : Option ℕ) → r ≡ None → ((n : ℕ) → n < 2 ^ 64 → path ≢ version_path names n) → (n : ℕ) → n < 2 ^ 64 → (r ≡ Some n) ↔ (path ≡ version_path names n)
  refused r is other n fits = (λ e. absurd (cc), λ e. absurd (other n fits e))

  pub other_dir : (r : Option ℕ) → r ≡ None → ((rest : List ℕ) → text ≢ dir ++ rest) → (n : ℕ) → n < 2 ^ 64 → (r ≡ Some n) ↔ (path ≡ version_path names n)
  other_dir r is none = refused r is (λ n fits e. none (tail names.suffix n) (text_is n fits e))

  module _ (name : List ℕ) (in_dir : text ≡ dir ++ name) where
    name_is : (n : ℕ) → n < 2 ^ 64 → path ≡ version_path names n → name ≡ (padded n ++ 46 ∷ names.suffix) ++ 10 ∷ []
    name_is n fits e = append_cancel_left dir name (tail names.suffix n) (sym in_dir ∙ text_is n fits e) ∙ tail_feed names.suffix n

    pub no_feed : (r : Option ℕ) → r ≡ None → ((front : List ℕ) → name ≢ front ++ 10 ∷ []) → (n : ℕ) → n < 2 ^ 64 → (r ≡ Some n) ↔ (path ≡ version_path names n)
    no_feed r is none = refused r is (λ n fits e. none (padded n ++ 46 ∷ names.suffix) (name_is n fits e))

    module _ (stem suffix : List ℕ) (fed : name ≡ stem ++ 10 ∷ []) (is_suffix : suffix ≡ names.suffix) where
      stem_is : (n : ℕ) → n < 2 ^ 64 → path ≡ version_path names n → stem ≡ (padded n ++ 46 ∷ []) ++ suffix
      stem_is n fits e = append_cancel_right stem (padded n ++ 46 ∷ names.suffix) (10 ∷ []) (sym fed ∙ name_is n fits e) ∙ tail_suffix names.suffix n ∙ ap (λ r. (padded n ++ 46 ∷ []) ++ r) (sym is_suffix)

      pub other_suffix : (r : Option ℕ) → r ≡ None → ((front : List ℕ) → stem ≢ front ++ suffix) → (n : ℕ) → n < 2 ^ 64 → (r ≡ Some n) ↔ (path ≡ version_path names n)
      other_suffix r is none = refused r is (λ n fits e. none (padded n ++ 46 ∷ []) (stem_is n fits e))

      module _ (begun : List ℕ) (ended : stem ≡ begun ++ suffix) where
        begun_is : (n : ℕ) → n < 2 ^ 64 → path ≡ version_path names n → begun ≡ padded n ++ 46 ∷ []
        begun_is n fits e = append_cancel_right begun (padded n ++ 46 ∷ []) suffix (sym ended ∙ stem_is n fits e)

        pub no_dot : (r : Option ℕ) → r ≡ None → ((front : List ℕ) → begun ≢ front ++ 46 ∷ []) → (n : ℕ) → n < 2 ^ 64 → (r ≡ Some n) ↔ (path ≡ version_path names n)
        no_dot r is none = refused r is (λ n fits e. none (padded n) (begun_is n fits e))

        pub read_name : (digits : List ℕ) (r : Option ℕ) → begun ≡ digits ++ 46 ∷ [] → ((n : ℕ) → n < 2 ^ 64 → (r ≡ Some n) ↔ (digits ≡ padded n)) → (n : ℕ) → n < 2 ^ 64 → (r ≡ Some n) ↔ (path ≡ version_path names n)
        read_name digits r dotted reads n fits = (
          λ e.
              let same = (reads n fits).0 e in
              let stem_ends : stem ≡ (padded n ++ 46 ∷ []) ++ names.suffix = ended ∙ rw (dotted, same, is_suffix) refl in
              let name_ends : name ≡ tail names.suffix n = fed ∙ ap (λ r. r ++ 10 ∷ []) (stem_ends ∙ sym (tail_suffix names.suffix n)) ∙ sym (tail_feed names.suffix n) in
              (text_of_version names plain ends n fits path all).0 (sym is_text ∙ in_dir ∙ rw (is_dir, name_ends) refl),
          λ e. (reads n fits).1 (append_cancel_right digits (padded n) (46 ∷ []) (sym dotted ∙ begun_is n fits e)),
        )
