-- Lemmas on the names of an object's files.
use Rattle.std.proofs.Common.{◌≡◌, ◌≢◌, ℕ, ◌<◌, ◌^◌, ◌-◌, ◌↔◌, List, [], ◌∷◌, ◌++◌, Option, Some, None, refl, ap, sym, ◌∙◌, append_assoc, lit<, Bool, true, false}
use Rattle.std.specs.Prelude.{is_some, Decides}
use Rattle.std.specs.Option.{MatchOption}
use Rattle.std.proofs.lemmas.Str.Pattern.{IsSplitOnceResult, split_after, split_parts}
use denote.Ref.{Bor}
use Rattle.std.specs.Fmt.{format_spec, styled_decimal}
use Rattle.std.proofs.lemmas.List.{append_cancel_right}
use Rattle.std.specs.Prelude.{codes, nat_eq}
use Rattle.std.specs.Cmp.Lexicographic.{pointwise, lists_equiv, nat_list_eq_equiv}
use Rattle.txn_store.specs.Paths.{Segments, is_plain}
use Rattle.txn_store.proofs.PathLemmas.{same_text}
use Rattle.txn_store.specs.Digits.{padded}
use Rattle.txn_store.specs.VersionName.{is_suffix, version_name}
use Rattle.txn_store.proofs.DigitLemmas.{padded_shown}
use Rattle.txn_folder.specs.Files.{IsTemporaryOf, AreKept}

-- the suffix after the dot
split_name : (suffix : List ℕ) (n : ℕ) → version_name suffix n ≡ (padded n ++ 46 ∷ []) ++ suffix
split_name suffix n = sym (append_assoc (padded n) (46 ∷ []) suffix)

-- how the texts of a folder are kept
pub kept_of : (root name suffix r n s v g b : List ℕ) → is_plain name ≡ true → is_suffix suffix ≡ true → r ≡ root → n ≡ name → s ≡ suffix → v ≡ root ++ 47 ∷ name → g ≡ root ++ codes "/gc" → b ≡ root ++ (codes "/gc/" ++ (name ++ codes ".boundary")) → AreKept (record { root = r; name = n; suffix = s }) v g b
kept_of root name suffix r n s v g b plain ends r_is n_is s_is v_is g_is b_is =
    rw (r_is, n_is, s_is) (record { name = plain; suffix = ends; versions_is = v_is; gc_is = g_is; boundary_is = b_is ∙ sym (append_assoc root (codes "/gc") (47 ∷ (name ++ codes ".boundary"))) })

same_name : (xs ys : List ℕ) → xs ≡ ys → pointwise nat_eq xs ys ≡ true
same_name xs ys e = rw e (nat_list_eq_equiv.refl ys)

-- the boundary's name, where the front before its end is this text
pub boundary_named : (name front text own : List ℕ) (b : Bool) → name ≡ front ++ codes ".boundary" → b ≡ pointwise nat_eq front text → text ≡ own → Decides b (name ≡ own ++ codes ".boundary")
boundary_named name front text own b ended is text_is = (
  λ e. let same : front ≡ text = same_text front text (sym is ∙ e) in ended ∙ rw (same, text_is) refl,
  λ e. let same : front ≡ own = append_cancel_right front own (codes ".boundary") (sym ended ∙ e) in is ∙ same_name front text (same ∙ sym text_is),
)

-- paths that are told apart
pub other_path : (xs ys : Segments) → pointwise (pointwise nat_eq) xs ys ≡ false → xs ≡ ys → ⊥
other_path xs ys apart e = let is = rw e at apart in let yes = (lists_equiv nat_list_eq_equiv).refl ys in cc

-- The readings of a name, one step of `id_of` after another: `begun` is the name before the suffix, `digits` what stands before the dot.
module _ (name suffix text : List ℕ) (text_is : text ≡ suffix) where
  name_is : (n : ℕ) → name ≡ version_name suffix n → name ≡ (padded n ++ 46 ∷ []) ++ text
  name_is n e = e ∙ split_name suffix n ∙ ap (λ r. (padded n ++ 46 ∷ []) ++ r) (sym text_is)

  pub other_suffix : (r : Option ℕ) → r ≡ None → ((front : List ℕ) → name ≢ front ++ text) → (n : ℕ) → n < 2 ^ 64 → (r ≡ Some n) ↔ (name ≡ version_name suffix n)
  other_suffix r is none n fits = (λ e. absurd (cc), λ e. absurd (none (padded n ++ 46 ∷ []) (name_is n e)))

  module _ (begun : List ℕ) (ended : name ≡ begun ++ text) where
    begun_is : (n : ℕ) → name ≡ version_name suffix n → begun ≡ padded n ++ 46 ∷ []
    begun_is n e = append_cancel_right begun (padded n ++ 46 ∷ []) text (sym ended ∙ name_is n e)

    pub no_dot : (r : Option ℕ) → r ≡ None → ((front : List ℕ) → begun ≢ front ++ 46 ∷ []) → (n : ℕ) → n < 2 ^ 64 → (r ≡ Some n) ↔ (name ≡ version_name suffix n)
    no_dot r is none n fits = (λ e. absurd (cc), λ e. absurd (none (padded n) (begun_is n e)))

    pub read_name : (digits : List ℕ) (r : Option ℕ) → begun ≡ digits ++ 46 ∷ [] → ((n : ℕ) → n < 2 ^ 64 → (r ≡ Some n) ↔ (digits ≡ padded n)) → (n : ℕ) → n < 2 ^ 64 → (r ≡ Some n) ↔ (name ≡ version_name suffix n)
    read_name digits r dotted reads n fits = (
      λ e. let same = (reads n fits).0 e in ended ∙ rw (dotted, same, text_is) (sym (split_name suffix n)),
      λ e. (reads n fits).1 (append_cancel_right digits (padded n) (46 ∷ []) (sym dotted ∙ begun_is n e)),
    )

-- what the format writes
pub version_written : (spec : _) (n : ℕ) (dir shown versions suffix : List ℕ) → dir ≡ versions → shown ≡ suffix → spec ≡ format_spec 32 0 4 20 (2 ^ 64 - 1) → dir ++ (47 ∷ (styled_decimal spec n ++ (46 ∷ shown))) ≡ versions ++ (47 ∷ (padded n ++ 46 ∷ suffix))
version_written spec n dir shown versions suffix in_dir same is = rw (in_dir, same, is, padded_shown n) refl

-- what `read_twenty` says of a text
abbrev pub Reads : Option ℕ → List ℕ → Type 0
Reads r ds = (n : ℕ) → n < 2 ^ 64 → (r ≡ Some n) ↔ (ds ≡ padded n)

-- where a temporary name is cut at its `#`
cut : (name : List ℕ) (r : Option (Bor (List ℕ) × Bor (List ℕ))) → IsSplitOnceResult 35 name r → (file : List ℕ) (h : IsTemporaryOf file name) → MatchOption r ⊥ (λ x. (x.0.now ≡ file) × (x.1.now ≡ padded h.number))
cut name r is file h = split_after 35 name file (padded h.number) r is (lit< tt) h.name_is h.plain

pub no_hash : (name : List ℕ) → IsSplitOnceResult 35 name None → (file : List ℕ) → ¬ (IsTemporaryOf file name)
no_hash name is file h = cut name None is file h

pub no_number : (name : List ℕ) (x : Bor (List ℕ) × Bor (List ℕ)) → IsSplitOnceResult 35 name (Some x) → Reads None x.1.now → (file : List ℕ) → ¬ (IsTemporaryOf file name)
no_number name x is none file h = let no = (none h.number h.fits).1 (cut name (Some x) is file h).1 in absurd (cc)

pub temporary : (name : List ℕ) (x : Bor (List ℕ) × Bor (List ℕ)) (n : ℕ) → IsSplitOnceResult 35 name (Some x) → n < 2 ^ 64 → Reads (Some n) x.1.now → IsTemporaryOf x.0.now name
temporary name x n is small reads =
    let parts = split_parts 35 name (Some x) is (lit< tt) in
    let digits = (reads n small).0 refl in
    record { plain = parts.1; number = n; fits = small; name_is = parts.0 ∙ ap (λ ds. x.0.now ++ 35 ∷ ds) digits }

-- whether there is such a file
pub found : (r : Option (Bor (List ℕ))) (name : List ℕ) (b : Bool) → MatchOption r ((file : List ℕ) → ¬ (IsTemporaryOf file name)) (λ file. IsTemporaryOf file.now name) → b ≡ is_some r → Decides b ((file : List ℕ) × IsTemporaryOf file name)
found (Some file) name b h is = (λ _. (file.now, h), λ _. is)
found None name b h is = (λ e. absurd (cc), λ (file, temporary). absurd (h file temporary))
