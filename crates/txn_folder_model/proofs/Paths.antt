-- Paths of versions under two pairs of names: where one is one, all are.
use Rattle.std.proofs.Common.{◌≡◌, ℕ, ◌<◌, ◌^◌, List, [], ◌∷◌, ◌++◌, length, refl, ap, sym, ◌∙◌, arith}
use Rattle.std.specs.Prelude.{codes, drop}
use Rattle.std.proofs.lemmas.List.{drop_at, length-append}
use Rattle.txn_store.specs.Digits.{padded}
use Rattle.txn_store.specs.Paths.{Segments}
use Rattle.txn_store.specs.VersionName.{Names, version_name, version_path}
use Rattle.txn_store.proofs.DigitLemmas.{length_padded}
use Rattle.txn_store.proofs.NameLemmas.{version_unique}
use Rattle.txn_history.specs.Names.{world_boundary}

push_same : (one other : Segments) (x y : List ℕ) → one ++ x ∷ [] ≡ other ++ y ∷ [] → (one ≡ other) × (x ≡ y)
push_same [] [] x y e = (refl, cc)
push_same [] (b ∷ []) x y e = absurd (cc)
push_same [] (b ∷ c ∷ other) x y e = absurd (cc)
push_same (a ∷ []) [] x y e = absurd (cc)
push_same (a ∷ c ∷ one) [] x y e = absurd (cc)
push_same (a ∷ one) (b ∷ other) x y e =
    let first : a ≡ b = cc in
    let rest : one ++ x ∷ [] ≡ other ++ y ∷ [] = cc in
    let more = push_same one other x y rest in
    (ap (λ (s : List ℕ). s ∷ one) first ∙ ap (λ (l : Segments). b ∷ l) more.0, more.1)

-- names of one path have one folder and one suffix
same_names : (one other : Names) (a b : ℕ) → a < 2 ^ 64 → b < 2 ^ 64 → version_path one a ≡ version_path other b → (one.dir ≡ other.dir) × (one.suffix ≡ other.suffix)
same_names one other a b small fits e =
    let both = push_same one.dir other.dir (version_name one.suffix a) (version_name other.suffix b) e in
    let tails : 46 ∷ one.suffix ≡ 46 ∷ other.suffix = sym (drop_at (padded a) (46 ∷ one.suffix) 20 (length_padded a small)) ∙ ap (drop 20) both.1 ∙ drop_at (padded b) (46 ∷ other.suffix) 20 (length_padded b fits) in
    (both.0, cc)

pub same_path : (one other : Names) (a b : ℕ) → a < 2 ^ 64 → b < 2 ^ 64 → version_path one a ≡ version_path other b → (n : ℕ) → version_path one n ≡ version_path other n
same_path one other a b small fits e n =
    let same = same_names one other a b small fits e in
    ap (λ (d : Segments). d ++ version_name one.suffix n ∷ []) same.0 ∙ ap (λ (s : List ℕ). other.dir ++ version_name s n ∷ []) same.1

pub same_id : (one other : Names) (a b : ℕ) → a < 2 ^ 64 → b < 2 ^ 64 → version_path one a ≡ version_path other b → a ≡ b
same_id one other a b small fits e = version_unique other a b small fits (sym (same_path one other a b small fits e a) ∙ e)

-- the boundary's file has the name of no version
short : (dir : Segments) (name : List ℕ) → dir ++ name ∷ [] ≡ world_boundary → length name ≡ 13
unfolding world_boundary
short [] name e = absurd (cc)
short (a ∷ []) name e = absurd (cc)
short (a ∷ b ∷ []) name e = (let same : name ≡ codes "test.boundary" = cc in ap length same)
short (a ∷ b ∷ c ∷ []) name e = absurd (cc)
short (a ∷ b ∷ c ∷ d ∷ dir) name e = absurd (cc)

pub no_version : (names : Names) (n : ℕ) → n < 2 ^ 64 → version_path names n ≡ world_boundary → ⊥
no_version names n fits e =
    let is = short names.dir (version_name names.suffix n) e in
    let long = length_padded n fits in
    let whole = length-append (padded n) (46 ∷ names.suffix) in
    omega (arith, is, long, whole)
