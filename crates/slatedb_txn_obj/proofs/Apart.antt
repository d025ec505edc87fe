-- The file of a boundary is no version's: the one's name begins with a letter where it could be the other's.
use Rattle.std.proofs.Common.{◌≡◌, ℕ, ◌<◌, ◌^◌, true, false, List, [], ◌∷◌, ◌++◌, length, codes, Result, Ok, Err, IfOk, refl, sym, ap, ◌∙◌}
use Rattle.std.specs.List.{list_all}
use Rattle.std.specs.Char.{is_ascii_digit}
use Rattle.txn_store.specs.Paths.{Segments}
use Rattle.txn_store.specs.Digits.{padded}
use Rattle.txn_store.specs.VersionName.{version_path}
use Rattle.txn_store.proofs.DigitLemmas.{length_padded, padded_digits}
use Rattle.txn_store.specs.types.BoundaryText.{boundary_path}
use Rattle.txn_store.specs.declared.types.layout.Layout.{Layout}
use Rattle.slatedb_txn_obj.specs.Whole.{Protocol}

-- what two paths below one root end in
same_ends : (root a b : Segments) → root ++ a ≡ root ++ b → a ≡ b
same_ends [] a b e = e
same_ends (segment ∷ root) a b e = same_ends root a b (cc)

joined : (root : Segments) (folder name : List ℕ) → (root ++ folder ∷ []) ++ name ∷ [] ≡ root ++ folder ∷ name ∷ []
joined [] folder name = refl
joined (segment ∷ root) folder name = ap (λ rest. segment ∷ rest) (joined root folder name)

-- digits do not begin like the folder of boundaries
no_letter : (digits rest : List ℕ) → length digits ≡ 20 → list_all is_ascii_digit digits ≡ true → digits ++ rest ≡ codes "gc" ++ codes ".boundary" → ⊥
no_letter [] rest long all e = absurd (cc)
no_letter (d ∷ digits) rest long all e = let first : d ≡ 103 = cc in let bad : false ≡ true = rw first at all in cc

pub boundary-apart : (root : Segments) (folder suffix : List ℕ) (n : ℕ) → n < 2 ^ 64 → version_path (record { dir = root ++ folder ∷ []; suffix = suffix }) n ≡ boundary_path root folder → ⊥
boundary-apart root folder suffix n small e =
    let ends = same_ends root (folder ∷ (padded n ++ 46 ∷ suffix) ∷ []) (codes "gc" ∷ (folder ++ codes ".boundary") ∷ []) (sym (joined root folder (padded n ++ 46 ∷ suffix)) ∙ e) in
    let at : folder ≡ codes "gc" = cc in
    let name : padded n ++ 46 ∷ suffix ≡ folder ++ codes ".boundary" = cc in
    no_letter (padded n) (46 ∷ suffix) (length_padded n small) (padded_digits n small) (name ∙ ap (λ f. f ++ codes ".boundary") at)

-- so is that of a new protocol
pub new-apart : {C B E : Type 0} (path : B → Segments) (Known : B → Type 0) (root : Segments) (folder suffix : List ℕ) (codec : C) (page : ℕ) (layout : Layout C) → layout ≡ record { names = record { dir = root ++ folder ∷ []; suffix = suffix }; boundary = boundary_path root folder; codec = codec; page = page }
    → (result : Result (Protocol C B) E) → IfOk result (λ p. p.layout ≡ layout) → IfOk result (λ p. (path p.boundary ≡ layout.boundary) × Known p.boundary)
    → IfOk result (λ p. (n : ℕ) → n < 2 ^ 64 → version_path p.layout.names n ≡ path p.boundary → ⊥)
new-apart {C} path Known root folder suffix codec page layout laid (Ok p) same at =
    λ n small e. boundary-apart root folder suffix n small (sym (ap (λ (l : Layout C). version_path l.names n) (same ∙ laid)) ∙ (e ∙ (at.0 ∙ ap (λ (l : Layout C). l.boundary) laid)))
new-apart path Known root folder suffix codec page layout laid (Err error) same at = tt
