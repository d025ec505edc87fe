-- What one more row does to what a trace says.
use Rattle.std.proofs.Common.{◌≡◌, ℕ, zero, suc, ◌<◌, ◌≤◌, List, [], ◌∷◌, ◌++◌, length, take, map, slice_get, get_or, true, false, cond, Option, Some, None, refl, sym, ◌∙◌, ap, subst, arith, add-one}
use Rattle.std.specs.FinMap.{empty, get}
use Rattle.std.proofs.lemmas.List.{length-append, take_more, append-nil}
use Rattle.std.proofs.lemmas.Bool.{eqb-true}
use Rattle.txn_history.specs.declared.trace.RowOf.{RowOf}
use Rattle.txn_history.specs.declared.trace.RowOf.TheVariants.{Effect, Begun, Answered}
use Rattle.txn_history.specs.Lists.{numbered}
use Rattle.txn_history.specs.Names.{world_boundary}
use Rattle.txn_history.specs.History.{Contents, Version, is_id, created_by, has_id, with_version, versions_from, versions_of, newest, stored_with, stored_from, stored, boundary_said, boundary, IsEntry}
use Rattle.txn_history.proofs.Lists.{numbered_kept}

-- an id that is found
pub is_id_some : (n : ℕ) (found : Option ℕ) → is_id n found ≡ true → found ≡ Some n
is_id_some n None h = cc
is_id_some n (Some m) h = ap Some (eqb-true m n h)

one_version : (versions : List Version) (o : Option Version) → (more : List Version) × (with_version versions o ≡ versions ++ more)
one_version versions None = ([], sym (append-nil versions))
one_version versions (Some version) =
    elim (has_id versions version.0) as (λ b. (more : List Version) × (cond b versions (versions ++ version ∷ []) ≡ versions ++ more))
    [ true ↦ ([], sym (append-nil versions)) | false ↦ (version ∷ [], refl) ]

module _ {C A : Type 0} where
  -- whose row it is
  abbrev pub row_op : RowOf C A → ℕ
  row_op (Effect op request) = op
  row_op (Begun op call) = op
  row_op (Answered op answer) = op

  -- a front that is longer by a row
  pub front_more : (rows : List (RowOf C A)) (k : ℕ) (row : RowOf C A) → k < length rows → get_or rows k row ≡ row → take (suc k) rows ≡ take k rows ++ row ∷ []
  front_more rows k row lt is = ap (λ n. take n rows) (sym (add-one k)) ∙ (take_more rows k row lt ∙ ap (λ (r : RowOf C A). take k rows ++ r ∷ []) is)

  versions_from-more : (versions : List Version) (rows : List (RowOf C A)) (row : RowOf C A) → versions_from versions (rows ++ row ∷ []) ≡ with_version (versions_from versions rows) (created_by row)
  versions_from-more versions [] row = refl
  versions_from-more versions (r ∷ rows) row = versions_from-more (with_version versions (created_by r)) rows row

  pub versions_of-more : (rows : List (RowOf C A)) (row : RowOf C A) → versions_of (rows ++ row ∷ []) ≡ with_version (versions_of rows) (created_by row)
  versions_of-more rows row = versions_from-more [] rows row

  stored_from-more : (contents : Contents) (rows : List (RowOf C A)) (row : RowOf C A) → stored_from contents (rows ++ row ∷ []) ≡ stored_with (stored_from contents rows) row
  stored_from-more contents [] row = refl
  stored_from-more contents (r ∷ rows) row = stored_from-more (stored_with contents r) rows row

  pub stored-more : (rows : List (RowOf C A)) (row : RowOf C A) → stored (rows ++ row ∷ []) ≡ stored_with (stored rows) row
  stored-more rows row = stored_from-more empty rows row

  -- a row that leaves the store's contents leaves the boundary
  pub boundary-same : (rows : List (RowOf C A)) (row : RowOf C A) → stored (rows ++ row ∷ []) ≡ stored rows → boundary (rows ++ row ∷ []) ≡ boundary rows
  boundary-same rows row same = ap (λ (contents : Contents). boundary_said (get contents world_boundary)) same

  -- a row changes the versions at their end alone
  pub versions_grow : (rows : List (RowOf C A)) (row : RowOf C A) → (more : List Version) × (versions_of (rows ++ row ∷ []) ≡ versions_of rows ++ more)
  versions_grow rows row = let g = one_version (versions_of rows) (created_by row) in (g.0, versions_of-more rows row ∙ g.1)

  pub newest_grows : (rows : List (RowOf C A)) (row : RowOf C A) → newest rows ≤ newest (rows ++ row ∷ [])
  newest_grows rows row = let g = versions_grow rows row in rw g.1 (omega (arith, length-append (versions_of rows) g.0))

  pub version_kept : (rows : List (RowOf C A)) (row : RowOf C A) (n : ℕ) (version : Version) → numbered (versions_of rows) n ≡ Some version → numbered (versions_of (rows ++ row ∷ [])) n ≡ Some version
  version_kept rows row n version e = let g = versions_grow rows row in subst (λ (vs : List Version). numbered vs n ≡ Some version) (sym g.1) (numbered_kept (versions_of rows) g.0 n version e)

module _ {T : Type 0} (decode : List ℕ → Option T) where
  at_map : (versions : List Version) (n : ℕ) (version : Version) (value : T) → slice_get versions n ≡ Some version → decode version.1 ≡ Some value → slice_get (map (λ (v : Version). decode v.1) versions) n ≡ Some (Some value)
  at_map [] n version value e d = cc
  at_map (v ∷ versions) zero version value e d = let same : v ≡ version = cc in ap Some (ap (λ (u : Version). decode u.1) same ∙ d)
  at_map (v ∷ versions) (suc n) version value e d = at_map versions n version value e d

module _ {C A T : Type 0} (decode : List ℕ → Option T) where
  -- an entry of the history, from its version
  pub entry_at : (rows : List (RowOf C A)) (n : ℕ) (version : Version) (value : T) → numbered (versions_of rows) n ≡ Some version → decode version.1 ≡ Some value → IsEntry decode rows n value
  entry_at rows zero version value e d = cc
  entry_at rows (suc n) version value e d = at_map decode (versions_of rows) n version value e d
