-- Each begin has the next number, so an operation begins once.
use Rattle.std.proofs.Common.{◌≡◌, ℕ, suc, ◌+◌, ◌<◌, ◌≤◌, List, [], ◌∷◌, ◌++◌, take, slice_get, Some, inl, inr, sym, ◌∙◌, ap, arith}
use Rattle.std.proofs.lemmas.Bool.{cases_lt}
use Rattle.std.proofs.lemmas.Option.{slice_get_within, get_or_from_slice_get}
use Rattle.txn_history.specs.declared.trace.RowOf.{RowOf}
use Rattle.txn_history.specs.declared.trace.RowOf.TheVariants.{Effect, Begun, Answered}
use Rattle.txn_history.specs.Calls.{IsCall, begun_count}
use Rattle.txn_history.proofs.Rows.{front_more}
use Rattle.txn_history.proofs.Fronts.{later_at}

module _ {C A : Type 0} where
  pub count_more : (rows more : List (RowOf C A)) → begun_count (rows ++ more) ≡ begun_count rows + begun_count more
  count_more [] more = omega arith
  count_more (Begun op call ∷ rows) more = let rest = count_more rows more in omega (arith, rest)
  count_more (Effect op request ∷ rows) more = count_more rows more
  count_more (Answered op answer ∷ rows) more = count_more rows more

  -- each begin has the next number
  abbrev pub AreNumbered : List (RowOf C A) → Type 0
  AreNumbered rows = (k op : ℕ) (call : C) → slice_get rows k ≡ Some (Begun op call) → op ≡ begun_count (take k rows) + 1

  -- an operation begins once
  pub before_again : (rows : List (RowOf C A)) → AreNumbered rows → (j k op : ℕ) (call other : C) → slice_get rows j ≡ Some (Begun op call) → slice_get rows k ≡ Some (Begun op other) → j < k → ⊥
  before_again rows numbers j k op call other e e' lt =
      let row : RowOf C A = Begun op call in
      let next : take (suc j) rows ≡ take j rows ++ row ∷ [] = front_more rows j row (slice_get_within rows j row e) (get_or_from_slice_get rows j row row e) in
      let one : begun_count (take (suc j) rows) ≡ begun_count (take j rows) + 1 = ap (λ (rs : List (RowOf C A)). begun_count rs) next ∙ count_more (take j rows) (row ∷ []) in
      let a = numbers j op call e in
      let b = numbers k op other e' in
      let grown : begun_count (take (suc j) rows) ≤ begun_count (take k rows) =
      later_at (λ front. begun_count (take (suc j) rows) ≤ begun_count front) rows (λ n r _ h. (let c = count_more (take n rows) (r ∷ []) in omega (arith, h, c))) (suc j) k (omega (arith, lt)) (omega arith)
      in
      omega (arith, one, a, b, grown)

  pub one_call : (rows : List (RowOf C A)) → AreNumbered rows → (op : ℕ) (call other : C) → IsCall rows op call → IsCall rows op other → call ≡ other
  one_call rows numbers op call other a b =
      elim (cases_lt a.0 b.0) [
        | inl lt ↦ absurd (before_again rows numbers a.0 b.0 op call other a.1 b.1 lt)
        | inr ge ↦ elim (cases_lt b.0 a.0) [
          | inl lt ↦ absurd (before_again rows numbers b.0 a.0 op other call b.1 a.1 lt)
          | inr le ↦ (
              let at : a.0 ≡ b.0 = omega (arith, ge, le) in
              let same : Some (Begun op call) ≡ Some (Begun op other) = sym a.1 ∙ (ap (slice_get rows) at ∙ b.1) in
              cc
              )
        ]
      ]
