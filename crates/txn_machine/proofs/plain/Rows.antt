-- What more rows do to what a trace says.
use Rattle.std.proofs.Common.{◌≡◌, ◌≢◌, ℕ, zero, suc, ◌≤◌, List, [], ◌∷◌, ◌++◌, length, take, slice_get, true, false, Option, Some, inl, inr, refl, sym, ◌∙◌, subst, arith}
use Rattle.std.proofs.lemmas.List.{take-append-le, take_all}
use Rattle.std.proofs.lemmas.Bool.{ne_eqb, eq-eqb}
use Rattle.std.proofs.Math.Bool.{or-true}
use Rattle.std.proofs.lemmas.Option.{slice_get_within}
use Rattle.txn_store.specs.declared.request.Request.{Request}
use Rattle.txn_history.specs.Trace.{PlainRow}
use Rattle.txn_history.specs.declared.trace.RowOf.TheVariants.{Effect, Begun, Answered}
use Rattle.txn_machine.specs.plain.PlainHistory.{Fits, IsOneHistory}
use Rattle.txn_history.proofs.Lists.{get_more}
use Rattle.txn_history.proofs.Rows.{row_op}
use Rattle.txn_machine.proofs.plain.Stands.{affects, has_effect}

module _ {T : Type 0} where
  pub affects_other : (op : ℕ) (row : PlainRow T) → row_op row ≢ op → affects op row ≡ false
  affects_other op (Effect o request) h = ne_eqb o op h
  affects_other op (Answered o answer) h = refl
  affects_other op (Begun o call) h = refl

  -- an effect of the operation among the rows
  pub effect_found : (rows : List (PlainRow T)) (op k : ℕ) (request : Request) → slice_get rows k ≡ Some (Effect op request) → has_effect rows op ≡ true
  effect_found [] op k request e = cc
  effect_found (row ∷ rows) op zero request e = let same : row ≡ Effect op request = cc in rw (same, eq-eqb op op refl) refl
  effect_found (row ∷ rows) op (suc k) request e = let rest = effect_found rows op k request e in rw rest (or-true (affects op row))

module _ {T : Type 0} (decode : List ℕ → Option T) (get_epoch : T → ℕ) (failed : List ℕ) where
  -- one more row that fits
  pub one_history-more : (rows : List (PlainRow T)) (row : PlainRow T) → IsOneHistory decode get_epoch failed rows → Fits decode get_epoch failed rows row → IsOneHistory decode get_epoch failed (rows ++ row ∷ [])
  one_history-more rows row good fits k r e =
      elim (get_more rows row k r e) [
        | inl h ↦
            let within : k ≤ length rows = omega (arith, slice_get_within rows k r h) in
            subst (λ (front : List (PlainRow T)). Fits decode get_epoch failed front r) (sym (take-append-le k rows (row ∷ []) within)) (good k r h)
        | inr h ↦
            let all : take k (rows ++ row ∷ []) ≡ rows = take-append-le k rows (row ∷ []) (omega (arith, h.0)) ∙ take_all k rows (omega (arith, h.0)) in
            subst (λ (front : List (PlainRow T)). Fits decode get_epoch failed front r) (sym all) (subst (λ (r' : PlainRow T). Fits decode get_epoch failed rows r') h.1 fits)
      ]
