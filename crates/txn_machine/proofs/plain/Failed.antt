-- What one more operation whose store call failed leaves of the history: a refusal fits as before.
use Rattle.std.proofs.Common.{nat_eq, ℕ, List, [], ◌∷◌, ◌++◌, take, Option, inl, inr}
use Rattle.txn_store.specs.Store.{State as StoreState}
use Rattle.txn_history.specs.declared.event.PlainCall.{PlainCall}
use Rattle.txn_history.specs.declared.event.PlainAnswer.{PlainAnswer}
use Rattle.txn_history.specs.declared.event.PlainAnswer.TheVariants as answers
use Rattle.txn_history.specs.Trace.{PlainRow}
use Rattle.txn_history.specs.declared.trace.RowOf.TheVariants.{Effect, Begun, Answered}
use Rattle.txn_machine.specs.plain.PlainHistory.{AnswerFits, Fits}
use Rattle.txn_history.proofs.Lists.{any_true}
use Rattle.txn_machine.proofs.plain.Stands.{KnowStands}

module _ {T : Type 0} (decode : List ℕ → Option T) (get_epoch : T → ℕ) (failed : List ℕ) where
  -- one more operation whose store call failed

  pub fits_still : (op : ℕ) (rows : List (PlainRow T)) (o : ℕ) (call : PlainCall T) (answer : PlainAnswer T) → AnswerFits decode get_epoch failed rows o call answer → AnswerFits decode get_epoch (failed ++ op ∷ []) rows o call answer
  fits_still op rows o call (answers.Refused number) h =
      elim h [
        | inl refused ↦ inl refused
        | inr (inl lost) ↦ inr (inl (lost.0, any_true (nat_eq o) failed op lost.1))
        | inr (inr lacks) ↦ inr (inr lacks)
      ]
  fits_still op rows o call (answers.Wrote id) h = h
  fits_still op rows o call (answers.Read found) h = h
  fits_still op rows o call (answers.Value found) h = h
  fits_still op rows o call (answers.Ids ids) h = h
  fits_still op rows o call answers.Done h = h

  row_still : (op : ℕ) (rows : List (PlainRow T)) (row : PlainRow T) → Fits decode get_epoch failed rows row → Fits decode get_epoch (failed ++ op ∷ []) rows row
  row_still op rows (Effect o request) fits = fits
  row_still op rows (Begun o call) fits = fits
  row_still op rows (Answered o answer) fits = record { call = fits.call; called = fits.called; once = fits.once; fits = fits_still op rows o fits.call answer fits.fits }

  pub failed_know : (op : ℕ) (rows : List (PlainRow T)) (store : StoreState) → KnowStands decode get_epoch failed rows store → KnowStands decode get_epoch (failed ++ op ∷ []) rows store
  failed_know op rows store k =
      let h = k.history in
      record {
        history = record {
          good = λ n row e. row_still op (take n rows) row (h.good n row e);
          ids = h.ids;
          reads = h.reads;
          small = h.small;
          gap = h.gap;
          told = h.told;
        };
        files = k.files;
      }
