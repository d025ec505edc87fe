-- One more operation whose store call failed: the rows are one history as before.
use Rattle.std.proofs.Common.{nat_eq, ℕ, List, [], ◌∷◌, ◌++◌, take, Option, inl, inr, sym, subst}
use Rattle.txn_history.specs.declared.event.PlainAnswer.TheVariants as plain_answers
use Rattle.txn_history.specs.declared.trace.RowOf.TheVariants.{Effect, Begun, Answered}
use Rattle.txn_history.specs.Facts.{FailureFits}
use Rattle.txn_history.proofs.Lists.{any_true}
use Rattle.txn_history.specs.declared.event.Call.{Call}
use Rattle.txn_history.specs.declared.event.Answer.{Answer}
use Rattle.txn_history.specs.declared.event.Answer.TheVariants as answers
use Rattle.txn_history.specs.Trace.{Row}
use Rattle.txn_history.specs.OneHistory.{AnswerFits, Fits}
use Rattle.txn_machine.specs.views.Layer.{Layer}
use Rattle.txn_machine.specs.views.Steps.{LayerFails}
use Rattle.txn_machine.proofs.views.Stands.{Stands}

module _ {T : Type 0} (decode : List ℕ → Option T) (get_epoch : T → ℕ) (failed : List ℕ) (op : ℕ) where
  abbrev more : List ℕ
  more = failed ++ op ∷ []

  fails_still : (o number : ℕ) → FailureFits failed o number → FailureFits more o number
  fails_still o number (inl lost) = inl (lost.0, any_true (nat_eq o) failed op lost.1)
  fails_still o number (inr lacks) = inr lacks

  fits_still : (rows : List (Row T)) (o : ℕ) (call : Call T) (answer : Answer T) → AnswerFits decode get_epoch failed rows o call answer → AnswerFits decode get_epoch more rows o call answer
  fits_still rows o call (answers.Plain (plain_answers.Refused number)) h = elim h [ inl refused ↦ inl refused | inr fails ↦ inr (fails_still o number fails) ]
  fits_still rows o call (answers.Plain (plain_answers.Wrote id)) h = h
  fits_still rows o call (answers.Plain (plain_answers.Read found)) h = h
  fits_still rows o call (answers.Plain (plain_answers.Value found)) h = h
  fits_still rows o call (answers.Plain (plain_answers.Ids ids)) h = h
  fits_still rows o call (answers.Plain plain_answers.Done) h = h
  fits_still rows o call (answers.View shown id value) h = h
  fits_still rows o call (answers.Held shown id value epoch) h = h

  row_still : (set_epoch : T → ℕ → T) (rows : List (Row T)) (row : Row T) → Fits decode get_epoch set_epoch failed rows row → Fits decode get_epoch set_epoch more rows row
  row_still set_epoch rows (Effect o request) fits = fits
  row_still set_epoch rows (Begun o call) fits = fits
  row_still set_epoch rows (Answered o answer) fits = record { call = fits.call; called = fits.called; once = fits.once; fits = fits_still rows o fits.call answer fits.fits }

module _ {T : Type 0} (decode : List ℕ → Option T) (get_epoch : T → ℕ) (set_epoch : T → ℕ → T) where
  pub fail_keeps : (s after : Layer T) → Stands decode get_epoch set_epoch s → LayerFails s after → Stands decode get_epoch set_epoch after
  fail_keeps s after st f =
      subst (Stands decode get_epoch set_epoch) (sym f.new)
      (record { good = λ k row e. row_still decode get_epoch s.failed f.op set_epoch (take k s.rows) row (st.good k row e); count = st.count; views = st.views; ops = st.ops; asked = st.asked; unseen = st.unseen; begun = st.begun; fresh = st.fresh })
