-- Two successful checked writes never have the same id.
use Rattle.std.proofs.Common.{◌≡◌, ℕ, List, take, Option, Some, subst}
use Rattle.std.proofs.lemmas.Option.{same_Some}
use Rattle.txn_history.specs.declared.event.PlainCall.{PlainCall}
use Rattle.txn_history.specs.declared.event.PlainCall.TheVariants as calls
use Rattle.txn_history.specs.declared.event.PlainAnswer.{PlainAnswer}
use Rattle.txn_history.specs.declared.event.PlainAnswer.TheVariants as answers
use Rattle.txn_history.specs.declared.trace.RowOf.TheVariants.{Begun, Answered}
use Rattle.txn_history.specs.Facts.{Entered}
use Rattle.txn_history.proofs.Numbered.{AreNumbered}
use Rattle.txn_history.proofs.Writers.{Wrote, answer_wrote, one_row}
use Rattle.txn_history.specs.Trace.{PlainRow}
use Rattle.txn_machine.specs.plain.PlainHistory.{AnswerFits, IsOneHistory}
use Rattle.txn_history.specs.Laws.{AnswersOwn, HasOneWriter}
use Rattle.txn_machine.specs.plain.PlainLaws.{id_entered}

module _ {T : Type 0} (decode : List ℕ → Option T) (get_epoch : T → ℕ) (failed : List ℕ) where
  are_numbered : (rows : List (PlainRow T)) → IsOneHistory decode get_epoch failed rows → AreNumbered rows
  are_numbered rows good k op call e = (good k (Begun op call) e).next

  own_entered : (before : List (PlainRow T)) (op id : ℕ) (call : PlainCall T) (answer : PlainAnswer T) → id_entered call answer ≡ Some id → AnswerFits decode get_epoch failed before op call answer → (v : T) × Entered decode before op id v
  own_entered before op id (calls.Write base value) (answers.Wrote n) e h = (value, subst (λ (m : ℕ). Entered decode before op m value) (same_Some n id e) h)
  own_entered before op id _ _ e h = cc

  own_wrote : (rows : List (PlainRow T)) → IsOneHistory decode get_epoch failed rows → (k op id : ℕ) → AnswersOwn id_entered rows k op id → Wrote decode rows k op id
  own_wrote rows good k op id w =
      let a = good k (Answered op w.answer) w.there in
      answer_wrote decode rows (are_numbered rows good) k op id (λ c. AnswerFits decode get_epoch failed (take k rows) op c w.answer) a.call w.call a.called w.called a.once a.fits (own_entered (take k rows) op id w.call w.answer w.own)

  pub one_writer : (rows : List (PlainRow T)) → IsOneHistory decode get_epoch failed rows → HasOneWriter id_entered rows
  one_writer rows good j k op other id a b = one_row decode rows j k op other id a.answer b.answer a.there b.there (own_wrote rows good j op id a) (own_wrote rows good k other id b)
