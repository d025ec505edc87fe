-- A fine operation begins for an operation of the world.
use Rattle.std.proofs.Common.{◌≡◌, ℕ, List, [], ◌∷◌, ◌++◌, length, nat_eq, true, false, Option, Some, None, refl, sym, ◌∙◌, subst, arith}
use Rattle.std.specs.List.{list_any}
use Rattle.std.proofs.lemmas.List.{append-nil, take-append-le, take_all}
use Rattle.std.proofs.lemmas.Option.{slice_get_within}
use Rattle.txn_history.specs.declared.event.PlainCall.{PlainCall}
use Rattle.txn_history.specs.declared.event.PlainAnswer.{PlainAnswer}
use Rattle.txn_history.specs.declared.event.PlainAnswer.TheVariants as answers
use Rattle.txn_history.specs.declared.trace.RowOf.TheVariants.{Answered}
use Rattle.txn_machine.specs.plain.PlainHistory.{tells as plain_tells}
use Rattle.txn_history.specs.Calls.{IsCall}
use Rattle.txn_machine.specs.plain.PlainHistory as plain_history
use Rattle.txn_machine.specs.plain.PlainHistory.{Answers}
use Rattle.txn_history.specs.Added.{answer_rows}
use Rattle.txn_history.proofs.Lists.{get_last, get_kept, any_last}
use Rattle.txn_history.specs.declared.event.Call.{Call}
use Rattle.txn_history.specs.declared.event.Call.TheVariants as any
use Rattle.txn_history.specs.declared.event.Answer.TheVariants as any_answers
use Rattle.txn_history.specs.OneHistory as history
use Rattle.txn_history.specs.Trace.{Row, PlainRow}
use Rattle.txn_machine.specs.views.Layer.{Used, Inner, Starts, Writes, Reads, Acts, Layer, noted}
use Rattle.txn_machine.proofs.views.Inside.{write_fits, read_fits}
use Rattle.txn_machine.proofs.views.Inner.{PastFenced}
use Rattle.txn_machine.proofs.views.Carried.{plain_fits}
use Rattle.txn_machine.proofs.views.Tied.{Tied}
use Rattle.txn_machine.proofs.Matched.{fine_call}
use Rattle.txn_machine.proofs.Joined.{AnswerTold, DoesFirst, Does, PastAt, Core, Owes, OwesFor}
use Rattle.txn_machine.proofs.Rows.{core_fine, past_fine}
use Rattle.txn_machine.proofs.Laid.{one_fine}

module _ {T : Type 0} (decode : List ℕ → Option T) (get_epoch : T → ℕ) where
  -- rows that begin one history are one history
  pub history_front : (failed : List ℕ) (rows more : List (PlainRow T)) → plain_history.IsOneHistory decode get_epoch failed (rows ++ more) → plain_history.IsOneHistory decode get_epoch failed rows
  history_front failed rows more good k row e =
      subst (λ (f : List (PlainRow T)). plain_history.Fits decode get_epoch failed f row) (take-append-le k rows more (omega (arith, slice_get_within rows k row e))) (good k row (get_kept rows more k row e))

  -- the last answer of one history fits
  pub last_answer : (failed : List ℕ) (rows : List (PlainRow T)) (n : ℕ) (answer : PlainAnswer T) → plain_history.IsOneHistory decode get_epoch failed (rows ++ Answered n answer ∷ []) → Answers decode get_epoch failed rows n answer
  last_answer failed rows n answer good =
      subst (λ (f : List (PlainRow T)). Answers decode get_epoch failed f n answer) (take-append-le (length rows) rows (Answered n answer ∷ []) (omega arith) ∙ take_all (length rows) rows (omega arith))
      (good (length rows) (Answered n answer) (get_last rows (Answered n answer)))

  plain_owes : (rows : List (Row T)) (failed : List ℕ) (op : ℕ) (call : PlainCall T) (answer : PlainAnswer T) → plain_history.AnswerFits decode get_epoch failed rows op call answer → history.AnswerFits decode get_epoch failed rows op (any.Plain call) (any_answers.Plain answer)
  plain_owes rows failed op call (answers.Refused number) fits = fits
  plain_owes rows failed op call (answers.Wrote id) fits = fits
  plain_owes rows failed op call (answers.Read found) fits = fits
  plain_owes rows failed op call (answers.Value found) fits = fits
  plain_owes rows failed op call (answers.Ids ids) fits = fits
  plain_owes rows failed op call answers.Done fits = fits

  -- What an answer of a fine operation owes its owner. The rows are those before the answer.
  pub owes_of : (failed : List ℕ) (fine : List (PlainRow T)) (l : Layer T) (owner : ℕ → ℕ) (tied : Tied owner fine l.rows) (n op : ℕ) → owner n ≡ op → (list_any (nat_eq n) failed ≡ true → list_any (nat_eq op) l.failed ≡ true) → (call : Call T) (inner : Inner T) → Does get_epoch fine l.rows l.asked n op call inner → PastAt decode owner fine op n →
      plain_history.IsOneHistory decode get_epoch failed fine → (answer : PlainAnswer T) → Answers decode get_epoch failed fine n answer → Owes decode get_epoch l.rows l.failed op call inner answer
  owes_of failed fine l owner tied n op own noted call inner d past good answer a =
      subst (λ (o : ℕ). Owes decode get_epoch l.rows l.failed o call inner answer) own (by call inner d.first d.called (subst (λ (c : PlainCall T). plain_history.AnswerFits decode get_epoch failed fine n c answer) (one_fine decode get_epoch failed fine good n a.call (fine_call call inner) a.called d.called) a.fits))
    where
      past' : PastFenced decode owner fine l.rows tied n
      past' m k value same ne e = past m k value (same ∙ own) ne e

      noted' : list_any (nat_eq n) failed ≡ true → list_any (nat_eq (owner n)) l.failed ≡ true
      noted' e = subst (λ (o : ℕ). list_any (nat_eq o) l.failed ≡ true) (sym own) (noted e)

      by : (call : Call T) (inner : Inner T) → DoesFirst get_epoch call inner → IsCall fine n (fine_call call inner) → plain_history.AnswerFits decode get_epoch failed fine n (fine_call call inner) answer → Owes decode get_epoch l.rows l.failed (owner n) call inner answer
      by (any.Plain call) inner first called fits = plain_owes l.rows l.failed (owner n) call answer (plain_fits decode get_epoch owner failed l.failed fine l.rows tied n noted' past' call answer fits)
      by (any.View call) (Writes base value epoch) first called fits = write_fits decode get_epoch owner failed l.failed fine l.rows tied n noted' past' base epoch value answer good called fits
      by (any.View call) Reads first called fits = read_fits decode get_epoch owner failed l.failed fine l.rows tied n noted' past' answer fits
      by (any.View call) Starts first called fits = absurd first
      by (any.View call) Acts first called fits = absurd first

module _ {T : Type 0} where
  -- with the row of an answer, where there is one, what was true stays true

  pub answer_told : (rows : List (PlainRow T)) (n : ℕ) (answer : PlainAnswer T) → AnswerTold (rows ++ Answered n answer ∷ []) answer
  answer_told rows n answer test e = any_last (plain_tells test) rows (Answered n answer) e

  module _ (decode : List ℕ → Option T) (get_epoch : T → ℕ) (fine : List (PlainRow T)) (n : ℕ) where
    pub core_answer : (fine_failed : List ℕ) (rows : List (Row T)) (views : ℕ → Option (Used T)) (failed : List ℕ) (owner : ℕ → ℕ) (answer : Option (PlainAnswer T)) → Core fine fine_failed rows views failed owner → Core (fine ++ answer_rows n answer) fine_failed rows views failed owner
    core_answer fine_failed rows views failed owner None h = subst (λ (f : List (PlainRow T)). Core f fine_failed rows views failed owner) (sym (append-nil fine)) h
    core_answer fine_failed rows views failed owner (Some answer) h = core_fine fine fine_failed rows views failed owner h (Answered n answer) refl (λ i e. let clash : false ≡ true = e in cc)

    pub past_answer : (owner : ℕ → ℕ) (op i : ℕ) (answer : Option (PlainAnswer T)) → PastAt decode owner fine op i → PastAt decode owner (fine ++ answer_rows n answer) op i
    past_answer owner op i None h = subst (λ (f : List (PlainRow T)). PastAt decode owner f op i) (sym (append-nil fine)) h
    past_answer owner op i (Some answer) h = past_fine decode owner fine (Answered n answer) op i refl h

    -- the answer owes what it should
    pub owes_for : (failed : List ℕ) (l : Layer T) (owner : ℕ → ℕ) (op : ℕ) → Core fine failed l.rows l.views l.failed owner → owner n ≡ op → (call : Call T) (inner : Inner T) → Does get_epoch fine l.rows l.asked n op call inner → PastAt decode owner fine op n →
        (answer : Option (PlainAnswer T)) → plain_history.IsOneHistory decode get_epoch failed (fine ++ answer_rows n answer) → OwesFor decode get_epoch (fine ++ answer_rows n answer) l.rows l.failed op call inner answer
    owes_for failed l owner op core own call inner d past None good = tt
    owes_for failed l owner op core own call inner d past (Some answer) good = (
      owes_of decode get_epoch failed fine l owner core.tied n op own (λ e. subst (λ (o : ℕ). list_any (nat_eq o) l.failed ≡ true) own (core.noted n e).1) call inner d past (history_front decode get_epoch failed fine (Answered n answer ∷ []) good) answer (last_answer decode get_epoch failed fine n answer good),
      answer_told fine n answer,
    )
