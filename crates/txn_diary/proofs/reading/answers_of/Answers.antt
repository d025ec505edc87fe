use Rattle.std.proofs.Common.{◌∙◌, ap, arith, map, ℕ, List, ◌++◌}
use Rattle.std.specs.Borrow.{Bor}
use Rattle.std.specs.Option.{option_copied}
use Rattle.txn_history.specs.declared.event.Answer.{Answer}
use Rattle.txn_diary.specs.Reading.{answers_from, with_answer}
use Rattle.txn_diary.proofs.Listing.{answers_more, answers_all, begun_below}
use Rattle.txn_diary.proofs.reading.answers_of.Goals as goal

pub loop-row-preserved : goal.loop-row-preserved
loop-row-preserved g c =
    let seen : List (ℕ × Bor (Answer g.row.T.Denot)) → List (ℕ × Answer g.row.T.Denot) = λ pairs. map (λ pair. (pair.0, pair.1.now)) pairs in
    let below = begun_below c.loop-row.begun c.row-item.result.step in (
      answers_more c.args.rows.now c.loop-row.row-index c.loop-row.begun c.op_of.result c.begun_by-begun.result c.row-item.result (seen c.loop-row.answers.items) (seen c.add_answer.new.answers.items) (answers_from 0 c.args.rows.now) c.loop-row-test.true c.row-item.is c.op_of.ensures c.begun_by-begun.ensures
          (c.add_answer.ensures ∙ (ap (λ xs. seen xs ++ with_answer c.op_of.result (option_copied c.as_ref.result)) c.in_ok-reserve.ensures.items ∙ ap (λ a. seen c.loop-row.answers.items ++ with_answer c.op_of.result a) c.as_ref.ensures.value)) c.loop-row.invariant.0,
      omega (arith, below, c.begun_by-begun.ensures, c.loop-row.invariant.1),
    )

pub returns : goal.returns
returns g c = answers_all c.args.rows.now c.loop-row.row-index c.loop-row.begun _ (answers_from 0 c.args.rows.now) (omega (arith, c.loop-row-test.false)) c.loop-row.invariant.0
