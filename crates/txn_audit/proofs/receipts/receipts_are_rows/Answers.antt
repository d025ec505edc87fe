use Rattle.std.proofs.Common.{◌≡◌, ◌+◌, ◌<◌, List, [], ◌∷◌, ◌++◌, length, drop, sym, ◌∙◌, ap, arith}
use Rattle.std.specs.Option.{option_copied, option_to_list}
use Rattle.std.proofs.lemmas.Bool.{both_ways, eqb-true, eq-eqb}
use Rattle.std.proofs.Math.ListN.{drop_of_length-le}
use Rattle.txn_client_journals.specs.declared.rows.Receipt.{Receipt}
use Rattle.txn_client_journals.specs.declared.rows.JournalRow.{JournalRow}
use Rattle.txn_client_journals.specs.Verdict.{receipts_in, receipt_at, rows_of}
use Rattle.txn_audit.proofs.Receiving.{same_head, same_tail, not_none, with_row, log_row, log_end, log_over}
use Rattle.txn_audit.proofs.receipts.receipts_are_rows.Goals as goal
use Rattle.txn_audit.proofs.receipts.receipts_are_rows.Goals.{then-at-log-via-then-at-log, then-at-log-via-else-at-log+then-not-is_row, in-Some+else-at-log+else-not-is_row, in_default}

pub returns-then-at-log : goal.returns-then-at-log
returns-then-at-log g c =
    let rows = c.args.rows.now in
    let log = c.args.log.now in
    let client = c.args.client in
    let i = c.loop-row.row-index in
    let at = c.next_row-at.result in
    let rest = receipts_in (drop (i + 1) rows) in
    let left : receipts_in (drop i rows) ≡ c.in-Some.receipt.now ∷ rest =
    with_row rows i c.row-item.result (omega (arith, c.loop-row-test.true)) c.row-item.is
    ∙ (c.receipt_of.ensures rest ∙ ap (λ r. option_to_list (option_copied r) ++ rest) c.in-Some.is)
    in (
      λ h. absurd (cc),
      λ h. (
          let e = sym left ∙ (c.loop-row.invariant.no h ∙ c.next_row-at.ensures.same) in
          elim c.then-at-log.branch [
            | then-at-log-via-then-at-log w ↦ absurd (not_none c.in-Some.receipt.now rest (e ∙ log_end client log at w.if-at-log.true))
            | then-at-log-via-else-at-log+then-not-is_row w ↦ (
                let lt : at < length log = omega (arith, c.next_row-at.ensures.within, w.if-at-log.false) in
                let row = w.index-log-at.result in
                let one = log_row client log at row lt w.index-log-at.is c.next_row-at.ensures.next in
                let same = same_head c.in-Some.receipt.now (receipt_at at row) rest (rows_of client (at + 1) (drop (at + 1) log)) (e ∙ one) in
                absurd (both_ways w.is_row.result w.if-not-is_row.true (w.is_row.ensures.1 same)))
          ]),
    )

pub loop-row-preserved : goal.loop-row-preserved
loop-row-preserved g c =
    let rows = c.args.rows.now in
    let log = c.args.log.now in
    let client = c.args.client in
    let i = c.loop-row.row-index in
    let rest = receipts_in (drop (i + 1) rows) in
    let step = with_row rows i c.row-item.result (omega (arith, c.loop-row-test.true)) c.row-item.is in
    elim c.match-receipt_of.branch [
      | in-Some+else-at-log+else-not-is_row w ↦ (
          let at = w.next_row-at.result in
          let lt : at < length log = omega (arith, w.next_row-at.ensures.within, w.if-at-log.false) in
          let row = w.index-log-at.result in
          let one = log_row client log at row lt w.index-log-at.is w.next_row-at.ensures.next in
          let left : receipts_in (drop i rows) ≡ receipt_at at row ∷ rest = step ∙ (c.receipt_of.ensures rest ∙ (ap (λ r. option_to_list (option_copied r) ++ rest) w.in-Some.is ∙ ap (λ (r : Receipt). r ∷ rest) (w.is_row.ensures.0 w.if-not-is_row.false))) in
          let place = w.place-is in
          record {
            within = omega (arith, place, lt);
            yes = λ h. c.loop-row.invariant.yes (left ∙ (ap (λ (rs : List Receipt). receipt_at at row ∷ rs) (h ∙ ap (λ n. rows_of client n (drop n log)) place) ∙ (sym one ∙ sym w.next_row-at.ensures.same)));
            no = λ h. same_tail (receipt_at at row) (receipt_at at row) rest (rows_of client (at + 1) (drop (at + 1) log)) (sym left ∙ (c.loop-row.invariant.no h ∙ (w.next_row-at.ensures.same ∙ one))) ∙ ap (λ n. rows_of client n (drop n log)) (sym place);
          })
      | in_default w ↦ (
          let left : receipts_in (drop i rows) ≡ rest = step ∙ (c.receipt_of.ensures rest ∙ ap (λ r. option_to_list (option_copied r) ++ rest) w.in_default.is) in
          let place = w.place-is in
          let at_place : rows_of client c.match-receipt_of.place (drop c.match-receipt_of.place log) ≡ rows_of client c.loop-row.place (drop c.loop-row.place log) = ap (λ n. rows_of client n (drop n log)) place in
          record {
            within = omega (arith, place, c.loop-row.invariant.within);
            yes = λ h. c.loop-row.invariant.yes (left ∙ (h ∙ at_place));
            no = λ h. sym left ∙ (c.loop-row.invariant.no h ∙ sym at_place);
          })
    ]

pub returns : goal.returns
returns g c =
    let rows = c.args.rows.now in
    let log = c.args.log.now in
    let client = c.args.client in
    let at = c.next_row.result in
    let end : receipts_in (drop c.loop-row.row-index rows) ≡ [] = ap (λ (rs : List (JournalRow _)). receipts_in rs) (drop_of_length-le rows {i = c.loop-row.row-index} (omega (arith, c.loop-row-test.false))) in (
      λ h. c.loop-row.invariant.yes (end ∙ sym (c.next_row.ensures.same ∙ log_end client log at (eqb-true at (length log) h))),
      λ h. eq-eqb at (length log) (log_over client log at c.next_row.ensures.within c.next_row.ensures.next (sym (sym end ∙ (c.loop-row.invariant.no h ∙ c.next_row.ensures.same)))),
    )
