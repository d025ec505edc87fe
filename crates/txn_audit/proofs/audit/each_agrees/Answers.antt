use Rattle.std.proofs.Common.{ℕ, List, sym, ◌∙◌, ap, subst, arith}
use Rattle.std.proofs.lemmas.Bool.{both_ways}
use Rattle.txn_client_journals.specs.declared.rows.JournalRow.{JournalRow}
use Rattle.txn_client_journals.specs.Verdict.{receipts_in, rows_of}
use Rattle.txn_audit.proofs.Receiving.{with_diary}
use Rattle.txn_audit.proofs.audit.each_agrees.Goals as goal

pub returns-then-not-receipts_are_rows : goal.returns-then-not-receipts_are_rows
returns-then-not-receipts_are_rows g c =
    let log = c.args.log.now in
    let one = with_diary g.D.Audited.diary log c.args.diaries.now c.loop-diary.diary-index c.diary-item.result (omega (arith, c.loop-diary-test.true)) c.diary-item.is in (
      λ h. absurd (cc),
      λ h. (
          let left = subst (λ (A : Type 0). A) one (c.loop-diary.invariant.no h) in
          let rows = ap (λ (rs : List (JournalRow _)). receipts_in rs) c.rows.ensures in
          let own = ap (λ (client : ℕ). rows_of client 0 log) c.client.ensures in
          absurd (both_ways c.receipts_are_rows.result c.if-not-receipts_are_rows.true (c.receipts_are_rows.ensures.1 (rows ∙ (left.0 ∙ sym own))))),
    )

pub loop-diary-preserved : goal.loop-diary-preserved
loop-diary-preserved g c =
    let log = c.args.log.now in
    let one = with_diary g.D.Audited.diary log c.args.diaries.now c.loop-diary.diary-index c.diary-item.result (omega (arith, c.loop-diary-test.true)) c.diary-item.is in
    let rows = ap (λ (rs : List (JournalRow _)). receipts_in rs) c.rows.ensures in
    let own = ap (λ (client : ℕ). rows_of client 0 log) c.client.ensures in
    record {
      yes = λ h. c.loop-diary.invariant.yes (subst (λ (A : Type 0). A) (sym one) (sym rows ∙ (c.receipts_are_rows.ensures.0 c.if-not-receipts_are_rows.false ∙ own), h));
      no = λ h. (subst (λ (A : Type 0). A) one (c.loop-diary.invariant.no h)).1;
    }
