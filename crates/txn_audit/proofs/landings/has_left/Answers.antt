use Rattle.std.proofs.Common.{List, None, sym, ◌∙◌, ap, arith}
use Rattle.txn_client_journals.specs.declared.rows.JournalRow.{JournalRow}
use Rattle.txn_client_journals.specs.Verdict.{left_at}
use Rattle.txn_audit.proofs.Receiving.{journal_here}
use Rattle.txn_audit.proofs.landings.has_left.Goals as goal

pub returns-then-client : goal.returns-then-client
returns-then-client g c =
    let own = sym c.client.ensures ∙ c.if-client.true in
    let here = journal_here g.D.Audited.diary c.args.client c.args.diaries.now c.loop-diary.diary-index c.diary-item.result (omega (arith, c.loop-diary-test.true)) c.diary-item.is own in
    let same = ap (λ (rows : List (JournalRow _)). left_at c.args.place c.args.op None rows) (sym c.loop-diary.invariant.rest ∙ (here ∙ sym c.rows.ensures)) in
    (λ h. same ∙ c.is_left.ensures.0 h, λ h. c.is_left.ensures.1 (sym same ∙ h))
