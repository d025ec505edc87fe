use Rattle.std.proofs.Common.{◌∙◌, ap, arith, map, List, ◌++◌}
use Rattle.std.specs.Borrow.{Bor}
use Rattle.std.specs.Option.{option_copied}
use Rattle.txn_client_journals.specs.declared.rows.Receipt.{Receipt}
use Rattle.txn_client_journals.specs.Verdict.{receipts_in}
use Rattle.txn_diary.specs.Reading.{as_receipts}
use Rattle.txn_diary.proofs.Listing.{receipts_more, receipts_all}
use Rattle.txn_diary.proofs.reading.receipts_of.Goals as goal

pub loop-row-preserved : goal.loop-row-preserved
loop-row-preserved g c =
    let seen : List (Bor Receipt) → List Receipt = λ rs. map (λ r. r.now) rs in
    receipts_more c.args.rows.now c.loop-row.row-index c.row-item.result (option_copied c.receipt_of.result) (seen c.loop-row.receipts.items) (seen c.add_receipt.new.receipts.items) (receipts_in c.args.rows.now) c.loop-row-test.true c.row-item.is c.receipt_of.ensures
    (c.add_receipt.ensures ∙ ap (λ rs. seen rs ++ as_receipts (option_copied c.receipt_of.result)) c.in_ok-reserve.ensures.items) c.loop-row.invariant

pub returns : goal.returns
returns g c = receipts_all c.args.rows.now c.loop-row.row-index (map (λ r. r.now) c.loop-row.receipts.items) (receipts_in c.args.rows.now) (omega (arith, c.loop-row-test.false)) c.loop-row.invariant
