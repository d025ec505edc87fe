use Rattle.std.proofs.Common.{ap, arith, lit≤}
use Rattle.txn_script_orders.proofs.Listing.{none_listed, same_listed, one_more}
use Rattle.txn_script_orders.proofs.explore.explored.Goals.{then-fits+in_ok-list, else-fits}
use Rattle.txn_script_orders.proofs.explore.explored.Goals as goal

pub loop-way-init : goal.loop-way-init
loop-way-init c = (c.len.result, c.in-Ok.counts.orders, c.images_of.result, none_listed _ _ _ _ c.in_ok-push_line.ensures c.new-text.ensures.items, lit≤ tt)

pub loop-way-preserved : goal.loop-way-preserved
loop-way-preserved c =
    let before = c.loop-way.invariant in
    elim c.if-fits.branch [
      | then-fits+in_ok-list w ↦ (
        before.0,
        before.1,
        before.2,
        one_more _ _ _ _ _ _ _ _ _ before.3 w.in_ok-list.ensures w.heading_of-heading.ensures.of w.heading_of-heading.ensures.number w.number-is (ap (λ it. it.items) w.text-is),
        omega (arith, c.if-number-ge-MOST_LISTED.false, w.number-is),
      )
      | else-fits w ↦ (
        before.0,
        before.1,
        before.2,
        same_listed _ _ _ _ _ _ before.3 w.number-is (ap (λ it. it.items) w.text-is),
        omega (arith, c.if-number-ge-MOST_LISTED.false, w.number-is),
      )
    ]
