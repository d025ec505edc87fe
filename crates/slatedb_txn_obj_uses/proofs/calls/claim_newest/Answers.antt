-- A claim of the newest number sets the next.
use Rattle.std.proofs.Common.{arith}
use Rattle.slatedb_txn_obj.proofs.Views.{version-of_latest}
use Rattle.slatedb_txn_obj_uses.specs.Workloads.{numbers_to}
use Rattle.slatedb_txn_obj_uses.proofs.Numbers.{last_is}
use Rattle.slatedb_txn_obj_uses.proofs.calls.claim_newest.Goals as goal

pub returns-then-saturating_sub-newest-clause-right :
    goal.returns-then-saturating_sub-newest-clause-right
returns-then-saturating_sub-newest-clause-right g c wrong b stands =
    let h = numbers_to c.args.newest in
    let shown = c.in_ok-view.ensures.shown.0 h b stands in
    let claimed = c.in_ok-holder.ensures.claimed h b (c.load.ensures.left.kept h b stands) (version-of_latest shown) in
    let value = last_is c.args.newest _ claimed.newest claimed.latest in
    c.if-saturating_sub-newest.true (omega (arith, c.saturating_sub.ensures, c.local_epoch.ensures, claimed.next, value))
