use Rattle.std.proofs.Common.{None, subst, sym}
use Rattle.txn_folder.specs.steps.Paging.{scanning_as}
use Rattle.txn_folder.proofs.ListLemmas.{UpOn, scan_up}
use Rattle.txn_folder.proofs.listing.standing.Goals as goal

pub returns-in-Settles : goal.returns-in-Settles
returns-in-Settles g c = (subst (UpOn None) (sym c.in-Settles.ensures) (scan_up None 0 (scanning_as c.loop.step) c.in_ok-scan.field-0.items c.loop.invariant c.in_ok-scan.ensures)).ascend

pub loop-preserved : goal.loop-preserved
loop-preserved g c = subst (UpOn None) (sym c.in-Goes.ensures) (scan_up None 0 (scanning_as c.loop.step) c.in_ok-scan.field-0.items c.loop.invariant c.in_ok-scan.ensures)
