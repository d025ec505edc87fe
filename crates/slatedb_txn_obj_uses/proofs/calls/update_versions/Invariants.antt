-- the versions so far stand, and the view is at the newest
use Rattle.std.proofs.Common.{ℕ, []}
use Rattle.txn_steps_driven.specs.LatestReads.{IsLatest}
use Rattle.slatedb_txn_obj_uses.specs.Workloads.{numbers_to}
use Rattle.slatedb_txn_obj_uses.proofs.calls.update_versions.Given as goal

abbrev pub invariant-loop-before : goal.invariant-loop-before
invariant-loop-before g l =
    (b : ℕ) → g.P.SequencedStorageProtocol.stands l.fn.protocol l.fn.store [] b → g.P.SequencedStorageProtocol.stands l.protocol l.store (numbers_to l.before) b × IsLatest (numbers_to l.before) l.view.id l.view.object
