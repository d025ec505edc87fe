-- the versions so far stand, and the newest is the next write's base
use Rattle.std.proofs.Common.{◌≡◌, ℕ, []}
use Rattle.slatedb_txn_obj.specs.Protocol.{base_number}
use Rattle.slatedb_txn_obj_uses.specs.Workloads.{numbers_to}
use Rattle.slatedb_txn_obj_uses.proofs.calls.write_versions.Given as goal

abbrev pub invariant-loop-before : goal.invariant-loop-before
invariant-loop-before g l =
    (b : ℕ) → g.P.SequencedStorageProtocol.stands l.fn.protocol l.fn.store [] b → (base_number (λ n. n) l.newest ≡ l.before) × g.P.SequencedStorageProtocol.stands l.protocol l.store (numbers_to l.before) b
