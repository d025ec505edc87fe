-- One more version, and no conflict.
use Rattle.std.proofs.Common.{rules}
use Rattle.slatedb_txn_obj_uses.proofs.Numbers.{one_more, not_overtaken}
use Rattle.slatedb_txn_obj_uses.proofs.calls.write_versions.Goals as goal

pub returns-in_err-write-clause-no_conflict : goal.returns-in_err-write-clause-no_conflict
returns-in_err-write-clause-no_conflict g c =
    λ conflict. not_overtaken (g.P.SequencedStorageProtocol.stands c.args.protocol.now c.args.store.now) (g.P.SequencedStorageProtocol.stands c.loop-before.protocol c.loop-before.store) (g.P.SequencedStorageProtocol.stands c.write.new.self c.write.new.store)
    c.loop-before.newest c.loop-before.before c.loop-before.invariant (c.in_err-write.ensures.conflict (search rules))

pub loop-before-preserved : goal.loop-before-preserved
loop-before-preserved g c =
    one_more (g.P.SequencedStorageProtocol.stands c.args.protocol.now c.args.store.now) (g.P.SequencedStorageProtocol.stands c.loop-before.protocol c.loop-before.store) (g.P.SequencedStorageProtocol.stands c.write.new.self c.write.new.store)
    c.loop-before.newest c.loop-before.before c.loop-before.invariant c.in_ok-write.field-0 c.in_ok-write.ensures.appended
