-- A check and an advance leave the history.
use Rattle.slatedb_txn_obj_uses.proofs.Moving.{checked, advanced}
use Rattle.slatedb_txn_obj_uses.proofs.one_client.perform.Goals as goal

pub returns-in-Check : goal.returns-in-Check
returns-in-Check g c =
    let p = c.args.protocol.now in
    let s = c.args.store.now in
    let laws = g.met.P.SequencedStorageProtocol in
    rw c.in-Check.is (checked (g.P.SequencedStorageProtocol.stands p s) (g.P.SequencedStorageProtocol.stands c.check.new.self c.check.new.store) (g.P.BoundaryObject.bounds p s) (g.P.BoundaryObject.bounds c.check.new.self c.check.new.store) (laws.stands_bounded p s)
    c.in-Check.id c.check.result c.check.ensures.above c.check.ensures.fenced (λ h b stands. laws.stands_checked p c.check.new.self s c.check.new.store c.in-Check.id c.check.result h b c.check.ensures.moved stands))

pub returns-in-Advance : goal.returns-in-Advance
returns-in-Advance g c =
    let p = c.args.protocol.now in
    let s = c.args.store.now in
    let laws = g.met.P.SequencedStorageProtocol in
    rw c.in-Advance.is (advanced (g.P.SequencedStorageProtocol.stands p s) (g.P.SequencedStorageProtocol.stands c.advance.new.self c.advance.new.store) (g.P.BoundaryObject.bounds p s) (g.P.BoundaryObject.bounds c.advance.new.self c.advance.new.store) (laws.stands_bounded p s)
    (λ h b now stands up low bounded. laws.stands_advanced p c.advance.new.self s c.advance.new.store h c.in-Advance.id b now c.advance.result c.advance.ensures.moved stands up low bounded)
    (λ h b stands some. laws.stands_above p s h b stands some) c.in-Advance.id c.advance.result c.advance.ensures.raised c.advance.ensures.kept)
