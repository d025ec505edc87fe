-- So far nothing moved; each pass but the first begins fresh, with what one pass at most has spent, and none comes where the newest version was at hand.
use Rattle.std.proofs.Common.{◌≡◌, ◌⊎◌, ℕ, ◌<◌, ◌≤◌, ◌+◌, List, length}
use Rattle.txn_steps_driven.specs.Calls.{SpendsTurns}
use Rattle.slatedb_txn_obj.specs.Leaves.{SameFiles}
use Rattle.slatedb_txn_obj.specs.Protocol.{Stays}
use Rattle.slatedb_txn_obj.proofs.protocol.AnyTransactionalStorageProtocolMonotonicId.try_read_latest.Given as goal

abbrev pub invariant-passes : goal.invariant-passes
invariant-passes g l =
    let protocol = g.P.SequencedStorageProtocol in
    record {
      stays : Stays (protocol.stands l.fn.self l.fn.store) (protocol.stands l.self l.store);
      spends : SpendsTurns 7 0 0 l.fn.turns l.turns (g.S.ObjectStore.state l.fn.store) (g.S.ObjectStore.state l.store);
      placed : protocol.place l.self ≡ protocol.place l.fn.self;
      files : SameFiles (g.S.ObjectStore.state l.fn.store) (g.S.ObjectStore.state l.store);
      paged : (h : List _) (b : ℕ) → protocol.stands l.fn.self l.fn.store h b → protocol.pages l.self l.store ≡ protocol.pages l.fn.self l.fn.store;
      passes : (h : List _) (b : ℕ) → protocol.stands l.fn.self l.fn.store h b →
          ((l.turns ≡ l.fn.turns) × (l.self ≡ l.fn.self) × (l.store ≡ l.fn.store)) ⊎ ((l.fn.turns ≤ l.turns + protocol.pages l.fn.self l.fn.store) × protocol.is_fresh l.self × (protocol.at_hand l.fn.self (length h) → 0 < length h → ⊥));
    }

abbrev pub decreases-passes : goal.decreases-passes
decreases-passes g l = l.turns
