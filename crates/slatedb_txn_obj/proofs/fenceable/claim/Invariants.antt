-- Nothing moved so far, and the view is a version of the history. At rest, the second attempt is made of the newest version. It is the first attempt, or the view's own version had a next epoch, with which no invariant fails for it. The files of others are left.
use Rattle.std.proofs.Common.{All, ◌≡◌, ◌⊎◌, ℕ, ◌+◌, ◌-◌, ◌*◌, ◌<◌, ◌≤◌, List, length}
use Rattle.txn_store.specs.types.Epochs.{NextEpoch, HasNoEpoch}
use Rattle.txn_store.specs.declared.types.error.TransactionalObjectError.{TransactionalObjectError}
use Rattle.txn_steps_driven.specs.Calls.{SpendsTurns}
use Rattle.txn_steps_driven.specs.LatestReads.{IsLatest}
use Rattle.slatedb_txn_obj.specs.Claims.{ReadsInTime}
use Rattle.slatedb_txn_obj.specs.Leaves.{KeepsFiles, LeavesOthers}
use Rattle.slatedb_txn_obj.specs.Views.{IsVersion}
use Rattle.slatedb_txn_obj.proofs.fenceable.claim.Given as goal

abbrev pub invariant-loop-asked : goal.invariant-loop-asked
invariant-loop-asked g l =
    let protocol = g.P.TransactionalStorageProtocol in
    let state = g.S.ObjectStore.state in
    record {
      timeout : l.deadline.timeout ≡ l.timeout;
      invariants : l.view.invariants ≡ l.fn.view.invariants;
      unmoved : (h : List _) (b : ℕ) → protocol.stands l.fn.protocol l.fn.store h b → IsVersion h (protocol.number l.fn.view.id) l.fn.view.object
          → protocol.stands l.protocol l.store h b × IsVersion h (protocol.number l.view.id) l.view.object;
      met : ((protocol.number l.view.id ≡ protocol.number l.fn.view.id) × (l.view.object ≡ l.fn.view.object))
          ⊎ ((h : List _) (b : ℕ) → protocol.stands l.fn.protocol l.fn.store h b → IsVersion h (protocol.number l.fn.view.id) l.fn.view.object → IsLatest h (protocol.number l.view.id) l.view.object);
      placed : protocol.place l.protocol ≡ protocol.place l.fn.protocol;
      others : LeavesOthers (protocol.owns (protocol.place l.fn.protocol)) (state l.fn.store) (state l.store);
      kept : KeepsFiles (state l.fn.store) (state l.store);
      first : ((l.view ≡ l.fn.view) × (state l.store ≡ state l.fn.store) × (l.turns ≡ l.fn.turns))
          ⊎ (((e : TransactionalObjectError) → HasNoEpoch l.asked (g.X.EpochField.epoch_of l.epochs l.fn.view.object) e → ⊥)
          × ((e : ℕ) → NextEpoch l.asked (g.X.EpochField.epoch_of l.epochs l.fn.view.object) e → (All (λ i. g.I.Invariant.holds i (g.X.EpochField.with_epoch l.epochs l.fn.view.object e) l.fn.view.object) l.fn.view.invariants.items → ⊥) → ⊥));
      paged : (h : List _) (b : ℕ) → protocol.stands l.fn.protocol l.fn.store h b → IsVersion h (protocol.number l.fn.view.id) l.fn.view.object
          → (protocol.pages l.protocol l.store ≡ protocol.pages l.fn.protocol l.fn.store) ⊎ ((protocol.pages l.protocol l.store ≤ protocol.pages l.fn.protocol l.fn.store + 1) × IsLatest h (protocol.number l.view.id) l.view.object);
      spends : SpendsTurns 7 0 (l.fn.turns - l.turns) l.fn.turns l.turns (state l.fn.store) (state l.store);
      timed : (later : List ℕ) × ReadsInTime l.deadline.start l.deadline.timeout later (g.K.SystemClock.readings l.fn.clock) (g.K.SystemClock.readings l.clock)
          × ((h : List _) (b : ℕ) → protocol.stands l.fn.protocol l.fn.store h b → IsVersion h (protocol.number l.fn.view.id) l.fn.view.object
          → ((l.turns ≡ l.fn.turns) × (protocol.pages l.protocol l.store ≡ protocol.pages l.fn.protocol l.fn.store) × ((state l.fn.store).left ≤ (state l.store).left) × (protocol.number l.view.id ≡ protocol.number l.fn.view.id) × (length later ≡ 0))
          ⊎ ((l.fn.turns ≤ l.turns + 3 + 2 * protocol.pages l.fn.protocol l.fn.store) × IsLatest h (protocol.number l.view.id) l.view.object × ((state l.fn.store).left ≤ (state l.store).left + 1) × (protocol.number l.fn.view.id < length h) × (length later ≡ 2)));
    }

abbrev pub decreases-loop-asked : goal.decreases-loop-asked
decreases-loop-asked g l = l.turns
