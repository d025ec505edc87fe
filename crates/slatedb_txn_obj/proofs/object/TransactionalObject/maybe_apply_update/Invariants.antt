-- Nothing moved so far, and the object is a version of the history. At rest, the second attempt is made of the newest version. It is the first attempt, or the first was made of a candidate. The object is the same but for its version, and the files of others are left.
use Rattle.std.proofs.Common.{◌≡◌, ◌⊎◌, ℕ, ◌+◌, ◌-◌, ◌*◌, ◌≤◌, List, Ok, Some}
use Rattle.std.specs.Fn.{FnReturnsAt}
use Rattle.txn_steps_driven.specs.Calls.{SpendsTurns}
use Rattle.txn_steps_driven.specs.LatestReads.{IsLatest}
use Rattle.slatedb_txn_obj.specs.Leaves.{LeavesOthers}
use Rattle.slatedb_txn_obj.specs.Views.{IsVersion, KeepsIds}
use Rattle.slatedb_txn_obj.proofs.object.TransactionalObject.maybe_apply_update.Given as goal

abbrev pub invariant-loop-self : goal.invariant-loop-self
invariant-loop-self g l =
    let protocol = g.P.TransactionalStorageProtocol in
    let object = g.Self.TransactionalObject in
    let state = g.S.ObjectStore.state in
    record {
      callable : goal.F-IsAlwaysCallable g l.mutator;
      unmoved : (h : List _) (b : ℕ) → protocol.stands l.fn.protocol l.fn.store h b → IsVersion h (protocol.number (object.at l.fn.self)) (object.value l.fn.self)
          → protocol.stands l.protocol l.store h b × IsVersion h (protocol.number (object.at l.self)) (object.value l.self);
      spends : SpendsTurns 7 0 (l.fn.turns - l.turns) l.fn.turns l.turns (state l.fn.store) (state l.store);
      attempts : (h : List _) (b : ℕ) → protocol.stands l.fn.protocol l.fn.store h b → IsVersion h (protocol.number (object.at l.fn.self)) (object.value l.fn.self)
          → KeepsIds (λ v r. FnReturnsAt g.F.Fn l.mutator v r) (λ v. protocol.number (object.at v)) object.value object.at g.Id.PartialEq.eq
          → ((l.turns ≡ l.fn.turns) × (protocol.pages l.protocol l.store ≡ protocol.pages l.fn.protocol l.fn.store) × ((state l.fn.store).left ≤ (state l.store).left))
          ⊎ ((l.fn.turns ≤ l.turns + 3 + 2 * protocol.pages l.fn.protocol l.fn.store) × IsLatest h (protocol.number (object.at l.self)) (object.value l.self) × ((state l.fn.store).left ≤ (state l.store).left + 1));
      met : (l.self ≡ l.fn.self) ⊎ ((h : List _) (b : ℕ) → protocol.stands l.fn.protocol l.fn.store h b → IsVersion h (protocol.number (object.at l.fn.self)) (object.value l.fn.self) → IsLatest h (protocol.number (object.at l.self)) (object.value l.self));
      same : l.self ≡ object.moved l.fn.self (object.at l.self) (object.value l.self);
      placed : protocol.place l.protocol ≡ protocol.place l.fn.protocol;
      others : LeavesOthers (protocol.owns (protocol.place l.fn.protocol)) (state l.fn.store) (state l.store);
      paged : (h : List _) (b : ℕ) → protocol.stands l.fn.protocol l.fn.store h b → IsVersion h (protocol.number (object.at l.fn.self)) (object.value l.fn.self)
          → (protocol.pages l.protocol l.store ≡ protocol.pages l.fn.protocol l.fn.store) ⊎ ((protocol.pages l.protocol l.store ≤ protocol.pages l.fn.protocol l.fn.store + 1) × IsLatest h (protocol.number (object.at l.self)) (object.value l.self));
      first : ((l.self ≡ l.fn.self) × (l.protocol ≡ l.fn.protocol) × (l.store ≡ l.fn.store) × (l.turns ≡ l.fn.turns)) ⊎ ((dirty : _) × FnReturnsAt g.F.Fn l.mutator l.fn.self (Ok (Some dirty)));
    }

abbrev pub decreases-loop-self : goal.decreases-loop-self
decreases-loop-self g l = l.turns
