-- Operations that are refused: where a store call failed, and where a claim has no id or no epoch left.
use Rattle.std.specs.Prelude.{◌≡◌, ℕ, ◌-◌, List, false, Option, Some, Ok, slice_set}
use Rattle.txn_store.specs.declared.store.StoreError.TheVariants as errors
use Rattle.txn_store.specs.declared.request.Request.{Request}
use Rattle.txn_store.specs.declared.request.Reply.{Reply}
use Rattle.txn_steps.specs.declared.boundary.caches.Caches.{Caches}
use Rattle.txn_steps.specs.declared.boundary.turned.Turned.TheVariants.{Done}
use Rattle.txn_steps.specs.boundary.Steps.{reply_error}
use Rattle.txn_steps.specs.declared.read.ReadOp.{ReadOp}
use Rattle.txn_steps.specs.Reads.{read_turned}
use Rattle.txn_history.specs.declared.event.ToldOf.TheVariants as told
use Rattle.txn_history.specs.Added.{told_of}
use Rattle.txn_history.specs.Names.{world_names, world_boundary}
use Rattle.txn_history.specs.Seen.{Store}
use Rattle.txn_steps_views.specs.declared.claiming.Claiming.{Claiming}
use Rattle.txn_steps_views.specs.declared.claiming.Claiming.TheVariants.{Reads}
use Rattle.txn_history.specs.Trace.{Told}
use Rattle.txn_machine.specs.declared.doing.Operation.{Operation}
use Rattle.txn_machine.specs.Doing.{turned, caches_after, IsReply}
use Rattle.txn_machine.specs.Machine.{State, Acts, with_doing, views_after, answer_next}

module _ {T : Type 0} (encode : T → List ℕ) (decode : List ℕ → Option T) (get_epoch : T → ℕ) (set_epoch : T → ℕ → T) where
  -- A failure is the turn that its operation takes with the reply of a call that failed: what it tells, and what the operation does next, what it leaves of its client's caches, and what becomes of its view.
  pub record FailsAsReplied (old : State T) (op : ℕ) (said : Told T) (new : State T) : Type 0 where
    pub operation : Operation T
    pub request : Request
    pub caches : Caches
    pub acts : Acts old op operation (Store request) caches
    pub as_replied : (reply : Reply) → reply_error reply ≡ Some errors.Failed → IsReply operation.doing (Some reply) → (
        (said ≡ told_of (told.Went op) op (answer_next old operation (turned old.page encode decode get_epoch set_epoch false operation.doing caches (Some reply))))
        × (new.operations ≡ with_doing old.operations op operation (turned old.page encode decode get_epoch set_epoch false operation.doing caches (Some reply)).0)
        × (new.caches ≡ slice_set old.caches (operation.client - 1) (caches_after operation.doing caches (turned old.page encode decode get_epoch set_epoch false operation.doing caches (Some reply)).1))
        × (new.views ≡ views_after old.views operation.client operation.view operation.claims (turned old.page encode decode get_epoch set_epoch false operation.doing caches (Some reply)).1)
        )

module _ {T : Type 0} (page : ℕ) (decode : List ℕ → Option T) where
  -- The read of a claim finds this version with this look or reply.
  pub record Found (claiming : Claiming T) (caches : Caches) (reply : Option Reply) (id : ℕ) (value : T) : Type 0 where
    pub read : ReadOp T
    pub reads : claiming ≡ Reads read
    pub finds : (read_turned world_names world_boundary page decode read caches reply).1 ≡ Done (Ok (Some (id, value)))
