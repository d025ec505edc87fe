-- Calls on views that run alone: a step of one, and when a store can serve what it asks.
use Rattle.std.specs.Prelude.{◌≡◌, ℕ, ◌&&◌, Bool, true, false, List, Option, Result}
use Rattle.txn_store.specs.Paths.{Segments}
use Rattle.txn_store.specs.VersionName.{Names}
use Rattle.txn_store.specs.declared.request.Request.{Request}
use Rattle.txn_store.specs.declared.request.Reply.{Reply}
use Rattle.txn_store.specs.declared.types.error.TransactionalObjectError.{TransactionalObjectError}
use Rattle.txn_steps.specs.declared.boundary.caches.Caches.{Caches}
use Rattle.txn_steps.specs.declared.boundary.turned.Turned.{Turned}
use Rattle.txn_steps.specs.boundary.Asking.{reply_told, unless_lacking}
use Rattle.txn_steps.specs.boundary.Steps.{turned_by_number, lacks_memory, TellsErrorOf}
use Rattle.txn_steps.specs.Reads.{read_caches_after}
use Rattle.txn_steps_driven.specs.Asked.{Replies}
use Rattle.txn_steps_driven.specs.DriveRuns.{Scene}
use Rattle.txn_steps_driven.specs.DriveSteps.{CanWriteChecked}
use Rattle.txn_steps_views.specs.declared.entry.EntryOp.{EntryOp}
use Rattle.txn_steps_views.specs.declared.entry.EntryOp.TheVariants as entries
use Rattle.txn_steps_views.specs.declared.outcome.Outcome.{Outcome}
use Rattle.txn_steps_views.specs.declared.view_read.ViewReadOp.{ViewReadOp}
use Rattle.txn_steps_views.specs.Entries.{entry_asked, entry_turned, entry_caches}
use Rattle.txn_steps_views.specs.Readings.{said}
use Rattle.txn_steps_views.specs.ViewReads.{view_read_asked, view_read_ended, view_read_turned}
use Rattle.txn_steps_laws.specs.declared.call.ViewCall.{ViewCall}
use Rattle.txn_steps_laws.specs.declared.with_epochs.WithEpochs.{WithEpochs}

-- One step of a call: as that of an operation, but that want of memory ends it. `ended` is what it is then.
pub record CallStepped {O A : Type 0} (may_grow : Bool) (ended : O → O) (asked : O → Option Request) (turned : O → Caches → Option Reply → O × Turned (Result A ℕ)) (left : O → Caches → Turned (Result A ℕ) → Caches) (a : Scene O) (told : Turned (Result A TransactionalObjectError)) (b : Scene O) : Type 0 where
  pub reply : Option Reply
  pub replies : Replies (asked a.op) a.store reply b.store
  pub takes : (b.op, turned_by_number told) ≡ unless_lacking (may_grow && lacks_memory (turned_by_number told)) (ended a.op) (turned a.op a.caches reply)
  pub leaves : b.caches ≡ left a.op a.caches (turned_by_number told)
  pub error : TellsErrorOf (reply_told reply) told

-- what a step of a call on a view leads to
abbrev pub StepsOf : Type 0 → Type 0 → Type 1
StepsOf T O = Scene O → Turned (Result (Outcome T) TransactionalObjectError) → Scene O → Type 0

-- a state of a call, and the same with the field of epochs that it is lent
abbrev pub as_call : {O A : Type 0} → O × A → ViewCall O × A
as_call next = (record { op = next.0 }, next.1)

abbrev pub with_epochs : {O X A : Type 0} → X → O × A → WithEpochs O X × A
with_epochs epochs next = (record { op = next.0; epochs = epochs }, next.1)

module _ {T : Type 0} where
  abbrev pub entry_call_turned : ViewCall (EntryOp T) → Caches → Option Reply → ViewCall (EntryOp T) × Turned (Result (Outcome T) ℕ)
  entry_call_turned call caches reply = as_call (entry_turned call.op caches reply)

  -- a call that writes a value that a view then shows; it takes no memory
  abbrev pub EntrySteps : StepsOf T (ViewCall (EntryOp T))
  EntrySteps = CallStepped false (λ call. call) (λ call. entry_asked call.op) entry_call_turned (λ call caches told. entry_caches call.op caches)

  module _ {X : Type 0} (names : Names) (path : Segments) (page : ℕ) (decode : List ℕ → Option T) (epoch_of : X → T → ℕ) where
    abbrev pub view_read_call_turned : WithEpochs (ViewReadOp T) X → Caches → Option Reply → WithEpochs (ViewReadOp T) X × Turned (Result (Outcome T) ℕ)
    view_read_call_turned call caches reply = with_epochs call.epochs (view_read_turned names path page decode (epoch_of call.epochs) call.op caches reply)

    -- a call that reads the newest version for a view
    abbrev pub ViewReadSteps : StepsOf T (WithEpochs (ViewReadOp T) X)
    ViewReadSteps = CallStepped true (λ call. record { op = view_read_ended call.op; epochs = call.epochs }) (λ call. view_read_asked call.op) view_read_call_turned (λ call caches told. read_caches_after call.op.read caches (said told))

  -- a write of a value that a view then shows asks for what its write does, and has not ended
  abbrev pub CanEnter : EntryOp T → Type 0
  CanEnter (entries.Writes write value) = CanWriteChecked write
  CanEnter entries.Ended = ⊥
