-- A call that goes on after a step asks again for what a store can serve.
use Rattle.std.specs.Prelude.{◌≡◌, ℕ, ◌≤◌, false, true, List, Option}
use Rattle.std.proofs.Common.{refl, sym, subst}
use Rattle.txn_store.specs.Paths.{Segments}
use Rattle.txn_store.specs.VersionName.{Names}
use Rattle.txn_steps.specs.declared.boundary.turned.Turned.TheVariants.{Goes}
use Rattle.txn_steps.specs.declared.read.ReadOp.TheVariants as reads
use Rattle.txn_steps.specs.Reads.{read_asked, read_turned, read_caches_after}
use Rattle.txn_steps.specs.Writes.{write_asked, write_turned, write_caches}
use Rattle.txn_steps_driven.specs.DriveChecked.{write_asks}
use Rattle.txn_steps_driven.specs.DriveReads.{read_asks}
use Rattle.txn_steps_driven.specs.DriveRuns.{Scene}
use Rattle.txn_steps_driven.specs.DriveSteps.{CanRead}
use Rattle.txn_steps_views.specs.declared.entry.EntryOp.{EntryOp}
use Rattle.txn_steps_views.specs.declared.entry.EntryOp.TheVariants as entries
use Rattle.txn_steps_views.specs.declared.view_read.ViewReadOp.{ViewReadOp}
use Rattle.txn_steps_views.specs.Entries.{entry_asked, entry_caches}
use Rattle.txn_steps_views.specs.Readings.{said}
use Rattle.txn_steps_views.specs.ViewReads.{view_read_asked}
use Rattle.txn_steps_laws.specs.declared.call.ViewCall.{ViewCall}
use Rattle.txn_steps_laws.specs.declared.with_epochs.WithEpochs.{WithEpochs}
use Rattle.txn_steps_laws.specs.CallLayers.{entry_at, entry_layer, view_read_at, view_read_gone, view_read_layer}
use Rattle.txn_steps_laws.specs.CallRuns.{CanEnter, EntrySteps, entry_call_turned, ViewReadSteps, view_read_call_turned}
use Rattle.txn_steps_laws.specs.Layers.{step_through, part_of}
use Rattle.txn_steps_laws.specs.Seen.{entry_seen, view_read_seen}

-- a call over a write

module _ {T : Type 0} where
  entry_next : (a b : Scene (ViewCall (EntryOp T))) (entry : EntryOp T) → a.op ≡ entry_at entry → CanEnter entry → EntrySteps a Goes b → CanEnter b.op.op
  entry_next a b (entries.Writes write value) at can step =
      let next = step_through false write_asked write_turned (λ op caches told. write_caches op caches) (λ (call : ViewCall (EntryOp T)). call) (λ call. entry_asked call.op) entry_call_turned (λ call caches told. entry_caches call.op caches) (λ write. entry_at (entries.Writes write value)) (entry_at entries.Ended) (entry_seen value) (entry_layer value) write a b Goes at step in
      subst (λ (call : ViewCall (EntryOp T)). CanEnter call.op) (sym next.2) (write_asks (part_of write a) (part_of next.0 b) can next.1)
  entry_next a b entries.Ended at can step = absurd can

  pub entry_asks : (a b : Scene (ViewCall (EntryOp T))) → CanEnter a.op.op → EntrySteps a Goes b → CanEnter b.op.op
  entry_asks a b can step = entry_next a b a.op.op refl can step

-- a call over a read

module _ {T X : Type 0} (names : Names) (path : Segments) (page : ℕ) (room : 1 ≤ page) (decode : List ℕ → Option T) (epoch_of : X → T → ℕ) where
  pub view_read_asks : (a b : Scene (WithEpochs (ViewReadOp T) X)) → CanRead a.op.op.read → ViewReadSteps names path page decode epoch_of a Goes b → CanRead b.op.op.read
  view_read_asks a b can step =
      let purpose = a.op.op.purpose in
      let epochs = a.op.epochs in
      let next = step_through true read_asked (read_turned names path page decode) read_caches_after view_read_gone (λ call. view_read_asked call.op) (view_read_call_turned names path page decode epoch_of) (λ call caches told. read_caches_after call.op.read caches (said told)) (view_read_at purpose epochs) (view_read_at purpose epochs reads.Ended) (view_read_seen (epoch_of epochs) purpose) (view_read_layer names path page decode epoch_of purpose epochs) a.op.op.read a b Goes refl step in
      subst (λ (call : WithEpochs (ViewReadOp T) X). CanRead call.op.read) (sym next.2) (read_asks names page room decode path (part_of a.op.op.read a) (part_of next.0 b) can next.1)
