-- Each call on a view that writes or reads and runs alone from its start.
use Rattle.std.proofs.Common.{◌≡◌, ℕ, ◌+◌, ◌^◌, ◌<◌, ◌≤◌, List, Option, Some, None, IfSome, Result, Ok, Err, ap, inl, inr, arith}
use Rattle.std.proofs.lemmas.Bool.{cases_eq, ne_eqb}
use Rattle.txn_store.specs.Paths.{Segments}
use Rattle.txn_store.specs.VersionName.{Names}
use Rattle.txn_store.specs.declared.types.error.TransactionalObjectError.{TransactionalObjectError}
use Rattle.txn_steps.specs.boundary.Windows.{Ascends, greatest_held}
use Rattle.txn_steps.specs.Writes.{write_started}
use Rattle.txn_steps_driven.specs.DriveRuns.{Scene, Drives}
use Rattle.txn_steps_views.specs.declared.entry.EntryOp.{EntryOp}
use Rattle.txn_steps_views.specs.declared.entry.EntryOp.TheVariants as entries
use Rattle.txn_steps_views.specs.declared.outcome.Outcome.{Outcome}
use Rattle.txn_steps_views.specs.declared.view_read.Purpose.TheVariants.{Load, Refresh, HolderRefresh}
use Rattle.txn_steps_views.specs.declared.view_read.ViewReadOp.{ViewReadOp}
use Rattle.txn_steps_views.specs.Entries.{entry_started, entry_tested, holder_entry_started, own_epochs}
use Rattle.txn_steps_views.specs.ViewReads.{view_read_started}
use Rattle.txn_steps_laws.specs.declared.call.ViewCall.{ViewCall}
use Rattle.txn_steps_laws.specs.declared.with_epochs.WithEpochs.{WithEpochs}
use Rattle.txn_steps_laws.specs.CallLayers.{entry_at}
use Rattle.txn_steps_laws.specs.CallRuns.{EntrySteps, ViewReadSteps}
use Rattle.txn_steps_laws.specs.Entering.{EntryDriven}
use Rattle.txn_steps_laws.specs.Viewing.{LoadDriven, RefreshDriven, HolderDriven}
use Rattle.txn_steps_laws.proofs.ViewRuns.{entry_driven, view_driven}

-- a call over a write

module _ {T : Type 0} (names : Names) (path : Segments) (encode : T → List ℕ) (decode : List ℕ → Option T) (value : T) (reads : decode (encode value) ≡ Some value) where
  -- it writes the value on this base
  abbrev writing : Option ℕ → EntryOp T
  writing base = entries.Writes (write_started names path base (encode value)) value

  pub init_driven : (a : Scene (ViewCall (EntryOp T))) → entry_started names path encode None value ≡ Ok a.op.op → (steps : ℕ) (answer : Option (Result (Outcome T) TransactionalObjectError)) (b : Scene (ViewCall (EntryOp T))) → Drives EntrySteps steps a answer b → EntryDriven names decode path None (encode value) value steps a answer b
  init_driven a starts =
      let op : a.op.op ≡ writing None = cc in
      entry_driven value names decode path None (encode value) reads (omega arith) a (ap entry_at op)

  -- a version with a next id
  based : (id : ℕ) (op : EntryOp T) → id < 2 ^ 64 → entry_started names path encode (Some id) value ≡ Ok op → (id + 1 < 2 ^ 64) × (op ≡ writing (Some id))
  based id op small starts = elim (cases_eq id 18446744073709551615) [
    | inl last ↦ let e : ◌≡◌ {A = Result (EntryOp T) ℕ} (Err 10) (Ok op) = rw last at starts in absurd (cc)
    | inr other ↦
        let e : Ok (writing (Some id)) ≡ Ok op = rw (ne_eqb id 18446744073709551615 other) at starts in
        (omega (arith, small, other), cc)
  ]

  module _ (id : ℕ) (small : id < 2 ^ 64) where
    pub update_driven : (a : Scene (ViewCall (EntryOp T))) → entry_started names path encode (Some id) value ≡ Ok a.op.op → (steps : ℕ) (answer : Option (Result (Outcome T) TransactionalObjectError)) (b : Scene (ViewCall (EntryOp T))) → Drives EntrySteps steps a answer b → EntryDriven names decode path (Some id) (encode value) value steps a answer b
    update_driven a starts =
        let begins = based id a.op.op small starts in
        entry_driven value names decode path (Some id) (encode value) reads begins.0 a (ap entry_at begins.1)

    holder_based : (tested : Result (Unit {0}) ℕ) (op : EntryOp T) → entry_tested names path encode id value tested ≡ Ok op → (id + 1 < 2 ^ 64) × (op ≡ writing (Some id))
    holder_based (Ok own) op starts = based id op small starts
    holder_based (Err number) op starts = absurd (cc)

    pub holder_update_driven : (epoch_of : T → ℕ) (local : ℕ) (object : T) (a : Scene (ViewCall (EntryOp T))) → holder_entry_started names path encode epoch_of local id object value ≡ Ok a.op.op → (steps : ℕ) (answer : Option (Result (Outcome T) TransactionalObjectError)) (b : Scene (ViewCall (EntryOp T))) → Drives EntrySteps steps a answer b → EntryDriven names decode path (Some id) (encode value) value steps a answer b
    holder_update_driven epoch_of local object a starts =
        let begins = holder_based (own_epochs local (epoch_of object) (epoch_of value)) a.op.op starts in
        entry_driven value names decode path (Some id) (encode value) reads begins.0 a (ap entry_at begins.1)

-- a call over a read

module _ {T X : Type 0} (names : Names) (path : Segments) (page : ℕ) (room : 1 ≤ page) (decode : List ℕ → Option T) (epoch_of : X → T → ℕ) (a : Scene (WithEpochs (ViewReadOp T) X)) (ascending : Ascends a.caches.latest) (small : IfSome (greatest_held a.caches.latest) (λ version. version.id < 2 ^ 64)) where
  -- the call at this state
  abbrev with_op : ViewReadOp T → WithEpochs (ViewReadOp T) X
  with_op op = record { op = op; epochs = a.op.epochs }

  pub load_driven : a.op.op ≡ view_read_started path Load → (steps : ℕ) (answer : Option (Result (Outcome T) TransactionalObjectError)) (b : Scene (WithEpochs (ViewReadOp T) X)) → Drives (ViewReadSteps names path page decode epoch_of) steps a answer b → LoadDriven names decode path page steps a answer b
  load_driven starts = view_driven names path page room decode epoch_of Load a ascending small (ap with_op starts)

  pub refresh_driven : a.op.op ≡ view_read_started path Refresh → (steps : ℕ) (answer : Option (Result (Outcome T) TransactionalObjectError)) (b : Scene (WithEpochs (ViewReadOp T) X)) → Drives (ViewReadSteps names path page decode epoch_of) steps a answer b → RefreshDriven names decode path page steps a answer b
  refresh_driven starts = view_driven names path page room decode epoch_of Refresh a ascending small (ap with_op starts)

  pub holder_refresh_driven : (local : ℕ) → a.op.op ≡ view_read_started path (HolderRefresh local) → (steps : ℕ) (answer : Option (Result (Outcome T) TransactionalObjectError)) (b : Scene (WithEpochs (ViewReadOp T) X)) → Drives (ViewReadSteps names path page decode epoch_of) steps a answer b → HolderDriven names decode path page (epoch_of a.op.epochs) local steps a answer b
  holder_refresh_driven local starts = view_driven names path page room decode epoch_of (HolderRefresh local) a ascending small (ap with_op starts)
