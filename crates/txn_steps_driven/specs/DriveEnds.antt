-- What operations that run alone from their start leave.
use Rattle.std.specs.Prelude.{◌≡◌, ℕ, ◌<◌, List, Option, Some, None, Result}
use Rattle.std.specs.declared.ops.Bound.{Bound}
use Rattle.txn_store.specs.VersionName.{Names}
use Rattle.txn_store.specs.declared.types.error.TransactionalObjectError.{TransactionalObjectError}
use Rattle.txn_steps.specs.declared.delete.DeleteUncheckedOp.{DeleteUncheckedOp}
use Rattle.txn_steps.specs.declared.listing.ListOp.{ListOp}
use Rattle.txn_steps.specs.declared.write.WriteUncheckedOp.{WriteUncheckedOp}
use Rattle.txn_steps.specs.Listed.{Listed}
use Rattle.txn_steps_driven.specs.DriveRuns.{Scene}
use Rattle.txn_steps_driven.specs.ListRuns.{VersionsListed}
use Rattle.txn_steps_driven.specs.PageCount.{pages_below}
use Rattle.txn_steps_driven.specs.RemovalRuns.{Deleted}
use Rattle.txn_steps_driven.specs.WriteRuns.{Written}

module _ {T : Type 0} (names : Names) (decode : List ℕ → Option T) where
  -- An unchecked write leaves what `write_version` does, and the cached boundary. It has no answer only where it was given fewer than two steps.
  abbrev pub WriteDriven : Option ℕ → List ℕ → T → ℕ → Scene WriteUncheckedOp → Option (Result ℕ TransactionalObjectError) → Scene WriteUncheckedOp → Type 0
  WriteDriven base bytes value steps a (Some answer) b = Written names decode base bytes value a.store b.store a.caches.latest b.caches.latest answer × (b.caches.boundary ≡ a.caches.boundary)
  WriteDriven base bytes value steps a None b = steps < 2

  -- An unchecked delete leaves what `delete_version` does, and the cached boundary. It has no answer only where it was given fewer than two steps.
  abbrev pub DeleteDriven : ℕ → ℕ → Scene DeleteUncheckedOp → Option (Result (Unit {0}) TransactionalObjectError) → Scene DeleteUncheckedOp → Type 0
  DeleteDriven id steps a (Some answer) b = Deleted names decode id a.store b.store a.caches.latest b.caches.latest answer × (b.caches.boundary ≡ a.caches.boundary)
  DeleteDriven id steps a None b = steps < 2

  -- A listing leaves what `list_versions` does, and the caches. It has no answer only where it was given fewer steps than there are pages.
  abbrev pub ListDriven : ℕ → Bound ℕ → Bound ℕ → ℕ → Scene ListOp → Option (Result (List Listed) TransactionalObjectError) → Scene ListOp → Type 0
  ListDriven page from to steps a (Some answer) b = VersionsListed names page decode from to a.store b.store answer × (b.caches ≡ a.caches)
  ListDriven page from to steps a None b = steps < pages_below names page a.store.files

-- it has no answer only where it was given fewer steps than so many
abbrev pub AnswersWithin : {A : Type 0} → ℕ → ℕ → Option A → Type 0
AnswersWithin most steps None = steps < most
AnswersWithin most steps (Some answer) = Unit {0}
