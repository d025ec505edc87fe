-- What checked deletes that run alone from their start leave.
use Rattle.std.specs.Prelude.{◌≡◌, ◌⊎◌, ℕ, ◌<◌, List, Option, Some, None, Result, Ok, Err}
use Rattle.txn_store.specs.Paths.{Segments}
use Rattle.txn_store.specs.Store.{State}
use Rattle.txn_store.specs.VersionName.{Names}
use Rattle.txn_store.specs.declared.types.error.TransactionalObjectError.{TransactionalObjectError}
use Rattle.txn_store.specs.declared.types.error.TransactionalObjectError.TheVariants.{InvalidObjectState, ObjectVersionExists}
use Rattle.txn_steps.specs.declared.boundary.caches.Caches.{Caches}
use Rattle.txn_steps.specs.declared.delete.DeleteOp.{DeleteOp}
use Rattle.txn_steps_driven.specs.Checking.{Checked}
use Rattle.txn_steps_driven.specs.DriveRuns.{Scene}
use Rattle.txn_steps_laws.specs.DrivenChecks.{checked_latest}
use Rattle.txn_steps_driven.specs.RemovalRuns.{Deleted}

-- the error of a check, and `InvalidObjectState` where that accepts the id
abbrev pub kept_answer : Result (Unit {0}) TransactionalObjectError → Result (Unit {0}) TransactionalObjectError
kept_answer (Ok accepted) = Err InvalidObjectState
kept_answer (Err error) = Err error

module _ {T : Type 0} (names : Names) (decode : List ℕ → Option T) (path : Segments) (id : ℕ) where
  -- the check did not refuse the id, and nothing was removed
  pub record DeleteKept (a b : Scene DeleteOp) (answer : Result (Unit {0}) TransactionalObjectError) : Type 0 where
    pub checked : Result (Unit {0}) TransactionalObjectError
    pub check : Checked path id a.store b.store a.caches.boundary b.caches.boundary checked
    pub held : b.caches.latest ≡ checked_latest id checked a.caches.latest
    pub answer_is : answer ≡ kept_answer checked

  -- the check refused the id, and then its version was removed
  pub record DeleteFenced (a b : Scene DeleteOp) (answer : Result (Unit {0}) TransactionalObjectError) : Type 0 where
    pub store : State
    pub caches : Caches
    pub check : Checked path id a.store store a.caches.boundary caches.boundary (Err ObjectVersionExists)
    pub held : caches.latest ≡ checked_latest id (Err ObjectVersionExists) a.caches.latest
    pub deleted : Deleted names decode id store b.store caches.latest b.caches.latest answer
    pub same_boundary : b.caches.boundary ≡ caches.boundary

  -- A delete leaves what `check_boundary` does, and where that refuses the id what `delete_version` does then. It has no answer only where it was given fewer than seven steps.
  abbrev pub CheckedDeleteDriven : ℕ → Scene DeleteOp → Option (Result (Unit {0}) TransactionalObjectError) → Scene DeleteOp → Type 0
  CheckedDeleteDriven steps a (Some answer) b = DeleteKept a b answer ⊎ DeleteFenced a b answer
  CheckedDeleteDriven steps a None b = steps < 7
