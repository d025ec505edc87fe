-- What checked writes that run alone from their start leave.
use Rattle.std.specs.Prelude.{◌≡◌, ◌⊎◌, ℕ, ◌+◌, ◌<◌, List, Option, Some, None, Result, Ok, Err}
use Rattle.txn_store.specs.Paths.{Segments}
use Rattle.txn_store.specs.Store.{State}
use Rattle.txn_store.specs.VersionName.{Names}
use Rattle.txn_store.specs.types.Numbers.{number_of}
use Rattle.txn_store.specs.declared.types.error.TransactionalObjectError.{TransactionalObjectError}
use Rattle.txn_steps.specs.declared.boundary.caches.Cached.{Cached}
use Rattle.txn_steps.specs.declared.write.WriteOp.{WriteOp}
use Rattle.txn_steps_driven.specs.Checking.{Checked}
use Rattle.txn_steps_driven.specs.DriveRuns.{Scene}
use Rattle.txn_steps_laws.specs.DrivenChecks.{checked_latest}
use Rattle.txn_steps_driven.specs.WriteRuns.{Written}

-- the id where its check accepts it, and else the error of the check
abbrev pub write_answer : ℕ → Result (Unit {0}) TransactionalObjectError → Result ℕ TransactionalObjectError
write_answer id (Ok accepted) = Ok id
write_answer id (Err error) = Err error

module _ {T : Type 0} (names : Names) (decode : List ℕ → Option T) (path : Segments) where
  -- the unchecked write failed, and nothing was checked
  pub record WriteFailed (base : Option ℕ) (bytes : List ℕ) (value : T) (a b : Scene WriteOp) (answer : Result ℕ TransactionalObjectError) : Type 0 where
    pub error : TransactionalObjectError
    pub answer_is : answer ≡ Err error
    pub written : Written names decode base bytes value a.store b.store a.caches.latest b.caches.latest (Err error)
    pub same_boundary : b.caches.boundary ≡ a.caches.boundary

  -- the unchecked write answered its id, and then that was checked
  pub record WriteChecked (base : Option ℕ) (bytes : List ℕ) (value : T) (a b : Scene WriteOp) (answer : Result ℕ TransactionalObjectError) : Type 0 where
    pub id : ℕ
    pub store : State
    pub latest : List Cached
    pub checked : Result (Unit {0}) TransactionalObjectError
    pub written : Written names decode base bytes value a.store store a.caches.latest latest (Ok id)
    pub check : Checked path (number_of base + 1) store b.store a.caches.boundary b.caches.boundary checked
    pub held : b.caches.latest ≡ checked_latest (number_of base + 1) checked latest
    pub answer_is : answer ≡ write_answer (number_of base + 1) checked

  -- A write leaves what `write_version` does, and where that answers its id what `check_boundary` does of it then. It has no answer only where it was given fewer than seven steps.
  abbrev pub CheckedWriteDriven : Option ℕ → List ℕ → T → ℕ → Scene WriteOp → Option (Result ℕ TransactionalObjectError) → Scene WriteOp → Type 0
  CheckedWriteDriven base bytes value steps a (Some answer) b = WriteFailed base bytes value a b answer ⊎ WriteChecked base bytes value a b answer
  CheckedWriteDriven base bytes value steps a None b = steps < 7
