-- What checks and advances that run alone from their start leave.
use Rattle.std.specs.Prelude.{◌≡◌, ◌⊎◌, ℕ, ◌+◌, ◌<◌, true, List, Option, Some, None, Result, Ok, Err}
use Rattle.txn_store.specs.Paths.{Segments}
use Rattle.txn_store.specs.declared.types.error.TransactionalObjectError.{TransactionalObjectError}
use Rattle.txn_store.specs.declared.types.error.TransactionalObjectError.TheVariants.{ObjectVersionExists, NoMemory}
use Rattle.txn_steps.specs.boundary.Boundaries.{refused_by}
use Rattle.txn_steps.specs.boundary.Windows.{above}
use Rattle.txn_steps.specs.declared.boundary.advance.AdvanceOp.{AdvanceOp}
use Rattle.txn_steps.specs.declared.boundary.caches.Cached.{Cached}
use Rattle.txn_steps.specs.declared.boundary.check.CheckOp.{CheckOp}
use Rattle.txn_steps_driven.specs.Advancing.{Advanced}
use Rattle.txn_steps_driven.specs.Checking.{Checked}
use Rattle.txn_steps_driven.specs.DriveRuns.{Scene}
use Rattle.txn_steps_driven.specs.Standing.{BoundaryStands}

-- the versions that are held after a check: those above the id where that is refused, and else all
abbrev pub checked_latest : ℕ → Result (Unit {0}) TransactionalObjectError → List Cached → List Cached
checked_latest id (Ok accepted) latest = latest
checked_latest id (Err ObjectVersionExists) latest = above id latest
checked_latest id (Err error) latest = latest

-- A check leaves what `check_boundary` does of the boundary, and of the held versions those above the id where it refuses that. It has no answer only where it was given fewer than five steps.
abbrev pub CheckDriven : Segments → ℕ → ℕ → Scene CheckOp → Option (Result (Unit {0}) TransactionalObjectError) → Scene CheckOp → Type 0
CheckDriven path id steps a (Some answer) b = Checked path id a.store b.store a.caches.boundary b.caches.boundary answer × (b.caches.latest ≡ checked_latest id answer a.caches.latest)
CheckDriven path id steps a None b = steps < 5

-- The versions that are held after an advance: those above the target where it was done, and else all. Memory may be refused before they are dropped, or after.
abbrev pub AdvanceLeaves : ℕ → Result (Unit {0}) TransactionalObjectError → List Cached → List Cached → Type 0
AdvanceLeaves target (Ok done) latest latest' = latest' ≡ above target latest
AdvanceLeaves target (Err NoMemory) latest latest' = (latest' ≡ latest) ⊎ (latest' ≡ above target latest)
AdvanceLeaves target (Err error) latest latest' = latest' ≡ latest

-- the cached boundary had reached the target, and memory was refused: nothing was done
pub record LackedMemory (target : ℕ) (a b : Scene AdvanceOp) (answer : Result (Unit {0}) TransactionalObjectError) : Type 0 where
  pub refused : answer ≡ Err NoMemory
  pub reached : refused_by target a.caches.boundary ≡ true
  pub same_store : b.store ≡ a.store
  pub same_boundary : b.caches.boundary ≡ a.caches.boundary

-- what `advance_boundary` does with as many turns as it spends, so many being left
abbrev pub AdvancesBoundary : Segments → ℕ → Scene AdvanceOp → Scene AdvanceOp → Result (Unit {0}) TransactionalObjectError → Type 0
AdvancesBoundary path target a b answer = (spent : ℕ) × ((left : ℕ) → Advanced path target a.store b.store (left + spent) left a.caches.boundary b.caches.boundary answer)

-- An advance leaves what `advance_boundary` does of the boundary, but that memory may be refused where the cached boundary has reached the target. Where file and cache stood for a boundary, it has no answer only where it was given fewer than 43 steps.
abbrev pub AdvanceDriven : Segments → ℕ → ℕ → Scene AdvanceOp → Option (Result (Unit {0}) TransactionalObjectError) → Scene AdvanceOp → Type 0
AdvanceDriven path target steps a (Some answer) b = (AdvancesBoundary path target a b answer ⊎ LackedMemory target a b answer) × AdvanceLeaves target answer a.caches.latest b.caches.latest
AdvanceDriven path target steps a None b = (stood : ℕ) → BoundaryStands path a.caches.boundary a.store stood → steps < 43
