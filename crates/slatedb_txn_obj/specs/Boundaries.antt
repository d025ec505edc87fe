-- What a check and an advance leave of a boundary object over an object store, and the laws of that.
use Rattle.std.specs.Prelude.{◌≡◌, ℕ, Option, Result, Contains}
use Rattle.std.proofs.Common.{sym, subst}
use Rattle.txn_store.specs.Paths.{Segments}
use Rattle.txn_store.specs.Store.{State}
use Rattle.txn_store.specs.declared.types.error.TransactionalObjectError.{TransactionalObjectError}
use Rattle.txn_steps.specs.declared.boundary.caches.CachedBoundary.{CachedBoundary}
use Rattle.txn_steps_driven.specs.Standing.{BoundaryStands}
use Rattle.txn_steps_driven.specs.Checking.{Checked}
use Rattle.txn_steps_driven.specs.Advancing.{Advanced}

-- what a check of this id that answers so leaves
pub record BoundaryChecks (path path' : Segments) (cached cached' : Option CachedBoundary) (old : State) (id : ℕ) (r : Result (Unit {0}) TransactionalObjectError) (new : State) : Type 0 where
  pub same_path : path' ≡ path
  pub checked : Checked path id old new cached cached' r

-- what an advance to this target that answers so leaves, after some number of turns
pub record BoundaryAdvances (path path' : Segments) (cached cached' : Option CachedBoundary) (old : State) (id : ℕ) (r : Result (Unit {0}) TransactionalObjectError) (new : State) : Type 0 where
  pub same_path : path' ≡ path
  pub turns : ℕ
  pub turns' : ℕ
  pub advanced : Advanced path id old new turns turns' cached cached' r

module _ (path path' : Segments) (cached cached' : Option CachedBoundary) (old : State) (id : ℕ) (r : Result (Unit {0}) TransactionalObjectError) (new : State) where
  pub check-frame : BoundaryChecks path path' cached cached' old id r new → new.files ≡ old.files
  check-frame m = m.checked.kept.files

  pub check-given : (token : ℕ) → BoundaryChecks path path' cached cached' old id r new → Contains old.given token → Contains new.given token
  check-given token m given = subst (λ tokens. Contains tokens token) (sym m.checked.kept.given) given

  pub check-keeps : (b : ℕ) → BoundaryChecks path path' cached cached' old id r new → BoundaryStands path cached old b → BoundaryStands path' cached' new b
  check-keeps b m stands = subst (λ p. BoundaryStands p cached' new b) (sym m.same_path) (m.checked.stands b stands)
