-- A cause that came in a later part of a call.
use Rattle.std.proofs.Common.{◌≡◌, ◌≤◌, arith, subst}
use Rattle.txn_store.specs.Store.{State}
use Rattle.txn_store.specs.declared.store.StoreError.{StoreError}
use Rattle.txn_store.specs.declared.store.StoreError.TheVariants.{Failed, TokensExhausted}
use Rattle.txn_store.specs.declared.types.error.TransactionalObjectError.{TransactionalObjectError}
use Rattle.txn_store.specs.declared.types.error.TransactionalObjectError.TheVariants.{ObjectStoreError, NoMemory, IdExhausted}
use Rattle.txn_steps_driven.specs.Calls.{HasStoreCause, HasCause, HasCauseOfCheck}

module _ (old middle new : State) (failures : old.failures ≤ middle.failures) where
  pub HasStoreCause-later : (error : StoreError) → HasStoreCause middle new error → HasStoreCause old new error
  HasStoreCause-later Failed h = omega (arith, failures, h)
  HasStoreCause-later TokensExhausted h = h
  HasStoreCause-later error h = absurd h

  pub HasCause-later : (error : TransactionalObjectError) → HasCause middle new error → HasCause old new error
  HasCause-later (ObjectStoreError error) h = HasStoreCause-later error h
  HasCause-later NoMemory h = h
  HasCause-later error h = absurd h

-- a check never wants an id
pub check-not_exhausted : (unheld : Type 0) (old new : State) (error : TransactionalObjectError) → HasCauseOfCheck unheld old new error → error ≡ IdExhausted → ⊥
check-not_exhausted unheld old new error cause is = subst (λ e. HasCauseOfCheck unheld old new e) is cause

pub ruleset later = (HasCause-later)
