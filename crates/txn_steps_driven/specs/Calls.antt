-- What a call spends, what it leaves alone, and why it failed.
use Rattle.std.specs.Prelude.{◌≡◌, ℕ, ◌+◌, ◌*◌, ◌^◌, ◌<◌, ◌≤◌, Bool, true, false, Contains}
use Rattle.std.specs.FinMap as map
use Rattle.txn_store.specs.Paths.{Segments}
use Rattle.txn_store.specs.Store.{State}
use Rattle.txn_store.specs.declared.store.StoreError.{StoreError}
use Rattle.txn_store.specs.declared.store.StoreError.TheVariants.{Failed, TokensExhausted}
use Rattle.txn_store.specs.declared.types.error.TransactionalObjectError.{TransactionalObjectError}
use Rattle.txn_store.specs.declared.types.error.TransactionalObjectError.TheVariants.{ObjectStoreError, ObjectVersionExists, InvalidObjectState, CallbackError, NoMemory, IdExhausted, TurnsExhausted}

-- the same stands under this path, and no token was forgotten
pub record SameAt (path : Segments) (old new : State) : Type 0 where
  pub same : map.get new.files path ≡ map.get old.files path
  pub given : (token : ℕ) → Contains old.given token → Contains new.given token

-- the same stands under every other path
abbrev pub SameBut : Segments → State → State → Type 0
SameBut path old new = (other : Segments) → (other ≡ path → ⊥) → map.get new.files other ≡ map.get old.files other

-- 1 where something is due
abbrev pub one_if : Bool → ℕ
one_if true = 1
one_if false = 0

-- at most so many calls were made and so many tokens taken
pub record Spends (calls tokens : ℕ) (old new : State) : Type 0 where
  pub calls_rise : old.calls ≤ new.calls
  pub calls_most : new.calls ≤ old.calls + calls
  pub failures_rise : old.failures ≤ new.failures
  pub left_falls : new.left ≤ old.left
  pub left_least : old.left ≤ new.left + tokens

-- turns were spent, at most so many calls were made for each and so many beside, and at most so many tokens were taken
pub record SpendsTurns (each beside tokens : ℕ) (turns turns' : ℕ) (old new : State) : Type 0 where
  pub turns_fall : turns' ≤ turns
  pub calls_rise : old.calls ≤ new.calls
  pub calls_most : new.calls + each * turns' ≤ old.calls + beside + each * turns
  pub failures_rise : old.failures ≤ new.failures
  pub left_falls : new.left ≤ old.left
  pub left_least : old.left ≤ new.left + tokens

-- why the store refused: it failed, or it has no token left
abbrev pub HasStoreCause : State → State → StoreError → Type 0
HasStoreCause old new Failed = old.failures < new.failures
HasStoreCause old new TokensExhausted = new.left ≡ 0
HasStoreCause old new error = ⊥

-- Why a call failed: the store refused, or a growth was refused. No clause can tell whether a growth was.
abbrev pub HasCause : State → State → TransactionalObjectError → Type 0
HasCause old new (ObjectStoreError error) = HasStoreCause old new error
HasCause old new NoMemory = Unit {0}
HasCause old new error = ⊥

-- a conflict, a boundary file that says no boundary where none stood, or a failure with its cause
abbrev pub HasCauseOfCheck : Type 0 → State → State → TransactionalObjectError → Type 0
HasCauseOfCheck unheld old new ObjectVersionExists = Unit {0}
HasCauseOfCheck unheld old new InvalidObjectState = unheld
HasCauseOfCheck unheld old new error = HasCause old new error

-- turns that were spent, a boundary file that says no boundary where none stood, or a failure with its cause
abbrev pub HasCauseOfAdvance : Type 0 → ℕ → State → State → TransactionalObjectError → Type 0
HasCauseOfAdvance unheld left old new TurnsExhausted = left ≡ 0
HasCauseOfAdvance unheld left old new InvalidObjectState = unheld
HasCauseOfAdvance unheld left old new error = HasCause old new error

-- turns that were spent, a codec that refused, or a failure with its cause
abbrev pub HasCauseOfRead : ℕ → State → State → TransactionalObjectError → Type 0
HasCauseOfRead left old new TurnsExhausted = left ≡ 0
HasCauseOfRead left old new (CallbackError error) = Unit {0}
HasCauseOfRead left old new error = HasCause old new error

-- a codec that refused, or a failure with its cause
abbrev pub HasCauseOfGet : State → State → TransactionalObjectError → Type 0
HasCauseOfGet old new (CallbackError error) = Unit {0}
HasCauseOfGet old new error = HasCause old new error

-- a conflict, no number above the base, or a failure with its cause
abbrev pub HasCauseOfPut : ℕ → State → State → TransactionalObjectError → Type 0
HasCauseOfPut base old new ObjectVersionExists = Unit {0}
HasCauseOfPut base old new IdExhausted = base + 1 ≡ 2 ^ 64
HasCauseOfPut base old new error = HasCause old new error
