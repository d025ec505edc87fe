-- A store that fails on command.
use Rattle.std.specs.Prelude.{◌≡◌, ℕ, ◌+◌, ◌-◌, ◌==◌, if◌then◌else◌, Option, Some, None, Result, Err}
use Rattle.txn_store.specs.Store.{State}
use Rattle.txn_store.specs.CallCounts.{no_calls}
use Rattle.txn_store.specs.declared.failing.Counts.{Counts}
use Rattle.txn_store.specs.declared.failing.FailingStore.{FailingStore}
use Rattle.txn_store.specs.declared.failing.When.{When}
use Rattle.txn_store.specs.declared.failing.When.TheVariants.{Before, After}
use Rattle.txn_store.specs.declared.store.StoreError.{StoreError}
use Rattle.txn_store.specs.declared.store.StoreError.TheVariants.{Failed}

-- the failure that the next call is due
abbrev pub due : {S : Type 0} → FailingStore S → Option When
due f = if f.ahead == 1 then Some f.when else None

-- a failure counts once
abbrev pub failures_of : Option When → ℕ
failures_of None = 0
failures_of (Some _) = 1

-- a call that fails without its effect never reaches the store below
abbrev pub withheld_by : Option When → ℕ
withheld_by (Some Before) = 1
withheld_by _ = 0

-- a failing store that no call was made of
pub record IsFresh {S : Type 0} (below : S) (nth : ℕ) (how : When) (f : FailingStore S) : Type 0 where
  pub inner : f.inner ≡ below
  pub ahead : f.ahead ≡ nth
  pub when : f.when ≡ how
  pub counts : f.counts ≡ no_calls
  pub failed : f.failed ≡ 0
  pub withheld : f.withheld ≡ 0

-- one call nearer to the failing one, or past it
pub record IsNextCall {S : Type 0} (made : Counts) (old new : FailingStore S) : Type 0 where
  pub counts : new.counts ≡ made
  pub ahead : new.ahead ≡ old.ahead - 1
  pub when : new.when ≡ old.when
  pub failed : new.failed ≡ old.failed + failures_of (due old)
  pub withheld : new.withheld ≡ old.withheld + withheld_by (due old)

-- what the store stands for: the store below, with the failures and the calls that never reached it
abbrev pub failing_state : State → ℕ → ℕ → State
failing_state s failed withheld = record s { calls = s.calls + withheld; failures = s.failures + failed }

-- A call of the failing store. `Goes` says how the call goes in the store below.
abbrev pub FailsWhenDue : {A : Type 0} → Option When → (State → Result A StoreError → State → Type 0) → State → Result A StoreError → State → Type 0
FailsWhenDue None Goes old result new = Goes old result new
FailsWhenDue (Some Before) Goes old result new = (result ≡ Err Failed) × (new ≡ old)
FailsWhenDue {A} (Some After) Goes old result new = (result ≡ Err Failed) × ((answer : Result A StoreError) × Goes old answer new)
