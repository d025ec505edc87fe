-- An advance of the boundary while it runs: what each state is, and what it may still do.
use Rattle.std.specs.Prelude.{◌≡◌, ◌⊎◌, ℕ, ◌+◌, ◌*◌, ◌<◌, ◌≤◌, max, Bool, true, false, Option, Some, None, Result, Ok, Err, Contains}
use Rattle.std.specs.FinMap as map
use Rattle.std.specs.Fmt.{decimal}
use Rattle.txn_store.specs.Paths.{Segments}
use Rattle.txn_store.specs.Store.{State, Kept}
use Rattle.txn_store.specs.declared.store.Got.{Got}
use Rattle.txn_store.specs.declared.request.Request.TheVariants as requests
use Rattle.txn_store.specs.declared.types.error.TransactionalObjectError.{TransactionalObjectError}
use Rattle.txn_store.specs.types.Errors.{error_number}
use Rattle.txn_steps.specs.declared.boundary.caches.CachedBoundary.{CachedBoundary}
use Rattle.txn_steps.specs.declared.boundary.boundary_read.BoundaryRead.{BoundaryRead}
use Rattle.txn_steps.specs.declared.boundary.boundary_read.BoundaryRead.TheVariants as read
use Rattle.txn_steps.specs.declared.boundary.advance.BoundaryAdvance.{BoundaryAdvance}
use Rattle.txn_steps.specs.declared.boundary.advance.BoundaryAdvance.TheVariants.{Looks, Reads, Puts, Keeps}
use Rattle.txn_steps.specs.declared.boundary.turned.Turned.{Turned}
use Rattle.txn_steps.specs.declared.boundary.turned.Turned.TheVariants.{Goes, Done}
use Rattle.txn_steps.specs.boundary.Boundaries.{token_of}
use Rattle.txn_steps.specs.boundary.BoundaryAdvances.{raise_mode, asks_put}
use Rattle.txn_steps_driven.specs.Calls.{SameBut, one_if, HasCauseOfAdvance}
use Rattle.txn_steps_driven.specs.Advancing.{Written}
use Rattle.txn_steps_driven.specs.Standing.{BoundaryStands}
use Rattle.txn_steps_driven.specs.BoundaryRuns.{read_steps, read_calls, ReadFormed, ReadHolds}
use Rattle.txn_steps_driven.specs.Checking.{Current, IsCurrent, number_of}

-- the steps that are left where no other advance comes first
abbrev pub advance_steps : BoundaryAdvance → ℕ
advance_steps (Looks target) = 10
advance_steps (Reads target true r) = 10 + read_steps r
advance_steps (Reads target false r) = 6 + read_steps r
advance_steps (Puts target request) = 6
advance_steps (Keeps target token) = 1

abbrev pub look_calls : Option CachedBoundary → ℕ
look_calls None = 1
look_calls (Some known) = 0

-- the calls of the store that are left before the next put
abbrev pub advance_calls : Option CachedBoundary → BoundaryAdvance → ℕ
advance_calls cached (Looks target) = look_calls cached
advance_calls cached (Reads target again r) = read_calls r
advance_calls cached (Puts target request) = 0
advance_calls cached (Keeps target token) = 0

-- how many tokens it has taken
abbrev pub advance_tokens : BoundaryAdvance → ℕ
advance_tokens (Looks target) = 0
advance_tokens (Reads target again r) = 0
advance_tokens (Puts target request) = 0
advance_tokens (Keeps target token) = 1

abbrev pub IsStored : Segments → State → Type 0
IsStored path store = (got : Got) × (map.get store.files path ≡ Some got)

-- Before its get: at its first read nothing is cached, and after a put that came too late a file is stored where nothing is.
abbrev pub FromAt : Bool → Segments → Option CachedBoundary → State → Type 0
FromAt false path cached store = cached ≡ None
FromAt true path cached store = cached ≡ None → IsStored path store

abbrev pub ReadFrom : Bool → Segments → Option CachedBoundary → State → BoundaryRead → Type 0
ReadFrom again path cached store (read.Looks p) = FromAt again path cached store
ReadFrom again path cached store (read.Gets request) = FromAt again path cached store
ReadFrom again path cached store (read.Holds known) = Unit {0}

-- Its put is of the target, in place of the file that is cached, or as a new one where none is; and the cached boundary is below the target.
abbrev pub AdvanceFormed : Segments → ℕ → Option CachedBoundary → State → BoundaryAdvance → Type 0
AdvanceFormed path goal cached store (Looks target) = target ≡ goal
AdvanceFormed path goal cached store (Reads target again r) = (target ≡ goal) × ReadFormed path cached r × ReadFrom again path cached store r
AdvanceFormed path goal cached store (Puts target request) = (target ≡ goal) × (request ≡ requests.Put path (decimal target) (raise_mode (token_of cached))) × (number_of cached < target)
AdvanceFormed path goal cached store (Keeps target token) = target ≡ goal

-- no turn was spent, or one was and the cached boundary is the file's
abbrev pub FirstOrCurrent : Segments → Option CachedBoundary → State → ℕ → ℕ → Type 0
FirstOrCurrent path cached store b spent = (spent ≡ 0) ⊎ ((spent ≡ 1) × Current path cached store b)

-- where it stood for a boundary: what stands now, after so many turns
abbrev pub AdvanceHolds : Segments → Option CachedBoundary → State → ℕ → ℕ → BoundaryAdvance → Type 0
AdvanceHolds path cached store b spent (Looks target) = BoundaryStands path cached store b × FirstOrCurrent path cached store b spent
AdvanceHolds path cached store b spent (Reads target true r) = BoundaryStands path cached store b × ReadHolds path cached store b r × (spent ≤ 1)
AdvanceHolds path cached store b spent (Reads target false r) = BoundaryStands path cached store b × ReadHolds path cached store b r × (spent ≡ 0)
AdvanceHolds path cached store b spent (Puts target request) = BoundaryStands path cached store b × FirstOrCurrent path cached store b spent
AdvanceHolds path cached store b spent (Keeps target token) = BoundaryStands path cached store target × (b ≤ target) × IsCurrent path store target (record { number = target; token = token }) × (spent ≤ 2)

-- what it may leave of other files, and what it spends beside turns
pub record Moves (path : Segments) (old new : State) : Type 0 where
  pub others : SameBut path old new
  pub given : (token : ℕ) → Contains old.given token → Contains new.given token
  pub calls_rise : old.calls ≤ new.calls
  pub failures_rise : old.failures ≤ new.failures
  pub left_falls : new.left ≤ old.left

-- it goes on with less to do but for what a put's turn pays for, or ends with a cause
abbrev pub AdvanceSteps : Segments → ℕ → Option CachedBoundary → Option CachedBoundary → State → State → BoundaryAdvance → BoundaryAdvance → Turned (Result (Unit {0}) TransactionalObjectError) → Type 0
AdvanceSteps path goal cached cached' old new op next Goes = AdvanceFormed path goal cached' new next × (advance_steps next < advance_steps op + 16 * one_if (asks_put op)) × (new.calls + advance_calls cached' next ≤ old.calls + advance_calls cached op + 2 * one_if (asks_put op)) × (old.left + advance_tokens op ≤ new.left + advance_tokens next)
AdvanceSteps path goal cached cached' old new op next (Done (Ok done)) = (new.calls ≤ old.calls + advance_calls cached op + 2 * one_if (asks_put op)) × (old.left + advance_tokens op ≤ new.left + 1) × (goal ≤ number_of cached')
AdvanceSteps path goal cached cached' old new op next (Done (Err error)) = (new.calls ≤ old.calls + advance_calls cached op + 2 * one_if (asks_put op)) × (old.left + advance_tokens op ≤ new.left + 1) × HasCauseOfAdvance (Unit {0}) 1 old new error

-- Where it stood for a boundary it stands for that one, or at the end for the greater of it and the target; and it spent two turns at most.
abbrev pub AdvanceKeeps : Segments → ℕ → Option CachedBoundary → State → ℕ → ℕ → BoundaryAdvance → Turned (Result (Unit {0}) TransactionalObjectError) → Type 0
AdvanceKeeps path goal cached new b spent next Goes = AdvanceHolds path cached new b spent next
AdvanceKeeps path goal cached new b spent next (Done (Ok done)) = BoundaryStands path cached new (max b goal) × (spent ≤ 2)
AdvanceKeeps path goal cached new b spent next (Done (Err error)) = (BoundaryStands path cached new b ⊎ BoundaryStands path cached new (max b goal)) × (error_number error ≡ 7 → ⊥) × (spent ≤ 2)

-- what one step of an advance to this target leaves, and what it says
pub record IsAdvanceStep (path : Segments) (goal : ℕ) (old new : State) (cached cached' : Option CachedBoundary) (op op' : BoundaryAdvance) (told : Turned (Result (Unit {0}) TransactionalObjectError)) : Type 0 where
  pub moves : Moves path old new
  pub unput : asks_put op ≡ false → Kept old new
  pub rises : number_of cached ≤ number_of cached'
  pub written : Written path goal old new
  pub steps : AdvanceSteps path goal cached cached' old new op op' told
  pub holds : (b spent : ℕ) → AdvanceHolds path cached old b spent op → AdvanceKeeps path goal cached' new b (spent + one_if (asks_put op)) op' told

-- an advance that goes on, from what it began with
pub record AdvanceRunning (path : Segments) (goal : ℕ) (old new : State) (turns turns' : ℕ) (first cached : Option CachedBoundary) (op : BoundaryAdvance) : Type 0 where
  pub formed : AdvanceFormed path goal cached new op
  pub moves : Moves path old new
  pub spent : ℕ
  pub spent_is : turns ≡ turns' + spent
  pub calls_most : new.calls + advance_calls cached op + 2 * turns' ≤ old.calls + 1 + 2 * turns
  pub left_least : old.left ≤ new.left + advance_tokens op
  pub unspent : spent ≡ 0 → Kept old new
  pub rises : number_of first ≤ number_of cached
  pub written : Written path goal old new
  pub holds : (b : ℕ) → BoundaryStands path first old b → AdvanceHolds path cached new b spent op
