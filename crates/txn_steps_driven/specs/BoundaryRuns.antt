-- A read of the boundary and a check of an id while they run: what each state is, and what it may still do.
use Rattle.std.specs.Prelude.{◌≡◌, ◌⊎◌, true, ℕ, ◌+◌, ◌<◌, ◌≤◌, Option, Some, None, Result, Ok, Err}
use Rattle.std.specs.FinMap as map
use Rattle.txn_store.specs.Paths.{Segments}
use Rattle.txn_store.specs.declared.store.Got.{Got}
use Rattle.txn_store.specs.Store.{State, Kept}
use Rattle.txn_store.specs.declared.request.Request.TheVariants as requests
use Rattle.txn_store.specs.declared.types.error.TransactionalObjectError.{TransactionalObjectError}
use Rattle.txn_store.specs.types.Errors.{error_number}
use Rattle.txn_steps.specs.declared.boundary.caches.CachedBoundary.{CachedBoundary}
use Rattle.txn_steps.specs.declared.boundary.boundary_read.BoundaryRead.{BoundaryRead}
use Rattle.txn_steps.specs.declared.boundary.boundary_read.BoundaryRead.TheVariants as read
use Rattle.txn_steps.specs.declared.boundary.check.BoundaryStep.{BoundaryStep}
use Rattle.txn_steps.specs.declared.boundary.check.BoundaryStep.TheVariants as step
use Rattle.txn_steps.specs.declared.boundary.check.BoundaryCheck.{BoundaryCheck}
use Rattle.txn_steps.specs.declared.boundary.turned.Turned.{Turned}
use Rattle.txn_steps.specs.declared.boundary.turned.Turned.TheVariants.{Goes, Done}
use Rattle.txn_steps.specs.boundary.Boundaries.{token_of, refused_by}
use Rattle.txn_steps.specs.boundary.BoundaryReads.{IsLooking, held_cached}
use Rattle.txn_steps_driven.specs.Calls.{HasCauseOfCheck}
use Rattle.txn_steps_driven.specs.Checking.{number_of, read_says, IsCurrent, Current, MissingOrCurrent}
use Rattle.txn_steps_driven.specs.Standing.{BoundaryStands}

-- the store keeps its files and tokens, and its counts rise
pub record Reads (old new : State) : Type 0 where
  pub kept : Kept old new
  pub calls_rise : old.calls ≤ new.calls
  pub failures_rise : old.failures ≤ new.failures

-- the number that is cached
abbrev pub cached_says : Option CachedBoundary → Option ℕ
cached_says None = None
cached_says (Some known) = Some known.number

-- what it read is what it will say
abbrev pub ReadTells : Option CachedBoundary → Option Got → BoundaryRead → Type 0
ReadTells cached file (read.Looks path) = Unit {0}
ReadTells cached file (read.Gets request) = Unit {0}
ReadTells cached file (read.Holds held) = read_says cached file ≡ cached_says (held_cached held cached)

-- how many steps are left, and how many of them are calls of the store
abbrev pub read_steps : BoundaryRead → ℕ
read_steps (read.Looks path) = 3
read_steps (read.Gets request) = 2
read_steps (read.Holds known) = 1

abbrev pub read_calls : BoundaryRead → ℕ
read_calls (read.Looks path) = 1
read_calls (read.Gets request) = 1
read_calls (read.Holds known) = 0

-- it asks for the boundary file, unless that is as it is cached
abbrev pub ReadFormed : Segments → Option CachedBoundary → BoundaryRead → Type 0
ReadFormed path cached (read.Looks p) = p ≡ path
ReadFormed path cached (read.Gets request) = request ≡ requests.Get path (token_of cached)
ReadFormed path cached (read.Holds known) = Unit {0}

-- what it read is the file's boundary now
abbrev pub ReadHolds : Segments → Option CachedBoundary → State → ℕ → BoundaryRead → Type 0
ReadHolds path cached store b (read.Looks p) = Unit {0}
ReadHolds path cached store b (read.Gets request) = Unit {0}
ReadHolds path cached store b (read.Holds (Some known)) = IsCurrent path store b known
ReadHolds path cached store b (read.Holds None) = Current path cached store b

abbrev pub steps_at : BoundaryStep → BoundaryRead → ℕ
steps_at step.Looks r = 4
steps_at step.Reads r = read_steps r

-- how many steps of a check are left
abbrev pub check_steps : BoundaryCheck → ℕ
check_steps op = steps_at op.step op.read

-- how many of its calls are left
abbrev pub check_calls : BoundaryCheck → ℕ
check_calls op = read_calls op.read

abbrev pub FormedAt : BoundaryStep → BoundaryRead → Type 0
FormedAt step.Looks r = IsLooking r
FormedAt step.Reads r = Unit {0}

-- a check of this id against this file
pub record CheckFormed (path : Segments) (cached : Option CachedBoundary) (goal : ℕ) (op : BoundaryCheck) : Type 0 where
  pub id_is : op.id ≡ goal
  pub read : ReadFormed path cached op.read
  pub begins : FormedAt op.step op.read

-- it goes on with less to do, accepts once its call is made, or ends with a cause
abbrev pub CheckSteps : Segments → Option CachedBoundary → ℕ → State → State → BoundaryCheck → BoundaryCheck → Turned (Result (Unit {0}) TransactionalObjectError) → Type 0
CheckSteps path cached goal old new op next Goes = CheckFormed path cached goal next × (check_steps next < check_steps op) × (new.calls + check_calls next ≡ old.calls + check_calls op)
CheckSteps path cached goal old new op next (Done (Ok accepted)) = new.calls ≡ old.calls + check_calls op
CheckSteps path cached goal old new op next (Done (Err error)) = (new.calls ≤ old.calls + check_calls op) × HasCauseOfCheck (Unit {0}) old new error × (error_number error ≡ 5 → goal ≤ number_of cached)

-- where it stood for a boundary, it stands for it, and the answer is as that is
abbrev pub CheckHolds : Segments → Option CachedBoundary → ℕ → State → ℕ → BoundaryCheck → Turned (Result (Unit {0}) TransactionalObjectError) → Type 0
CheckHolds path cached goal new b next Goes = BoundaryStands path cached new b × ReadHolds path cached new b next.read
CheckHolds path cached goal new b next (Done (Ok accepted)) = BoundaryStands path cached new b × (b < goal) × MissingOrCurrent path cached new b
CheckHolds path cached goal new b next (Done (Err error)) = BoundaryStands path cached new b × (error_number error ≡ 5 → goal ≤ b) × (error_number error ≡ 7 → ⊥)

-- the answer is as a read of this file says
abbrev pub CheckTells : Option CachedBoundary → Option CachedBoundary → Option Got → ℕ → BoundaryCheck → Turned (Result (Unit {0}) TransactionalObjectError) → Type 0
CheckTells cached cached' file goal next Goes = (cached' ≡ cached) × ReadTells cached file next.read
CheckTells cached cached' file goal next (Done (Ok accepted)) = (n : ℕ) × (read_says cached file ≡ Some n) × (n < goal)
CheckTells cached cached' file goal next (Done (Err error)) = (error_number error ≡ 5 → (refused_by goal cached ≡ true) ⊎ ((n : ℕ) × (read_says cached file ≡ Some n) × (goal ≤ n))) × (error_number error ≡ 7 → read_says cached file ≡ None)

-- what one step of a check of this id leaves, and what it says
pub record IsCheckStep (path : Segments) (goal : ℕ) (old new : State) (cached cached' : Option CachedBoundary) (op op' : BoundaryCheck) (told : Turned (Result (Unit {0}) TransactionalObjectError)) : Type 0 where
  pub reads : Reads old new
  pub rises : number_of cached ≤ number_of cached'
  pub steps : CheckSteps path cached' goal old new op op' told
  pub tells : ReadTells cached (map.get old.files path) op.read → CheckTells cached cached' (map.get old.files path) goal op' told
  pub holds : (b : ℕ) → BoundaryStands path cached old b → ReadHolds path cached old b op.read → CheckHolds path cached' goal new b op' told

-- a check of this id that goes on, from what it began with
pub record CheckRunning (path : Segments) (goal : ℕ) (old new : State) (first cached : Option CachedBoundary) (op : BoundaryCheck) : Type 0 where
  pub formed : CheckFormed path cached goal op
  pub reads : Reads old new
  pub calls_are : new.calls + check_calls op ≡ old.calls + 1
  pub rises : number_of first ≤ number_of cached
  pub cached_is : cached ≡ first
  pub tells : ReadTells first (map.get old.files path) op.read
  pub holds : (b : ℕ) → BoundaryStands path first old b → BoundaryStands path cached new b × ReadHolds path cached new b op.read
