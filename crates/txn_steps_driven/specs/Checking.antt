-- What a check of an id against the boundary answers and leaves.
use Rattle.std.specs.Prelude.{◌==◌, if◌then◌else◌, max, ◌≡◌, ◌⊎◌, ℕ, ◌+◌, ◌<◌, ◌≤◌, true, Option, Some, None, Result, Err, IfErr, IsErrOf, OnOk}
use Rattle.std.specs.FinMap as map
use Rattle.txn_store.specs.Paths.{Segments}
use Rattle.txn_store.specs.declared.store.Got.{Got}
use Rattle.txn_store.specs.types.BoundaryText.{boundary_read}
use Rattle.txn_store.specs.Store.{State, Kept}
use Rattle.txn_store.specs.declared.types.error.TransactionalObjectError.{TransactionalObjectError}
use Rattle.txn_store.specs.declared.types.error.TransactionalObjectError.TheVariants.{ObjectVersionExists, InvalidObjectState}
use Rattle.txn_steps.specs.declared.boundary.caches.CachedBoundary.{CachedBoundary}
use Rattle.txn_steps.specs.boundary.Boundaries.{refused_by}
use Rattle.txn_steps_driven.specs.Calls.{Spends, HasCauseOfCheck}
use Rattle.txn_steps_driven.specs.Standing.{Fits, BoundaryStands}

-- the cached boundary, 0 where none is
abbrev pub number_of : Option CachedBoundary → ℕ
number_of None = 0
number_of (Some known) = known.number

-- the boundary and the token that the file has now
pub record IsCurrent (path : Segments) (store : State) (b : ℕ) (known : CachedBoundary) : Type 0 where
  pub number_is : known.number ≡ b
  pub fits : Fits path store.files store.given b known
  pub token_is : fits.file.token ≡ known.token

-- a boundary is cached, and is the file's
abbrev pub Current : Segments → Option CachedBoundary → State → ℕ → Type 0
Current path None store b = ⊥
Current path (Some known) store b = IsCurrent path store b known

-- the file is missing, or is as it is cached
abbrev pub MissingOrCurrent : Segments → Option CachedBoundary → State → ℕ → Type 0
MissingOrCurrent path cached store b = (map.get store.files path ≡ None) ⊎ Current path cached store b

-- a number that is at least another, where there is one
abbrev pub at_least : ℕ → Option ℕ → Option ℕ
at_least number None = None
at_least number (Some read) = Some (max number read)

-- What a read says of a file: 0 where it is missing, the cached boundary where it is as it is cached, and else the greater of that and its own number; nothing where it says none.
abbrev pub read_says : Option CachedBoundary → Option Got → Option ℕ
read_says cached None = Some 0
read_says None (Some got) = boundary_read got.bytes
read_says (Some known) (Some got) = if got.token == known.token then Some known.number else at_least known.number (boundary_read got.bytes)

-- the file and what was cached stood for no boundary
abbrev pub Unbounded : Segments → Option CachedBoundary → State → Type 0
Unbounded path cached store = (b : ℕ) → BoundaryStands path cached store b → ⊥

-- the answer of the cached boundary alone
pub record FromCache (old new : State) (first cached : Option CachedBoundary) (result : Result (Unit {0}) TransactionalObjectError) : Type 0 where
  pub refused : result ≡ Err ObjectVersionExists
  pub same_store : new ≡ old
  pub same_cached : cached ≡ first

-- a check of this id that ended
pub record Checked (path : Segments) (id : ℕ) (old new : State) (first cached : Option CachedBoundary) (result : Result (Unit {0}) TransactionalObjectError) : Type 0 where
  -- the files and the tokens are as they were
  pub kept : Kept old new
  -- one call of the store at most, and no token
  pub spends : Spends 1 0 old new
  -- an id is accepted only by a read of the file
  pub asked : OnOk result (new.calls ≡ old.calls + 1)
  -- the cached boundary never falls, and reaches an id that is refused
  pub rises : number_of first ≤ number_of cached
  pub reached : IsErrOf result ObjectVersionExists → id ≤ number_of cached
  -- a cached boundary at or above the id refuses it, with no call
  pub from_cache : refused_by id first ≡ true → FromCache old new first cached result
  -- on any files, the answer is as a read of the file says
  pub accepts : OnOk result ((n : ℕ) × (read_says first (map.get old.files path) ≡ Some n) × (n < id))
  pub refuses : IsErrOf result ObjectVersionExists → (refused_by id first ≡ true) ⊎ ((n : ℕ) × (read_says first (map.get old.files path) ≡ Some n) × (id ≤ n))
  pub invalid : IsErrOf result InvalidObjectState → read_says first (map.get old.files path) ≡ None
  pub cause : IfErr result (HasCauseOfCheck (Unbounded path first old) old new)
  pub stands : (b : ℕ) → BoundaryStands path first old b → BoundaryStands path cached new b
  -- accepted ids are above the boundary, and refused ones are not
  pub above : OnOk result ((b : ℕ) → BoundaryStands path first old b → b < id)
  pub fenced : IsErrOf result ObjectVersionExists → (b : ℕ) → BoundaryStands path first old b → id ≤ b
  -- where an id is accepted, a file that is stored is the one that is cached
  pub known : OnOk result ((b : ℕ) → BoundaryStands path first old b → MissingOrCurrent path cached new b)
