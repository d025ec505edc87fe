-- What an advance of the boundary answers and leaves.
use Rattle.std.specs.Prelude.{Some, ◌≡◌, ◌⊎◌, ℕ, ◌+◌, ◌≤◌, max, true, Option, Result, Ok, IfErr, IsErrOf, OnOk, Contains}
use Rattle.std.specs.FinMap as map
use Rattle.std.specs.Fmt.{decimal}
use Rattle.txn_store.specs.Paths.{Segments}
use Rattle.txn_store.specs.Store.{State, Kept}
use Rattle.txn_store.specs.declared.types.error.TransactionalObjectError.{TransactionalObjectError}
use Rattle.txn_store.specs.declared.types.error.TransactionalObjectError.TheVariants.{TurnsExhausted}
use Rattle.txn_steps.specs.declared.boundary.caches.CachedBoundary.{CachedBoundary}
use Rattle.txn_steps.specs.boundary.Boundaries.{refused_by}
use Rattle.txn_steps_driven.specs.Calls.{SameBut, SpendsTurns, HasCauseOfAdvance}
use Rattle.txn_steps_driven.specs.Standing.{BoundaryStands}
use Rattle.txn_steps_driven.specs.Checking.{Unbounded, number_of}

-- the file is as it was, or says the target in decimal under a token that was never given before
abbrev pub Written : Segments → ℕ → State → State → Type 0
Written path target old new = (map.get new.files path ≡ map.get old.files path) ⊎ ((token : ℕ) × (map.get new.files path ≡ Some (record { bytes = decimal target; token = token })) × (Contains old.given token → ⊥))

-- the cached boundary had reached the target, and nothing was done
pub record AlreadyReached (old new : State) (turns turns' : ℕ) (first cached : Option CachedBoundary) (result : Result (Unit {0}) TransactionalObjectError) : Type 0 where
  pub done : result ≡ Ok tt
  pub same_store : new ≡ old
  pub same_turns : turns' ≡ turns
  pub same_cached : cached ≡ first

-- an advance to this target that ended
pub record Advanced (path : Segments) (target : ℕ) (old new : State) (turns turns' : ℕ) (first cached : Option CachedBoundary) (result : Result (Unit {0}) TransactionalObjectError) : Type 0 where
  -- only its own file may change
  pub others : SameBut path old new
  -- and nothing but the target is written there
  pub written : Written path target old new
  -- no token is forgotten
  pub given : (token : ℕ) → Contains old.given token → Contains new.given token
  -- one call of the store at most, and two for each turn, and one token
  pub spends : SpendsTurns 2 1 1 turns turns' old new
  -- with no turn spent nothing was put
  pub unspent : turns' ≡ turns → Kept old new
  -- the cached boundary never falls, and reaches the target
  pub rises : number_of first ≤ number_of cached
  pub known : OnOk result (target ≤ number_of cached)
  -- nothing is done where the cached boundary is at or above the target
  pub reached : refused_by target first ≡ true → AlreadyReached old new turns turns' first cached result
  pub cause : IfErr result (HasCauseOfAdvance (Unbounded path first old) turns' old new)
  -- where it stood for a boundary: the greater of it and the target, or after an error the one or the other
  pub raised : OnOk result ((b : ℕ) → BoundaryStands path first old b → BoundaryStands path cached new (max b target))
  pub kept : IfErr result (λ error. (b : ℕ) → BoundaryStands path first old b → BoundaryStands path cached new b ⊎ BoundaryStands path cached new (max b target))
  -- and two turns are enough
  pub few : (b : ℕ) → BoundaryStands path first old b → turns ≤ turns' + 2
  pub enough : 2 ≤ turns → (b : ℕ) → BoundaryStands path first old b → IsErrOf result TurnsExhausted → ⊥
