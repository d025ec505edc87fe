-- A delete of a version while it runs, and what it leaves.
use Rattle.std.specs.Prelude.{◌≡◌, ◌⊎◌, ℕ, ◌≤◌, List, Contains, Option, Result, Ok, Err, IfErr}
use Rattle.txn_store.specs.Paths.{Segments}
use Rattle.txn_store.specs.VersionName.{Names, version_path}
use Rattle.txn_store.specs.Store.{State, Kept, Removed}
use Rattle.txn_store.specs.declared.store.StoreError.TheVariants as errors
use Rattle.txn_store.specs.declared.request.Request.{Request}
use Rattle.txn_store.specs.declared.request.Request.TheVariants as requests
use Rattle.txn_store.specs.declared.request.Reply.{Reply}
use Rattle.txn_store.specs.declared.types.error.TransactionalObjectError.{TransactionalObjectError}
use Rattle.txn_store.specs.declared.types.error.TransactionalObjectError.TheVariants as kinds
use Rattle.txn_steps.specs.declared.boundary.caches.Cached.{Cached}
use Rattle.txn_steps.specs.declared.boundary.turned.Turned.{Turned}
use Rattle.txn_steps.specs.boundary.Asking.{reply_told}
use Rattle.txn_steps.specs.boundary.Steps.{turned_by_number, TellsErrorOf}
use Rattle.txn_steps.specs.boundary.Windows.{without}
use Rattle.txn_steps.specs.declared.delete.RemovalStep.{RemovalStep}
use Rattle.txn_steps.specs.declared.delete.RemovalStep.TheVariants.{Removes, Drops}
use Rattle.txn_steps.specs.declared.delete.DeleteUncheckedOp.{DeleteUncheckedOp}
use Rattle.txn_steps.specs.Deletes.{removal_asked, removal_turned, removal_latest}
use Rattle.txn_steps_driven.specs.Asked.{Replies}
use Rattle.txn_steps_driven.specs.Calls.{SameBut, Spends, HasCause}
use Rattle.txn_steps_driven.specs.Standing.{FilesStand, WindowFits}

-- What an answer leaves of the store and of the held versions. Where it is done no file stands under the path, and the held version of the id alone is dropped. A failure of the store leaves the removal undone or done; any other error leaves the files.
abbrev pub DeleteLeaves : Segments → ℕ → State → State → List Cached → List Cached → Result (Unit {0}) TransactionalObjectError → Type 0
DeleteLeaves path id old new latest latest' (Ok done) = Removed path old new × (latest' ≡ without id latest)
DeleteLeaves path id old new latest latest' (Err (kinds.ObjectStoreError errors.Failed)) = (Kept old new ⊎ Removed path old new) × (latest' ≡ latest)
DeleteLeaves path id old new latest latest' (Err error) = Kept old new × (latest' ≡ latest)

-- while it runs: nothing is done, or the file is removed
abbrev pub RemovalRunsAt : RemovalStep → Segments → Request → State → State → Type 0
RemovalRunsAt Removes path request old new = (request ≡ requests.Delete path) × (new ≡ old)
RemovalRunsAt Drops path request old new = Removed path old new × Spends 1 0 old new

pub record RemovalRuns (path : Segments) (id : ℕ) (old new : State) (latest latest' : List Cached) (op : DeleteUncheckedOp) : Type 0 where
  pub id_is : op.id ≡ id
  pub held : latest' ≡ latest
  pub at : RemovalRunsAt op.step path op.request old new

-- how many steps are left at most
abbrev pub removal_rank : RemovalStep → ℕ
removal_rank Removes = 2
removal_rank Drops = 1

-- what it asks of the store is a removal
abbrev pub CanRemove : RemovalStep → Request → Type 0
CanRemove Removes (requests.Delete path) = Unit {0}
CanRemove Removes request = ⊥
CanRemove Drops request = Unit {0}

-- one look or one store call: the store replies to what it asks, and it takes that
pub record IsRemovalStep (old new : State) (latest latest' : List Cached) (op op' : DeleteUncheckedOp) (told : Turned (Result (Unit {0}) TransactionalObjectError)) : Type 0 where
  pub reply : Option Reply
  pub replies : Replies (removal_asked op) old reply new
  pub turned : (op', turned_by_number told) ≡ removal_turned op reply
  pub held : latest' ≡ removal_latest op latest
  pub error : TellsErrorOf (reply_told reply) told

-- what every ended delete of a version of this id leaves
pub record DeleteEnds (path : Segments) (id : ℕ) (old new : State) (latest latest' : List Cached) (result : Result (Unit {0}) TransactionalObjectError) : Type 0 where
  pub leaves : DeleteLeaves path id old new latest latest' result
  -- at most one call was made, and no token taken
  pub spends : Spends 1 0 old new
  pub cause : IfErr result (HasCause old new)
  -- the same stands under every other path, and no token was forgotten
  pub others : SameBut path old new
  pub given : (token : ℕ) → Contains old.given token → Contains new.given token

-- what a delete of a version leaves
pub record Deleted {T : Type 0} (names : Names) (decode : List ℕ → Option T) (id : ℕ) (old new : State) (latest latest' : List Cached) (result : Result (Unit {0}) TransactionalObjectError) : Type 0 where
  pub ends : DeleteEnds (version_path names id) id old new latest latest' result
  -- where the id is at or below the boundary, the files and the held versions stand for what they stood for
  pub files_stand : (h : List T) (b : ℕ) → FilesStand names decode old.files h b → id ≤ b → FilesStand names decode new.files h b
  pub window_fits : (h : List T) (b : ℕ) → WindowFits decode h b latest → WindowFits decode h b latest'
