-- A write of a version while it runs, and what it leaves.
use Rattle.std.specs.Prelude.{◌≡◌, ◌⊎◌, ℕ, ◌+◌, ◌^◌, ◌≤◌, List, [], ◌∷◌, ◌++◌, length, Contains, Option, None, IsSome, Result, Ok, Err, IfErr}
use Rattle.std.specs.FinMap as map
use Rattle.txn_store.specs.Paths.{Segments}
use Rattle.txn_store.specs.VersionName.{Names, version_path}
use Rattle.txn_store.specs.Store.{Files, State, Kept, Placed}
use Rattle.txn_store.specs.declared.store.Got.{Got}
use Rattle.txn_store.specs.declared.store.PutMode.TheVariants.{Create}
use Rattle.txn_store.specs.declared.store.StoreError.TheVariants as errors
use Rattle.txn_store.specs.declared.request.Request.TheVariants as requests
use Rattle.txn_store.specs.declared.request.Reply.{Reply}
use Rattle.txn_store.specs.types.Numbers.{number_of}
use Rattle.txn_store.specs.declared.types.error.TransactionalObjectError.{TransactionalObjectError}
use Rattle.txn_store.specs.declared.types.error.TransactionalObjectError.TheVariants as kinds
use Rattle.txn_steps.specs.declared.boundary.caches.Cached.{Cached}
use Rattle.txn_steps.specs.declared.boundary.turned.Turned.{Turned}
use Rattle.txn_steps.specs.boundary.Asking.{reply_told}
use Rattle.txn_steps.specs.boundary.Steps.{turned_by_number, TellsErrorOf}
use Rattle.txn_steps.specs.boundary.Windows.{kept}
use Rattle.txn_steps.specs.declared.write.WriteUncheckedOp.{WriteUncheckedOp}
use Rattle.txn_steps.specs.declared.write.WriteUncheckedOp.TheVariants.{Puts, Keeps, Ended}
use Rattle.txn_steps.specs.Writes.{unchecked_asked, unchecked_turned, unchecked_latest}
use Rattle.txn_steps_driven.specs.Asked.{Replies}
use Rattle.txn_steps_driven.specs.Calls.{SameBut, Spends, HasCauseOfPut}
use Rattle.txn_steps_driven.specs.Standing.{FilesStand, WindowFits}

-- a create took effect: the name was free, and the bytes stand under it
pub record Creates (path : Segments) (bytes : List ℕ) (old new : State) : Type 0 where
  pub free : map.get old.files path ≡ None
  pub token : ℕ
  pub placed : Placed path bytes token old new

-- What an answer leaves of the store and of the held versions. An answer of the id means that the version is created and held. A failure of the store leaves the create undone or done; any other error leaves the files.
abbrev pub WriteLeaves : Segments → List ℕ → ℕ → State → State → List Cached → List Cached → Result ℕ TransactionalObjectError → Type 0
WriteLeaves path bytes id old new latest latest' (Ok n) = (n ≡ id) × Creates path bytes old new × (latest' ≡ kept (record { id = id; bytes = bytes }) latest)
WriteLeaves path bytes id old new latest latest' (Err (kinds.ObjectStoreError errors.Failed)) = (Kept old new ⊎ Creates path bytes old new) × (latest' ≡ latest)
WriteLeaves path bytes id old new latest latest' (Err kinds.IdExhausted) = (new ≡ old) × (latest' ≡ latest)
WriteLeaves path bytes id old new latest latest' (Err error) = Kept old new × (latest' ≡ latest)

-- What an answer tells of the name: a conflict comes where it is stored, an answer of the id and want of a token where it is not. A failure, want of memory and want of an id tell nothing of it, and no other error comes.
abbrev pub TellsName : Option Got → Result ℕ TransactionalObjectError → Type 0
TellsName stored (Ok n) = stored ≡ None
TellsName stored (Err kinds.ObjectVersionExists) = IsSome stored
TellsName stored (Err (kinds.ObjectStoreError errors.TokensExhausted)) = stored ≡ None
TellsName stored (Err (kinds.ObjectStoreError errors.Failed)) = Unit {0}
TellsName stored (Err kinds.NoMemory) = Unit {0}
TellsName stored (Err kinds.IdExhausted) = Unit {0}
TellsName stored (Err error) = ⊥

-- what every ended write of a version of this id leaves
pub record WriteEnds (path : Segments) (bytes : List ℕ) (id base : ℕ) (old new : State) (latest latest' : List Cached) (result : Result ℕ TransactionalObjectError) : Type 0 where
  pub leaves : WriteLeaves path bytes id old new latest latest' result
  pub name : TellsName (map.get old.files path) result
  -- at most one call was made, and at most one token taken
  pub spends : Spends 1 1 old new
  pub cause : IfErr result (HasCauseOfPut base old new)

-- while it runs: nothing is done, or the version is created
abbrev pub WriteRuns : Segments → List ℕ → ℕ → State → State → List Cached → List Cached → WriteUncheckedOp → Type 0
WriteRuns path bytes id old new latest latest' (Puts version request) = (version ≡ record { id = id; bytes = bytes }) × (request ≡ requests.Put path bytes Create) × (new ≡ old) × (latest' ≡ latest)
WriteRuns path bytes id old new latest latest' (Keeps version) = (version ≡ record { id = id; bytes = bytes }) × Creates path bytes old new × Spends 1 1 old new × (latest' ≡ latest)
WriteRuns path bytes id old new latest latest' Ended = ⊥

-- how many steps are left at most
abbrev pub write_rank : WriteUncheckedOp → ℕ
write_rank (Puts version request) = 2
write_rank (Keeps version) = 1
write_rank Ended = 0

-- it has not ended, and what it asks of the store is a put
abbrev pub CanWrite : WriteUncheckedOp → Type 0
CanWrite (Puts version (requests.Put path bytes mode)) = Unit {0}
CanWrite (Puts version request) = ⊥
CanWrite (Keeps version) = Unit {0}
CanWrite Ended = ⊥

-- one look or one store call: the store replies to what it asks, and it takes that
pub record IsWriteStep (old new : State) (latest latest' : List Cached) (op op' : WriteUncheckedOp) (told : Turned (Result ℕ TransactionalObjectError)) : Type 0 where
  pub reply : Option Reply
  pub replies : Replies (unchecked_asked op) old reply new
  pub turned : (op', turned_by_number told) ≡ unchecked_turned op reply
  pub held : latest' ≡ unchecked_latest op latest
  pub error : TellsErrorOf (reply_told reply) told

module _ {T : Type 0} (names : Names) (decode : List ℕ → Option T) where
  -- the files and the held versions stand for a history and a boundary
  pub record VersionsStand (files : Files) (latest : List Cached) (h : List T) (b : ℕ) : Type 0 where
    pub files_stand : FilesStand names decode files h b
    pub window_fits : WindowFits decode h b latest

  -- What stands after a write on a base. Where it answered its id, the base was the newest, and the history has grown by the value; or the id is at or below the boundary, and nothing moved. A failure of the store leaves the history, or it has grown; any other error leaves it.
  abbrev pub WriteStands : List T → ℕ → T → ℕ → Files → List Cached → Result ℕ TransactionalObjectError → Type 0
  WriteStands h b value base files latest (Ok n) = ((base ≡ length h) × VersionsStand files latest (h ++ value ∷ []) b) ⊎ ((base + 1 ≤ b) × VersionsStand files latest h b)
  WriteStands h b value base files latest (Err (kinds.ObjectStoreError errors.Failed)) = VersionsStand files latest h b ⊎ ((base ≡ length h) × VersionsStand files latest (h ++ value ∷ []) b)
  WriteStands h b value base files latest (Err error) = VersionsStand files latest h b

  -- what a write of a value on a base leaves
  pub record Written (base : Option ℕ) (bytes : List ℕ) (value : T) (old new : State) (latest latest' : List Cached) (result : Result ℕ TransactionalObjectError) : Type 0 where
    pub ends : WriteEnds (version_path names (number_of base + 1)) bytes (number_of base + 1) (number_of base) old new latest latest' result
    -- no id is left after the greatest
    pub exhausted : number_of base + 1 ≡ 2 ^ 64 → result ≡ Err kinds.IdExhausted
    -- the same stands under every other path, and no token was forgotten
    pub others : SameBut (version_path names (number_of base + 1)) old new
    pub given : (token : ℕ) → Contains old.given token → Contains new.given token
    pub stands : (h : List T) (b : ℕ) → FilesStand names decode old.files h b → WindowFits decode h b latest → number_of base ≤ length h → WriteStands h b value (number_of base) new.files latest' result
