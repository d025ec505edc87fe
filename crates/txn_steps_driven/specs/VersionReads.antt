-- What reads of one version answer, and what they leave.
use Rattle.std.specs.Prelude.{◌≡◌, ℕ, ◌+◌, ◌-◌, ◌^◌, ◌<◌, ◌≤◌, Bool, true, is_some, List, Option, Some, None, IsSome, Result, IfOk, IfErr, slice_get}
use Rattle.std.specs.FinMap as map
use Rattle.txn_store.specs.VersionName.{Names, version_path}
use Rattle.txn_store.specs.Store.{Files, State, Kept}
use Rattle.txn_store.specs.declared.store.Got.{Got}
use Rattle.txn_store.specs.types.Errors.{error_number}
use Rattle.txn_store.specs.declared.types.error.TransactionalObjectError.{TransactionalObjectError}
use Rattle.txn_steps.specs.declared.boundary.caches.Cached.{Cached}
use Rattle.txn_steps.specs.declared.boundary.turned.Turned.{Turned}
use Rattle.txn_steps.specs.boundary.Asking.{reply_told, unless_lacking}
use Rattle.txn_steps.specs.boundary.Steps.{turned_by_number, TellsErrorOf}
use Rattle.txn_steps.specs.boundary.Windows.{held, kept}
use Rattle.txn_store.specs.declared.request.Reply.{Reply}
use Rattle.txn_steps.specs.declared.seen.ReadSeenOp.{ReadSeenOp}
use Rattle.txn_steps.specs.declared.seen.ReadSeenOp.TheVariants.{Looks, Gets, Keeps, Ended}
use Rattle.txn_steps.specs.Requests.{version_got}
use Rattle.txn_steps.specs.SeenSteps.{seen_asked, seen_turned, seen_latest}
use Rattle.txn_steps_driven.specs.Asked.{Replies}
use Rattle.txn_steps_driven.specs.Calls.{Spends, HasCauseOfGet}
use Rattle.txn_steps_driven.specs.Standing.{FilesStand, WindowFits}
use Rattle.txn_steps_driven.specs.LatestReads.{HasGrown, IsRefused}

module _ {T : Type 0} (names : Names) (decode : List ℕ → Option T) where
  -- the value of the file that stands as a version, or none where none does
  abbrev pub IsValueOf : Files → ℕ → Option T → Type 0
  IsValueOf files id None = map.get files (version_path names id) ≡ None
  IsValueOf files id (Some value) = (got : Got) × (map.get files (version_path names id) ≡ Some got) × (decode got.bytes ≡ Some value)

  -- bytes that the codec refuses
  abbrev pub AreRefused : Files → ℕ → Type 0
  AreRefused files id = (got : Got) × (map.get files (version_path names id) ≡ Some got) × (decode got.bytes ≡ None)

  -- A read of one version: one call, which leaves the files.
  pub record VersionRead (old new : State) (id : ℕ) (result : Result (Option T) TransactionalObjectError) : Type 0 where
    pub kept : Kept old new
    pub spends : Spends 1 0 old new
    pub one_call : IfOk result (λ answer. new.calls ≡ old.calls + 1)
    pub value : IfOk result (IsValueOf old.files id)
    pub cause : IfErr result (HasCauseOfGet old new)
    pub refused : IfErr result (λ error. error_number error ≡ 8 → AreRefused old.files id)
    -- above the boundary it is the entry of the history, and none above its length
    pub stands : (h : List T) (b : ℕ) → FilesStand names decode old.files h b → FilesStand names decode new.files h b × IfOk result (λ answer. b < id → answer ≡ slice_get h (id - 1))

  -- What a read of a version that was perhaps seen answers. A held version is read with no call. Else its file is, and its version is put in the window.
  abbrev pub IsSeen : State → State → List Cached → List Cached → ℕ → Option Cached → Option T → Type 0
  IsSeen old new first latest id (Some version) answer = (decode version.bytes ≡ answer) × IsSome answer × (latest ≡ first) × (new.calls ≡ old.calls)
  IsSeen old new first latest id None None = (map.get old.files (version_path names id) ≡ None) × (latest ≡ first) × (new.calls ≡ old.calls + 1)
  IsSeen old new first latest id None (Some value) = (got : Got) × (map.get old.files (version_path names id) ≡ Some got) × (decode got.bytes ≡ Some value) × (latest ≡ kept (record { id = id; bytes = got.bytes }) first) × (new.calls ≡ old.calls + 1)

  -- A read of one version that was perhaps seen.
  pub record SeenRead (old new : State) (first latest : List Cached) (id : ℕ) (result : Result (Option T) TransactionalObjectError) : Type 0 where
    pub kept : Kept old new
    pub spends : Spends 1 0 old new
    pub answer : IfOk result (IsSeen old new first latest id (held id first))
    -- where the version is held, the store is not called
    pub unasked : is_some (held id first) ≡ true → new ≡ old
    pub cause : IfErr result (HasCauseOfGet old new)
    pub refused : IfErr result (λ error. error_number error ≡ 8 → IsRefused names decode old.files first)
    pub grown : HasGrown names old.files first latest
    -- above the boundary it is the entry of the history, and none above its length
    pub stands : (h : List T) (b : ℕ) → FilesStand names decode old.files h b → WindowFits decode h b first → FilesStand names decode new.files h b × WindowFits decode h b latest × IfOk result (λ answer. b < id → answer ≡ slice_get h (id - 1))

  -- one look or one store call of a read of a version that was perhaps seen
  pub record IsSeenStep (old new : State) (latest latest' : List Cached) (op op' : ReadSeenOp T) (told : Turned (Result (Option T) TransactionalObjectError)) : Type 0 where
    pub reply : Option Reply
    pub replied : Replies (seen_asked op) old reply new
    pub lacks : Bool
    pub turned : (op', turned_by_number told) ≡ unless_lacking lacks op (seen_turned names decode op latest reply)
    pub left : latest' ≡ seen_latest op latest
    pub store_error : TellsErrorOf (reply_told reply) told

  -- it got the version that it holds
  pub record HasGot (old new : State) (id : ℕ) (version : Cached) (value : T) : Type 0 where
    pub got : Got
    pub is_file : map.get old.files (version_path names id) ≡ Some got
    pub version_is : version ≡ record { id = id; bytes = got.bytes }
    pub reads : decode version.bytes ≡ Some value
    pub kept : Kept old new
    pub calls : new.calls ≡ old.calls + 1
    pub failures : old.failures ≤ new.failures

  -- where it is
  abbrev pub HoldsSeen : State → State → List Cached → List Cached → ℕ → ReadSeenOp T → Type 0
  HoldsSeen old new first latest id (Looks sought) = (sought ≡ id) × (new ≡ old) × (latest ≡ first)
  HoldsSeen old new first latest id (Gets sought request) = (sought ≡ id) × (new ≡ old) × (latest ≡ first) × (held id first ≡ None) × (request ≡ version_got names id)
  HoldsSeen old new first latest id (Keeps version value) = (latest ≡ first) × (held id first ≡ None) × HasGot old new id version value
  HoldsSeen old new first latest id Ended = ⊥

  -- A read of a version that was perhaps seen, which goes on.
  pub record RunningSeen (old new : State) (first latest : List Cached) (id : ℕ) (op : ReadSeenOp T) : Type 0 where
    pub small : id < 2 ^ 64
    pub holds : HoldsSeen old new first latest id op

module _ {T : Type 0} where
  -- how many steps are left
  abbrev pub seen_steps : ReadSeenOp T → ℕ
  seen_steps (Looks id) = 3
  seen_steps (Gets id request) = 2
  seen_steps (Keeps version value) = 1
  seen_steps Ended = 0
