-- Words of private contracts: what is kept of an honest store beside its log, and when it can reply so.
use Rattle.std.specs.Prelude.{◌≡◌, ◌+◌, ◌||◌, ℕ, Bool, true, false, List, nat_eq, reverse, Option, Some, None, Result, Ok, Err}
use Rattle.std.specs.FinMap.{insert, remove}
use Rattle.std.specs.HashSet.{contains}
use Rattle.std.specs.List.{list_any}
use Rattle.txn_store.specs.Paths.{Segments}
use Rattle.txn_store.specs.Store.{State as StoreState, get_fault}
use Rattle.txn_store.specs.Requests.{Serves}
use Rattle.txn_store.specs.declared.store.Got.{Got}
use Rattle.txn_store.specs.declared.store.StoreError.{StoreError}
use Rattle.txn_store.specs.declared.store.StoreError.TheVariants as errors
use Rattle.txn_store.specs.declared.request.Request.{Request}
use Rattle.txn_store.specs.declared.request.Reply.{Reply}
use Rattle.txn_client_journals.specs.declared.rows.LogRow.{LogRow}
use Rattle.txn_client_journals.specs.Logs.{IsLog}
use Rattle.txn_client_journals.specs.declared.log_fault.LogFault.{LogFault}
use Rattle.txn_client_journals.specs.declared.log_fault.LogFault.TheVariants as faults
use Rattle.txn_client_journals.specs.declared.replayed.Replayed.{Replayed}
use Rattle.txn_client_journals.specs.Honest.{IsReason}

-- An honest store gives this error: `fault` is why its files refuse the call, and `spent` says that the call wants a token and none is left.
abbrev pub HasError : Option StoreError → Bool → StoreError → Type 0
HasError fault spent errors.Failed = ⊥
HasError fault spent errors.NoMemory = fault ≡ None
HasError fault spent errors.TokensExhausted = (fault ≡ None) × (spent ≡ true)
HasError fault spent error = fault ≡ Some error

-- a get finds this file
abbrev pub HasFile : Option ℕ → Option Got → Got → Type 0
HasFile known found got = (get_fault known found ≡ None) × (found ≡ Some got)

-- why an error is not taken where an honest store gives it just where P holds
abbrev pub IsErrorFault : Type 0 → StoreError → LogFault → Type 0
IsErrorFault P error faults.Failed = error ≡ errors.Failed
IsErrorFault P error faults.OtherAnswer = (error ≡ errors.Failed → ⊥) × (P → ⊥)
IsErrorFault P error why = ⊥

-- why a put that the files allow is not taken
abbrev pub IsPutFault : Bool → LogFault → Type 0
IsPutFault given faults.TokenGiven = given ≡ true
IsPutFault given faults.NoMemory = Unit {0}
IsPutFault given why = ⊥

-- what is kept is what this store has, which has not failed
pub record StandsFor (kept : Replayed) (store : StoreState) : Type 0 where
  pub files : kept.files ≡ store.files
  pub given : (token : ℕ) → contains nat_eq kept.given token ≡ list_any (nat_eq token) store.given
  pub left : kept.left ≡ store.left
  pub honest : store.failures ≡ 0

-- the same is kept
pub record KeepsAll (old new : Replayed) : Type 0 where
  pub files : new.files ≡ old.files
  pub given : (token : ℕ) → contains nat_eq new.given token ≡ contains nat_eq old.given token
  pub left : new.left ≡ old.left

-- a file was put with a new token
pub record KeepsPut (path : Segments) (bytes : List ℕ) (token : ℕ) (old new : Replayed) : Type 0 where
  pub fresh : contains nat_eq old.given token ≡ false
  pub files : new.files ≡ insert old.files path (record { bytes = bytes; token = token })
  pub given : (other : ℕ) → contains nat_eq new.given other ≡ (contains nat_eq old.given other || nat_eq other token)
  pub left : old.left ≡ new.left + 1

-- a file was removed
pub record KeepsRemoved (path : Segments) (old new : Replayed) : Type 0 where
  pub files : new.files ≡ remove old.files path
  pub given : (token : ℕ) → contains nat_eq new.given token ≡ contains nat_eq old.given token
  pub left : new.left ≡ old.left

-- an honest store replied so, and what is kept is what it then has
pub record IsTaken (request : Request) (store : StoreState) (reply : Reply) (new : Replayed) : Type 0 where
  pub after : StoreState
  pub serves : Serves request store reply after
  pub stands : StandsFor new after

-- what an attempt to take a reply leaves
abbrev pub Follows : Request → StoreState → Reply → Result (Unit {0}) LogFault → Replayed → Type 0
Follows request store reply (Ok done) new = IsTaken request store reply new
Follows request store reply (Err why) new = StandsFor new store × IsReason why request store reply

-- the log, the oldest row first, leads to a store, and what is kept beside it is what that store has
pub record IsKept (log : List LogRow) (kept : Replayed) : Type 0 where
  pub store : StoreState
  pub leads : IsLog (reverse log) store
  pub stands : StandsFor kept store
