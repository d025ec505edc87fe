-- The steps of reads of one id: a get, and for one that was perhaps seen a look before it and one that caches what it got.
use Rattle.std.specs.Prelude.{ℕ, List, Bool, true, false, Option, Some, None, Result, Ok, Err}
use Rattle.txn_store.specs.VersionName.{Names}
use Rattle.txn_store.specs.declared.store.Got.{Got}
use Rattle.txn_store.specs.declared.store.StoreError.{StoreError}
use Rattle.txn_store.specs.declared.store.StoreError.TheVariants as errors
use Rattle.txn_store.specs.declared.request.Request.{Request}
use Rattle.txn_store.specs.declared.request.Reply.{Reply}
use Rattle.txn_store.specs.declared.request.Reply.TheVariants as replies
use Rattle.txn_store.specs.types.Errors.{store_error_number}
use Rattle.txn_steps.specs.declared.boundary.caches.Cached.{Cached}
use Rattle.txn_steps.specs.declared.boundary.turned.Turned.{Turned}
use Rattle.txn_steps.specs.declared.boundary.turned.Turned.TheVariants.{Goes, Done}
use Rattle.txn_steps.specs.boundary.Asking.{IsLook, IsGot}
use Rattle.txn_steps.specs.boundary.Windows.{held, kept}
use Rattle.txn_steps.specs.declared.seen.ReadSeenOp.{ReadSeenOp}
use Rattle.txn_steps.specs.declared.seen.ReadSeenOp.TheVariants.{Looks, Gets, Keeps, Ended}
use Rattle.txn_steps.specs.Requests.{version_got}

-- a growth was refused: the refusal 9
abbrev pub or_lacks_memory : {A : Type 0} → Bool → Turned (Result A ℕ) → Turned (Result A ℕ)
or_lacks_memory false told = told
or_lacks_memory true told = Done (Err 9)

-- what the codec reads, where it reads anything
abbrev pub value_read : {T : Type 0} → Option T → Result T ℕ
value_read (Some value) = Ok value
value_read None = Err 8

abbrev pub as_found : {T : Type 0} → Result T ℕ → Result (Option T) ℕ
as_found (Ok value) = Ok (Some value)
as_found (Err number) = Err number

module _ {T : Type 0} (decode : List ℕ → Option T) where
  -- the value of the version, or none where it is missing
  abbrev pub value_got : Result Got StoreError → Result (Option T) ℕ
  value_got (Ok got) = as_found (value_read (decode got.bytes))
  value_got (Err errors.NotFound) = Ok None
  value_got (Err error) = Err (store_error_number error)

  -- what an unchecked read makes of the reply to its get
  abbrev pub unchecked_turned : Option Reply → Turned (Result (Option T) ℕ)
  unchecked_turned (Some (replies.Get answer)) = Done (value_got answer)
  unchecked_turned (Some reply) = Goes
  unchecked_turned None = Goes

module _ {T : Type 0} where
  -- what it asks
  abbrev pub seen_asked : ReadSeenOp T → Option Request
  seen_asked (Looks id) = None
  seen_asked (Gets id request) = Some request
  seen_asked (Keeps version value) = None
  seen_asked Ended = None

  -- a reply of the kind that it asks for, where it has not ended
  abbrev pub IsSeenReply : ReadSeenOp T → Option Reply → Type 0
  IsSeenReply (Looks id) reply = IsLook reply
  IsSeenReply (Gets id request) reply = IsGot reply
  IsSeenReply (Keeps version value) reply = IsLook reply
  IsSeenReply Ended reply = ⊥

  abbrev pub IsKeeping : ReadSeenOp T → Type 0
  IsKeeping (Keeps version value) = Unit {0}
  IsKeeping (Looks id) = ⊥
  IsKeeping (Gets id request) = ⊥
  IsKeeping Ended = ⊥

  -- what it holds is cached and answered
  abbrev pub seen_kept : ReadSeenOp T → ReadSeenOp T × Turned (Result (Option T) ℕ)
  seen_kept (Keeps version value) = (Ended, Done (Ok (Some value)))
  seen_kept (Looks id) = (Looks id, Goes)
  seen_kept (Gets id request) = (Gets id request, Goes)
  seen_kept Ended = (Ended, Goes)

  -- what it leaves of the cached versions
  abbrev pub seen_latest : ReadSeenOp T → List Cached → List Cached
  seen_latest (Keeps version value) latest = kept version latest
  seen_latest (Looks id) latest = latest
  seen_latest (Gets id request) latest = latest
  seen_latest Ended latest = latest

module _ {T : Type 0} (names : Names) (decode : List ℕ → Option T) where
  -- after the first look: the cached version is answered
  abbrev pub seen_looked : ReadSeenOp T → ℕ → Option Cached → ReadSeenOp T × Turned (Result (Option T) ℕ)
  seen_looked op id None = (Gets id (version_got names id), Goes)
  seen_looked op id (Some cached) = (op, Done (as_found (value_read (decode cached.bytes))))

  abbrev pub seen_keeping : ReadSeenOp T → Cached → Option T → ReadSeenOp T × Turned (Result (Option T) ℕ)
  seen_keeping op version (Some value) = (Keeps version value, Goes)
  seen_keeping op version None = (op, Done (Err 8))

  abbrev pub seen_got : ReadSeenOp T → ℕ → Result Got StoreError → ReadSeenOp T × Turned (Result (Option T) ℕ)
  seen_got op id (Ok got) = seen_keeping op (record { id = id; bytes = got.bytes }) (decode got.bytes)
  seen_got op id (Err errors.NotFound) = (op, Done (Ok None))
  seen_got op id (Err error) = (op, Done (Err (store_error_number error)))

  abbrev pub seen_replied : ReadSeenOp T → ℕ → Option Reply → ReadSeenOp T × Turned (Result (Option T) ℕ)
  seen_replied op id (Some (replies.Get answer)) = seen_got op id answer
  seen_replied op id (Some reply) = (op, Goes)
  seen_replied op id None = (op, Goes)

  -- what it makes of a look or a reply, memory aside
  abbrev pub seen_turned : ReadSeenOp T → List Cached → Option Reply → ReadSeenOp T × Turned (Result (Option T) ℕ)
  seen_turned (Looks id) latest reply = seen_looked (Looks id) id (held id latest)
  seen_turned (Gets id request) latest reply = seen_replied (Gets id request) id reply
  seen_turned (Keeps version value) latest reply = seen_kept (Keeps version value)
  seen_turned Ended latest reply = (Ended, Goes)
