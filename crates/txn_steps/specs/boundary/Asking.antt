-- What an operation asks for, and what it is given.
use Rattle.std.specs.Prelude.{ℕ, Option, Some, None, Bool, true, false, Err, Result}
use Rattle.txn_store.specs.declared.store.StoreError.{StoreError}
use Rattle.txn_store.specs.declared.request.Request.{Request}
use Rattle.txn_store.specs.declared.request.Reply.{Reply}
use Rattle.txn_steps.specs.declared.boundary.ask.Ask.{Ask}
use Rattle.txn_steps.specs.declared.boundary.ask.Ask.TheVariants.{Store, Look}
use Rattle.txn_steps.specs.declared.boundary.turned.Turned.{Turned}
use Rattle.txn_steps.specs.declared.boundary.turned.Turned.TheVariants.{Done}
use Rattle.txn_steps.specs.boundary.Steps.{IsPutReply, IsGetReply, IsListReply, IsDeleteReply, reply_error}

-- the request that is asked for, none for a look
abbrev pub asks : Ask → Option Request
asks (Store request) = Some request.now
asks Look = None

-- the store's error in a reply, where there is a reply
abbrev pub reply_told : Option Reply → Option StoreError
reply_told None = None
reply_told (Some reply) = reply_error reply

-- replies by what was asked: none for a look
abbrev pub IsLook : Option Reply → Type 0
IsLook None = Unit {0}
IsLook (Some reply) = ⊥

abbrev pub IsGot : Option Reply → Type 0
IsGot None = ⊥
IsGot (Some reply) = IsGetReply reply

abbrev pub IsPut : Option Reply → Type 0
IsPut None = ⊥
IsPut (Some reply) = IsPutReply reply

abbrev pub IsListed : Option Reply → Type 0
IsListed None = ⊥
IsListed (Some reply) = IsListReply reply

abbrev pub IsDeleted : Option Reply → Type 0
IsDeleted None = ⊥
IsDeleted (Some reply) = IsDeleteReply reply

-- A growth was refused: an operation ends with the refusal 9, and is as it was.
abbrev pub unless_lacking : {O A : Type 0} → Bool → O → O × Turned (Result A ℕ) → O × Turned (Result A ℕ)
unless_lacking false old next = next
unless_lacking true old next = (old, Done (Err 9))
