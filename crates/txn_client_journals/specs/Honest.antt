-- Which row can stand next in the log of an honest store, and why another cannot.
use Rattle.std.specs.Prelude.{◌≡◌, ℕ, List, reverse, Contains, Ok, Err}
use Rattle.txn_store.specs.Store.{State as StoreState}
use Rattle.txn_store.specs.Requests.{Serves}
use Rattle.txn_store.specs.declared.store.StoreError.TheVariants as errors
use Rattle.txn_store.specs.declared.request.Request.{Request}
use Rattle.txn_store.specs.declared.request.Reply.{Reply}
use Rattle.txn_store.specs.declared.request.Reply.TheVariants as replies
use Rattle.txn_client_journals.specs.declared.rows.LogRow.{LogRow}
use Rattle.txn_client_journals.specs.Logs.{IsLog}
use Rattle.txn_client_journals.specs.declared.log_fault.LogFault.{LogFault}
use Rattle.txn_client_journals.specs.declared.log_fault.LogFault.TheVariants as faults
use Rattle.txn_client_journals.specs.Logged.{IsOfKind}

-- some honest store has this log, the oldest row first
abbrev pub IsHonest : List LogRow → Type 0
IsHonest log = (store : StoreState) × IsLog (reverse log) store

-- an honest store in this state can reply so
abbrev pub CanReply : Request → StoreState → Reply → Type 0
CanReply request store reply = (after : StoreState) × Serves request store reply after × (after.failures ≡ 0)

-- the reply says that the call failed
abbrev pub SaysFailed : Reply → Type 0
SaysFailed (replies.Put answer) = answer ≡ Err errors.Failed
SaysFailed (replies.Get answer) = answer ≡ Err errors.Failed
SaysFailed (replies.List answer) = answer ≡ Err errors.Failed
SaysFailed (replies.Delete answer) = answer ≡ Err errors.Failed

-- the reply with another token of the put, if it is that of a put that took effect
abbrev pub with_token : ℕ → Reply → Reply
with_token token (replies.Put (Ok given)) = replies.Put (Ok token)
with_token token reply = reply

-- the reply gives a token that was given before
abbrev pub GivesAgain : StoreState → Reply → Type 0
GivesAgain store (replies.Put (Ok token)) = Contains store.given token
GivesAgain store _ = ⊥

-- Why a store in this state cannot have replied so. Of another answer no token would do.
abbrev pub IsReason : LogFault → Request → StoreState → Reply → Type 0
IsReason faults.OtherKind request store reply = IsOfKind request reply → ⊥
IsReason faults.Failed request store reply = IsOfKind request reply × SaysFailed reply
IsReason faults.OtherAnswer request store reply = IsOfKind request reply × (SaysFailed reply → ⊥) × ((token : ℕ) → CanReply request store (with_token token reply) → ⊥)
IsReason faults.TokenGiven request store reply = IsOfKind request reply × GivesAgain store reply
IsReason faults.NoMemory request store reply = Unit {0}

-- why this row cannot stand next: the reason in every store that has the log so far
abbrev pub IsReasonAfter : List LogRow → LogRow → LogFault → Type 0
IsReasonAfter log row why = (store : StoreState) → IsLog (reverse log) store → IsReason why row.request store row.reply
