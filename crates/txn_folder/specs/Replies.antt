-- Which replies a folder gives to which requests.
use Rattle.std.specs.Prelude.{Bool, true, false, ℕ, Option, Some, Result, Ok, Err, IfErr}
use Rattle.txn_store.specs.declared.store.StoreError.{StoreError}
use Rattle.txn_store.specs.declared.store.StoreError.TheVariants as errors
use Rattle.txn_store.specs.declared.store.PutMode.{PutMode}
use Rattle.txn_store.specs.declared.store.PutMode.TheVariants as modes
use Rattle.txn_store.specs.declared.request.Request.{Request}
use Rattle.txn_store.specs.declared.request.Request.TheVariants as requests
use Rattle.txn_store.specs.declared.request.Reply.{Reply}
use Rattle.txn_store.specs.declared.request.Reply.TheVariants as replies

-- the system failed, or a growth was refused
abbrev pub IsHalt : StoreError → Type 0
IsHalt errors.Failed = Unit {0}
IsHalt errors.NoMemory = Unit {0}
IsHalt error = ⊥

-- a put is refused for what its mode asks of the name, or halts
abbrev pub IsPutError : PutMode → StoreError → Type 0
IsPutError modes.Create errors.AlreadyExists = Unit {0}
IsPutError (modes.Update token) errors.Precondition = Unit {0}
IsPutError mode error = IsHalt error

-- a get finds nothing, or the file of the token that it knows, or halts
abbrev pub IsGetError : Option ℕ → StoreError → Type 0
IsGetError known errors.NotFound = Unit {0}
IsGetError (Some token) errors.NotModified = Unit {0}
IsGetError known error = IsHalt error

-- the reply is of the request's kind, with no error but those of such a call
abbrev pub IsReplyTo : Request → Reply → Type 0
IsReplyTo (requests.Put path bytes mode) (replies.Put answer) = IfErr answer (IsPutError mode)
IsReplyTo (requests.Get path known) (replies.Get answer) = IfErr answer (IsGetError known)
IsReplyTo (requests.List prefix after limit) (replies.List answer) = IfErr answer IsHalt
IsReplyTo (requests.Delete path) (replies.Delete answer) = IfErr answer IsHalt
IsReplyTo request reply = ⊥

-- the error says that the system failed
abbrev pub is_failed : StoreError → Bool
is_failed errors.Failed = true
is_failed error = false

-- an answer says that the system failed
abbrev pub has_failed : {T : Type 0} → Result T StoreError → Bool
has_failed (Ok value) = false
has_failed (Err error) = is_failed error

abbrev pub reply_failed : Reply → Bool
reply_failed (replies.Put answer) = has_failed answer
reply_failed (replies.Get answer) = has_failed answer
reply_failed (replies.List answer) = has_failed answer
reply_failed (replies.Delete answer) = has_failed answer
