-- What holds of every operation's step.
use Rattle.std.specs.Prelude.{◌≡◌, ℕ, Option, Some, None, Result, Ok, Err, ◌==◌, Bool, false}
use Rattle.txn_store.specs.declared.store.StoreError.{StoreError}
use Rattle.txn_store.specs.declared.request.Reply.{Reply}
use Rattle.txn_store.specs.declared.request.Reply.TheVariants as replies
use Rattle.txn_store.specs.declared.types.error.TransactionalObjectError.{TransactionalObjectError}
use Rattle.txn_store.specs.declared.types.error.TransactionalObjectError.TheVariants as kinds
use Rattle.txn_steps.specs.declared.boundary.turned.Turned.{Turned}
use Rattle.txn_steps.specs.declared.boundary.turned.Turned.TheVariants.{Goes, Done}
use Rattle.txn_store.specs.types.Errors.{error_number}

-- an answer, an error by its number
abbrev pub by_number : {A : Type 0} → Result A TransactionalObjectError → Result A ℕ
by_number (Ok x) = Ok x
by_number (Err error) = Err (error_number error)

abbrev pub turned_by_number : {A : Type 0} → Turned (Result A TransactionalObjectError) → Turned (Result A ℕ)
turned_by_number Goes = Goes
turned_by_number (Done answer) = Done (by_number answer)

-- it ended with the refusal 9
abbrev pub lacks_memory : {A : Type 0} → Turned (Result A ℕ) → Bool
lacks_memory Goes = false
lacks_memory (Done (Ok x)) = false
lacks_memory (Done (Err number)) = number == 9

-- the store's error in a reply
abbrev pub error_in : {A : Type 0} → Result A StoreError → Option StoreError
error_in (Ok x) = None
error_in (Err error) = Some error

abbrev pub reply_error : Reply → Option StoreError
reply_error (replies.Put answer) = error_in answer
reply_error (replies.Get answer) = error_in answer
reply_error (replies.List answer) = error_in answer
reply_error (replies.Delete answer) = error_in answer

abbrev pub IsErrorOf : Option StoreError → TransactionalObjectError → Type 0
IsErrorOf told (kinds.ObjectStoreError error) = told ≡ Some error
IsErrorOf told error = Unit {0}

-- an `ObjectStoreError` that is told holds the store's own error
abbrev pub HasErrorOf : {A : Type 0} → Option StoreError → Result A TransactionalObjectError → Type 0
HasErrorOf told (Ok x) = Unit {0}
HasErrorOf told (Err error) = IsErrorOf told error

abbrev pub TellsErrorOf : {A : Type 0} → Option StoreError → Turned (Result A TransactionalObjectError) → Type 0
TellsErrorOf told Goes = Unit {0}
TellsErrorOf told (Done answer) = HasErrorOf told answer

-- replies by their kinds
abbrev pub IsPutReply : Reply → Type 0
IsPutReply (replies.Put answer) = Unit {0}
IsPutReply reply = ⊥

abbrev pub IsGetReply : Reply → Type 0
IsGetReply (replies.Get answer) = Unit {0}
IsGetReply reply = ⊥

abbrev pub IsListReply : Reply → Type 0
IsListReply (replies.List answer) = Unit {0}
IsListReply reply = ⊥

abbrev pub IsDeleteReply : Reply → Type 0
IsDeleteReply (replies.Delete answer) = Unit {0}
IsDeleteReply reply = ⊥
