-- Numbers of C's as what they stand for.
use Rattle.std.specs.Prelude.{ℕ, List, Option, Some, None, Result, Ok, Err, if◌then◌else◌, ◌==◌}
use Rattle.std.specs.declared.ops.Bound.{Bound}
use Rattle.std.specs.declared.ops.Bound.TheVariants as bounds
use Rattle.txn_store.specs.declared.store.StoreError.{StoreError}
use Rattle.txn_store.specs.declared.store.StoreError.TheVariants as errors
use Rattle.txn_store.specs.declared.request.Reply.{Reply}
use Rattle.txn_store.specs.declared.request.Reply.TheVariants as replies
use Rattle.txn_script_lines.specs.declared.values.entry.Entry.{Entry}

-- the base of a write: none for 0
abbrev pub based : ℕ → Option ℕ
based id = if id == 0 then None else Some id

-- a bound of a listing: none for kind 0, within for 1, not within for 2 and above
abbrev pub bounded : ℕ → ℕ → Bound ℕ
bounded kind id = if kind == 0 then bounds.Unbounded else (if kind == 1 then bounds.Included id else bounds.Excluded id)

-- a value of this epoch and these bytes
abbrev pub entry_of : ℕ → List ℕ → Entry
entry_of epoch bytes = record { epoch = epoch; payload = bytes }

-- the store's error of this number; any that is none of the others says that the call failed
abbrev pub error_of : ℕ → StoreError
error_of number =
    if number == 1 then errors.NotFound else
    (if number == 2 then errors.AlreadyExists else
    (if number == 3 then errors.Precondition else
    (if number == 4 then errors.NotModified else
    (if number == 6 then errors.NoMemory else
    (if number == 7 then errors.TokensExhausted else errors.Failed)))))

-- an answer of the store: this where the error's number is 0, else that error
abbrev pub or_error : {A : Type 0} → ℕ → A → Result A StoreError
or_error error answer = if error == 0 then Ok answer else Err (error_of error)

-- the reply to a put: the token of the file that it wrote
abbrev pub put_reply : ℕ → ℕ → Reply
put_reply error token = replies.Put (or_error error token)

-- the reply to a get: the file's bytes and its token
abbrev pub got_reply : ℕ → ℕ → List ℕ → Reply
got_reply error token bytes = replies.Get (or_error error (record { bytes = bytes; token = token }))

-- the reply to a delete
abbrev pub deleted_reply : ℕ → Reply
deleted_reply error = replies.Delete (or_error error tt)
