-- The lines of what a client does, each at a time of its host's clock.
use Rattle.std.specs.Prelude.{ℕ, List, [], Option, Some, None}
use Rattle.txn_store.specs.declared.request.Request.{Request}
use Rattle.txn_store.specs.declared.request.Reply.{Reply}
use Rattle.txn_history.specs.declared.event.Call.{Call}
use Rattle.txn_history.specs.declared.event.Answer.{Answer}
use Rattle.txn_audit_recordings.specs.Written.{client_row_text, begin_row_text, ask_row_text, reply_row_text, failed_row_text, give_up_row_text, answer_row_text}
use Rattle.txn_audit_recordings.specs.RowLines.{row_line}
use Rattle.txn_script_lines.specs.declared.values.entry.Entry.{Entry}
use Rattle.txn_script_lines.specs.values.Text.{entry_text}

-- a client of this number has listings of at most so many files a page
abbrev pub client_line : ℕ → ℕ → List ℕ
client_line client page = row_line (client_row_text client page)

-- a call begins
abbrev pub begun_line : ℕ → Call Entry → ℕ → List ℕ
begun_line op call at = row_line (begin_row_text entry_text op call)

-- an operation is about to ask the store this
abbrev pub asked_line : ℕ → Request → ℕ → List ℕ
asked_line op request at = row_line (ask_row_text op at request)

-- the store replied so
abbrev pub replied_line : ℕ → Reply → ℕ → List ℕ
replied_line op reply at = row_line (reply_row_text op at reply)

-- the store call failed
abbrev pub failed_line : ℕ → ℕ → List ℕ
failed_line op at = row_line (failed_row_text op at)

-- an operation is given up
abbrev pub given_up_line : ℕ → ℕ → List ℕ
given_up_line op at = row_line (give_up_row_text op)

-- a look has no line
abbrev pub looked_line : ℕ → List ℕ
looked_line at = []

-- the answer of an operation, where it has one
abbrev pub answer_line : ℕ → Option (Answer Entry) → List ℕ
answer_line op None = []
answer_line op (Some answer) = row_line (answer_row_text entry_text op answer)
