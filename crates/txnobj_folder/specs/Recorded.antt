-- What the writer of a recording gains with each thing that the recording is handed.
use Rattle.std.specs.Prelude.{ℕ, List, Option, Some, None}
use Rattle.std.specs.Io.KnownBytes.{Appends}
use Rattle.txnobj.specs.clients.Noted.{Noted, Begun, Asked, Replied, Failed, GaveUp, Answered}
use Rattle.txn_audit_recordings.specs.Written.{begin_row_text, ask_row_text, reply_row_text, failed_row_text, give_up_row_text, answer_row_text}
use Rattle.txn_audit_recordings.specs.RowLines.{row_line}

module _ {T : Type 0} (text : T → List ℕ) where
  -- the row of what is handed over at a time
  abbrev pub note_text : ℕ → Noted T → List ℕ
  note_text at (Begun op call) = begin_row_text text op call
  note_text at (Asked op request) = ask_row_text op at request
  note_text at (Replied op reply) = reply_row_text op at reply
  note_text at (Failed op) = failed_row_text op at
  note_text at (GaveUp op) = give_up_row_text op
  note_text at (Answered op answer) = answer_row_text text op answer

  -- A writer has a row more, of what was handed over at some time, and its line feed. Where there is no writer, nothing is kept.
  abbrev pub Records : {W : Type 0} → (W → Option (List ℕ)) → Option W → Noted T → Option W → Type 0
  Records contents (Some old) note (Some new) = (at : ℕ) × Appends (contents old) (contents new) (row_line (note_text at note))
  Records contents (Some old) note None = ⊥
  Records contents None note (Some new) = ⊥
  Records contents None note None = Unit {0}
