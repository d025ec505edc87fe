-- The text of a row, by the text of a value.
use Rattle.std.specs.Prelude.{ℕ, List, codes, decimal, string_bytes}
use Rattle.txn_audit_recordings.specs.declared.row.RecordedRow.{RecordedRow}
use Rattle.txn_audit_recordings.specs.declared.row.RecordedRow.TheVariants as kinds
use Rattle.txn_audit_recordings.specs.Written.{◌then◌, client_row_text, ask_row_text, reply_row_text, failed_row_text, give_up_row_text, begin_row_text}

module _ {T : Type 0} (text : T → List ℕ) where
  abbrev pub row_text : RecordedRow T → List ℕ
  row_text (kinds.Client client page) = client_row_text client page
  row_text (kinds.Begin op call) = begin_row_text text op call
  row_text (kinds.Ask op at request) = ask_row_text op at request
  row_text (kinds.Reply op at reply) = reply_row_text op at reply
  row_text (kinds.Failed op at) = failed_row_text op at
  row_text (kinds.GiveUp op) = give_up_row_text op
  row_text (kinds.Answer op words) = codes "answer" then decimal op then string_bytes words
