-- What a client's recording tells, what its journal tells, and when these are the same. All lists have the oldest first.
use Rattle.std.specs.Prelude.{◌≡◌, ℕ, List, [], ◌∷◌, ◌++◌, Option, Some, None, string_bytes}
use Rattle.txn_store.specs.declared.request.Request.{Request}
use Rattle.txn_store.specs.declared.request.Reply.{Reply}
use Rattle.txn_history.specs.declared.event.Call.{Call}
use Rattle.txn_history.specs.declared.event.Answer.{Answer}
use Rattle.txn_client_journals.specs.declared.rows.Act.{Act}
use Rattle.txn_client_journals.specs.declared.rows.Act.TheVariants as acts
use Rattle.txn_client_journals.specs.declared.rows.Step.{Step}
use Rattle.txn_client_journals.specs.declared.rows.Step.TheVariants as steps
use Rattle.txn_client_journals.specs.declared.rows.JournalRow.{JournalRow}
use Rattle.txn_diary.specs.Reading.{op_of, begun_by}
use Rattle.txn_audit_recordings.specs.declared.row.RecordedRow.{RecordedRow}
use Rattle.txn_audit_recordings.specs.declared.row.RecordedRow.TheVariants as kinds

-- One thing that is told of an operation, which has this number: it began with this call, it asked the store this, it had this reply, its store call failed, its client gave it up, or it was answered, in these words.
pub data RowTold (T : Type 0) : Type 0 where
  Began : (op : ℕ) (call : Call T) → RowTold T
  Asked : (op : ℕ) (request : Request) → RowTold T
  Replied : (op : ℕ) (reply : Reply) → RowTold T
  Failed : (op : ℕ) → RowTold T
  GaveUp : (op : ℕ) → RowTold T
  Answered : (op : ℕ) (words : List ℕ) → RowTold T

module _ {T : Type 0} where
  -- what a row of a recording tells; times aside
  abbrev pub row_tells : RecordedRow T → List (RowTold T)
  row_tells (kinds.Client client page) = []
  row_tells (kinds.Begin op call) = Began op call ∷ []
  row_tells (kinds.Ask op at request) = Asked op request ∷ []
  row_tells (kinds.Reply op at reply) = Replied op reply ∷ []
  row_tells (kinds.Failed op at) = Failed op ∷ []
  row_tells (kinds.GiveUp op) = GaveUp op ∷ []
  row_tells (kinds.Answer op words) = Answered op (string_bytes words) ∷ []

  -- what a recording tells
  abbrev pub recording_tells : List (RecordedRow T) → List (RowTold T)
  recording_tells [] = []
  recording_tells (row ∷ rows) = row_tells row ++ recording_tells rows

  -- what an act of a journal tells: no recording has a look, and a call that lacked memory did not reach the store
  abbrev pub act_tells : ℕ → Act → List (RowTold T)
  act_tells op acts.Look = []
  act_tells op (acts.Receive receipt) = Asked op receipt.request ∷ Replied op receipt.reply ∷ []
  act_tells op (acts.Fails request) = Asked op request ∷ Failed op ∷ []
  act_tells op (acts.GiveUp left) = GaveUp op ∷ []
  act_tells op acts.Lacks = []

  -- what a step of a journal tells, where so many operations began before it; a client that is killed tells nothing
  abbrev pub step_tells : ℕ → Step T → List (RowTold T)
  step_tells begun (steps.Begin call) = Began (op_of begun (steps.Begin call)) call ∷ []
  step_tells begun (steps.Act op act) = act_tells op act
  step_tells begun (steps.Killed lefts) = []

module _ {T : Type 0} (text : Answer T → List ℕ) where
  -- an operation's answer, where it has one
  abbrev pub answer_tells : ℕ → Option (Answer T) → List (RowTold T)
  answer_tells op None = []
  answer_tells op (Some answer) = Answered op (text answer) ∷ []

  -- what a row of a journal tells, where so many operations began before it
  abbrev pub entry_tells : ℕ → JournalRow T → List (RowTold T)
  entry_tells begun row = step_tells begun row.step ++ answer_tells (op_of begun row.step) row.answer

  -- what a journal tells, where so many operations began before it
  abbrev pub journal_tells : ℕ → List (JournalRow T) → List (RowTold T)
  journal_tells begun [] = []
  journal_tells begun (row ∷ rows) = entry_tells begun row ++ journal_tells (begun_by begun row.step) rows

module _ {T : Type 0} where
  -- A recording tells what a journal tells. One that ends too early, as that of a client that was killed, may have asked the store last, with no reply, or lack the last answer.
  pub data TellsSame (recorded journaled : List (RowTold T)) : Type 0 where
    Whole : recorded ≡ journaled → TellsSame recorded journaled
    EndsAsking : (op : ℕ) (request : Request) → recorded ≡ journaled ++ Asked op request ∷ [] → TellsSame recorded journaled
    LacksAnswer : (op : ℕ) (words : List ℕ) → recorded ++ Answered op words ∷ [] ≡ journaled → TellsSame recorded journaled
