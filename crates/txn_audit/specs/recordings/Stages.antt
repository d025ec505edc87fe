-- Words of private contracts: what is known of a client between two rows of its recording.
use Rattle.std.specs.Prelude.{◌≡◌, ℕ, List, [], ◌∷◌, ◌++◌, Option, Some, None, string_bytes}
use Rattle.txn_history.specs.declared.event.ToldOf.TheVariants as told
use Rattle.txn_history.specs.Trace.{Told}
use Rattle.txn_history.specs.declared.event.Answer.{Answer}
use Rattle.txn_client_journals.specs.declared.rows.JournalRow.{JournalRow}
use Rattle.txn_diary.specs.Reading.{begun_by}
use Rattle.txn_diary.specs.Diaries.{DiaryState}
use Rattle.txn_script_lines.specs.Printed.{answered_text}
use Rattle.txn_audit.specs.declared.recordings.stage.Stage.{Stage}
use Rattle.txn_audit.specs.declared.recordings.stage.Stage.TheVariants as stages
use Rattle.txn_audit.specs.recordings.Told.{RowTold, Asked, Answered, journal_tells}

module _ {T : Type 0} where
  -- how many operations began in a journal, where so many began before it
  abbrev pub all_begun : ℕ → List (JournalRow T) → ℕ
  all_begun begun [] = begun
  all_begun begun (row ∷ rows) = all_begun (begun_by begun row.step) rows

  -- what the recording and the journal have told at a stage, where the last operation has this number
  abbrev pub IsAt : ℕ → List (RowTold T) → List (RowTold T) → Stage → Type 0
  IsAt op recorded journaled stages.Idle = recorded ≡ journaled
  IsAt op recorded journaled stages.Runs = recorded ≡ journaled
  IsAt op recorded journaled (stages.Asks request) = recorded ≡ journaled ++ Asked op request.now ∷ []
  IsAt op recorded journaled (stages.Answers words) = recorded ++ Answered op (string_bytes words) ∷ [] ≡ journaled

  -- a journal of so many operations, by what a recording has told, where values have this text
  abbrev pub Stands : (T → List ℕ) → List (RowTold T) → List (JournalRow T) → ℕ → Stage → Type 0
  Stands text recorded rows begun stage = (all_begun 0 rows ≡ begun) × IsAt begun recorded (journal_tells (answered_text text) 0 rows) stage

  -- the recording tells this more, and the journal goes from one stage to another, where values have this text
  abbrev pub Goes : (T → List ℕ) → List (RowTold T) → List (JournalRow T) → ℕ → Stage → List (JournalRow T) → ℕ → Stage → Type 0
  Goes text more before begun stage after begun_then then =
      (recorded : List (RowTold T)) → Stands text recorded before begun stage → Stands text (recorded ++ more) after begun_then then

  -- the recording tells nothing more, and the journal goes from one stage to another
  abbrev pub GoesOn : (T → List ℕ) → List (JournalRow T) → ℕ → Stage → List (JournalRow T) → ℕ → Stage → Type 0
  GoesOn text before begun stage after begun_then then =
      (recorded : List (RowTold T)) → Stands text recorded before begun stage → Stands text recorded after begun_then then

  -- the stage that comes with an answer, or with none
  abbrev pub IsStageOf : (Answer T → List ℕ) → Option (Answer T) → Stage → Type 0
  IsStageOf text None stage = stage ≡ stages.Runs
  IsStageOf text (Some answer) (stages.Answers words) = string_bytes words ≡ text answer
  IsStageOf text (Some answer) _ = ⊥

  -- what is told is no answer
  abbrev pub IsUnanswered : Told T → Type 0
  IsUnanswered (told.Answered op answer) = ⊥
  IsUnanswered _ = Unit {0}

module _ {T C E : Type 0} where
  -- the same client, with other rows
  pub record IsSameClient (old new : DiaryState T C E) : Type 0 where
    pub client : new.client ≡ old.client
    pub page : new.page ≡ old.page
    pub codec : new.codec ≡ old.codec
    pub epochs : new.epochs ≡ old.epochs

  -- a client that has done nothing
  pub record IsOpened (client page : ℕ) (codec : C) (epochs : E) (diary : DiaryState T C E) (begun : ℕ) (stage : Stage) : Type 0 where
    pub client_is : diary.client ≡ client
    pub page_is : diary.page ≡ page
    pub codec_is : diary.codec ≡ codec
    pub epochs_is : diary.epochs ≡ epochs
    pub rows : diary.rows ≡ []
    pub begun_is : begun ≡ 0
    pub idle : stage ≡ stages.Idle
