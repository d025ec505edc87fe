-- The text of each printed line.
use Rattle.std.specs.Prelude.{ℕ, List, [], ◌∷◌, ◌++◌, ◌==◌, if◌then◌else◌, Option, Some, None, unwrap_or, codes, decimal}
use Rattle.txn_history.specs.declared.event.PlainAnswer.{PlainAnswer}
use Rattle.txn_history.specs.declared.event.PlainAnswer.TheVariants as answers
use Rattle.txn_history.specs.declared.event.Answer.{Answer}
use Rattle.txn_history.specs.declared.event.Answer.TheVariants as any
use Rattle.txn_history.specs.Views.{View}
use Rattle.txn_history.specs.declared.event.EventFault.{EventFault}
use Rattle.txn_history.specs.Allowed.{fault_number}
use Rattle.txn_history.specs.Lists.{numbered}
use Rattle.txn_script_lines.specs.declared.printed.IdsLine.{IdsLine}
use Rattle.txn_script_lines.specs.declared.printed.IdsLine.TheVariants as ids_lines
use Rattle.txn_script_lines.specs.declared.stop.Stop.{Stop}
use Rattle.txn_script_lines.specs.declared.stop.Stop.TheVariants as stops

-- the name of a refusal
abbrev pub refusal_name : ℕ → List ℕ
refusal_name number =
    if number == 1 then codes "IoError" else
    if number == 2 then codes "ObjectStoreError" else
    if number == 3 then codes "ObjectUpdateTimeout" else
    if number == 4 then codes "LatestRecordMissing" else
    if number == 5 then codes "ObjectVersionExists" else
    if number == 6 then codes "Fenced" else
    if number == 7 then codes "InvalidObjectState" else
    if number == 8 then codes "CallbackError" else
    if number == 9 then codes "NoMemory" else
    if number == 10 then codes "IdExhausted" else
    codes "TurnsExhausted"

-- ids, each after one space
abbrev pub ids_text : List ℕ → List ℕ
ids_text [] = []
ids_text (id ∷ ids) = codes " " ++ (decimal id ++ ids_text ids)

-- the same, or that there are none
abbrev pub listed_text : List ℕ → List ℕ
listed_text [] = codes " none"
listed_text (id ∷ ids) = ids_text (id ∷ ids)

-- the texts of answers, entries and views, by that of a value
module _ {T : Type 0} (text : T → List ℕ) where
  abbrev pub read_text : Option (ℕ × T) → List ℕ
  read_text None = codes "read none"
  read_text (Some found) = codes "read " ++ (decimal found.0 ++ (codes " " ++ text found.1))

  -- the value of a version, or that there is none
  abbrev pub value_text : Option T → List ℕ
  value_text None = codes "value none"
  value_text (Some value) = codes "value " ++ text value

  -- the answer of a call without a view, or a refusal
  abbrev pub plain_answer_text : PlainAnswer T → List ℕ
  plain_answer_text (answers.Wrote id) = codes "wrote " ++ decimal id
  plain_answer_text (answers.Read found) = read_text found
  plain_answer_text (answers.Value found) = value_text found
  plain_answer_text (answers.Ids ids) = codes "ids" ++ listed_text ids
  plain_answer_text answers.Done = codes "done"
  plain_answer_text (answers.Refused number) = codes "refused " ++ (decimal number ++ (codes " " ++ refusal_name number))

  -- the view of this number is at the version of this id, with this value
  abbrev pub view_text : ℕ → ℕ → T → List ℕ
  view_text view id value = codes "view " ++ (decimal view ++ (codes " at " ++ (decimal id ++ (codes " " ++ text value))))

  -- the same, as the holder of this epoch
  abbrev pub holder_text : ℕ → ℕ → T → ℕ → List ℕ
  holder_text view id value epoch = codes "holder " ++ (decimal view ++ (codes " at " ++ (decimal id ++ (codes " " ++ (text value ++ (codes " epoch " ++ decimal epoch))))))

  abbrev pub answered_text : Answer T → List ℕ
  answered_text (any.Plain answer) = plain_answer_text answer
  answered_text (any.View view id value) = view_text view id value
  answered_text (any.Held view id value epoch) = holder_text view id value epoch

  -- the line of an answer
  abbrev pub answer_text : ℕ → Answer T → List ℕ
  answer_text op answer = codes "op " ++ (decimal op ++ (codes ": " ++ answered_text answer))

  -- the line of an entry of the history
  abbrev pub entry_text : ℕ → T → List ℕ
  entry_text n value = codes "entry " ++ (decimal n ++ (codes " " ++ text value))

  -- how a view stands, by the epoch of a holder
  abbrev pub stands_by : ℕ → ℕ → T → Option ℕ → List ℕ
  stands_by number id value None = view_text number id value
  stands_by number id value (Some epoch) = holder_text number id value epoch

  -- the line of a view that has not ended
  abbrev pub stands_text : ℕ → View T → List ℕ
  stands_text number view = stands_by number view.id view.object view.epoch

-- the names of the faults, in the order of their numbers from 1
abbrev pub fault_names : List (List ℕ)
fault_names = codes "UnknownNumber" ∷ codes "NotAsked" ∷ codes "UnknownBase" ∷ codes "BoundaryTooHigh" ∷ codes "EpochLowered" ∷ codes "ViewBusy" ∷ codes "NoMemory" ∷ []

-- the name of a fault
abbrev pub fault_name : EventFault → List ℕ
fault_name fault = unwrap_or (numbered fault_names (fault_number fault)) []

-- the line of an event that is refused with a fault of this number and name
abbrev pub named_fault_text : ℕ → List ℕ → List ℕ
named_fault_text number name = codes "fault " ++ (decimal number ++ (codes " " ++ name))

abbrev pub fault_text : EventFault → List ℕ
fault_text fault = named_fault_text (fault_number fault) (fault_name fault)

-- the line of the boundary
abbrev pub boundary_text : ℕ → List ℕ
boundary_text boundary = codes "boundary " ++ decimal boundary

-- the line of the erased ids
abbrev pub erased_text : List ℕ → List ℕ
erased_text ids = codes "erased" ++ listed_text ids

-- the line of the ids that the newest value pins
abbrev pub pinned_text : List ℕ → List ℕ
pinned_text ids = codes "pinned" ++ listed_text ids

abbrev pub ids_line_text : IdsLine → List ℕ
ids_line_text (ids_lines.Erased ids) = erased_text ids.items
ids_line_text (ids_lines.Pinned ids) = pinned_text ids.items

-- the line of a script that stops
abbrev pub stop_text : Stop → List ℕ
stop_text (stops.BadLine number) = codes "line " ++ (decimal number ++ codes ": bad line")
stop_text stops.ReadFailed = codes "read failed"
stop_text stops.WriteFailed = codes "write failed"
stop_text stops.NoMemory = codes "no memory"

-- the exit status of a script that stops
abbrev pub status_of : Stop → ℕ
status_of (stops.BadLine n) = 2
status_of stops.ReadFailed = 1
status_of stops.WriteFailed = 1
status_of stops.NoMemory = 1
