-- What stands in a journal, the oldest row first.
use Rattle.std.specs.Prelude.{ℕ, ◌+◌, List, [], ◌∷◌, ◌++◌, Option, Some, None}
use Rattle.txn_history.specs.declared.event.Answer.{Answer}
use Rattle.txn_client_journals.specs.declared.rows.Act.{Act}
use Rattle.txn_client_journals.specs.declared.rows.Act.TheVariants as acts
use Rattle.txn_client_journals.specs.declared.rows.Receipt.{Receipt}
use Rattle.txn_client_journals.specs.declared.rows.Step.{Step}
use Rattle.txn_client_journals.specs.declared.rows.Step.TheVariants as steps
use Rattle.txn_client_journals.specs.declared.rows.JournalRow.{JournalRow}

-- the receipt of an act, where it takes one
abbrev pub receipt_in : Act → Option Receipt
receipt_in (acts.Receive receipt) = Some receipt
receipt_in acts.Look = None
receipt_in acts.Lacks = None
receipt_in (acts.GiveUp left) = None
receipt_in (acts.Fails request) = None

-- a receipt, where there is one, as those that are added
abbrev pub as_receipts : Option Receipt → List Receipt
as_receipts None = []
as_receipts (Some receipt) = receipt ∷ []

module _ {T : Type 0} where
  -- the receipt of a step, where it takes one
  abbrev pub receipt_of : Step T → Option Receipt
  receipt_of (steps.Begin call) = None
  receipt_of (steps.Act op act) = receipt_in act
  receipt_of (steps.Killed lefts) = None

  -- the operation that a step is of, where so many began before it; a kill is of none
  abbrev pub op_of : ℕ → Step T → ℕ
  op_of begun (steps.Begin call) = begun + 1
  op_of begun (steps.Act op act) = op
  op_of begun (steps.Killed lefts) = 0

  -- how many operations began, with a step, where so many began before it
  abbrev pub begun_by : ℕ → Step T → ℕ
  begun_by begun (steps.Begin call) = begun + 1
  begun_by begun (steps.Act op act) = begun
  begun_by begun (steps.Killed lefts) = begun

  -- an operation's answer, where it has one
  abbrev pub with_answer : ℕ → Option (Answer T) → List (ℕ × Answer T)
  with_answer op None = []
  with_answer op (Some answer) = (op, answer) ∷ []

  -- the answers of a journal, each with its operation, where so many began before it
  abbrev pub answers_from : ℕ → List (JournalRow T) → List (ℕ × Answer T)
  answers_from begun [] = []
  answers_from begun (row ∷ rows) = with_answer (op_of begun row.step) row.answer ++ answers_from (begun_by begun row.step) rows
