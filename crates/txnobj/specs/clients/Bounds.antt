-- How many looks and store calls a call of a client took.
use Rattle.std.specs.Prelude.{ℕ, ◌+◌, ◌≤◌, List, [], ◌∷◌, Option, IsSome}
use Rattle.txn_steps.specs.boundary.Counts.{Budget}
use Rattle.txn_history.specs.declared.event.Answer.{Answer}
use Rattle.txn_client_journals.specs.declared.rows.Act.{Act}
use Rattle.txn_client_journals.specs.declared.rows.Act.TheVariants as acts
use Rattle.txn_client_journals.specs.declared.rows.Step.{Step}
use Rattle.txn_client_journals.specs.declared.rows.Step.TheVariants as steps
use Rattle.txn_client_journals.specs.declared.rows.JournalRow.{JournalRow}

-- one where the act is a look, else none
abbrev pub act_looks : Act → ℕ
act_looks acts.Look = 1
act_looks (acts.Receive receipt) = 0
act_looks (acts.Fails request) = 0
act_looks (acts.GiveUp left) = 0
act_looks acts.Lacks = 0

-- one where the act is a store call, whether it failed or not, else none
abbrev pub act_calls : Act → ℕ
act_calls acts.Look = 0
act_calls (acts.Receive receipt) = 1
act_calls (acts.Fails request) = 1
act_calls (acts.GiveUp left) = 0
act_calls acts.Lacks = 0

module _ {T : Type 0} where
  abbrev pub step_looks : Step T → ℕ
  step_looks (steps.Begin call) = 0
  step_looks (steps.Act op act) = act_looks act
  step_looks (steps.Killed lefts) = 0

  abbrev pub step_calls : Step T → ℕ
  step_calls (steps.Begin call) = 0
  step_calls (steps.Act op act) = act_calls act
  step_calls (steps.Killed lefts) = 0

  -- how many looks these rows tell
  abbrev pub looks_in : List (JournalRow T) → ℕ
  looks_in [] = 0
  looks_in (row ∷ rows) = step_looks row.step + looks_in rows

  -- how many store calls these rows tell
  abbrev pub calls_in : List (JournalRow T) → ℕ
  calls_in [] = 0
  calls_in (row ∷ rows) = step_calls row.step + calls_in rows

  -- A call that was given so many steps, and took these, took no more looks and store calls than it has at most; and it was answered, if it was given as many as that.
  pub record StaysWithin (most : Budget) (limit : ℕ) (answer : Option (Answer T)) (turns : List (JournalRow T)) : Type 0 where
    pub looks : looks_in turns ≤ most.looks
    pub calls : calls_in turns ≤ most.calls
    pub answered : most.looks + most.calls ≤ limit → IsSome answer
