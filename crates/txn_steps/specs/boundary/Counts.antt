-- How many looks and calls of the store an operation has left at most.
use Rattle.std.specs.Prelude.{ℕ, ◌+◌, ◌<◌, ◌≤◌, Option, Some, None}
use Rattle.txn_store.specs.declared.request.Reply.{Reply}
use Rattle.txn_steps.specs.declared.boundary.boundary_read.BoundaryRead.{BoundaryRead}
use Rattle.txn_steps.specs.declared.boundary.boundary_read.BoundaryRead.TheVariants as read
use Rattle.txn_steps.specs.declared.boundary.check.BoundaryStep.{BoundaryStep}
use Rattle.txn_steps.specs.declared.boundary.check.BoundaryStep.TheVariants as step
use Rattle.txn_steps.specs.declared.boundary.check.BoundaryCheck.{BoundaryCheck}
use Rattle.txn_steps.specs.declared.boundary.check.CheckOp.{CheckOp}
use Rattle.txn_steps.specs.declared.boundary.check.CheckOp.TheVariants.{Checks, Drops}
use Rattle.txn_steps.specs.declared.boundary.turned.Turned.{Turned}
use Rattle.txn_steps.specs.declared.boundary.turned.Turned.TheVariants.{Goes, Done}

-- so many looks, and so many calls of the store
pub record Budget : Type 0 where
  pub looks : ℕ
  pub calls : ℕ

abbrev pub no_budget : Budget
no_budget = record { looks = 0; calls = 0 }

abbrev pub both_budgets : Budget → Budget → Budget
both_budgets a b = record { looks = a.looks + b.looks; calls = a.calls + b.calls }

-- what is left where an operation goes on; nothing is where it is done
abbrev pub budget_after : {A : Type 0} → Turned A → Budget → Budget
budget_after Goes left = left
budget_after (Done answer) left = no_budget

-- A look takes one of the looks at least, a reply one of the calls, and neither adds one of the other.
abbrev pub SpendsOne : Option Reply → Budget → Budget → Type 0
SpendsOne None before after = (after.looks < before.looks) × (after.calls ≤ before.calls)
SpendsOne (Some reply) before after = (after.looks ≤ before.looks) × (after.calls < before.calls)

abbrev pub one_look : Budget
one_look = record { looks = 1; calls = 0 }

-- a read of the boundary: two looks round one call
abbrev pub boundary_budget : BoundaryRead → Budget
boundary_budget (read.Looks path) = record { looks = 2; calls = 1 }
boundary_budget (read.Gets request) = record { looks = 1; calls = 1 }
boundary_budget (read.Holds known) = one_look

abbrev pub boundary_check_budget_at : BoundaryStep → BoundaryRead → Budget
boundary_check_budget_at step.Looks read = both_budgets one_look (boundary_budget read)
boundary_check_budget_at step.Reads read = boundary_budget read

abbrev pub boundary_check_budget : BoundaryCheck → Budget
boundary_check_budget op = boundary_check_budget_at op.step op.read

-- a check: four looks and one call, as it starts
abbrev pub check_budget : CheckOp → Budget
check_budget (Checks check) = both_budgets (boundary_check_budget check) one_look
check_budget (Drops id) = one_look
