-- How many looks and calls of the store an operation has left at most.
use Rattle.txn_steps.specs.boundary.Counts.{Budget, no_budget, both_budgets, one_look, check_budget}
use Rattle.txn_steps.specs.declared.write.WriteUncheckedOp.{WriteUncheckedOp}
use Rattle.txn_steps.specs.declared.write.WriteUncheckedOp.TheVariants as unchecked
use Rattle.txn_steps.specs.declared.write.WriteStep.{WriteStep}
use Rattle.txn_steps.specs.declared.write.WriteStep.TheVariants as writes
use Rattle.txn_steps.specs.declared.write.WriteOp.{WriteOp}
use Rattle.txn_steps.specs.declared.delete.RemovalStep.{RemovalStep}
use Rattle.txn_steps.specs.declared.delete.RemovalStep.TheVariants as removals
use Rattle.txn_steps.specs.declared.delete.DeleteUncheckedOp.{DeleteUncheckedOp}
use Rattle.txn_steps.specs.declared.delete.DeleteStep.{DeleteStep}
use Rattle.txn_steps.specs.declared.delete.DeleteStep.TheVariants as deletes
use Rattle.txn_steps.specs.declared.delete.DeleteOp.{DeleteOp}
use Rattle.txn_steps.specs.declared.seen.ReadSeenOp.{ReadSeenOp}
use Rattle.txn_steps.specs.declared.seen.ReadSeenOp.TheVariants as seen

abbrev pub one_of_each : Budget
one_of_each = record { looks = 1; calls = 1 }

-- an unchecked write: its create, and a look
abbrev pub unchecked_budget : WriteUncheckedOp → Budget
unchecked_budget (unchecked.Puts version request) = one_of_each
unchecked_budget (unchecked.Keeps version) = one_look
unchecked_budget unchecked.Ended = no_budget

abbrev pub write_budget_at : WriteStep → WriteOp → Budget
write_budget_at writes.Writes op = both_budgets (unchecked_budget op.write) (check_budget op.check)
write_budget_at writes.Checks op = check_budget op.check

-- a write: an unchecked one, and a check
abbrev pub write_budget : WriteOp → Budget
write_budget op = write_budget_at op.step op

abbrev pub removal_budget_at : RemovalStep → Budget
removal_budget_at removals.Removes = one_of_each
removal_budget_at removals.Drops = one_look

-- an unchecked delete: its removal, and a look
abbrev pub removal_budget : DeleteUncheckedOp → Budget
removal_budget op = removal_budget_at op.step

abbrev pub delete_budget_at : DeleteStep → DeleteOp → Budget
delete_budget_at deletes.Checks op = both_budgets (check_budget op.check) (removal_budget op.removal)
delete_budget_at deletes.Removes op = removal_budget op.removal

-- a delete: a check, and an unchecked one
abbrev pub delete_budget : DeleteOp → Budget
delete_budget op = delete_budget_at op.step op

-- a read of one id that was perhaps seen: two looks round a get
abbrev pub seen_budget : {T : Type 0} → ReadSeenOp T → Budget
seen_budget (seen.Looks id) = record { looks = 2; calls = 1 }
seen_budget (seen.Gets id request) = one_of_each
seen_budget (seen.Keeps version value) = one_look
seen_budget seen.Ended = no_budget
