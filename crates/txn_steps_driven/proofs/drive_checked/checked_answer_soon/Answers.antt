use Rattle.txn_steps_driven.proofs.DriveCounts.{check_within, write_within, delete_within}
use Rattle.txn_steps_driven.proofs.drive_checked.checked_answer_soon.Goals as goal

pub returns-clause-check : goal.returns-clause-check
returns-clause-check c = check_within

pub returns-clause-write : goal.returns-clause-write
returns-clause-write c = write_within

pub returns-clause-delete : goal.returns-clause-delete
returns-clause-delete c = delete_within
