use Rattle.txn_steps.specs.boundary.Steps.{turned_by_number}
use Rattle.txn_steps.specs.boundary.BoundaryReads.{boundary_turned}
use Rattle.txn_steps.proofs.boundary.StepLemmas.{ended_same, reads_on_from}
use Rattle.txn_steps.proofs.boundary.advance.BoundaryAdvance.take.Goals as goal

pub returns-in-Reads-clause-turned : goal.returns-in-Reads-clause-turned
returns-in-Reads-clause-turned c =
    rw c.in-Reads.is (reads_on_from c.args.path.now c.in-Reads.target c.in-Reads.again c.in-Reads.read c.after_read.new.self (turned_by_number c.after_read.result)
    c.take-told.new.self (turned_by_number c.take-told.result) (boundary_turned c.in-Reads.read c.args.cached.now c.args.reply) c.take-told.ensures.turned
    (ended_same c.in-Reads.read c.args.cached.now c.args.reply) c.after_read.ensures.goes c.after_read.ensures.turned)

pub returns-in-Reads-clause-store_error : goal.returns-in-Reads-clause-store_error
returns-in-Reads-clause-store_error c = c.after_read.ensures.store_error _ c.take-told.ensures.store_error
