use Rattle.txn_steps.specs.boundary.Asking.{reply_told}
use Rattle.txn_steps_views.proofs.op.ViewOp.take.Goals as goal

pub returns-in-Reads-clause-store_error : goal.returns-in-Reads-clause-store_error
returns-in-Reads-clause-store_error g c = c.after_read.ensures.store_error (reply_told c.args.reply) c.take-told.ensures.store_error
