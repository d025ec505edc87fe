use Rattle.std.proofs.Common.{subst, sym}
use Rattle.txn_steps.specs.boundary.Steps.{turned_by_number}
use Rattle.txn_client_seat.specs.UncheckedOps.{IsInRange}
use Rattle.txn_client_seat.proofs.Ranges.{next_in_range}
use Rattle.txn_client_seat.proofs.unchecked_op.UncheckedOp.take.Goals as goal

pub returns-in-Read-clause-range : goal.returns-in-Read-clause-range
returns-in-Read-clause-range c = next_in_range c.args.layout.now.page c.in-Read.read c.take.new.self (turned_by_number c.take.result) c.args.cached.now c.args.reply (rw (sym c.requires.names) c.take.ensures.turned) (subst IsInRange c.in-Read.is c.requires.range)
