use Rattle.txn_world.proofs.Acting.{ended_at}
use Rattle.txn_world.proofs.clients.end_one.Goals as goal

pub returns : goal.returns
returns g c = ended_at c.args.operations.now.items c.end.new.operations.items c.args.op c.end.ensures
