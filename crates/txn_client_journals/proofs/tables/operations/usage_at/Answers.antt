use Rattle.std.proofs.Common.{ap, arith}
use Rattle.std.specs.Option.{option_map}
use Rattle.txn_client_journals.specs.tables.Operations.{usage_of}
use Rattle.txn_client_journals.proofs.tables.Acting.{within_there, found_here}
use Rattle.txn_client_journals.proofs.tables.operations.usage_at.Goals as goal

pub offset_bounds-operations-op : goal.offset_bounds-operations-op
offset_bounds-operations-op g c = let there = within_there c.args.operations.now c.args.op c.requires in omega (arith, there.0, there.1)

pub bounds-operations-op : goal.bounds-operations-op
bounds-operations-op g c = let there = within_there c.args.operations.now c.args.op c.requires in omega (arith, there.0, there.1)

pub returns : goal.returns
returns g c = ap (option_map usage_of) (found_here c.args.operations.now c.args.op c.index-operations-op.result c.requires c.index-operations-op.is)
