use Rattle.txn_client_journals.proofs.tables.Acting.{ends_so}
use Rattle.txn_client_journals.proofs.tables.operations.end.Goals as goal

pub returns : goal.returns
returns g c = ends_so c.args.operations.now.items c.args.op c.index_mut-operation.result.now c.end.new.self c.requires c.index_mut-operation.ensures.value c.end.ensures
