use Rattle.std.proofs.Common.{◌∙◌, ap}
use Rattle.txn_client_journals.specs.tables.Operations.{asked_by}
use Rattle.txn_world.proofs.Stepping.{asks_seen}
use Rattle.txn_world.proofs.tables.Tables.asks.Goals as goal

pub returns : goal.returns
returns g c = c.asked.ensures ∙ (ap (λ os. asked_by os c.args.op) c.deref.ensures.value ∙ asks_seen c.args.self.now.clients.operations.items c.args.op)
