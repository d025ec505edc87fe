use Rattle.std.proofs.Common.{rules}
use Rattle.txn_history.specs.Names.{world_names, world_boundary}
use Rattle.txn_client_journals.proofs.tables.layout.world_layout.Goals as goal

pub returns-in-Ok-new-clause-names : goal.returns-in-Ok-new-clause-names
unfolding world_names
returns-in-Ok-new-clause-names g c = search rules

pub returns-in-Ok-new-clause-boundary : goal.returns-in-Ok-new-clause-boundary
unfolding world_boundary
returns-in-Ok-new-clause-boundary g c = search rules
