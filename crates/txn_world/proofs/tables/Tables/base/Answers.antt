use Rattle.std.proofs.Common.{◌∙◌}
use Rattle.txn_world.specs.Shown.{shown}
use Rattle.txn_world.proofs.Stepping.{base_as_seen}
use Rattle.txn_world.proofs.tables.Tables.base.Goals as goal

pub returns : goal.returns
returns g c = c.base.ensures ∙ base_as_seen (shown c.args.self.now) c.args.call.now
