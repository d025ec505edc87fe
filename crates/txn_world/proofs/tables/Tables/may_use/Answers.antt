use Rattle.std.proofs.Common.{◌∙◌}
use Rattle.txn_world.specs.Shown.{shown}
use Rattle.txn_world.proofs.Stepping.{may_use_seen}
use Rattle.txn_world.proofs.tables.Tables.may_use.Goals as goal

pub returns : goal.returns
returns g c = c.may_use.ensures ∙ may_use_seen (shown c.args.self.now) c.args.client c.args.holders c.args.view
