use Rattle.txn_world.specs.Shown.{shown}
use Rattle.txn_world.proofs.Reached.{client_within}
use Rattle.txn_world.proofs.world.World.view.Goals as goal

pub returns-clause-client : goal.returns-clause-client
returns-clause-client g c =
    rw (← c.self.view_is)
    (client_within (g.C.ObjectCodec.encoded c.self.inside.tables.trace.layout.codec) (g.C.ObjectCodec.decoded c.self.inside.tables.trace.layout.codec) (g.E.EpochField.epoch_of c.self.inside.tables.trace.field) (g.E.EpochField.with_epoch c.self.inside.tables.trace.field) (shown c.self.inside.tables) c.self.invariant c.args.number _ c.view.ensures)
