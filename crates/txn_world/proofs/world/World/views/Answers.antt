use Rattle.txn_world.specs.Shown.{shown}
use Rattle.txn_machine.proofs.Reached.{reached_views}
use Rattle.txn_world.proofs.Reached.{is_reached}
use Rattle.txn_world.proofs.world.World.views.Goals as goal

pub returns-clause-views_fit : goal.returns-clause-views_fit
returns-clause-views_fit g c =
    rw (← c.self.view_is) (reached_views (g.C.ObjectCodec.encoded c.self.inside.tables.trace.layout.codec) (g.C.ObjectCodec.decoded c.self.inside.tables.trace.layout.codec) (g.E.EpochField.epoch_of c.self.inside.tables.trace.field) (g.E.EpochField.with_epoch c.self.inside.tables.trace.field) (shown c.self.inside.tables) (is_reached _ _ _ _ _ c.self.invariant))
