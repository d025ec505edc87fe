use Rattle.txn_world.specs.Shown.{shown}
use Rattle.txn_world.proofs.Reached.{reached_answerable}
use Rattle.txn_world.proofs.world.World.is_busy.Goals as goal

pub is_busy-requires : goal.is_busy-requires
is_busy-requires g c = record {
  fit = reached_answerable (g.C.ObjectCodec.encoded c.self.inside.tables.trace.layout.codec) (g.C.ObjectCodec.decoded c.self.inside.tables.trace.layout.codec) (g.E.EpochField.epoch_of c.self.inside.tables.trace.field) (g.E.EpochField.with_epoch c.self.inside.tables.trace.field) (shown c.self.inside.tables) c.self.invariant;
}
