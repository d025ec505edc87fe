use Rattle.txn_world.specs.Shown.{shown}
use Rattle.txn_world.proofs.Reached.{reached_answerable}
use Rattle.txn_world.proofs.world.World.refusal.Goals as goal

pub refusal-requires : goal.refusal-requires
refusal-requires g c = record {
  fit = reached_answerable (g.C.ObjectCodec.encoded c.self.inside.tables.trace.layout.codec) (g.C.ObjectCodec.decoded c.self.inside.tables.trace.layout.codec) (g.E.EpochField.epoch_of c.self.inside.tables.trace.field) (g.E.EpochField.with_epoch c.self.inside.tables.trace.field) (shown c.self.inside.tables) c.self.invariant;
}

pub returns : goal.returns
returns g c = rw (← c.self.view_is) c.refusal.ensures
