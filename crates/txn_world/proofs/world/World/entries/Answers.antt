use Rattle.txn_world.specs.Shown.{shown}
use Rattle.txn_machine.proofs.Reached.{reached_history}
use Rattle.txn_world.proofs.Reached.{is_reached}
use Rattle.txn_world.proofs.world.World.entries.Goals as goal

pub entries_of-requires-clause-good : goal.entries_of-requires-clause-good
entries_of-requires-clause-good g c =
    rw (c.failed.ensures, c.rows.ensures) (reached_history (g.C.ObjectCodec.encoded c.self.inside.tables.trace.layout.codec) (g.C.ObjectCodec.decoded c.self.inside.tables.trace.layout.codec) (g.E.EpochField.epoch_of c.self.inside.tables.trace.field) (g.E.EpochField.with_epoch c.self.inside.tables.trace.field) (shown c.self.inside.tables) (is_reached _ _ _ _ _ c.self.invariant))

pub returns : goal.returns
returns g c = let is = rw c.rows.ensures at c.entries_of.ensures in rw (← c.self.view_is) is
