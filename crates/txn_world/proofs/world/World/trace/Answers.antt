use Rattle.txn_world.specs.Shown.{shown}
use Rattle.txn_machine.proofs.Reached.{reached_history, reached_stored, reached_claims}
use Rattle.txn_world.proofs.Reached.{is_reached}
use Rattle.txn_world.proofs.world.World.trace.Goals as goal

pub returns-clause-one_history : goal.returns-clause-one_history
returns-clause-one_history g c =
    rw (c.rows.ensures, ← c.self.view_is) (reached_history (g.C.ObjectCodec.encoded c.self.inside.tables.trace.layout.codec) (g.C.ObjectCodec.decoded c.self.inside.tables.trace.layout.codec) (g.E.EpochField.epoch_of c.self.inside.tables.trace.field) (g.E.EpochField.with_epoch c.self.inside.tables.trace.field) (shown c.self.inside.tables) (is_reached _ _ _ _ _ c.self.invariant))

pub returns-clause-stored : goal.returns-clause-stored
returns-clause-stored g c =
    rw (c.rows.ensures, ← c.self.view_is) (reached_stored (g.C.ObjectCodec.encoded c.self.inside.tables.trace.layout.codec) (g.C.ObjectCodec.decoded c.self.inside.tables.trace.layout.codec) (g.E.EpochField.epoch_of c.self.inside.tables.trace.field) (g.E.EpochField.with_epoch c.self.inside.tables.trace.field) (shown c.self.inside.tables) (is_reached _ _ _ _ _ c.self.invariant))

pub returns-clause-one_claimer : goal.returns-clause-one_claimer
returns-clause-one_claimer g c =
    rw (c.rows.ensures) (reached_claims (g.C.ObjectCodec.encoded c.self.inside.tables.trace.layout.codec) (g.C.ObjectCodec.decoded c.self.inside.tables.trace.layout.codec) (g.E.EpochField.epoch_of c.self.inside.tables.trace.field) (g.E.EpochField.with_epoch c.self.inside.tables.trace.field) (shown c.self.inside.tables) (is_reached _ _ _ _ _ c.self.invariant))

pub returns-clause-run : goal.returns-clause-run
returns-clause-run g c = rw (← c.self.view_is) c.self.invariant
