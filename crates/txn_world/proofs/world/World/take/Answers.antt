use Rattle.std.proofs.Common.{ap}
use Rattle.txn_world.specs.Shown.{shown}
use Rattle.txn_world.proofs.Reached.{reached_answerable, ends_after, adds_after, goes_after}
use Rattle.txn_world.proofs.world.World.take.Goals as goal

pub invariant_of-self : goal.invariant_of-self
invariant_of-self g c =
    rw (ap (λ l. l.codec) c.take.ensures.layout, c.take.ensures.field)
    (ends_after (g.C.ObjectCodec.encoded c.self.inside.tables.trace.layout.codec) (g.C.ObjectCodec.decoded c.self.inside.tables.trace.layout.codec) (g.E.EpochField.epoch_of c.self.inside.tables.trace.field) (g.E.EpochField.with_epoch c.self.inside.tables.trace.field) c.take.result (shown c.self.inside.tables) c.args.event (shown c.take.new.self) c.self.invariant c.take.ensures.err c.take.ensures.ok)

pub returns-clause-rows : goal.returns-clause-rows
returns-clause-rows g c =
    rw (← c.self.view_is)
    (adds_after (g.C.ObjectCodec.encoded c.self.inside.tables.trace.layout.codec) (g.C.ObjectCodec.decoded c.self.inside.tables.trace.layout.codec) (g.E.EpochField.epoch_of c.self.inside.tables.trace.field) (g.E.EpochField.with_epoch c.self.inside.tables.trace.field) c.take.result (shown c.self.inside.tables) c.args.event (shown c.take.new.self) c.self.invariant c.take.ensures.ok)

pub returns-clause-goes_on : goal.returns-clause-goes_on
returns-clause-goes_on g c =
    rw (← c.self.view_is)
    (goes_after (g.C.ObjectCodec.encoded c.self.inside.tables.trace.layout.codec) (g.C.ObjectCodec.decoded c.self.inside.tables.trace.layout.codec) (g.E.EpochField.epoch_of c.self.inside.tables.trace.field) (g.E.EpochField.with_epoch c.self.inside.tables.trace.field) c.take.result (shown c.self.inside.tables) c.args.event (shown c.take.new.self) c.self.invariant c.take.ensures.ok)

pub take-requires-clause-fit : goal.take-requires-clause-fit
take-requires-clause-fit g c =
    reached_answerable (g.C.ObjectCodec.encoded c.self.inside.tables.trace.layout.codec) (g.C.ObjectCodec.decoded c.self.inside.tables.trace.layout.codec) (g.E.EpochField.epoch_of c.self.inside.tables.trace.field) (g.E.EpochField.with_epoch c.self.inside.tables.trace.field) (shown c.self.inside.tables) c.self.invariant

pub returns-clause-refused : goal.returns-clause-refused
returns-clause-refused g c = rw (← c.self.view_is) c.take.ensures.fault
