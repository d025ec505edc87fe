use Rattle.std.proofs.Common.{◌≡◌, ◌≤◌, ◌++◌, length}
use Rattle.std.specs.Vec.Iter.{into_iter_items}
use Rattle.txn_machine.specs.Machine.{RunsPast}
use Rattle.txn_world.proofs.world.World.run.Given as goal

-- the events so far were run, the others are still to come, and no more were taken than came
abbrev pub invariant-loop-event : goal.invariant-loop-event
invariant-loop-event g l = record {
  can : (goal.iterator-loop-event g).can_next l.event-iterator;
  ends : (goal.iterator-loop-event g).is_finite l.event-iterator;
  all : l.yielded ++ into_iter_items l.event-iterator ≡ l.fn.events.items;
  few : l.count ≤ length l.yielded;
  codec : l.self.codec ≡ l.fn.self.codec;
  epochs : l.self.epochs ≡ l.fn.self.epochs;
  run : RunsPast (g.C.ObjectCodec.encoded l.fn.self.codec) (g.C.ObjectCodec.decoded l.fn.self.codec) (g.E.EpochField.epoch_of l.fn.self.epochs) (g.E.EpochField.with_epoch l.fn.self.epochs) l.fn.self.state l.yielded l.count l.self.state;
}
