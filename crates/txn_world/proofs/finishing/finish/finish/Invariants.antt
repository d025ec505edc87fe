use Rattle.std.proofs.Common.{◌≡◌, ◌-◌, List, length}
use Rattle.txn_history.specs.Lists.{numbered}
use Rattle.txn_history.specs.Trace.{Event, Told}
use Rattle.txn_world.specs.Runs.{EndsRun}
use Rattle.txn_world.specs.finishing.Finishing.{GoesTo}
use Rattle.txn_world.proofs.finishing.Finishing.{Running, limit}
use Rattle.txn_world.proofs.finishing.finish.finish.Given as goal

-- it ran as this began and runs now, and went on by so many looks and serves and by nothing else
abbrev pub invariant-loop-told : goal.invariant-loop-told
invariant-loop-told g l =
    record {
      codec : l.world.codec ≡ l.fn.world.codec;
      epochs : l.world.epochs ≡ l.fn.world.epochs;
      ends : EndsRun (g.C.ObjectCodec.encoded l.fn.world.codec) (g.C.ObjectCodec.decoded l.fn.world.codec) (g.E.EpochField.epoch_of l.fn.world.epochs) (g.E.EpochField.with_epoch l.fn.world.epochs) l.fn.world.state;
      began : Running l.fn.world.state l.op;
      runs : Running l.world.state l.op;
      went : (taken : List (Event _ × Told _)) × GoesTo (g.C.ObjectCodec.encoded l.fn.world.codec) (g.C.ObjectCodec.decoded l.fn.world.codec) (g.E.EpochField.epoch_of l.fn.world.epochs) (g.E.EpochField.with_epoch l.fn.world.epochs) l.fn.world.state l.op taken l.world.state × (l.events ≡ length taken);
    }

-- what it had left as this began
abbrev pub decreases-loop-told : goal.decreases-loop-told
decreases-loop-told g l = limit (numbered l.fn.world.state.operations l.op) - l.events
