use Rattle.std.proofs.Common.{rules, ◌<◌, ◌^◌, ◌+◌, length, refl, ◌∙◌, arith}
use Rattle.txn_history.proofs.Lists.{one_taken, one_longer, taken_below}
use Rattle.txn_world.proofs.Reached.{err_state, runs_past_more}
use Rattle.txn_world.proofs.world.World.run.Goals as goal

pub overflow_add-count : goal.overflow_add-count
overflow_add-count g c =
    let few = c.loop-event.invariant.few in
    let below = taken_below _ _ _ _ _ c.in-Some.ensures.steps.0 c.loop-event.invariant.all in
    let small : length c.args.events.items < 2 ^ 63 = search rules in
    omega (arith, few, below, small)

pub loop-event-preserved-then-is_ok : goal.loop-event-preserved-then-is_ok
loop-event-preserved-then-is_ok g c =
    record {
      can = tt;
      ends = tt;
      all = one_taken _ _ _ _ _ c.in-Some.ensures.steps.0 c.loop-event.invariant.all;
      few = one_longer c.loop-event.yielded c.in-Some.event c.loop-event.count c.loop-event.invariant.few;
      codec = c.take.ensures.codec ∙ c.loop-event.invariant.codec;
      epochs = c.take.ensures.epochs ∙ c.loop-event.invariant.epochs;
      run = runs_past_more (g.C.ObjectCodec.encoded c.args.self.now.codec) (g.C.ObjectCodec.decoded c.args.self.now.codec) (g.E.EpochField.epoch_of c.args.self.now.epochs) (g.E.EpochField.with_epoch c.args.self.now.epochs) c.args.self.now.state c.loop-event.yielded c.loop-event.count c.loop-event.self.state c.in-Some.event c.take.result c.take.new.self.state (c.loop-event.count + 1)
          c.loop-event.invariant.run (rw (← c.loop-event.invariant.codec, ← c.loop-event.invariant.epochs) c.take.ensures.refused) (err_state c.take.result c.loop-event.self c.take.new.self c.take.ensures.err)
          (rw (← c.loop-event.invariant.codec, ← c.loop-event.invariant.epochs) c.take.ensures.ok) (rw (← c.is_ok.ensures.value, c.if-is_ok.true) refl);
    }

pub loop-event-preserved : goal.loop-event-preserved
loop-event-preserved g c =
    record {
      can = tt;
      ends = tt;
      all = one_taken _ _ _ _ _ c.in-Some.ensures.steps.0 c.loop-event.invariant.all;
      few = let more = one_longer c.loop-event.yielded c.in-Some.event c.loop-event.count c.loop-event.invariant.few in omega (arith, more);
      codec = c.take.ensures.codec ∙ c.loop-event.invariant.codec;
      epochs = c.take.ensures.epochs ∙ c.loop-event.invariant.epochs;
      run = runs_past_more (g.C.ObjectCodec.encoded c.args.self.now.codec) (g.C.ObjectCodec.decoded c.args.self.now.codec) (g.E.EpochField.epoch_of c.args.self.now.epochs) (g.E.EpochField.with_epoch c.args.self.now.epochs) c.args.self.now.state c.loop-event.yielded c.loop-event.count c.loop-event.self.state c.in-Some.event c.take.result c.take.new.self.state c.loop-event.count
          c.loop-event.invariant.run (rw (← c.loop-event.invariant.codec, ← c.loop-event.invariant.epochs) c.take.ensures.refused) (err_state c.take.result c.loop-event.self c.take.new.self c.take.ensures.err)
          (rw (← c.loop-event.invariant.codec, ← c.loop-event.invariant.epochs) c.take.ensures.ok) (rw (← c.is_ok.ensures.value, c.if-is_ok.false) refl);
    }
