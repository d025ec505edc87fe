use Rattle.std.proofs.Common.{[], ◌∷◌, ◌++◌, is_some, refl, sym, ◌∙◌, ap, arith}
use Rattle.std.proofs.lemmas.List.{length-append}
use Rattle.std.proofs.lemmas.Result.{err_from_is_err_and}
use Rattle.txn_history.specs.Lists.{numbered}
use Rattle.txn_machine.specs.plain.Doing.{asks_as}
use Rattle.txn_world.proofs.Reached.{is_reached}
use Rattle.txn_world.proofs.finishing.Finishing.{running_of, none_went, limit_small, in_limit, finishes, goes_more, stops}
use Rattle.txn_world.proofs.finishing.finish.finish.Goals as goal

pub loop-told-init : goal.loop-told-init
loop-told-init g c =
    let running = running_of c.args.world.now.state c.args.op (sym (ap is_some c.asks.ensures) ∙ ap (λ asks. is_some (asks_as asks)) c.in-Some-Look.is) in
    record {
      codec = refl;
      epochs = refl;
      ends = c.trace.ensures.run;
      began = running;
      runs = running;
      went = ([], record { runs = refl; own = refl; went = none_went c.args.op }, refl);
    }

pub returns-in_err-told-clause-err : goal.returns-in_err-told-clause-err
returns-in_err-told-clause-err g c =
    let p = err_from_is_err_and c.from_residual.result c.from_residual.ensures.1 in
    let before = c.loop-told.invariant in
    rw p.1 (rw p.2 (stops (g.C.ObjectCodec.encoded c.args.world.now.codec) (g.C.ObjectCodec.decoded c.args.world.now.codec) (g.E.EpochField.epoch_of c.args.world.now.epochs) (g.E.EpochField.with_epoch c.args.world.now.epochs) c.args.world.now.state c.args.op before.went.0 c.loop-told.world.state c.next_event-event.result c.in_err-told.field-0.0 c.take.new.self.state before.went.1 before.runs c.next_event-event.ensures
    (rw (← before.codec, ← before.epochs) c.in_err-told.ensures.refused) (ap (λ w. w.state) c.in_err-told.ensures.err)))

pub overflow_add-events : goal.overflow_add-events
overflow_add-events g c =
    let before = c.loop-told.invariant in
    let most = in_limit (g.C.ObjectCodec.encoded c.args.world.now.codec) (g.C.ObjectCodec.decoded c.args.world.now.codec) (g.E.EpochField.epoch_of c.args.world.now.epochs) (g.E.EpochField.with_epoch c.args.world.now.epochs) c.args.world.now.state c.args.op (is_reached _ _ _ _ _ before.ends) before.began before.went.0 c.loop-told.world.state before.went.1.own before.went.1.runs in
    let small = limit_small (numbered c.args.world.now.state.operations c.args.op) in
    let counted = before.went.2 in
    omega (arith, most, small, counted)

pub returns-in-Some-clause-ok : goal.returns-in-Some-clause-ok
returns-in-Some-clause-ok g c =
    let before = c.loop-told.invariant in
    finishes (g.C.ObjectCodec.encoded c.args.world.now.codec) (g.C.ObjectCodec.decoded c.args.world.now.codec) (g.E.EpochField.epoch_of c.args.world.now.epochs) (g.E.EpochField.with_epoch c.args.world.now.epochs) c.args.world.now.state c.args.op before.went.0 c.loop-told.world.state c.next_event-event.result c.in_ok-told.told c.in-Some.answer c.loop-told.events c.take.new.self.state (is_reached _ _ _ _ _ before.ends) before.began before.went.1 before.runs c.next_event-event.ensures
    (rw (← before.codec, ← before.epochs) c.in_ok-told.ensures.ok) (sym c.answer_told.ensures ∙ c.in-Some.is) before.went.2

pub loop-told-smaller : goal.loop-told-smaller
loop-told-smaller g c =
    let before = c.loop-told.invariant in
    let on = goes_more (g.C.ObjectCodec.encoded c.args.world.now.codec) (g.C.ObjectCodec.decoded c.args.world.now.codec) (g.E.EpochField.epoch_of c.args.world.now.epochs) (g.E.EpochField.with_epoch c.args.world.now.epochs) c.args.world.now.state c.args.op before.went.0 c.loop-told.world.state c.next_event-event.result c.in_ok-told.told c.take.new.self.state before.went.1 before.runs c.next_event-event.ensures
    (rw (← before.codec, ← before.epochs) c.in_ok-told.ensures.ok) (sym c.answer_told.ensures ∙ c.in_default-answer_told.is) in
    let most = in_limit (g.C.ObjectCodec.encoded c.args.world.now.codec) (g.C.ObjectCodec.decoded c.args.world.now.codec) (g.E.EpochField.epoch_of c.args.world.now.epochs) (g.E.EpochField.with_epoch c.args.world.now.epochs) c.args.world.now.state c.args.op (is_reached _ _ _ _ _ before.ends) before.began (before.went.0 ++ (c.next_event-event.result, c.in_ok-told.told) ∷ []) c.take.new.self.state on.1.own on.1.runs in
    let long = length-append before.went.0 ((c.next_event-event.result, c.in_ok-told.told) ∷ []) in
    let counted = before.went.2 in
    omega (arith, most, long, counted)

pub loop-told-preserved : goal.loop-told-preserved
loop-told-preserved g c =
    let before = c.loop-told.invariant in
    let on = goes_more (g.C.ObjectCodec.encoded c.args.world.now.codec) (g.C.ObjectCodec.decoded c.args.world.now.codec) (g.E.EpochField.epoch_of c.args.world.now.epochs) (g.E.EpochField.with_epoch c.args.world.now.epochs) c.args.world.now.state c.args.op before.went.0 c.loop-told.world.state c.next_event-event.result c.in_ok-told.told c.take.new.self.state before.went.1 before.runs c.next_event-event.ensures
    (rw (← before.codec, ← before.epochs) c.in_ok-told.ensures.ok) (sym c.answer_told.ensures ∙ c.in_default-answer_told.is) in
    let long = length-append before.went.0 ((c.next_event-event.result, c.in_ok-told.told) ∷ []) in
    let counted = before.went.2 in
    record {
      codec = c.take.ensures.codec ∙ before.codec;
      epochs = c.take.ensures.epochs ∙ before.epochs;
      ends = before.ends;
      began = before.began;
      runs = on.0;
      went = (before.went.0 ++ (c.next_event-event.result, c.in_ok-told.told) ∷ [], on.1, omega (arith, long, counted));
    }
