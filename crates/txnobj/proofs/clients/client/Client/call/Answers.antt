use Rattle.std.proofs.Common.{rules, ◌≡◌, true, false, refl, sym, Some, IfOk, IfErr, subst}
use Rattle.std.proofs.lemmas.Result.{err_from_is_err_and}
use Rattle.txn_diary.specs.Keepers.{keeper_refusal, Does, DoesAndForgets}
use Rattle.txnobj.specs.clients.Calling.{ClientState, begun_in, MakesCall, Stops}
use Rattle.txnobj.proofs.clients.Recording.{done_ok, done_err, done_cut}
use Rattle.txnobj.proofs.clients.Going.{does_forgetting, makes_forgetting, stops_so}
use Rattle.txnobj.proofs.clients.client.Client.call.Goals as goal

pub returns-clause-ok : goal.returns-clause-ok
returns-clause-ok g c =
    let w = c.self.inside.work in
    let n = c.call-done.new.self in
    let is : c.self.inside.goes_on ≡ true = search rules in
    let old : ClientState _ _ _ _ _ = record { keeper = w.keeper; recorder = w.recorder; store = w.store; goes_on = true } in
    let new : ClientState _ _ _ _ _ = record { keeper = n.keeper; recorder = n.recorder; store = n.store; goes_on = true } in
    let made : MakesCall g.R.Recorder.hands g.S.Serve.serves (Does g.C.ObjectCodec.encoded g.C.ObjectCodec.decoded g.E.EpochField.epoch_of g.E.EpochField.with_epoch) c.args.steps c.args.call (Some c.in_ok-answer.answer) old new = subst (λ r. IfOk r (λ answer. MakesCall g.R.Recorder.hands g.S.Serve.serves (Does g.C.ObjectCodec.encoded g.C.ObjectCodec.decoded g.E.EpochField.epoch_of g.E.EpochField.with_epoch) c.args.steps c.args.call (Some answer) old new)) (sym c.in_ok-answer.ensures)
    (done_ok g.R.Recorder.hands g.S.Serve.serves (Does g.C.ObjectCodec.encoded g.C.ObjectCodec.decoded g.E.EpochField.epoch_of g.E.EpochField.with_epoch) (keeper_refusal (g.E.EpochField.epoch_of w.keeper.epochs) w.keeper c.args.call) c.args.steps c.args.call w.keeper n.keeper w.recorder n.recorder w.store n.store (begun_in w.keeper) (begun_in n.keeper) c.in_ok-done.done refl c.in_ok-done.ensures.ok) in
    rw (← c.self.view_is) (rw is (makes_forgetting g.C.ObjectCodec.encoded g.C.ObjectCodec.decoded g.E.EpochField.epoch_of g.E.EpochField.with_epoch g.R.Recorder.hands g.S.Serve.serves c.args.steps c.args.call (Some c.in_ok-answer.answer) old new c.forget.new.self made c.forget.ensures.forgets))

pub returns-in_err-answer-clause-err : goal.returns-in_err-answer-clause-err
returns-in_err-answer-clause-err g c =
    let w = c.self.inside.work in
    let n = c.call-done.new.self in
    let is : c.self.inside.goes_on ≡ true = search rules in
    let p = err_from_is_err_and c.from_residual-in_err-answer.result c.from_residual-in_err-answer.ensures.1 in
    let old : ClientState _ _ _ _ _ = record { keeper = w.keeper; recorder = w.recorder; store = w.store; goes_on = true } in
    let new : ClientState _ _ _ _ _ = record { keeper = n.keeper; recorder = n.recorder; store = n.store; goes_on = true } in
    let stopped = subst (λ r. IfErr r (Stops g.R.Recorder.hands g.S.Serve.serves (Does g.C.ObjectCodec.encoded g.C.ObjectCodec.decoded g.E.EpochField.epoch_of g.E.EpochField.with_epoch) (keeper_refusal (g.E.EpochField.epoch_of w.keeper.epochs) w.keeper c.args.call) c.args.steps c.args.call old new)) (sym c.in_err-answer.ensures)
    (done_err g.R.Recorder.hands g.S.Serve.serves (Does g.C.ObjectCodec.encoded g.C.ObjectCodec.decoded g.E.EpochField.epoch_of g.E.EpochField.with_epoch) (keeper_refusal (g.E.EpochField.epoch_of w.keeper.epochs) w.keeper c.args.call) c.args.steps c.args.call w.keeper n.keeper w.recorder n.recorder w.store n.store (begun_in w.keeper) (begun_in n.keeper) c.in_ok-done.done refl c.in_ok-done.ensures.ok) in
    rw (← c.self.view_is) (rw is (rw (p.1, p.2) (stops_so (Does g.C.ObjectCodec.encoded g.C.ObjectCodec.decoded g.E.EpochField.epoch_of g.E.EpochField.with_epoch) (DoesAndForgets g.C.ObjectCodec.encoded g.C.ObjectCodec.decoded g.E.EpochField.epoch_of g.E.EpochField.with_epoch) (does_forgetting g.C.ObjectCodec.encoded g.C.ObjectCodec.decoded g.E.EpochField.epoch_of g.E.EpochField.with_epoch) g.R.Recorder.hands g.S.Serve.serves (keeper_refusal (g.E.EpochField.epoch_of w.keeper.epochs) w.keeper c.args.call) c.args.steps c.args.call (record { keeper = w.keeper; recorder = w.recorder; store = w.store; goes_on = true }) (record { keeper = n.keeper; recorder = n.recorder; store = n.store; goes_on = true }) _ (stopped))))

pub returns-in_err-done-clause-err : goal.returns-in_err-done-clause-err
returns-in_err-done-clause-err g c =
    let w = c.self.inside.work in
    let n = c.call-done.new.self in
    let is : c.self.inside.goes_on ≡ true = search rules in
    let p = err_from_is_err_and c.from_residual.result c.from_residual.ensures.1 in
    rw (← c.self.view_is) (rw is (rw (p.1, p.2) (stops_so (Does g.C.ObjectCodec.encoded g.C.ObjectCodec.decoded g.E.EpochField.epoch_of g.E.EpochField.with_epoch) (DoesAndForgets g.C.ObjectCodec.encoded g.C.ObjectCodec.decoded g.E.EpochField.epoch_of g.E.EpochField.with_epoch) (does_forgetting g.C.ObjectCodec.encoded g.C.ObjectCodec.decoded g.E.EpochField.epoch_of g.E.EpochField.with_epoch) g.R.Recorder.hands g.S.Serve.serves (keeper_refusal (g.E.EpochField.epoch_of w.keeper.epochs) w.keeper c.args.call) c.args.steps c.args.call (record { keeper = w.keeper; recorder = w.recorder; store = w.store; goes_on = true }) (record { keeper = n.keeper; recorder = n.recorder; store = n.store; goes_on = false }) _ (done_cut g.R.Recorder.hands g.S.Serve.serves (Does g.C.ObjectCodec.encoded g.C.ObjectCodec.decoded g.E.EpochField.epoch_of g.E.EpochField.with_epoch) (keeper_refusal (g.E.EpochField.epoch_of w.keeper.epochs) w.keeper c.args.call) c.args.steps c.args.call w.keeper n.keeper w.recorder n.recorder w.store n.store (begun_in w.keeper) _ refl c.in_err-done.ensures.err))))
