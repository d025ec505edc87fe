use Rattle.txnobj.specs.clients.Calling.{begun_in}
use Rattle.txn_diary.specs.Keepers.{Does}
use Rattle.std.proofs.Common.{rules, arith, ◌≡◌, ◌+◌, None, Some, refl, subst}
use Rattle.std.proofs.lemmas.Result.{err_from_is_err_and}
use Rattle.txnobj.specs.clients.Working.{CallsAs}
use Rattle.txnobj.proofs.clients.Calling.{cut_first, cut_step, cut_spent, calls_first, calls_on, calls_done, calls_end, calls_spent}
use Rattle.txnobj.proofs.clients.work.Work.call.Goals as goal

pub returns-in-Answered-clause-ok : goal.returns-in-Answered-clause-ok
returns-in-Answered-clause-ok g c =
    calls_done g.R.Recorder.hands g.S.Serve.serves _ (begun_in c.args.self.now.keeper + 1) c.args.steps 0 c.args.call.now c.in-Answered.answer c.args.self.now.keeper _ _ _ c.begin.new.self.keeper _ _ _
    (calls_first g.R.Recorder.hands g.S.Serve.serves _ (begun_in c.args.self.now.keeper + 1) c.args.call.now (Some c.in-Answered.answer) c.args.self.now.keeper _ _ _ c.begin.new.self.keeper _ _ _ refl (search rules)) (omega arith)

pub loop-taken-init : goal.loop-taken-init
loop-taken-init g c = calls_first g.R.Recorder.hands g.S.Serve.serves _ c.in-Goes.op c.args.call.now None c.args.self.now.keeper _ _ _ c.begin.new.self.keeper _ _ _ (search rules) (search rules)

pub returns-in-Answered-2-clause-ok : goal.returns-in-Answered-2-clause-ok
returns-in-Answered-2-clause-ok g c = calls_end g.R.Recorder.hands g.S.Serve.serves _ c.in-Goes.op c.args.steps c.loop-taken._taken c.args.call.now c.in-Answered-2.answer c.args.self.now.keeper c.loop-taken.self.keeper c.step.new.self.keeper _ _ _ _ _ _ _ _ _ c.loop-taken.invariant (search rules) (omega arith)

pub loop-taken-preserved : goal.loop-taken-preserved
loop-taken-preserved g c = calls_on g.R.Recorder.hands g.S.Serve.serves _ c.in-Goes.op c.loop-taken._taken c.args.call.now c.args.self.now.keeper c.loop-taken.self.keeper c.step.new.self.keeper _ _ _ _ _ _ _ _ _ c.loop-taken.invariant (search rules)

pub returns-clause-ok : goal.returns-clause-ok
returns-clause-ok g c =
    let all : c.loop-taken._taken ≡ c.args.steps = omega arith in
    calls_spent g.R.Recorder.hands g.S.Serve.serves _ c.in-Goes.op c.args.steps c.args.call.now c.args.self.now.keeper c.loop-taken.self.keeper c.give_up.new.self.keeper _ _ _ _ _ _ _ _ _
    (subst (λ taken. CallsAs g.R.Recorder.hands g.S.Serve.serves (Does g.C.ObjectCodec.encoded g.C.ObjectCodec.decoded g.E.EpochField.epoch_of g.E.EpochField.with_epoch) c.in-Goes.op taken c.args.call.now None c.args.self.now.keeper c.args.self.now.recorder c.args.self.now.store (begun_in c.args.self.now.keeper) c.loop-taken.self.keeper c.loop-taken.self.recorder c.loop-taken.self.store (begun_in c.loop-taken.self.keeper)) all c.loop-taken.invariant) (search rules)

pub returns-in_err-fault-clause-err : goal.returns-in_err-fault-clause-err
returns-in_err-fault-clause-err g c =
    let p = err_from_is_err_and c.from_residual.result c.from_residual.ensures.1 in
    rw (p.1, p.2) (cut_first g.R.Recorder.hands g.S.Serve.serves _ (begun_in c.args.self.now.keeper) c.args.steps c.args.call.now _ c.args.self.now.keeper c.begin.new.self.keeper _ _ _ _ c.in_err-fault.ensures.err)

pub returns-in_err-answer-clause-err : goal.returns-in_err-answer-clause-err
returns-in_err-answer-clause-err g c =
    let p = err_from_is_err_and c.from_residual-in_err-answer.result c.from_residual-in_err-answer.ensures.1 in
    rw (p.1, p.2) (cut_step g.R.Recorder.hands g.S.Serve.serves _ c.in-Goes.op c.args.steps c.loop-taken._taken c.args.call.now _ c.args.self.now.keeper c.loop-taken.self.keeper c.step.new.self.keeper _ _ _ _ _ _ _ _ c.loop-taken.invariant c.in_err-answer.ensures.err (omega arith))

pub returns-in_err-give_up-clause-err : goal.returns-in_err-give_up-clause-err
returns-in_err-give_up-clause-err g c =
    let p = err_from_is_err_and c.from_residual-in_err-give_up.result c.from_residual-in_err-give_up.ensures.1 in
    rw (p.1, p.2) (cut_spent g.R.Recorder.hands g.S.Serve.serves _ c.in-Goes.op c.args.steps c.args.call.now _ c.args.self.now.keeper c.loop-taken.self.keeper c.give_up.new.self.keeper _ _ _ _ _ _ _ _
    (subst (λ taken. CallsAs g.R.Recorder.hands g.S.Serve.serves (Does g.C.ObjectCodec.encoded g.C.ObjectCodec.decoded g.E.EpochField.epoch_of g.E.EpochField.with_epoch) c.in-Goes.op taken c.args.call.now None c.args.self.now.keeper c.args.self.now.recorder c.args.self.now.store (begun_in c.args.self.now.keeper) c.loop-taken.self.keeper c.loop-taken.self.recorder c.loop-taken.self.store (begun_in c.loop-taken.self.keeper)) (omega arith) c.loop-taken.invariant) c.in_err-give_up.ensures.err)
