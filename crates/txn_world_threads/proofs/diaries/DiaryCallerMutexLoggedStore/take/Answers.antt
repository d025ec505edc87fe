use Rattle.txn_world_threads.proofs.Doing.{took_begin, took_step}
use Rattle.txn_world_threads.proofs.diaries.DiaryCallerMutexLoggedStore.take.Goals as goal

pub returns-in_ok-begin-in-Begin-clause-took : goal.returns-in_ok-begin-in-Begin-clause-took
returns-in_ok-begin-in-Begin-clause-took g c =
    let tells = c.in_ok-begin-in-Begin.ensures.ok in
    took_begin c.args.self.now c.begin.new.self c.args.next c.in-Begin.call c.hear.result _ tells.answer c.in-Begin.is c.hear.ensures tells.said_is tells.adds.rows

pub returns-in_ok-step-in-Step-clause-took : goal.returns-in_ok-step-in-Step-clause-took
returns-in_ok-step-in-Step-clause-took g c =
    let acts = c.in_ok-step-in-Step.ensures.ok in
    took_step c.args.self.now c.step.new.self c.args.next c.in-Step.op acts.0 c.hear-in-Step.result _ acts.2.answer c.in-Step.is acts.1 c.hear-in-Step.ensures acts.2.said_is acts.2.adds.rows
