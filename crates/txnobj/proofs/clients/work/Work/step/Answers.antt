use Rattle.std.proofs.Common.{refl, sym, true≢false, ◌∙◌}
use Rattle.std.proofs.lemmas.Result.{IfErr-weaker}
use Rattle.txnobj.specs.clients.Calling.{begun_in}
use Rattle.txnobj.specs.clients.Happenings.{Served, CallFailed}
use Rattle.txnobj.proofs.clients.Asking.{asks_step}
use Rattle.txnobj.proofs.clients.Stopping.{cuts_asked}
use Rattle.txnobj.proofs.clients.work.Work.step.Goals as goal

pub returns-then-has_failed-clause-ok : goal.returns-then-has_failed-clause-ok
returns-then-has_failed-clause-ok g c =
    let old = c.args.self.now in
    let called = rw c.in-Some.is at c.in_ok-reply.ensures.ok in
    asks_step g.R.Recorder.hands g.S.Serve.serves _ c.fail.result c.args.op called.request (CallFailed called.request) old.keeper c.fail.new.self.keeper old.recorder _ c.fail.new.self.recorder old.store _ c.fail.new.self.store (begun_in old.keeper) (begun_in c.fail.new.self.keeper)
    called.handed (c.in-Some.reply, refl, called.served, c.has_failed.ensures.0 c.if-has_failed.true) ((rw c.in_ok-reply.ensures.keeper at c.fail.ensures.ok) called.request called.asks)

pub returns-else-has_failed-clause-ok : goal.returns-else-has_failed-clause-ok
returns-else-has_failed-clause-ok g c =
    let old = c.args.self.now in
    let called = rw c.in-Some.is at c.in_ok-reply.ensures.ok in
    asks_step g.R.Recorder.hands g.S.Serve.serves _ c.take.result c.args.op called.request (Served called.request c.in-Some.reply) old.keeper c.take.new.self.keeper old.recorder _ c.take.new.self.recorder old.store _ c.take.new.self.store (begun_in old.keeper) (begun_in c.take.new.self.keeper)
    called.handed (refl, called.served, λ says. true≢false (sym (c.has_failed.ensures.1 says) ∙ c.if-has_failed.false)) ((rw c.in_ok-reply.ensures.keeper at c.take.ensures.ok) called.request called.asks)

pub returns-then-has_failed-clause-err : goal.returns-then-has_failed-clause-err
returns-then-has_failed-clause-err g c =
    let old = c.args.self.now in
    let called = rw c.in-Some.is at c.in_ok-reply.ensures.ok in
    IfErr-weaker c.fail.result _ _ (λ stop cuts. cuts_asked g.R.Recorder.hands g.S.Serve.serves _ c.args.op (begun_in old.keeper) called.request (CallFailed called.request) stop old.keeper c.fail.new.self.keeper old.recorder _ c.fail.new.self.recorder old.store _ c.fail.new.self.store
    called.handed (c.in-Some.reply, refl, called.served, c.has_failed.ensures.0 c.if-has_failed.true) cuts) ((rw c.in_ok-reply.ensures.keeper at c.fail.ensures.err) called.request called.asks)

pub returns-else-has_failed-clause-err : goal.returns-else-has_failed-clause-err
returns-else-has_failed-clause-err g c =
    let old = c.args.self.now in
    let called = rw c.in-Some.is at c.in_ok-reply.ensures.ok in
    IfErr-weaker c.take.result _ _ (λ stop cuts. cuts_asked g.R.Recorder.hands g.S.Serve.serves _ c.args.op (begun_in old.keeper) called.request (Served called.request c.in-Some.reply) stop old.keeper c.take.new.self.keeper old.recorder _ c.take.new.self.recorder old.store _ c.take.new.self.store
    called.handed (refl, called.served, λ says. true≢false (sym (c.has_failed.ensures.1 says) ∙ c.if-has_failed.false)) cuts) ((rw c.in_ok-reply.ensures.keeper at c.take.ensures.err) called.request called.asks)
