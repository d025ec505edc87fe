use Rattle.std.proofs.Common.{refl, ◌∷◌, []}
use Rattle.std.proofs.lemmas.Result.{err_from_is_err_and, IfErr-weaker}
use Rattle.txn_machine.specs.plain.Doing.{first_of}
use Rattle.txn_client_journals.specs.declared.rows.Act.TheVariants as acts
use Rattle.txn_client_journals.specs.declared.rows.Step.TheVariants as steps
use Rattle.txnobj.specs.clients.Noted.{Replied}
use Rattle.txnobj.specs.clients.Happenings.{Handed, Served}
use Rattle.txnobj.specs.clients.Calling.{begun_in}
use Rattle.txnobj.proofs.clients.Asking.{takes_asked}
use Rattle.txnobj.proofs.clients.Counting.{count_same}
use Rattle.txnobj.proofs.clients.Stopping.{until_failed, until_more, until_lacks, cuts_untold, cuts_heard}
use Rattle.txnobj.proofs.clients.work.Work.take.Goals as goal

pub returns-clause-ok : goal.returns-clause-ok
returns-clause-ok g c request asks =
    let old = c.args.self.now.keeper in
    let answer = first_of c.in-Ok.answers in
    takes_asked g.R.Recorder.hands g.S.Serve.serves _ c.hear.result c.args.op request (Served request c.args.reply) (Replied c.args.op c.args.reply) (acts.Receive (record { place = 0; request = request; reply = c.args.reply })) answer old c.hear.new.self.keeper c.args.self.now.recorder _ c.hear.new.self.recorder c.args.self.now.store c.hear.new.self.store (begun_in old) (begun_in c.hear.new.self.keeper) (c.requires.kind request asks)
    refl (c.reply-2.new.self, (c.in-Ok.ensures.ok request 0 asks), c.hear.ensures.keeper) c.in_ok-replied.ensures (count_same g.C.ObjectCodec.encoded g.C.ObjectCodec.decoded g.E.EpochField.epoch_of g.E.EpochField.with_epoch old c.reply-2.new.self c.hear.new.self.keeper (steps.Act c.args.op (acts.Receive (record { place = 0; request = request; reply = c.args.reply }))) answer (c.in-Ok.ensures.ok request 0 asks) c.hear.ensures.keeper) c.hear.ensures.heard c.hear.ensures.happened

pub returns-in_err-replied-clause-err : goal.returns-in_err-replied-clause-err
returns-in_err-replied-clause-err g c request asks =
    let p = err_from_is_err_and c.from_residual.result c.from_residual.ensures.1 in
    rw (p.1, p.2) (cuts_untold g.R.Recorder.hands g.S.Serve.serves _ c.args.op (acts.Receive (record { place = 0; request = request; reply = c.args.reply })) request (Served request c.args.reply) _ (Handed (Replied c.args.op c.args.reply) ∷ []) c.args.self.now.keeper _ c.args.self.now.recorder _ c.args.self.now.store _ (c.requires.kind request asks) refl (refl, asks) refl
    (until_failed g.R.Recorder.hands g.S.Serve.serves _ (Replied c.args.op c.args.reply) [] c.args.self.now.recorder _ c.args.self.now.store _ tt refl))

pub returns-in_default-clause-err : goal.returns-in_default-clause-err
returns-in_default-clause-err g c request asks =
    cuts_untold g.R.Recorder.hands g.S.Serve.serves _ c.args.op (acts.Receive (record { place = 0; request = request; reply = c.args.reply })) request (Served request c.args.reply) _ (Handed (Replied c.args.op c.args.reply) ∷ []) c.args.self.now.keeper _ c.args.self.now.recorder _ c.args.self.now.store _ (c.requires.kind request asks) refl (refl, asks) c.in_default.ensures.err
    (until_more g.R.Recorder.hands g.S.Serve.serves _ (Handed (Replied c.args.op c.args.reply) ∷ []) [] c.args.self.now.recorder _ _ c.args.self.now.store _ _ (_, _, (c.in_ok-replied.ensures, refl), (refl, refl)) (until_lacks g.R.Recorder.hands g.S.Serve.serves [] _ _ _ _ refl refl))

pub returns-clause-err : goal.returns-clause-err
returns-clause-err g c request asks =
    IfErr-weaker c.hear.result _ _ (λ stop until. cuts_heard g.R.Recorder.hands g.S.Serve.serves _ c.args.op (acts.Receive (record { place = 0; request = request; reply = c.args.reply })) (first_of c.in-Ok.answers) request (Served request c.args.reply) (Replied c.args.op c.args.reply) stop c.args.self.now.keeper c.hear.new.self.keeper c.args.self.now.recorder _ c.hear.new.self.recorder c.args.self.now.store c.hear.new.self.store (c.requires.kind request asks)
    refl (c.reply-2.new.self, (c.in-Ok.ensures.ok request 0 asks), c.hear.ensures.keeper) c.in_ok-replied.ensures until) c.hear.ensures.err
