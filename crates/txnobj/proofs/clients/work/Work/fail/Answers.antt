use Rattle.std.proofs.Common.{◌≡◌, ◌∷◌, [], Some, refl, ap}
use Rattle.std.proofs.lemmas.Result.{err_from_is_err_and, IfErr-weaker}
use Rattle.txn_store.specs.declared.request.Request.{Request}
use Rattle.txn_history.specs.Lists.{numbered}
use Rattle.txn_history.specs.Seen.{Store}
use Rattle.txn_diary.specs.Keepers.{keeper_asked}
use Rattle.txn_machine.specs.plain.Doing.{first_of}
use Rattle.txn_client_journals.specs.declared.rows.Act.TheVariants as acts
use Rattle.txn_client_journals.specs.declared.rows.Step.TheVariants as steps
use Rattle.txnobj.specs.clients.Noted.{Asked, Failed}
use Rattle.txnobj.specs.clients.Happenings.{Handed, CallFailed}
use Rattle.txnobj.specs.clients.Calling.{begun_in}
use Rattle.txnobj.proofs.clients.Asking.{takes_asked, fails_asked}
use Rattle.txnobj.proofs.clients.Counting.{count_same}
use Rattle.txnobj.proofs.clients.Stopping.{until_failed, until_lacks, cuts_untold, cuts_told, cuts_heard}
use Rattle.txnobj.proofs.clients.work.Work.fail.Goals.{In-Ok}
use Rattle.txnobj.proofs.clients.work.Work.fail.Goals as goal

-- the store call that failed is the one that was asked for
same : (g : _) (c : In-Ok g) (request : Request) → keeper_asked c.args.self.now.keeper c.args.op ≡ Some (Store request) → c.in-Ok.did.0 ≡ request
same g c request asks =
    let k = c.args.self.now.keeper in
    let at = c.in-Ok.ensures.ok.follows in
    fails_asked k.alive (numbered k.part.operations c.args.op) at.operation c.in-Ok.did.0 request at.found at.asks asks

pub returns-clause-ok : goal.returns-clause-ok
returns-clause-ok g c request asks =
    let old = c.args.self.now.keeper in
    let answer = first_of c.in-Ok.did.1 in
    takes_asked g.R.Recorder.hands g.S.Serve.serves _ c.hear.result c.args.op request (CallFailed request) (Failed c.args.op) (acts.Fails c.in-Ok.did.0) answer old c.hear.new.self.keeper c.args.self.now.recorder _ c.hear.new.self.recorder c.args.self.now.store c.hear.new.self.store (begun_in old) (begun_in c.hear.new.self.keeper) tt
    (ap (λ (r : Request). Handed (Asked c.args.op r) ∷ CallFailed r ∷ Handed (Failed c.args.op) ∷ []) (same g (goal.at.returns-clause-ok g c).In-Ok request asks)) (c.failed.new.self, c.in-Ok.ensures.ok, c.hear.ensures.keeper) c.in_ok-failed.ensures (count_same g.C.ObjectCodec.encoded g.C.ObjectCodec.decoded g.E.EpochField.epoch_of g.E.EpochField.with_epoch old c.failed.new.self c.hear.new.self.keeper (steps.Act c.args.op (acts.Fails c.in-Ok.did.0)) answer c.in-Ok.ensures.ok c.hear.ensures.keeper) c.hear.ensures.heard c.hear.ensures.happened

pub returns-in_default-clause-err : goal.returns-in_default-clause-err
returns-in_default-clause-err g c request asks =
    cuts_untold g.R.Recorder.hands g.S.Serve.serves _ c.args.op (acts.Fails request) request (CallFailed request) _ (Handed (Failed c.args.op) ∷ []) c.args.self.now.keeper _ c.args.self.now.recorder _ c.args.self.now.store _ tt refl (refl, asks) c.in_default.ensures.err
    (until_lacks g.R.Recorder.hands g.S.Serve.serves (Handed (Failed c.args.op) ∷ []) c.args.self.now.recorder _ c.args.self.now.store _ refl refl)

pub returns-in_err-failed-clause-err : goal.returns-in_err-failed-clause-err
returns-in_err-failed-clause-err g c request asks =
    let p = err_from_is_err_and c.from_residual.result c.from_residual.ensures.1 in
    rw (p.1, p.2) (cuts_told g.R.Recorder.hands g.S.Serve.serves _ c.args.op (acts.Fails c.in-Ok.did.0) (first_of c.in-Ok.did.1) request (CallFailed request) (Failed c.args.op) _ c.args.self.now.keeper _ c.args.self.now.recorder _ c.args.self.now.store _ tt
    (ap (λ (r : Request). Handed (Asked c.args.op r) ∷ CallFailed r ∷ Handed (Failed c.args.op) ∷ []) (same g (goal.at.returns-in_err-failed-clause-err g c).In-Ok request asks)) (c.failed.new.self, c.in-Ok.ensures.ok, refl) (until_failed g.R.Recorder.hands g.S.Serve.serves _ (Failed c.args.op) _ c.args.self.now.recorder _ c.args.self.now.store _ tt refl))

pub returns-clause-err : goal.returns-clause-err
returns-clause-err g c request asks =
    IfErr-weaker c.hear.result _ _ (λ stop until. cuts_heard g.R.Recorder.hands g.S.Serve.serves _ c.args.op (acts.Fails c.in-Ok.did.0) (first_of c.in-Ok.did.1) request (CallFailed request) (Failed c.args.op) stop c.args.self.now.keeper c.hear.new.self.keeper c.args.self.now.recorder _ c.hear.new.self.recorder c.args.self.now.store c.hear.new.self.store tt
    (ap (λ (r : Request). Handed (Asked c.args.op r) ∷ CallFailed r ∷ Handed (Failed c.args.op) ∷ []) (same g (goal.at.returns-clause-err g c).In-Ok request asks)) (c.failed.new.self, c.in-Ok.ensures.ok, c.hear.ensures.keeper) c.in_ok-failed.ensures until) c.hear.ensures.err
