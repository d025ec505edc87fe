use Rattle.std.proofs.Common.{rules, ◌+◌, None, Some, refl, ap}
use Rattle.std.proofs.lemmas.Result.{err_from_is_err_and}
use Rattle.txn_machine.specs.plain.Doing.{first_of}
use Rattle.txn_client_journals.specs.declared.rows.Step.TheVariants as steps
use Rattle.txnobj.specs.clients.Calling.{begun_in}
use Rattle.txnobj.proofs.clients.Beginning.{begins_with, cuts_begun, cuts_answered}
use Rattle.txnobj.proofs.clients.Calling.{going, ended}
use Rattle.txnobj.proofs.clients.Counting.{count_same}
use Rattle.txnobj.proofs.clients.work.Work.begin.Goals as goal

pub returns-in-Goes-clause-ok : goal.returns-in-Goes-clause-ok
returns-in-Goes-clause-ok g c =
    let old = c.args.self.now.keeper in
    let found = first_of c.in-Ok.answers in (
      ap (λ n. n + 1) c.begun-op.ensures.is,
      begins_with g.R.Recorder.hands g.S.Serve.serves _ c.args.call.now found None (c.begun-op.result + 1) old c.hear.new.self.keeper c.args.self.now.recorder _ c.hear.new.self.recorder c.args.self.now.store c.hear.new.self.store (begun_in old) (begun_in c.hear.new.self.keeper)
          (c.begin.new.self, c.in-Ok.ensures.ok, c.hear.ensures.keeper) (ap (λ n. n + 1) c.begun-op.ensures.is) c.in_ok-begun.ensures c.in_ok-hear.ensures.happened (going found (search rules)) (count_same g.C.ObjectCodec.encoded g.C.ObjectCodec.decoded g.E.EpochField.epoch_of g.E.EpochField.with_epoch old c.begin.new.self c.hear.new.self.keeper (steps.Begin c.args.call.now) found c.in-Ok.ensures.ok c.hear.ensures.keeper),
    )

pub returns-in-Answered-clause-ok : goal.returns-in-Answered-clause-ok
returns-in-Answered-clause-ok g c =
    let old = c.args.self.now.keeper in
    let found = first_of c.in-Ok.answers in
    begins_with g.R.Recorder.hands g.S.Serve.serves _ c.args.call.now found (Some c.in-Answered.answer) (c.begun-op.result + 1) old c.hear.new.self.keeper c.args.self.now.recorder _ c.hear.new.self.recorder c.args.self.now.store c.hear.new.self.store (begun_in old) (begun_in c.hear.new.self.keeper)
    (c.begin.new.self, c.in-Ok.ensures.ok, c.hear.ensures.keeper) (ap (λ n. n + 1) c.begun-op.ensures.is) c.in_ok-begun.ensures c.in_ok-hear.ensures.happened (ended found c.in-Answered.answer (search rules)) (count_same g.C.ObjectCodec.encoded g.C.ObjectCodec.decoded g.E.EpochField.epoch_of g.E.EpochField.with_epoch old c.begin.new.self c.hear.new.self.keeper (steps.Begin c.args.call.now) found c.in-Ok.ensures.ok c.hear.ensures.keeper)

pub returns-in_err-begun-clause-err : goal.returns-in_err-begun-clause-err
returns-in_err-begun-clause-err g c =
    let p = err_from_is_err_and c.from_residual.result c.from_residual.ensures.1 in
    rw (p.1, p.2) (cuts_begun g.R.Recorder.hands g.S.Serve.serves _ c.args.call.now (first_of c.in-Ok.answers) _ c.args.self.now.keeper _ c.args.self.now.recorder _ c.args.self.now.store _ (begun_in c.args.self.now.keeper) (c.begin.new.self, c.in-Ok.ensures.ok, refl) tt refl)

pub returns-in_err-hear-clause-err : goal.returns-in_err-hear-clause-err
returns-in_err-hear-clause-err g c =
    let p = err_from_is_err_and c.from_residual-in_err-hear.result c.from_residual-in_err-hear.ensures.1 in
    rw (p.1, p.2) (cuts_answered g.R.Recorder.hands g.S.Serve.serves _ c.args.call.now (first_of c.in-Ok.answers) (c.begun-op.result + 1) _ c.args.self.now.keeper c.hear.new.self.keeper c.args.self.now.recorder _ c.hear.new.self.recorder c.args.self.now.store c.hear.new.self.store (begun_in c.args.self.now.keeper)
    (c.begin.new.self, c.in-Ok.ensures.ok, c.hear.ensures.keeper) (ap (λ n. n + 1) c.begun-op.ensures.is) c.in_ok-begun.ensures c.in_err-hear.ensures.err)
