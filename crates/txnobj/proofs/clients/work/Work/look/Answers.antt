use Rattle.std.proofs.Common.{refl}
use Rattle.std.proofs.lemmas.Result.{IfErr-weaker}
use Rattle.txn_machine.specs.plain.Doing.{first_of}
use Rattle.txn_client_journals.specs.declared.rows.Act.TheVariants as acts
use Rattle.txn_client_journals.specs.declared.rows.Step.TheVariants as steps
use Rattle.txnobj.specs.clients.Calling.{begun_in, IsLookOrCall}
use Rattle.txnobj.proofs.clients.Asking.{looks_so}
use Rattle.txnobj.proofs.clients.Counting.{count_same}
use Rattle.txnobj.proofs.clients.Stopping.{cuts_none, looks_cut}
use Rattle.txnobj.proofs.clients.work.Work.look.Goals as goal

pub returns-in_default-clause-err : goal.returns-in_default-clause-err
returns-in_default-clause-err g c = cuts_none g.R.Recorder.hands g.S.Serve.serves _ IsLookOrCall c.args.op (begun_in c.args.self.now.keeper) c.args.self.now.keeper _ c.args.self.now.recorder _ c.args.self.now.store _ c.in_default.ensures.err refl refl

pub returns-clause-ok : goal.returns-clause-ok
returns-clause-ok g c =
    let old = c.args.self.now.keeper in
    let answer = first_of c.in-Ok.answers in
    looks_so g.R.Recorder.hands g.S.Serve.serves _ c.hear.result c.args.op answer old c.hear.new.self.keeper c.args.self.now.recorder c.hear.new.self.recorder c.args.self.now.store c.hear.new.self.store (begun_in old) (begun_in c.hear.new.self.keeper)
    (c.look.new.self, c.in-Ok.ensures.ok, c.hear.ensures.keeper) (count_same g.C.ObjectCodec.encoded g.C.ObjectCodec.decoded g.E.EpochField.epoch_of g.E.EpochField.with_epoch old c.look.new.self c.hear.new.self.keeper (steps.Act c.args.op acts.Look) answer c.in-Ok.ensures.ok c.hear.ensures.keeper) c.hear.ensures.heard c.hear.ensures.happened

pub returns-clause-err : goal.returns-clause-err
returns-clause-err g c =
    IfErr-weaker c.hear.result _ _ (λ stop until. looks_cut g.R.Recorder.hands g.S.Serve.serves _ c.args.op (begun_in c.args.self.now.keeper) (first_of c.in-Ok.answers) stop c.args.self.now.keeper c.hear.new.self.keeper c.args.self.now.recorder c.hear.new.self.recorder c.args.self.now.store c.hear.new.self.store (c.look.new.self, c.in-Ok.ensures.ok, c.hear.ensures.keeper) until) c.hear.ensures.err
