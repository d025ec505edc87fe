use Rattle.std.proofs.Common.{[], None, refl}
use Rattle.std.proofs.lemmas.Result.{err_from_is_err_and}
use Rattle.txn_client_journals.specs.declared.rows.Act.TheVariants as acts
use Rattle.txn_client_journals.specs.declared.rows.Step.TheVariants as steps
use Rattle.txnobj.specs.clients.Noted.{GaveUp}
use Rattle.txnobj.specs.clients.Calling.{begun_in, IsGiveUp}
use Rattle.txnobj.proofs.clients.Counting.{does_count}
use Rattle.txnobj.proofs.clients.Stopping.{cuts_none, cuts_row, until_failed}
use Rattle.txnobj.proofs.clients.work.Work.give_up.Goals as goal

pub returns-in_default-clause-err : goal.returns-in_default-clause-err
returns-in_default-clause-err g c = cuts_none g.R.Recorder.hands g.S.Serve.serves _ IsGiveUp c.args.op (begun_in c.args.self.now.keeper) c.args.self.now.keeper _ c.args.self.now.recorder _ c.args.self.now.store _ c.in_default.ensures.err refl refl

pub returns-in_err-gave_up-clause-err : goal.returns-in_err-gave_up-clause-err
returns-in_err-gave_up-clause-err g c =
    let p = err_from_is_err_and c.from_residual.result c.from_residual.ensures.1 in
    rw (p.1, p.2) (cuts_row g.R.Recorder.hands g.S.Serve.serves _ IsGiveUp c.args.op (begun_in c.args.self.now.keeper) _ (record { step = steps.Act c.args.op (acts.GiveUp c.in-Ok._left); answer = None }) c.args.self.now.keeper _ c.args.self.now.recorder _ c.args.self.now.store _ (c.give_up.new.self, c.in-Ok.ensures.ok, refl) (refl, tt)
    (until_failed g.R.Recorder.hands g.S.Serve.serves _ (GaveUp c.args.op) [] c.args.self.now.recorder _ c.args.self.now.store _ tt refl))

pub returns-clause-ok : goal.returns-clause-ok
returns-clause-ok g c = record {
  row = record { step = steps.Act c.args.op (acts.GiveUp c.in-Ok._left); answer = None };
  acts = (refl, tt);
  heard_is = refl;
  advances = record {
    did = (c.give_up.new.self, c.in-Ok.ensures.ok, refl);
    happened = (_, _, (c.in_ok-gave_up.ensures, refl), (refl, refl));
    begun_is = does_count g.C.ObjectCodec.encoded g.C.ObjectCodec.decoded g.E.EpochField.epoch_of g.E.EpochField.with_epoch c.args.self.now.keeper (steps.Act c.args.op (acts.GiveUp c.in-Ok._left)) None c.give_up.new.self c.in-Ok.ensures.ok;
  };
}
