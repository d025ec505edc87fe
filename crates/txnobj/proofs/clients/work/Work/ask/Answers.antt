use Rattle.std.proofs.Common.{refl, ap, ◌∙◌}
use Rattle.std.proofs.lemmas.Result.{err_from_is_err_and}
use Rattle.txn_client_journals.specs.tables.Operations.{request_of}
use Rattle.txn_diary.specs.Keepers.{keeper_asked}
use Rattle.txnobj.specs.clients.Calling.{begun_in}
use Rattle.txnobj.proofs.clients.Asking.{asks_so}
use Rattle.txnobj.proofs.clients.Stopping.{cuts_unasked}
use Rattle.txnobj.proofs.clients.work.Work.ask.Goals as goal

pub returns-in_err-asked-clause-err : goal.returns-in_err-asked-clause-err
returns-in_err-asked-clause-err g c =
    let old = c.args.self.now in
    let asks = asks_so (keeper_asked old.keeper c.args.op) c.in-Some.request.now (c.in-Some.ensures ∙ ap request_of c.asks.ensures) in
    let p = err_from_is_err_and c.from_residual.result c.from_residual.ensures.1 in
    rw (p.1, p.2) (cuts_unasked g.R.Recorder.hands g.S.Serve.serves _ c.args.op (begun_in old.keeper) _ c.in-Some.request.now old.keeper _ old.recorder _ old.store _ asks refl tt refl)
