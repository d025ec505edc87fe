use Rattle.std.proofs.Common.{rules}
use Rattle.std.proofs.lemmas.Result.{err_from_is_err_and}
use Rattle.txn_manifest.proofs.Causing.{enter_caused}
use Rattle.txn_manifest.proofs.store.ManifestStore.checkpoint.Goals as goal

pub returns-in_err-update-clause-err : goal.returns-in_err-update-clause-err
returns-in_err-update-clause-err g c = let p = err_from_is_err_and c.from_residual-in_err-update.result c.from_residual-in_err-update.ensures.1 in rw (p.1) (search rules)

pub returns-in_err-update-clause-cause : goal.returns-in_err-update-clause-cause
returns-in_err-update-clause-cause g c =
    let p = err_from_is_err_and c.from_residual-in_err-update.result c.from_residual-in_err-update.ensures.1 in
    rw (p.1, p.2) (enter_caused g.I.Invariant.holds g.I.Invariant.fails _ _ _ _ _ _ (g.S.ObjectStore.state c.args.store.now) (g.S.ObjectStore.state c.update.new.store) _ (search rules) (search rules) _ c.in_err-update.ensures.cause)
