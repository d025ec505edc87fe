use Rattle.std.proofs.Common.{rules}
use Rattle.std.proofs.lemmas.Result.{MatchResult-weaker}
use Rattle.txn_manifest.proofs.Causing.{enter_caused}
use Rattle.txn_manifest.proofs.store.ManifestStore.set_payload.Goals as goal

pub returns-clause-cause : goal.returns-clause-cause
returns-clause-cause g c = MatchResult-weaker c.update.result c.update.ensures.cause (λ x h. h) (λ e h. enter_caused g.I.Invariant.holds g.I.Invariant.fails _ _ _ _ _ _ (g.S.ObjectStore.state c.args.store.now) (g.S.ObjectStore.state c.update.new.store) _ (search rules) (search rules) e h)
