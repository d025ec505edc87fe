use Rattle.std.proofs.Common.{ℕ, ◌≡◌, subst, rules}
use Rattle.std.specs.Prelude.{IfErr}
use Rattle.txn_manifest.specs.Stores.{StandsBy, LacksEntry, HasCauseOfCollect}
use Rattle.txn_manifest.proofs.store.ManifestStore.collect_held.Goals as goal

pub returns-clause-cause : goal.returns-clause-cause
returns-clause-cause g c =
    let newest : c.id-newest.result ≡ c.args.self.now.holder.delegate.id = search rules in
    subst (λ (n : ℕ). IfErr c.collect_below.result (HasCauseOfCollect (LacksEntry (StandsBy c.args.protocol.now (g.S.ObjectStore.state c.args.store.now)) n) c.collect_below.new.turns (g.S.ObjectStore.state c.args.store.now) (g.S.ObjectStore.state c.collect_below.new.store))) newest c.collect_below.ensures.cause
