use Rattle.txn_store.proofs.NameLemmas.{version_unique}
use Rattle.txn_store.proofs.version_names.VersionNames.one_to_one.Goals as goal

pub returns : goal.returns
returns c = version_unique c.args.self.now c.args.first c.args.second c.ranges.first.fits c.ranges.second.fits
