use Rattle.txn_manifest.proofs.Starting.{nothing_told}
use Rattle.txn_manifest.proofs.laws.nothing_is_told.Goals as goal

pub returns : goal.returns
returns c p s stands = nothing_told p s stands
