use Rattle.txn_manifest.proofs.Telling.{collects_told}
use Rattle.txn_manifest.proofs.laws.collections_are_of_manifests.Goals as goal

pub returns : goal.returns
returns c p p' s s' rows number id id' epoch object object' e told w = collects_told p p' s s' rows number id id' epoch object object' e told w
