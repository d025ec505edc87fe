use Rattle.txn_manifest.proofs.Telling.{enters_told}
use Rattle.txn_manifest.proofs.laws.writes_are_of_manifests.Goals as goal

pub returns : goal.returns
returns c p p' s s' rows number id id' epoch object object' made e told w = enters_told p p' s s' rows number id id' epoch object object' made e told w
