use Rattle.txn_manifest.proofs.Starting.{claims_told, claim_failed}
use Rattle.txn_manifest.proofs.laws.claims_are_of_manifests.Goals as goal

pub returns-clause-ok : goal.returns-clause-ok
returns-clause-ok c p p' s s' asked rows number id id' epoch object held e claim told w = claims_told p p' s s' rows told asked number id id' epoch object held e w claim

pub returns-clause-err : goal.returns-clause-err
returns-clause-err c p p' s s' asked rows number id object e claim told w = claim_failed p p' s s' rows told asked number id object e w claim
