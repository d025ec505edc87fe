use Rattle.txn_manifest.proofs.Starting.{loads_told, reads_told}
use Rattle.txn_manifest.proofs.laws.loads_are_of_manifests.Goals as goal

pub returns-clause-ok : goal.returns-clause-ok
returns-clause-ok c p p' s s' rows id object l shows told = loads_told p p' s s' rows told id object l shows

pub returns-clause-err : goal.returns-clause-err
returns-clause-err c p p' s s' rows l told = reads_told p p' s s' rows told l
