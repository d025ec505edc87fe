use Rattle.txn_manifest.proofs.Starting.{inits_told, init_failed}
use Rattle.txn_manifest.proofs.laws.inits_are_of_manifests.Goals as goal

pub returns-clause-ok : goal.returns-clause-ok
returns-clause-ok c p p' s s' rows value id i a told = inits_told p p' s s' rows told value i id a

pub returns-clause-err : goal.returns-clause-err
returns-clause-err c p p' s s' rows value i may told = init_failed p p' s s' rows told value i may
