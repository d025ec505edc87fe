use Rattle.std.proofs.Common.{refl}
use Rattle.txn_steps.proofs.CallLemmas.{removal_spends, delete_spends}
use Rattle.txn_steps.proofs.counts.deletes_are_short.Goals as goal

pub returns : goal.returns
returns c = record { unchecked_started = λ names id. refl; unchecked_spends = removal_spends; started = λ names boundary id. refl; spends = delete_spends }
