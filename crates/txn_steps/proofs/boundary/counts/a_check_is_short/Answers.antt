use Rattle.std.proofs.Common.{refl}
use Rattle.txn_steps.proofs.boundary.CountLemmas.{check_spends}
use Rattle.txn_steps.proofs.boundary.counts.a_check_is_short.Goals as goal

pub returns : goal.returns
returns c = record { started = λ path id. refl; spends = check_spends }
