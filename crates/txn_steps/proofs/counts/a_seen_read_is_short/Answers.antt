use Rattle.std.proofs.Common.{ap}
use Rattle.txn_steps.specs.CallsLeft.{seen_budget}
use Rattle.txn_steps.proofs.CallLemmas.{seen_spends}
use Rattle.txn_steps.proofs.counts.a_seen_read_is_short.Goals as goal

pub returns : goal.returns
returns g c = record { started = λ id op is. ap seen_budget is; spends = λ names decode. seen_spends names decode }
