use Rattle.std.proofs.Common.{refl}
use Rattle.txn_steps.proofs.CallLemmas.{unchecked_spends, write_spends}
use Rattle.txn_steps.proofs.counts.writes_are_short.Goals as goal

pub returns : goal.returns
returns c = record { unchecked_started = λ names base bytes. refl; unchecked_spends = unchecked_spends; started = λ names boundary base bytes. refl; spends = write_spends }
