use Rattle.txn_steps_views.proofs.CallLemmas.{entry_starts, entry_spends}
use Rattle.txn_steps_views.proofs.counts.entries_are_short.Goals as goal

pub returns : goal.returns
returns g c = record { started = entry_starts; spends = entry_spends }
