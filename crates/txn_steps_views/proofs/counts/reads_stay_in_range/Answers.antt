use Rattle.txn_steps_views.proofs.CallLemmas.{view_read_stays, claiming_stays}
use Rattle.txn_steps_views.proofs.counts.reads_stay_in_range.Goals as goal

pub returns : goal.returns
returns g c = record { view_read = view_read_stays; claiming = claiming_stays }
