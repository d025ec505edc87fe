use Rattle.txn_audit.proofs.recordings.Placed.{stands_behind}
use Rattle.txn_audit.proofs.recordings.laws.later_calls_stand_behind.Goals as goal

pub returns : goal.returns
returns g c text encode decode get_epoch set_epoch recordings clocks log ds first second reply one = stands_behind recordings clocks log one.calls first second reply one.recorded one.whole one.in_time
