use Rattle.txn_audit.proofs.recordings.Deciding.{ends}
use Rattle.txn_audit.proofs.recordings.laws.histories_end_alike.Goals as goal

pub returns : goal.returns
returns g c text encode decode get_epoch set_epoch recordings clocks log ds one none m merges = ends text encode decode get_epoch set_epoch recordings clocks log ds one none m merges
