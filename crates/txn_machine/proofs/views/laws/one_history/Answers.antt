use Rattle.txn_history.proofs.Claimers.{one_claimer}
use Rattle.txn_machine.proofs.views.Tables.{view_of}
use Rattle.txn_machine.proofs.views.Runs.{reached}
use Rattle.txn_machine.proofs.views.laws.one_history.Goals as goal

pub returns : goal.returns
returns g c =
    record {
      rows = λ decode get_epoch set_epoch n s runs. (reached decode get_epoch set_epoch n s runs).good;
      count = λ decode get_epoch set_epoch n s runs. (reached decode get_epoch set_epoch n s runs).count;
      views = λ decode get_epoch set_epoch n s runs number used e. view_of decode get_epoch set_epoch s (reached decode get_epoch set_epoch n s runs) number used e;
      claims = λ decode get_epoch set_epoch n s runs. one_claimer decode get_epoch set_epoch s.failed s.rows (reached decode get_epoch set_epoch n s runs).good;
    }
