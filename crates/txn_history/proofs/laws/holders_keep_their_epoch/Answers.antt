use Rattle.txn_history.proofs.Holders.{holders_rise, holders_stand}
use Rattle.txn_history.proofs.laws.holders_keep_their_epoch.Goals as goal

pub returns : goal.returns
returns g c =
    record {
      answers = λ decode get_epoch set_epoch failed rows good. holders_rise decode get_epoch set_epoch failed rows good;
      views = λ decode get_epoch set_epoch failed rows views good fit. holders_stand decode get_epoch set_epoch failed rows views good fit;
    }
