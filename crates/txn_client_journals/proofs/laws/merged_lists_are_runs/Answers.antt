use Rattle.txn_client_journals.proofs.Runs.{merged_runs, merged_history, merged_begins}
use Rattle.txn_client_journals.proofs.laws.merged_lists_are_runs.Goals as goal

pub returns-clause-runs : goal.returns-clause-runs
returns-clause-runs g c page clients m parts store room le h =
    merged_runs page (g.C.ObjectCodec.encoded c.args._codec.now) (g.C.ObjectCodec.decoded c.args._codec.now) (g.E.EpochField.epoch_of c.args._epochs.now) (g.E.EpochField.with_epoch c.args._epochs.now) clients m parts store room le h

pub returns-clause-histories : goal.returns-clause-histories
returns-clause-histories g c page m parts store room h =
    merged_history page (g.C.ObjectCodec.encoded c.args._codec.now) (g.C.ObjectCodec.decoded c.args._codec.now) (g.E.EpochField.epoch_of c.args._epochs.now) (g.E.EpochField.with_epoch c.args._epochs.now) m parts store room h

pub returns-clause-beginnings : goal.returns-clause-beginnings
returns-clause-beginnings g c page m parts store h k =
    merged_begins page (g.C.ObjectCodec.encoded c.args._codec.now) (g.C.ObjectCodec.decoded c.args._codec.now) (g.E.EpochField.epoch_of c.args._epochs.now) (g.E.EpochField.with_epoch c.args._epochs.now) m parts store h k
