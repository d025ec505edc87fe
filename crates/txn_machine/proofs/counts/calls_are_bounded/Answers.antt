use Rattle.txn_machine.proofs.Reached.{run_reaches}
use Rattle.txn_machine.proofs.Spending.{turn_spends, call_starts, call_is_bounded}
use Rattle.txn_machine.proofs.counts.calls_are_bounded.Goals as goal

pub returns-clause-started : goal.returns-clause-started
returns-clause-started g c page call view most bound =
    call_starts page _ _ _ call view most bound

pub returns-clause-spends : goal.returns-clause-spends
returns-clause-spends g c page refused doing caches reply left has is =
    turn_spends page (g.C.ObjectCodec.encoded c.args._codec.now) _ _ (g.E.EpochField.with_epoch c.args._epochs.now) refused caches doing reply left has is

pub returns-clause-looks : goal.returns-clause-looks
returns-clause-looks g c clients page before old client call said first taken new most room runs takes more bound =
    (call_is_bounded _ _ _ _ old client call said first taken new most (run_reaches _ _ _ _ clients page before old room runs) takes more bound).0

pub returns-clause-serves : goal.returns-clause-serves
returns-clause-serves g c clients page before old client call said first taken new most room runs takes more bound =
    (call_is_bounded _ _ _ _ old client call said first taken new most (run_reaches _ _ _ _ clients page before old room runs) takes more bound).1
