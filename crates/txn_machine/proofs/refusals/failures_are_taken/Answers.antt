use Rattle.txn_machine.proofs.FailedTurns.{failed_turn}
use Rattle.txn_machine.proofs.Refusing.{failure_taken}
use Rattle.txn_machine.proofs.refusals.failures_are_taken.Goals as goal

pub returns-clause-refused : goal.returns-clause-refused
returns-clause-refused g c page doing caches reply failed is =
    let encode = g.C.ObjectCodec.encoded c.args._codec.now in
    let decode = g.C.ObjectCodec.decoded c.args._codec.now in
    let get_epoch = g.E.EpochField.epoch_of c.args._epochs.now in
    let set_epoch = g.E.EpochField.with_epoch c.args._epochs.now in
    (failed_turn page encode decode get_epoch set_epoch caches reply failed doing is).0

pub returns-clause-caches : goal.returns-clause-caches
returns-clause-caches g c doing caches reply failed is =
    let encode = g.C.ObjectCodec.encoded c.args._codec.now in
    let decode = g.C.ObjectCodec.decoded c.args._codec.now in
    let get_epoch = g.E.EpochField.epoch_of c.args._epochs.now in
    let set_epoch = g.E.EpochField.with_epoch c.args._epochs.now in
    (failed_turn 1 encode decode get_epoch set_epoch caches reply failed doing is).1

pub returns-clause-event : goal.returns-clause-event
returns-clause-event g c old op failure said new fails =
    failure_taken _ _ _ _ failure old op said new fails
