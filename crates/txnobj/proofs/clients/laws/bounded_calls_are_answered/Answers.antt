use Rattle.txnobj.proofs.clients.Calls.{call_stays}
use Rattle.txnobj.proofs.clients.laws.bounded_calls_are_answered.Goals as goal

pub returns : goal.returns
returns g c = λ limit call answer old new most room bound made. call_stays g.C.ObjectCodec.encoded g.C.ObjectCodec.decoded g.E.EpochField.epoch_of g.E.EpochField.with_epoch g.R.Recorder.hands g.S.Serve.serves limit call answer old new most room bound made
