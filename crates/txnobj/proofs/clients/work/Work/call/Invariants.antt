use Rattle.txn_diary.specs.Keepers.{Does}
use Rattle.std.proofs.Common.{None}
use Rattle.txnobj.specs.clients.Calling.{begun_in}
use Rattle.txnobj.specs.clients.Working.{CallsAs}
use Rattle.txnobj.proofs.clients.work.Work.call.Given as goal

-- the call has begun, made a look or a store call in each round, and has no answer yet
abbrev pub invariant-loop-taken : goal.invariant-loop-taken
invariant-loop-taken g l = CallsAs g.R.Recorder.hands g.S.Serve.serves (Does g.C.ObjectCodec.encoded g.C.ObjectCodec.decoded g.E.EpochField.epoch_of g.E.EpochField.with_epoch) l.op l._taken l.fn.call None l.fn.self.keeper l.fn.self.recorder l.fn.self.store (begun_in l.fn.self.keeper) l.self.keeper l.self.recorder l.self.store (begun_in l.self.keeper)
