use Rattle.txn_machine.proofs.Reached.{run_reaches}
use Rattle.txn_world.proofs.finishing.Calls.{any_bound, any_alone, any_allowed}
use Rattle.txn_world.proofs.finishing.progress.work_is_bounded.Goals as goal

pub returns-clause-calls : goal.returns-clause-calls
returns-clause-calls g c clients page pages times before old client call said first taken new room runs takes few disturbed =
    any_bound _ _ _ _ old client call said first pages times taken new (run_reaches _ _ _ _ clients page before old room runs) takes few disturbed

pub returns-clause-alone : goal.returns-clause-alone
returns-clause-alone g c clients page pages before state op operation ask taken new room runs found asks few undisturbed =
    any_alone _ _ _ _ state op operation ask pages taken new (run_reaches _ _ _ _ clients page before state room runs) found asks few undisturbed

pub returns-clause-allowed : goal.returns-clause-allowed
returns-clause-allowed g c state op operation ask found asks =
    any_allowed (g.C.ObjectCodec.encoded c.args._codec.now) (g.C.ObjectCodec.decoded c.args._codec.now) (g.E.EpochField.epoch_of c.args._epochs.now) (g.E.EpochField.with_epoch c.args._epochs.now) state op operation ask found asks
