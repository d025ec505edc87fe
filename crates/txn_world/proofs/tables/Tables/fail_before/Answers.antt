use Rattle.std.proofs.Common.{subst}
use Rattle.txn_machine.specs.Machine.{State}
use Rattle.txn_world.specs.Answering.{ToldFailure}
use Rattle.txn_world.specs.Shown.{shown}
use Rattle.txn_world.proofs.Stepping.{failed_before}
use Rattle.txn_world.proofs.tables.Tables.fail_before.Goals as goal

pub returns-clause-ok : goal.returns-clause-ok
returns-clause-ok g c =
    failed_before (shown c.args.self.now) _ c.args.op c.tell_failure.result c.requires.asks
    (subst (λ (s : State g.row.T.Denot). ToldFailure s c.args.op c.tell_failure.result (shown c.tell_failure.new.self)) c.in_ok-make_room.ensures.same c.tell_failure.ensures.failed)
