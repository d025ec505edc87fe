use Rattle.std.proofs.Common.{ap, ◌∙◌, arith}
use Rattle.std.proofs.lemmas.List.{take_all}
use Rattle.txn_client_journals.specs.tables.Operations.{loose_of}
use Rattle.txn_world.specs.Running.{requests_left}
use Rattle.txn_world.proofs.Running.{one_left}
use Rattle.txn_world.proofs.clients.requests_left.Goals as goal

pub loop-op-preserved : goal.loop-op-preserved
loop-op-preserved g c =
    one_left c.args.operations.now c.args.ops.now c.loop-op.op-index c.in_ok-copy.copy _ _ c.loop-op-test.true (c.in_ok-copy.ensures ∙ ap loose_of c.asked.ensures) (c.in_ok-reserve.ensures.items ∙ c.loop-op.invariant) c.push_loose.ensures

pub returns : goal.returns
returns g c = c.loop-op.invariant ∙ ap (requests_left c.args.operations.now) (take_all c.loop-op.op-index c.args.ops.now (omega (arith, c.loop-op-test.false)))
