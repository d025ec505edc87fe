use Rattle.std.proofs.Common.{◌∙◌, ap, arith, map, ◌++◌, ◌+◌}
use Rattle.txn_history.specs.GoesOn.{all_left_loose, as_loose}
use Rattle.txn_machine.specs.Machine.{seen_operations}
use Rattle.txn_client_journals.specs.Journals.{as_pair}
use Rattle.txn_diary.proofs.Killing.{left_more, left_all}
use Rattle.txn_diary.proofs.kills.left_by.Goals as goal

pub loop-operation-preserved : goal.loop-operation-preserved
loop-operation-preserved g c =
    let all = all_left_loose c.args.client c.args.first (seen_operations c.args.operations.now) in
    (left_more c.args.client c.loop-operation.op c.loop-operation.operation-index c.args.operations.now c.operation-item.result c.in_ok-left.left (map as_pair c.loop-operation.lefts.items) (map as_pair c.add_left.new.lefts.items) all c.loop-operation-test.true c.operation-item.is c.in_ok-left.ensures (c.add_left.ensures ∙ ap (λ ls. map as_pair ls ++ as_loose c.loop-operation.op c.in_ok-left.left) c.in_ok-reserve.ensures.items) c.loop-operation.invariant.0, omega (arith, c.loop-operation.invariant.1))

pub returns : goal.returns
returns g c = left_all c.args.client c.loop-operation.op c.loop-operation.operation-index c.args.operations.now (map as_pair c.loop-operation.lefts.items) (all_left_loose c.args.client c.args.first (seen_operations c.args.operations.now)) (omega (arith, c.loop-operation-test.false)) c.loop-operation.invariant.0
