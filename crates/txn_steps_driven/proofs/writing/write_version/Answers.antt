use Rattle.std.proofs.Common.{arith}
use Rattle.txn_store.specs.types.Numbers.{number_of}
use Rattle.txn_steps.specs.declared.boundary.turned.Turned.TheVariants.{Goes, Done}
use Rattle.txn_steps_driven.proofs.WriteSteps.{write_goes}
use Rattle.txn_steps_driven.proofs.WriteStands.{written}
use Rattle.txn_steps_driven.proofs.writing.write_version.Goals as goal

pub steps-preserved : goal.steps-preserved
steps-preserved g c =
    (write_goes _ _ _ (number_of c.args.base) _ _ _ _ _ _ _ _ Goes c.steps.invariant (record { reply = c.reply_to.result; replies = rw c.ask.ensures at c.reply_to.ensures; turned = rw c.in-Goes.is at c.take.ensures.turned; held = c.take.ensures.latest; error = tt })).0

pub returns-in-Done : goal.returns-in-Done
returns-in-Done g c =
    let last = c.in_ok-op.ensures.last in
    written _ _ _ _ _ _ _ _ _ c.in-Done.answer c.in_ok-op.ensures.reads_back (omega (arith, last))
    (write_goes _ _ _ (number_of c.args.base) _ _ _ _ _ _ _ _ (Done c.in-Done.answer) c.steps.invariant (record { reply = c.reply_to.result; replies = rw c.ask.ensures at c.reply_to.ensures; turned = rw c.in-Done.is at c.take.ensures.turned; held = c.take.ensures.latest; error = rw c.in-Done.is at c.take.ensures.store_error }))
