use Rattle.txn_steps.specs.declared.boundary.turned.Turned.TheVariants.{Goes, Done}
use Rattle.txn_steps_driven.proofs.RemovalSteps.{removal_goes, deleted}
use Rattle.txn_steps_driven.proofs.removal.delete_version.Goals as goal

pub steps-preserved : goal.steps-preserved
steps-preserved g c =
    (removal_goes _ _ _ _ _ _ _ _ _ _ Goes c.steps.invariant (record { reply = c.reply_to.result; replies = rw c.ask.ensures at c.reply_to.ensures; turned = rw c.in-Goes.is at c.take.ensures.turned; held = c.take.ensures.latest; error = tt })).0

pub returns-in-Done : goal.returns-in-Done
returns-in-Done g c =
    deleted _ _ _ _ _ _ _ c.in-Done.answer
    (removal_goes _ _ _ _ _ _ _ _ _ _ (Done c.in-Done.answer) c.steps.invariant (record { reply = c.reply_to.result; replies = rw c.ask.ensures at c.reply_to.ensures; turned = rw c.in-Done.is at c.take.ensures.turned; held = c.take.ensures.latest; error = rw c.in-Done.is at c.take.ensures.store_error }))
