use Rattle.txn_steps.specs.declared.boundary.turned.Turned.TheVariants.{Goes, Done}
use Rattle.txn_steps_driven.proofs.ListSteps.{list_goes, listed}
use Rattle.txn_steps_driven.proofs.listing.list_versions.Goals as goal

pub steps-smaller : goal.steps-smaller
steps-smaller g c = (list_goes _ _ _ _ _ _ _ _ _ Goes c.requires c.steps.invariant (record { reply = c.reply_to.result; replies = rw c.ask.ensures at c.reply_to.ensures; turned = rw c.in-Goes.is at c.take.ensures.turned; error = tt })).1

pub steps-preserved : goal.steps-preserved
steps-preserved g c = (list_goes _ _ _ _ _ _ _ _ _ Goes c.requires c.steps.invariant (record { reply = c.reply_to.result; replies = rw c.ask.ensures at c.reply_to.ensures; turned = rw c.in-Goes.is at c.take.ensures.turned; error = tt })).0

pub returns-in-Done : goal.returns-in-Done
returns-in-Done g c = listed _ _ _ _ _ _ _ c.in-Done.answer (list_goes _ _ _ _ _ _ _ _ _ (Done c.in-Done.answer) c.requires c.steps.invariant (record { reply = c.reply_to.result; replies = rw c.ask.ensures at c.reply_to.ensures; turned = rw c.in-Done.is at c.take.ensures.turned; error = rw c.in-Done.is at c.take.ensures.store_error }))
