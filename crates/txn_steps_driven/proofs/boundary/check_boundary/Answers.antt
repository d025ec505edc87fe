use Rattle.std.proofs.Common.{sym, ◌∙◌}
use Rattle.txn_steps.specs.declared.boundary.turned.Turned.TheVariants.{Goes, Done}
use Rattle.txn_steps_driven.proofs.CheckSteps.{check_step, check_goes, check_less, check_ended}
use Rattle.txn_steps_driven.proofs.boundary.check_boundary.Goals as goal

pub steps-preserved : goal.steps-preserved
steps-preserved g c = check_goes _ _ _ _ _ _ _ _ _ _ c.steps.invariant (check_step _ _ _ _ _ _ _ _ _ Goes c.steps.invariant.formed (rw c.ask.ensures at c.reply_to.ensures) (rw c.in-Goes.is at c.take.ensures.turned) c.take.ensures.cached tt)

pub steps-smaller : goal.steps-smaller
steps-smaller g c = check_less _ _ _ _ _ _ _ _ _ _ c.steps.invariant (check_step _ _ _ _ _ _ _ _ _ Goes c.steps.invariant.formed (rw c.ask.ensures at c.reply_to.ensures) (rw c.in-Goes.is at c.take.ensures.turned) c.take.ensures.cached tt)

pub returns-in-Done : goal.returns-in-Done
returns-in-Done g c = check_ended _ _ _ _ _ _ _ _ _ _ c.steps.invariant (sym c.is_reached.ensures ∙ c.if-is_reached.false) c.in-Done.answer (check_step _ _ _ _ _ _ _ _ _ (Done c.in-Done.answer) c.steps.invariant.formed (rw c.ask.ensures at c.reply_to.ensures) (rw c.in-Done.is at c.take.ensures.turned) c.take.ensures.cached (rw c.in-Done.is at c.take.ensures.store_error))
