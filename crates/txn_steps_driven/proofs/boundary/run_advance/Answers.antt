use Rattle.std.proofs.Common.{false}
use Rattle.txn_store.proofs.types.BoundaryLemmas.{read_decimal_text}
use Rattle.txn_steps.specs.declared.boundary.turned.Turned.TheVariants.{Goes, Done}
use Rattle.txn_steps_driven.proofs.AdvanceLoop.{advance_step, advance_goes, advance_less, advance_ended}
use Rattle.txn_steps_driven.proofs.boundary.run_advance.Goals as goal

pub steps-preserved : goal.steps-preserved
steps-preserved g c = advance_goes _ _ _ _ _ _ _ _ _ _ _ _ c.steps.invariant c.pay.new.turns c.if-not-pay.ensures.paid (advance_step _ _ _ _ (read_decimal_text c.args.target c.number_fits.ensures) _ _ _ _ _ Goes false c.steps.invariant.formed (rw c.ask.ensures at c.reply_to.ensures) (rw c.in-Goes.is at c.take.ensures.turned) c.take.ensures.cached tt)

pub steps-smaller : goal.steps-smaller
steps-smaller g c = advance_less _ _ _ _ _ _ _ _ _ _ _ _ c.steps.invariant c.pay.new.turns c.if-not-pay.ensures.paid (advance_step _ _ _ _ (read_decimal_text c.args.target c.number_fits.ensures) _ _ _ _ _ Goes false c.steps.invariant.formed (rw c.ask.ensures at c.reply_to.ensures) (rw c.in-Goes.is at c.take.ensures.turned) c.take.ensures.cached tt)

pub returns-in-Done : goal.returns-in-Done
returns-in-Done g c = advance_ended _ _ _ _ _ _ _ _ _ _ _ _ c.steps.invariant c.requires.unreached c.pay.new.turns c.if-not-pay.ensures.paid c.in-Done.answer (advance_step _ _ _ _ (read_decimal_text c.args.target c.number_fits.ensures) _ _ _ _ _ (Done c.in-Done.answer) _ c.steps.invariant.formed (rw c.ask.ensures at c.reply_to.ensures) (rw c.in-Done.is at c.take.ensures.turned) c.take.ensures.cached (rw c.in-Done.is at c.take.ensures.store_error))
