use Rattle.std.proofs.Common.{false}
use Rattle.txn_steps_driven.proofs.LatestDriver.{begun, spent, goes_on, less, ended}
use Rattle.txn_steps_driven.proofs.latest.run.Goals as goal

pub steps-init : goal.steps-init
steps-init g c = begun _ _ c.requires.page _ _ _ _ _ c.requires.ascends c.requires.small c.requires.begins

pub returns-then-not-pay : goal.returns-then-not-pay
returns-then-not-pay g c = rw c.into.ensures (spent _ _ c.requires.page _ _ _ _ _ _ _ _ _ c.steps.invariant c.pay.new.listed _ (rw (c.is_listing.ensures, c.if-not-pay.true) at c.pay.ensures))

pub steps-smaller : goal.steps-smaller
steps-smaller g c = less _ _ c.requires.page _ _ _ _ _ _ _ _ _ c.steps.invariant _ _ _ _ _ (rw (c.is_listing.ensures, c.if-not-pay.false) at c.pay.ensures) (record { reply = c.reply_to.result; replied = rw c.ask.ensures at c.reply_to.ensures; lacks = false; turned = rw c.in-Goes.is at c.take.ensures.turned; left = rw c.in-Goes.is at c.take.ensures.latest; store_error = rw c.in-Goes.is at c.take.ensures.store_error })

pub steps-preserved : goal.steps-preserved
steps-preserved g c = goes_on _ _ c.requires.page _ _ _ _ _ _ _ _ _ c.steps.invariant _ _ _ _ _ (rw (c.is_listing.ensures, c.if-not-pay.false) at c.pay.ensures) (record { reply = c.reply_to.result; replied = rw c.ask.ensures at c.reply_to.ensures; lacks = false; turned = rw c.in-Goes.is at c.take.ensures.turned; left = rw c.in-Goes.is at c.take.ensures.latest; store_error = rw c.in-Goes.is at c.take.ensures.store_error })

pub returns-in-Done : goal.returns-in-Done
returns-in-Done g c = ended _ _ c.requires.page _ _ _ _ _ _ _ _ _ c.steps.invariant _ _ _ _ _ (rw (c.is_listing.ensures, c.if-not-pay.false) at c.pay.ensures) _ (record { reply = c.reply_to.result; replied = rw c.ask.ensures at c.reply_to.ensures; lacks = _; turned = rw c.in-Done.is at c.take.ensures.turned; left = rw c.in-Done.is at c.take.ensures.latest; store_error = rw c.in-Done.is at c.take.ensures.store_error })
