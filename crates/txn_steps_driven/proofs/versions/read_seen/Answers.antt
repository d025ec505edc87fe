use Rattle.txn_steps_driven.proofs.VersionLemmas.{seen_ends}
use Rattle.txn_steps_driven.proofs.versions.read_seen.Goals as goal

pub returns-in-Done : goal.returns-in-Done
returns-in-Done g c =
    seen_ends _ _ _ _ _ _ _ _ _ _ _ c.steps.invariant _
    (record { reply = c.reply_to.result; replied = rw c.ask.ensures at c.reply_to.ensures; lacks = _; turned = rw c.in-Done.is at c.take.ensures.turned; left = c.take.ensures.latest; store_error = rw c.in-Done.is at c.take.ensures.store_error })
