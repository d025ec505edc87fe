use Rattle.std.proofs.Common.{ap}
use Rattle.txn_steps_driven.proofs.VersionLemmas.{reads_version}
use Rattle.txn_steps_driven.proofs.versions.read_version.Goals as goal

pub returns : goal.returns
returns g c =
    reads_version _ _ _ _ _ c.in_ok-op.op.request _ _ _ c.number_fits.ensures (ap (λ op. op.request) c.in_ok-op.ensures) (rw c.ask.ensures at c.reply_to-reply.ensures) (rw c.in-Done.is at c.take.ensures.turned) (rw c.in-Done.is at c.take.ensures.store_error)
