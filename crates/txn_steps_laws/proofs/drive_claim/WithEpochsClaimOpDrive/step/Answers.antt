use Rattle.std.proofs.Common.{refl}
use Rattle.txn_steps_laws.proofs.drive_claim.WithEpochsClaimOpDrive.step.Goals as goal

pub returns : goal.returns
returns g c = record {
  attempt = record {
    step = record {
      reply = c.reply_to-reply.result;
      replies = rw (← c.ask.ensures) c.reply_to-reply.ensures;
      takes = c.take.ensures.turned;
      leaves = c.take.ensures.caches;
      error = c.take.ensures.store_error;
    };
    made = c.take.ensures.made;
    short = c.take.ensures.short;
  };
  same_epochs = refl;
  same_asked = refl;
}
