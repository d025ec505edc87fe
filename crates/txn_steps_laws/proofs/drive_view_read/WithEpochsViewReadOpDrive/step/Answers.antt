use Rattle.txn_steps.specs.boundary.Steps.{turned_by_number, lacks_memory}
use Rattle.txn_steps.specs.boundary.Asking.{reply_told}
use Rattle.txn_steps_views.proofs.ReadLemmas.{left_as_read, part_of_whole, view_goes_as_read}
use Rattle.txn_steps_laws.proofs.drive_view_read.WithEpochsViewReadOpDrive.step.Goals as goal

pub returns : goal.returns
returns g c = record {
  reply = c.reply_to-reply.result;
  replies = rw (← c.ask.ensures) c.reply_to-reply.ensures;
  takes = part_of_whole (λ op. record { op = op; epochs = c.args.self.now.epochs }) (lacks_memory (turned_by_number c.after_read.result)) _ _ _ _
      (view_goes_as_read c.args.at.now.layout.now.names c.args.at.now.layout.now.boundary c.args.at.now.layout.now.page (g.C.ObjectCodec.decoded c.args.at.now.layout.now.codec) (g.X.EpochField.epoch_of c.args.self.now.epochs) c.args.self.now.op c.args.caches.now c.reply_to-reply.result _ (turned_by_number c.take-told.result) c.after_read.new.self (turned_by_number c.after_read.result) c.take-told.ensures.turned c.after_read.ensures.turned);
  leaves = left_as_read c.args.at.now.layout.now.names c.args.at.now.layout.now.boundary c.args.at.now.layout.now.page (g.C.ObjectCodec.decoded c.args.at.now.layout.now.codec) c.args.self.now.op.read c.args.caches.now _ c.reply_to-reply.result _ (turned_by_number c.take-told.result) (turned_by_number c.after_read.result) c.take-told.ensures.turned c.take-told.ensures.caches c.after_read.ensures.goes;
  error = c.after_read.ensures.store_error (reply_told c.reply_to-reply.result) c.take-told.ensures.store_error;
}
