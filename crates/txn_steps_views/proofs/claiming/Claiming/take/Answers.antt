use Rattle.std.proofs.Common.{refl}
use Rattle.txn_steps.specs.boundary.Steps.{turned_by_number}
use Rattle.txn_steps.specs.boundary.Asking.{reply_told}
use Rattle.txn_steps.specs.Reads.{read_turned}
use Rattle.txn_steps_views.specs.declared.claiming.Claiming.TheVariants.{Ended}
use Rattle.txn_steps_views.specs.Attempts.{refreshed_turned}
use Rattle.txn_steps_views.proofs.ReadLemmas.{goes_as_read, left_as_read}
use Rattle.txn_steps_views.proofs.claiming.Claiming.take.Goals as goal

pub returns-in-Writes-clause-store_error : goal.returns-in-Writes-clause-store_error
returns-in-Writes-clause-store_error g c = c.after_write.ensures.store_error (reply_told c.args.reply) c.take-told.ensures.store_error

pub returns-in-Reads-clause-turned : goal.returns-in-Reads-clause-turned
returns-in-Reads-clause-turned g c =
    rw (c.in-Reads.is)
    (goes_as_read (refreshed_turned c.args.layout.now.names c.args.layout.now.boundary (g.C.ObjectCodec.encoded c.args.layout.now.codec) (g.X.EpochField.epoch_of c.args.epochs.now) (g.X.EpochField.with_epoch c.args.epochs.now) c.args.asked) Ended (λ read. refl)
    (read_turned c.args.layout.now.names c.args.layout.now.boundary c.args.layout.now.page (g.C.ObjectCodec.decoded c.args.layout.now.codec) c.in-Reads.read c.args.caches.now c.args.reply)
    _ c.take-told-in-Reads.new.self (turned_by_number c.take-told-in-Reads.result) _ _ c.take-told-in-Reads.ensures.turned c.after_read.ensures.turned)

pub returns-in-Reads-clause-caches : goal.returns-in-Reads-clause-caches
returns-in-Reads-clause-caches g c =
    rw (c.in-Reads.is)
    (left_as_read c.args.layout.now.names c.args.layout.now.boundary c.args.layout.now.page (g.C.ObjectCodec.decoded c.args.layout.now.codec) c.in-Reads.read c.args.caches.now _ c.args.reply _ (turned_by_number c.take-told-in-Reads.result) (turned_by_number c.after_read.result) c.take-told-in-Reads.ensures.turned c.take-told-in-Reads.ensures.caches c.after_read.ensures.goes)

pub returns-in-Reads-clause-store_error : goal.returns-in-Reads-clause-store_error
returns-in-Reads-clause-store_error g c = c.after_read.ensures.store_error (reply_told c.args.reply) c.take-told-in-Reads.ensures.store_error
