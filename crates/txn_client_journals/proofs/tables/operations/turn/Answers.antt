use Rattle.txn_client_journals.proofs.tables.Acting.{kind_of, range_of, turned_so}
use Rattle.txn_client_journals.proofs.tables.operations.turn.Goals as goal

pub take-requires-clause-asked : goal.take-requires-clause-asked
take-requires-clause-asked g c =
    kind_of c.args.operations.now.items c.args.op c.args.reply c.index_mut-operation.result.now c.requires.takes c.index_mut-operation.ensures.value

pub take-requires-clause-range : goal.take-requires-clause-range
take-requires-clause-range g c =
    range_of c.args.operations.now.items c.args.op c.args.reply c.index_mut-operation.result.now c.requires.takes c.index_mut-operation.ensures.value

pub returns : goal.returns
returns g c =
    turned_so c.args.layout.now.page (g.C.ObjectCodec.encoded c.args.layout.now.codec) (g.C.ObjectCodec.decoded c.args.layout.now.codec) (g.E.EpochField.epoch_of c.args.epochs.now) (g.E.EpochField.with_epoch c.args.epochs.now) c.args.operations.now.items c.args.caches.now c.take.new.caches c.args.op c.args.reply c.index_mut-operation.result.now (c.take.new.self, c.take.result) c.requires.takes c.index_mut-operation.ensures.value c.take.ensures.turned c.take.ensures.caches
