use Rattle.txn_diary.proofs.Places.{turns_behind}
use Rattle.txn_diary.proofs.calls.Calls.turn.Goals as goal

pub returns-clause-turn : goal.returns-clause-turn
returns-clause-turn g c =
    let t = c.args.self.now in
    turns_behind c.args.layout.now.page (g.C.ObjectCodec.encoded c.args.layout.now.codec) (g.C.ObjectCodec.decoded c.args.layout.now.codec) (g.E.EpochField.epoch_of c.args.epochs.now) (g.E.EpochField.with_epoch c.args.epochs.now) t.forgotten c.args.op t.operations.items c.turn.new.operations.items c.args.caches.now c.turn.new.caches c.args.reply c.turn.result c.requires.runs c.turn.ensures
