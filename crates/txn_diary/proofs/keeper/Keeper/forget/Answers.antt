use Rattle.std.proofs.Common.{ap, refl}
use Rattle.txn_diary.specs.Shown.{keeper_of}
use Rattle.txn_diary.proofs.Stepping.{kept_still}
use Rattle.txn_diary.proofs.keeper.Keeper.forget.Goals as goal

pub invariant_of-self : goal.invariant_of-self
invariant_of-self g c =
    let now = c.forget.ensures in
    kept_still g.C.ObjectCodec.encoded g.C.ObjectCodec.decoded g.E.EpochField.epoch_of g.E.EpochField.with_epoch (keeper_of c.self.inside.tables c.self.inside.alive) (keeper_of c.forget.new.self c.self.inside.alive) c.self.invariant
    (record { remembers = now.remembers; client = now.client; page = ap (λ l. l.page) now.layout; codec = ap (λ l. l.codec) now.layout; epochs = now.epochs; alive = refl })
