use Rattle.std.proofs.Common.{sym, subst}
use Rattle.txn_world.specs.Runs.{EndsRun}
use Rattle.txn_world.proofs.Reached.{opening_ends}
use Rattle.txn_world.proofs.world.World.new.Goals as goal

pub invariant_of-result : goal.invariant_of-result
invariant_of-result g c =
    let encode = g.C.ObjectCodec.encoded c.in_ok-new.field-0.trace.layout.codec in
    let decode = g.C.ObjectCodec.decoded c.in_ok-new.field-0.trace.layout.codec in
    let get_epoch = g.E.EpochField.epoch_of c.in_ok-new.field-0.trace.field in
    let set_epoch = g.E.EpochField.with_epoch c.in_ok-new.field-0.trace.field in
    subst (λ s. EndsRun encode decode get_epoch set_epoch s) (sym c.in_ok-new.ensures.shown) (opening_ends encode decode get_epoch set_epoch c.args.clients c.args.page c.requires.paged)
