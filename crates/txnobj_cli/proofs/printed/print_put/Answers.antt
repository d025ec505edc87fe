use Rattle.txnobj_cli.proofs.Writing.{applied}
use Rattle.txnobj_cli.proofs.printed.print_put.Goals as goal

pub returns : goal.returns
returns g c =
    let held = rw c.object-2.ensures at c.in_ok-test_own.ensures in
    record {
      newest = c.in_ok-object.object;
      between = c.load.new.protocol;
      loaded = c.in_ok-object.ensures;
      object = c.maybe_apply_update.new.self;
      written = applied {P = g.row.P.Denot} _ _ _ c.args.holder c.args.payload.now (λ object answer asked. rw asked.shows at asked.says.met) _ c.in_ok-object.object c.maybe_apply_update.new.self c.load.new.protocol c.maybe_apply_update.new.protocol c.in_ok-maybe_apply_update.ensures held;
      line = rw (c.id-2.ensures, c.id.ensures) at c.in_ok-print_number.ensures;
    }
