use Rattle.std.proofs.Common.{sym, ◌∙◌}
use Rattle.txnobj_cli.proofs.Writing.{written}
use Rattle.txnobj_cli.proofs.printed.print_put_on.Goals as goal

pub returns : goal.returns
returns g c =
    let w = written _ _ g.P.TransactionalStorageProtocol.made g.P.TransactionalStorageProtocol.stopped g.P.TransactionalStorageProtocol.tells c.in_ok-newest.newest c.update.new.self c.load.new.protocol c.update.new.protocol _ c.in_ok-update.ensures in
    record {
      newest = c.in_ok-newest.newest;
      between = c.load.new.protocol;
      loaded = c.in_ok-newest.ensures;
      at = sym w.1 ∙ c.new.ensures;
      entry = c.in-Some.value;
      follows = rw (c.in-Some.is, c.object.ensures) at c.in_ok-value.ensures;
      written = w.0;
      put = w.2;
      line = rw (c.id-2.ensures, c.id.ensures, w.3) at c.in_ok-print_number.ensures;
    }
