use Rattle.txnobj_cli.proofs.printed.print_claim.Goals as goal

pub returns : goal.returns
returns g c =
    record {
      newest = c.in_ok-newest.newest;
      between = c.load.new.protocol;
      loaded = c.in_ok-newest.ensures;
      holder = c.in_ok-held.held;
      claimed = c.in_ok-held.ensures;
      line = rw (c.id-2.ensures, c.id.ensures, c.local_epoch.ensures) at c.in_ok-print_line.ensures;
    }
