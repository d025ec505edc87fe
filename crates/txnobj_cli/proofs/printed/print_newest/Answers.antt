use Rattle.txnobj_cli.proofs.printed.print_newest.Goals as goal

pub returns : goal.returns
returns g c =
    record {
      newest = c.in_ok-newest.newest;
      loaded = c.in_ok-newest.ensures;
      line = rw (c.id-2.ensures, c.id.ensures, c.object.ensures) at c.in_ok-print_line.ensures;
    }
