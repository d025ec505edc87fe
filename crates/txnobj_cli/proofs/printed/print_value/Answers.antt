use Rattle.txnobj_cli.proofs.printed.print_value.Goals as goal

pub returns : goal.returns
returns g c =
    record {
      newest = c.in_ok-newest.newest;
      loaded = c.in_ok-newest.ensures;
      bytes = rw (c.as_slice.ensures, c.object.ensures) at c.in_ok-write_all.ensures.bytes;
    }
