use Rattle.txnobj_cli.proofs.printed.print_collected.Goals as goal

pub returns : goal.returns
returns g c =
    record {
      found = c.in_ok-found.found;
      collected = rw c.new.ensures at c.in_ok-found.ensures;
      line = c.in_ok-print_number.ensures;
    }
