use Rattle.txnobj_cli.proofs.printed.print_first.Goals as goal

pub returns : goal.returns
returns g c =
    record {
      first = c.in_ok-first.first;
      begun = c.in_ok-first.ensures;
      line = rw (c.id-2.ensures, c.id.ensures) at c.in_ok-print_number.ensures;
    }
