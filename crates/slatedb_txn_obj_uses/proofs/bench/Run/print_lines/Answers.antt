-- The lines are printed one after another.
use Rattle.slatedb_txn_obj_uses.proofs.Printing.{prints}
use Rattle.slatedb_txn_obj_uses.proofs.bench.Run.print_lines.Goals as goal

pub returns : goal.returns
returns g c =
    let written = g.W.Write.contents in
    prints (written c.args.out.now) (written c.print_or_halt.new.out) (written c.print_or_halt-2.new.out) (written c.print_or_halt-3.new.out) (written c.print_or_halt-4.new.out) (written c.print_or_halt-5.new.out)
    c.args.self.now.command c.print_or_halt-5.result c.in_ok-print_or_halt.ensures c.in_ok-print_or_halt-2.ensures c.in_ok-print_or_halt-3.ensures c.in_ok-print_or_halt-4.ensures c.print_or_halt-5.ensures
