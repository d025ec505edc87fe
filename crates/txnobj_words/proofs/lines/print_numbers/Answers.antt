use Rattle.std.specs.Fmt.{decimal}
use Rattle.txnobj_words.proofs.Printing.{one_more}
use Rattle.txnobj_words.proofs.lines.print_numbers.Goals as goal

pub loop-number-preserved : goal.loop-number-preserved
loop-number-preserved g c = one_more decimal c.args.numbers.now c.loop-number.number-index 0 (g.W.Write.contents c.args.out.now) (g.W.Write.contents c.loop-number.out) (g.W.Write.contents c.print_number.new.out) c.loop-number.invariant.0 c.loop-number-test.true c.loop-number.invariant.1 c.in_ok-print_number.ensures c.loop-number.invariant.2
