use Rattle.txnobj_words.specs.Repaired.{removed_text}
use Rattle.txnobj_words.proofs.Printing.{one_more}
use Rattle.txnobj_words.proofs.repaired.print_removed.Goals as goal

pub loop-id-preserved : goal.loop-id-preserved
loop-id-preserved g c = one_more removed_text c.args.ids.now c.loop-id.id-index 0 (g.W.Write.contents c.args.out.now) (g.W.Write.contents c.loop-id.out) (g.W.Write.contents c.print_line.new.out) c.loop-id.invariant.0 c.loop-id-test.true c.loop-id.invariant.1 c.in_ok-print_line.ensures c.loop-id.invariant.2
