use Rattle.txn_drawing_svg.specs.Escaped.{line_byte}
use Rattle.txn_drawing_svg.proofs.Escaping.{one_more}
use Rattle.txn_drawing_svg.proofs.xml.Xml.push_lines.Goals as goal

pub loop-byte-preserved : goal.loop-byte-preserved
loop-byte-preserved c = one_more line_byte c.args.lines.now c.loop-byte.byte-index 0 c.loop-byte.self.bytes.items c.push_line_byte.new.self.bytes.items _ c.loop-byte-test.true c.loop-byte.invariant c.in_ok-push_line_byte.ensures
