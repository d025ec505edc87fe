use Rattle.txn_drawing_svg.specs.Escaped.{escaped_byte}
use Rattle.txn_drawing_svg.proofs.Escaping.{one_more}
use Rattle.txn_drawing_svg.proofs.xml.Xml.push_text.Goals as goal

pub loop-byte-preserved : goal.loop-byte-preserved
loop-byte-preserved c = one_more escaped_byte c.as_bytes-bytes.result.now c.loop-byte.byte-index 0 c.loop-byte.self.bytes.items c.push_byte.new.self.bytes.items _ c.loop-byte-test.true c.loop-byte.invariant c.in_ok-push_byte.ensures
