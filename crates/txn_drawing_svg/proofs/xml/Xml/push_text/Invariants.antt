use Rattle.std.proofs.Common.{◌≡◌, ◌++◌, drop}
use Rattle.txn_drawing_svg.specs.Escaped.{each, escaped_byte}
use Rattle.txn_drawing_svg.proofs.xml.Xml.push_text.Given as goal

-- what was added so far, and what is left to add
abbrev pub invariant-loop-byte : goal.invariant-loop-byte
invariant-loop-byte l = l.self.bytes.items ++ each escaped_byte (drop l.byte-index l.bytes) ≡ l.fn.self.bytes.items ++ each escaped_byte l.bytes
