use Rattle.std.proofs.Common.{◌≡◌, ◌++◌, drop}
use Rattle.txn_drawing_svg.specs.Escaped.{each, line_byte}
use Rattle.txn_drawing_svg.proofs.xml.Xml.push_lines.Given as goal

-- what was added so far, and what is left to add
abbrev pub invariant-loop-byte : goal.invariant-loop-byte
invariant-loop-byte l = l.self.bytes.items ++ each line_byte (drop l.byte-index l.lines) ≡ l.fn.self.bytes.items ++ each line_byte l.lines
