use Rattle.std.proofs.Common.{◌≡◌, ℕ, List, ◌++◌, drop}
use Rattle.std.specs.Fmt.{HasWritten, IsPlainFormatter}
use Rattle.txn_script_lines.specs.Printed.{ids_text}
use Rattle.txn_script_lines.proofs.printed.ListedDisplay.fmt.Given as goal

-- what was written so far, and what is left to write
abbrev pub invariant-loop-id : goal.invariant-loop-id
invariant-loop-id g l = (text : List ℕ) × (IsPlainFormatter l.fn.f → HasWritten g.W.Write.write_str_gives l.fn.f text l.f) × (text ++ ids_text (drop l.id-index l.id-items) ≡ ids_text l.id-items)
