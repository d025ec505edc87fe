use Rattle.std.proofs.Common.{◌≡◌, ℕ, ◌++◌, List, drop}
use Rattle.std.specs.Fmt.{decimal}
use Rattle.std.specs.Io.KnownBytes.{Appends}
use Rattle.txnobj_words.specs.Said.{lines_of}
use Rattle.txnobj_words.proofs.lines.print_numbers.Given as goal

-- what was printed so far, and what is left to print
abbrev pub invariant-loop-number : goal.invariant-loop-number
invariant-loop-number g l = (text : List ℕ) × Appends (g.W.Write.contents l.fn.out) (g.W.Write.contents l.out) text × (text ++ lines_of decimal (drop l.number-index l.numbers) ≡ lines_of decimal l.numbers)
