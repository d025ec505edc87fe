use Rattle.std.proofs.Common.{◌≡◌, ◌++◌, ℕ, List, drop}
use Rattle.std.specs.Io.KnownBytes.{Appends}
use Rattle.txnobj_words.specs.Said.{lines_of}
use Rattle.txnobj_words.specs.Repaired.{removed_text}
use Rattle.txnobj_words.proofs.repaired.print_removed.Given as goal

-- what was printed so far, and what is left to print
abbrev pub invariant-loop-id : goal.invariant-loop-id
invariant-loop-id g l = (text : List ℕ) × Appends (g.W.Write.contents l.fn.out) (g.W.Write.contents l.out) text × (text ++ lines_of removed_text (drop l.id-index l.ids) ≡ lines_of removed_text l.ids)
