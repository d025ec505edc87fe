use Rattle.std.proofs.Common.{◌≡◌, ◌++◌, drop, string_bytes}
use Rattle.txn_drawing_moments.specs.Texts.{fence_text, out_text}
use Rattle.txn_drawing_moments.proofs.holds.fence_words.Given as goal

-- with those that are left the words are whole
abbrev pub invariant-loop-it : goal.invariant-loop-it
invariant-loop-it l = string_bytes l.words ++ out_text (drop l.it-index l.out) ≡ fence_text l.fn.client l.fn.is_claim l.fn.epoch l.out
