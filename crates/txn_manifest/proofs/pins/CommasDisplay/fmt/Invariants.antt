use Rattle.std.proofs.Common.{◌≡◌, ℕ, List, ◌++◌, drop}
use Rattle.std.specs.Fmt.{HasWritten, IsPlainFormatter}
use Rattle.txn_manifest.specs.Text.{pins_text}
use Rattle.txn_manifest.proofs.Parts.{after_text}
use Rattle.txn_manifest.proofs.pins.CommasDisplay.fmt.Given as goal

-- what was written so far, and what is left to write
abbrev pub invariant-loop-pin : goal.invariant-loop-pin
invariant-loop-pin g l = (text : List ℕ) × (IsPlainFormatter l.fn.f → HasWritten g.W.Write.write_str_gives l.fn.f text l.f) × (text ++ after_text (drop l.pin-index l.rest) ≡ pins_text l.fn.self.0.now)
