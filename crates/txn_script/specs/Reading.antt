-- How the first line of a script opens its world.
use Rattle.std.specs.Prelude.{◌≡◌, ℕ, ◌≤◌, List, Option, Some, None, IfSome}
use Rattle.txn_machine.specs.Machine.{State, opening}
use Rattle.txn_script_lines.specs.declared.line.Line.{Line}
use Rattle.txn_script_lines.specs.declared.line.Line.TheVariants as lines
use Rattle.txn_script_lines.specs.Grammar.{line_text, LineFits}
use Rattle.txn_script_lines.specs.Reading.{SkipsTo, NextIs, ReadsNext, MeetsBad}
use Rattle.txn_script.specs.Rules.{Rules}
use Rattle.txn_script.specs.Script.{IsBadNext}

module _ {T C : Type 0} (rules : Rules T C) where
  -- the next kept line, and the bytes after it; or that none is left
  abbrev pub NextLine : List ℕ → ℕ → List ℕ → ℕ → Option (Line C) → Type 0
  NextLine input n after m found = NextIs (line_text rules.call_text) (LineFits rules.call_fits) input n after m found

  abbrev pub ReadsNextLine : Option (List ℕ) → ℕ → Option (List ℕ) → ℕ → Option (Line C) → Type 0
  ReadsNextLine old n new m found = ReadsNext (line_text rules.call_text) (LineFits rules.call_fits) old n new m found

  -- the next kept line, of number m, says nothing
  abbrev pub MeetsBadLine : Option (List ℕ) → ℕ → ℕ → Type 0
  MeetsBadLine old n m = MeetsBad (line_text rules.call_text) (LineFits rules.call_fits) old n m

  -- The first kept line opens a world for so many clients.
  abbrev pub OpensWorld : Option (List ℕ) → ℕ → Option (List ℕ) → ℕ → ℕ → State T → Type 0
  OpensWorld old n new m clients world = IfSome old (λ input. (after : List ℕ) × (new ≡ Some after) × (1 ≤ clients) × (clients ≤ 64) × NextLine input n after m (Some (lines.Clients clients)) × (world ≡ opening clients 1000))

  -- The first kept line opens none, or none is kept; m is its number, or that of the line past the end.
  abbrev pub OpensBad : Option (List ℕ) → ℕ → ℕ → Type 0
  OpensBad old n m = IfSome old (λ input. (left : List (List ℕ)) × SkipsTo input n m left × IsBadNext rules None left)
