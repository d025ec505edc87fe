-- What stands at the foot of a drawing.
use Rattle.std.specs.Prelude.{ℕ, List, ◌++◌, Option}
use Rattle.std.specs.Io.KnownBytes.{Appends}
use Rattle.txn_machine.specs.Machine.{State}
use Rattle.txn_script.specs.Rules.{Rules}
use Rattle.txn_script.specs.Script.{LeadsTo, EndsWith}
use Rattle.txn_drawing_svg.specs.Escaped.{escaped_lines}

-- A drawing of a script was written: its foot is the end lines of the world that the script's lines lead to, where the bytes that were read are known.
abbrev pub IsDrawn : {T C : Type 0} → Rules T C → Option (List ℕ) → Option (List ℕ) → Option (List ℕ) → Type 0
IsDrawn {T = T} rules input old new = (state : State T) × (above foot : List ℕ) × LeadsTo rules input state × EndsWith rules state foot × Appends old new (above ++ foot)

-- A picture of a script was written: the lines at its foot are the end lines of the world that the script's lines lead to, escaped, where the bytes that were read are known.
abbrev pub IsPictured : {T C : Type 0} → Rules T C → Option (List ℕ) → Option (List ℕ) → Option (List ℕ) → Type 0
IsPictured {T = T} rules input old new = (state : State T) × (above foot below : List ℕ) × LeadsTo rules input state × EndsWith rules state foot × Appends old new (above ++ (escaped_lines foot ++ below))
