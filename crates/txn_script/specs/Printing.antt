-- How lines are printed and a run stops, for the functions that print them.
use Rattle.std.specs.Prelude.{◌≡◌, ℕ, List, [], ◌++◌, ◌⊎◌, Option, Some, None}
use Rattle.std.specs.Io.KnownBytes.{Appends, append_known}
use Rattle.txn_machine.specs.Machine.{State}
use Rattle.txn_script_lines.specs.declared.line.Line.{Line}
use Rattle.txn_script_lines.specs.declared.line.Line.TheVariants as lines
use Rattle.txn_script_lines.specs.declared.stop.Stop.{Stop}
use Rattle.txn_script_lines.specs.declared.stop.Stop.TheVariants as stops
use Rattle.txn_script.specs.declared.printer.Printer.{Printer}
use Rattle.txn_script.specs.Rules.{Rules}
use Rattle.txn_script.specs.Script.{IsPage, IsEndFront}

-- what a printer has not written yet
abbrev pub unwritten : Printer → List ℕ
unwritten printer = printer.text.items

-- It printed this text.
abbrev pub Gathers : Printer → Printer → List ℕ → Type 0
Gathers old new text = unwritten new ≡ unwritten old ++ text

-- It printed nothing, and wrote nothing.
abbrev pub IsUnchanged : Printer → Printer → Type 0
IsUnchanged old new = unwritten new ≡ unwritten old

-- the bytes of a writer, and after them what is not written yet
abbrev pub held : Option (List ℕ) → Printer → Option (List ℕ)
held written printer = append_known written (unwritten printer)

-- the line may not stand after the first one: directly after it, where it had so many clients, or later
abbrev pub Misplaced : {C : Type 0} → Option ℕ → Line C → Type 0
Misplaced opened (lines.Clients count) = Unit {0}
Misplaced opened (lines.Page size) = ¬ (IsPage opened size)
Misplaced opened (lines.Event event) = ⊥
Misplaced opened (lines.Run op) = ⊥

-- A stop in the end lines, some of which were printed.
abbrev pub StopsInEnd : {T C : Type 0} → Rules T C → Stop → State T → Option (List ℕ) → Option (List ℕ) → Type 0
StopsInEnd rules stop s old new = (stop ≡ stops.WriteFailed) ⊎ ((stop ≡ stops.NoMemory) × (text : List ℕ) × IsEndFront rules (Some (record { state = s; opened = None })) [] text × Appends old new text)

-- A stop within these lines, some of which were printed.
abbrev pub StopsWithin : Stop → List ℕ → Option (List ℕ) → Option (List ℕ) → Type 0
StopsWithin stop whole old new = (stop ≡ stops.WriteFailed) ⊎ ((stop ≡ stops.NoMemory) × (text : List ℕ) × (more : List ℕ) × (text ++ more ≡ whole) × Appends old new text)

-- A line took no effect on what is printed: it may not stand there, or memory was wanting.
abbrev pub StopsLine : {C : Type 0} → Stop → Stop → Option ℕ → Line C → Type 0
StopsLine stop bad opened line = (stop ≡ stops.NoMemory) ⊎ (Misplaced opened line × (stop ≡ bad))
