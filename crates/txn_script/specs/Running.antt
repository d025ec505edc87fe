-- What came of an event, by the rules of its world.
use Rattle.std.specs.Prelude.{◌≡◌, Some}
use Rattle.txn_history.specs.declared.event.EventOf.{EventOf}
use Rattle.txn_machine.specs.Machine.{State}
use Rattle.txn_script_lines.specs.Printed.{named_fault_text}
use Rattle.txn_script.specs.declared.kind.Came.{Came}
use Rattle.txn_script.specs.declared.kind.Came.TheVariants.{Told, Refused}
use Rattle.txn_script.specs.Rules.{WorldRules}

-- It was taken, and told this; or it is due the fault of this line, and nothing changed.
abbrev pub CameOf : {T C : Type 0} → WorldRules T C → State T → EventOf C → Came T → State T → Type 0
CameOf rules old event (Told said) new = rules.takes old event said new
CameOf rules old event (Refused line) new = (rules.due old event ≡ Some (named_fault_text line.number line.name.now)) × (new ≡ old)
