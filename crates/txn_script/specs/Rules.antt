-- What scripts of a kind of world speak of, and what a world of it does.
use Rattle.std.specs.Prelude.{ℕ, List, Option}
use Rattle.txn_history.specs.declared.event.EventOf.{EventOf}
use Rattle.txn_history.specs.Trace.{Told}
use Rattle.txn_machine.specs.Machine.{State}

-- How a kind of world goes on.
pub record WorldRules (T C : Type 0) : Type 1 where
  -- from a state an event may tell this, and lead to another
  pub takes : State T → EventOf C → Told T → State T → Type 0
  -- the line of the fault that an event is due, where it is due one
  pub due : State T → EventOf C → Option (List ℕ)
  -- the event that gives an operation what it asks for
  pub next : State T → ℕ → EventOf C
  -- the value that bytes are read as
  pub decode : List ℕ → Option T
  -- the ids that the newest value pins, where values pin some
  pub pins : State T → Option (List ℕ) → Type 0

-- The same with the texts of calls and values, and the calls that a text can say.
pub record Rules (T C : Type 0) : Type 1 where
  pub call_text : C → List ℕ
  pub call_fits : C → Type 0
  pub value_text : T → List ℕ
  pub world : WorldRules T C

abbrev pub rules_of : {T C : Type 0} → (C → List ℕ) → (C → Type 0) → (T → List ℕ) → WorldRules T C → Rules T C
rules_of call_text call_fits value_text world = record { call_text = call_text; call_fits = call_fits; value_text = value_text; world = world }
