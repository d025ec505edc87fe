-- A read alone: from the begin of its call on, nothing happens but its own looks and its own serves.
use Rattle.std.specs.Prelude.{◌⊎◌, ℕ, List, [], ◌∷◌, Option, Some, None}
use Rattle.txn_history.specs.declared.event.PlainCall.TheVariants as calls
use Rattle.txn_history.specs.declared.event.EventOf.TheVariants as events
use Rattle.txn_history.specs.Lists.{numbered}
use Rattle.txn_machine.specs.declared.plain.doing.PlainDoing.{PlainDoing}
use Rattle.txn_machine.specs.declared.plain.doing.PlainDoing.TheVariants as doings
use Rattle.txn_machine.specs.plain.Alone.{passes_by, turns_by}
use Rattle.txn_steps_views.specs.declared.op.ViewOp.TheVariants.{Enters, Reads, Claims}
use Rattle.txn_history.specs.declared.event.ViewCall.TheVariants as view_calls
use Rattle.txn_history.specs.declared.event.Call.{Call}
use Rattle.txn_history.specs.declared.event.Call.TheVariants as any
use Rattle.txn_history.specs.Trace.{Told}
use Rattle.txn_machine.specs.declared.doing.Doing.{Doing}
use Rattle.txn_machine.specs.declared.doing.Doing.TheVariants as does
use Rattle.txn_machine.specs.declared.doing.Operation.{Operation}
use Rattle.txn_machine.specs.plain.Machine.{next_op}
use Rattle.txn_machine.specs.Machine.{State, Takes}

module _ {T : Type 0} where
  -- the call is one read of the newest version: a read, a load, a refresh, or that of a holder
  abbrev pub IsReading : Call T → Type 0
  IsReading (any.Plain calls.Read) = Unit {0}
  IsReading (any.View view_calls.Load) = Unit {0}
  IsReading (any.View (view_calls.Refresh view)) = Unit {0}
  IsReading (any.View (view_calls.HolderRefresh view)) = Unit {0}
  IsReading call = ⊥

  -- the read that its operation makes, as an operation of plain calls
  abbrev pub read_of : Doing T → PlainDoing T
  read_of (does.Plain doing) = doing
  read_of (does.View (Reads op)) = doings.Read op.read
  read_of (does.View (Enters op)) = doings.Ended
  read_of (does.View (Claims op)) = doings.Ended

  abbrev pub read_by : Option (Operation T) → PlainDoing T
  read_by None = doings.Ended
  read_by (Some operation) = read_of operation.doing

  abbrev pub read_in : State T → ℕ → PlainDoing T
  read_in s op = read_by (numbered s.operations op)

  -- how many passes begin in these states
  abbrev pub passes : ℕ → List (State T) → ℕ
  passes = passes_by read_in

  -- how many turns it takes through these states
  abbrev pub turns : ℕ → State T → List (State T) → ℕ
  turns = turns_by read_in

module _ {T : Type 0} (encode : T → List ℕ) (decode : List ℕ → Option T) (get_epoch : T → ℕ) (set_epoch : T → ℕ → T) where
  -- the operation looks, or its request is served
  abbrev pub Moves : ℕ → State T → State T → Type 0
  Moves op old new = (said : Told T) × (Takes encode decode get_epoch set_epoch old (events.Look op) said new ⊎ Takes encode decode get_epoch set_epoch old (events.Serve op) said new)

  -- states that follow one another while the operation alone moves
  abbrev pub MovesAlone : ℕ → State T → List (State T) → Type 0
  MovesAlone op s [] = Unit {0}
  MovesAlone op s (next ∷ states) = Moves op s next × MovesAlone op next states

  -- The states of a call of a client from its begin on, where it alone moves.
  abbrev pub ReadsAlone : State T → ℕ → Call T → List (State T) → Type 0
  ReadsAlone s client call [] = Unit {0}
  ReadsAlone s client call (first ∷ states) = ((said : Told T) × Takes encode decode get_epoch set_epoch s (events.Begin client call) said first) × MovesAlone (next_op s) first states
