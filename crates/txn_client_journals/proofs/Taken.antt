-- The events that lead a world where a merged list does, each with what it tells. All are functions of the rows alone.
use Rattle.std.proofs.Common.{ℕ, List, [], ◌∷◌, ◌++◌, ◌+◌, ◌==◌, ◌&&◌, Bool, if◌then◌else◌, Option, Some, None, length}
use Rattle.std.specs.Prelude.{is_some}
use Rattle.txn_store.specs.declared.request.Request.{Request}
use Rattle.txn_history.specs.declared.event.Answer.{Answer}
use Rattle.txn_history.specs.declared.event.EventOf.TheVariants as events
use Rattle.txn_history.specs.declared.event.Failure.TheVariants as failures
use Rattle.txn_history.specs.declared.event.ToldOf.TheVariants as told
use Rattle.txn_history.specs.Added.{told_of}
use Rattle.txn_history.specs.Trace.{Event, Told}
use Rattle.txn_machine.specs.plain.Machine.{effect_of}
use Rattle.txn_client_journals.specs.declared.rows.Act.TheVariants as acts
use Rattle.txn_client_journals.specs.declared.rows.Left.{Left}
use Rattle.txn_client_journals.specs.declared.rows.Step.{Step}
use Rattle.txn_client_journals.specs.declared.rows.Step.TheVariants as steps
use Rattle.txn_client_journals.specs.Journals.{left_by}
use Rattle.txn_client_journals.specs.Logs.{files_of}
use Rattle.txn_client_journals.specs.Merged.{Landing, Did, Lands, Merged, log_of}
use Rattle.txn_client_journals.specs.Traces.{call_in, told_in, next_in, op_in, loose_of}

-- where what this operation left of all that a kill left stands, the first of that being at this place, else this
abbrev pub place_among : ℕ → Bool → ℕ → List Left → ℕ → ℕ
place_among at own op [] rest = rest
place_among at own op (left ∷ lefts) rest = if own && (left.op == op) then at else place_among (at + 1) own op lefts rest

-- this place where something is left and it is the operation's, else the one before
abbrev pub place_now : Bool → Option Request → ℕ → ℕ → ℕ
place_now is None at rest = rest
place_now is (Some request) at rest = if is then at else rest

module _ {T : Type 0} where
  -- Where what was left stands among the loose requests.

  -- the place there of what this operation left by a step, where it is the client's own, else this
  abbrev pub with_place : ℕ → Bool → ℕ → Step T → ℕ → ℕ
  with_place at own op (steps.Begin call) rest = rest
  with_place at own op (steps.Act o act) rest = place_now (own && (o == op)) (left_by act) at rest
  with_place at own op (steps.Killed lefts) rest = place_among at own op lefts.items rest

  -- the place there of what this operation of a client left
  abbrev pub place_in : Merged T → ℕ → ℕ → ℕ
  place_in [] client op = 0
  place_in (Did d row ∷ m) client op = with_place (length (loose_of m) + 1) (d == client) op row.step (place_in m client op)
  place_in (Lands landing ∷ m) client op = place_in m client op

  -- The events, the oldest first.

  -- the event that a step is: a receipt is a serve, and so is a call that was refused for memory; a call that failed is a failure that leaves its request loose, and a kill is a crash
  abbrev pub event_in : Merged T → ℕ → Step T → Event T
  event_in m client (steps.Begin call) = events.Begin client (call_in m client call)
  event_in m client (steps.Act op acts.Look) = events.Look (op_in m client op)
  event_in m client (steps.Act op (acts.Receive receipt)) = events.Serve (op_in m client op)
  event_in m client (steps.Act op acts.Lacks) = events.Serve (op_in m client op)
  event_in m client (steps.Act op (acts.GiveUp left)) = events.GiveUp (op_in m client op)
  event_in m client (steps.Act op (acts.Fails request)) = events.Fail (op_in m client op) failures.Loose
  event_in m client (steps.Killed lefts) = events.Crash client

  -- what that event tells, by the answer of the step
  abbrev pub tells_in : Merged T → ℕ → Step T → Option (Answer T) → Told T
  tells_in m client (steps.Begin call) answer = told_of (told.Began (next_in m)) (next_in m) (told_in m client answer)
  tells_in m client (steps.Act op (acts.GiveUp left)) answer = told.GaveUp (op_in m client op)
  tells_in m client (steps.Act op acts.Look) answer = told_of (told.Went (op_in m client op)) (op_in m client op) (told_in m client answer)
  tells_in m client (steps.Act op (acts.Receive receipt)) answer = told_of (told.Went (op_in m client op)) (op_in m client op) (told_in m client answer)
  tells_in m client (steps.Act op acts.Lacks) answer = told_of (told.Went (op_in m client op)) (op_in m client op) (told_in m client answer)
  tells_in m client (steps.Act op (acts.Fails request)) answer = told_of (told.Went (op_in m client op)) (op_in m client op) (told_in m client answer)
  tells_in m client (steps.Killed lefts) answer = told.Crashed client

  -- a landing as an event, and what it tells: whether it changed the files
  abbrev pub landed_in : Merged T → Landing → Event T × Told T
  landed_in m landing =
      (events.Land (place_in m landing.client landing.op), told.Landed (place_in m landing.client landing.op) (is_some (effect_of (files_of (log_of m)) landing.request landing.reply)))

  -- the events of a merged list, each with what it tells
  abbrev pub taken_of : Merged T → List (Event T × Told T)
  taken_of [] = []
  taken_of (Did client row ∷ m) = taken_of m ++ (event_in m client row.step, tells_in m client row.step row.answer) ∷ []
  taken_of (Lands landing ∷ m) = taken_of m ++ landed_in m landing ∷ []
