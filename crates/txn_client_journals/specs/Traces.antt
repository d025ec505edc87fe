-- What a merged list says as one world's: its trace, its loose requests, and its operations whose store call failed. All are functions of the rows alone.
use Rattle.std.specs.Prelude.{ℕ, List, [], ◌∷◌, ◌++◌, ◌+◌, Option, Some, length, map}
use Rattle.std.specs.Option.{option_map}
use Rattle.txn_store.specs.declared.request.Request.{Request}
use Rattle.txn_history.specs.declared.trace.RowOf.TheVariants.{Begun}
use Rattle.txn_history.specs.Seen.{Store}
use Rattle.txn_history.specs.GoesOn.{as_loose, left_loose}
use Rattle.txn_history.specs.Added.{answer_rows, effect_rows}
use Rattle.txn_machine.specs.plain.Machine.{effect_of}
use Rattle.txn_history.specs.declared.event.ViewCall.TheVariants as view_calls
use Rattle.txn_history.specs.declared.event.Call.{Call}
use Rattle.txn_history.specs.declared.event.Call.TheVariants as any
use Rattle.txn_history.specs.declared.event.Answer.{Answer}
use Rattle.txn_history.specs.declared.event.Answer.TheVariants as answers
use Rattle.txn_history.specs.Trace.{Row}
use Rattle.txn_client_journals.specs.declared.rows.Act.TheVariants as acts
use Rattle.txn_client_journals.specs.declared.rows.Step.{Step}
use Rattle.txn_client_journals.specs.declared.rows.Step.TheVariants as steps
use Rattle.txn_client_journals.specs.Logs.{files_of}
use Rattle.txn_client_journals.specs.Numbers.{number, number_or_next}
use Rattle.txn_client_journals.specs.Merged.{Did, Lands, Merged, log_of, begins_of, views_of}

module _ {T : Type 0} where
  -- Names by the numbers of all.

  -- a call, with another name of its view
  abbrev pub named_call : (ℕ → ℕ) → Call T → Call T
  named_call names (any.Plain call) = any.Plain call
  named_call names (any.View (view_calls.Init value)) = any.View (view_calls.Init value)
  named_call names (any.View view_calls.Load) = any.View view_calls.Load
  named_call names (any.View (view_calls.Refresh view)) = any.View (view_calls.Refresh (names view))
  named_call names (any.View (view_calls.Update view value)) = any.View (view_calls.Update (names view) value)
  named_call names (any.View (view_calls.Claim view)) = any.View (view_calls.Claim (names view))
  named_call names (any.View (view_calls.ClaimAt view epoch)) = any.View (view_calls.ClaimAt (names view) epoch)
  named_call names (any.View (view_calls.HolderRefresh view)) = any.View (view_calls.HolderRefresh (names view))
  named_call names (any.View (view_calls.HolderUpdate view value)) = any.View (view_calls.HolderUpdate (names view) value)

  -- an answer, with another name of its view
  abbrev pub named_answer : (ℕ → ℕ) → Answer T → Answer T
  named_answer names (answers.Plain answer) = answers.Plain answer
  named_answer names (answers.View view id value) = answers.View (names view) id value
  named_answer names (answers.Held view id value epoch) = answers.Held (names view) id value epoch

  -- a client's call after these rows
  abbrev pub call_in : Merged T → ℕ → Call T → Call T
  call_in m client call = named_call (number (views_of m) client) call

  -- the answer of a client's next row; a view that it makes has the next number
  abbrev pub told_in : Merged T → ℕ → Option (Answer T) → Option (Answer T)
  told_in m client answer = option_map (named_answer (number_or_next (views_of m) client)) answer

  -- the number of the next operation
  abbrev pub next_in : Merged T → ℕ
  next_in m = length (begins_of m) + 1

  -- the number of a client's operation
  abbrev pub op_in : Merged T → ℕ → ℕ → ℕ
  op_in m client op = number (begins_of m) client op

  -- The trace: begins, the effects of receipts and of landings, and answers.

  -- the trace, with the rows of a step and of the answer that it tells
  abbrev pub with_rows : Merged T → ℕ → Step T → Option (Answer T) → List (Row T) → List (Row T)
  with_rows m client (steps.Begin call) answer rows = (rows ++ Begun (next_in m) (call_in m client call) ∷ []) ++ answer_rows (next_in m) (told_in m client answer)
  with_rows m client (steps.Act op (acts.Receive receipt)) answer rows =
      (rows ++ effect_rows (op_in m client op) (effect_of (files_of (log_of m)) receipt.request receipt.reply)) ++ answer_rows (op_in m client op) (told_in m client answer)
  with_rows m client (steps.Act op acts.Look) answer rows = rows ++ answer_rows (op_in m client op) (told_in m client answer)
  with_rows m client (steps.Act op acts.Lacks) answer rows = rows ++ answer_rows (op_in m client op) (told_in m client answer)
  with_rows m client (steps.Act op (acts.Fails request)) answer rows = rows ++ answer_rows (op_in m client op) (told_in m client answer)
  with_rows m client (steps.Act op (acts.GiveUp left)) answer rows = rows
  with_rows m client (steps.Killed lefts) answer rows = rows

  -- the trace of a merged list
  abbrev pub trace_of : Merged T → List (Row T)
  trace_of [] = []
  trace_of (Did client row ∷ m) = with_rows m client row.step row.answer (trace_of m)
  trace_of (Lands landing ∷ m) = trace_of m ++ effect_rows (op_in m landing.client landing.op) (effect_of (files_of (log_of m)) landing.request landing.reply)

  -- What was left and may still reach the store, each request with its operation, in the order in which it was left.

  -- what was left, with what a step leaves
  abbrev pub with_left : Merged T → ℕ → Step T → List (ℕ × Request) → List (ℕ × Request)
  with_left m client (steps.Act op (acts.GiveUp left)) loose = loose ++ as_loose (op_in m client op) left
  with_left m client (steps.Act op (acts.Fails request)) loose = loose ++ left_loose (op_in m client op) (Some (Store request))
  with_left m client (steps.Killed lefts) loose = loose ++ map (λ left. (op_in m client left.op, left.request)) lefts.items
  with_left m client _ loose = loose

  -- the loose requests of a merged list
  abbrev pub loose_of : Merged T → List (ℕ × Request)
  loose_of [] = []
  loose_of (Did client row ∷ m) = with_left m client row.step (loose_of m)
  loose_of (Lands landing ∷ m) = loose_of m

  -- the operations whose store call failed, with that of a step
  abbrev pub with_failed : Merged T → ℕ → Step T → List ℕ → List ℕ
  with_failed m client (steps.Act op (acts.Fails request)) failed = failed ++ op_in m client op ∷ []
  with_failed m client _ failed = failed

  -- the operations whose store call failed, in the order in which it did
  abbrev pub failed_of : Merged T → List ℕ
  failed_of [] = []
  failed_of (Did client row ∷ m) = with_failed m client row.step (failed_of m)
  failed_of (Lands landing ∷ m) = failed_of m
