-- How many looks and calls of the store a bounded call makes at most, and how many its operation has left, whatever others do.
-- A read, an advance, a listing and a claim have no bound: others may keep them going.
use Rattle.std.specs.Prelude.{ℕ, ◌+◌, ◌==◌, if◌then◌else◌, Bool, false, List, [], ◌∷◌, Option, Some, None}
use Rattle.txn_steps.specs.boundary.Counts.{Budget, no_budget, check_budget}
use Rattle.txn_steps.specs.CallsLeft.{one_of_each, unchecked_budget, write_budget, delete_budget, seen_budget}
use Rattle.txn_history.specs.declared.event.PlainCall.TheVariants as calls
use Rattle.txn_history.specs.declared.event.EventOf.TheVariants as events
use Rattle.txn_machine.specs.declared.plain.doing.PlainDoing.{PlainDoing}
use Rattle.txn_machine.specs.declared.plain.doing.PlainDoing.TheVariants as doings
use Rattle.txn_steps_views.specs.declared.op.ViewOp.{ViewOp}
use Rattle.txn_steps_views.specs.declared.op.ViewOp.TheVariants.{Enters, Reads, Claims}
use Rattle.txn_steps_views.specs.CallsLeft.{entry_budget}
use Rattle.txn_history.specs.declared.event.ViewCall.TheVariants as view_calls
use Rattle.txn_history.specs.declared.event.Call.{Call}
use Rattle.txn_history.specs.declared.event.Call.TheVariants as any
use Rattle.txn_history.specs.Trace.{Event, Told}
use Rattle.txn_machine.specs.declared.doing.Doing.{Doing}
use Rattle.txn_machine.specs.declared.doing.Doing.TheVariants as does

-- a create or a removal, and its check
abbrev pub five_and_two : Budget
five_and_two = record { looks = 5; calls = 2 }

module _ {T : Type 0} where
  -- the most that a call makes, where it has a bound
  abbrev pub most_of : Call T → Option Budget
  most_of (any.Plain (calls.Write base value)) = Some five_and_two
  most_of (any.Plain (calls.WriteUnchecked base value)) = Some one_of_each
  most_of (any.Plain (calls.ReadUnchecked id)) = Some (record { looks = 0; calls = 1 })
  most_of (any.Plain (calls.ReadSeen id)) = Some (record { looks = 2; calls = 1 })
  most_of (any.Plain (calls.Delete id)) = Some five_and_two
  most_of (any.Plain (calls.Check id)) = Some (record { looks = 4; calls = 1 })
  most_of (any.Plain calls.Read) = None
  most_of (any.Plain (calls.ListIds from to)) = None
  most_of (any.Plain (calls.Advance to)) = None
  most_of (any.View (view_calls.Init value)) = Some five_and_two
  most_of (any.View (view_calls.Update view value)) = Some five_and_two
  most_of (any.View (view_calls.HolderUpdate view value)) = Some five_and_two
  most_of (any.View view_calls.Load) = None
  most_of (any.View (view_calls.Refresh view)) = None
  most_of (any.View (view_calls.Claim view)) = None
  most_of (any.View (view_calls.ClaimAt view epoch)) = None
  most_of (any.View (view_calls.HolderRefresh view)) = None

  abbrev pub plain_budget : PlainDoing T → Option Budget
  plain_budget (doings.Write op) = Some (write_budget op)
  plain_budget (doings.WriteUnchecked op) = Some (unchecked_budget op)
  plain_budget (doings.ReadUnchecked op) = Some (record { looks = 0; calls = 1 })
  plain_budget (doings.ReadSeen op) = Some (seen_budget op)
  plain_budget (doings.Delete op) = Some (delete_budget op)
  plain_budget (doings.Check op) = Some (check_budget op)
  plain_budget doings.Ended = Some no_budget
  plain_budget (doings.Read op) = None
  plain_budget (doings.ListIds op) = None
  plain_budget (doings.Advance op) = None

  abbrev pub view_budget : ViewOp T → Option Budget
  view_budget (Enters op) = Some (entry_budget op)
  view_budget (Reads op) = None
  view_budget (Claims op) = None

  -- what an operation has left, where its call has a bound: nothing where it has ended
  abbrev pub any_budget : Doing T → Option Budget
  any_budget (does.Plain doing) = plain_budget doing
  any_budget (does.View op) = view_budget op

  -- a look, and a serve, of this operation

  abbrev pub is_look_of : ℕ → Event T → Bool
  is_look_of op (events.Look other) = other == op
  is_look_of op _ = false

  abbrev pub is_serve_of : ℕ → Event T → Bool
  is_serve_of op (events.Serve other) = other == op
  is_serve_of op _ = false

  -- how many of such events were taken
  abbrev pub taken_of : (Event T → Bool) → List (Event T × Told T) → ℕ
  taken_of is_one [] = 0
  taken_of is_one (taken ∷ rest) = (if is_one taken.0 then 1 else 0) + taken_of is_one rest
