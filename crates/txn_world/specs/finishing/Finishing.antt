-- That an operation is given what it asks for, look by look and serve by serve: until it is answered, or as far as memory lasts.
use Rattle.std.specs.Prelude.{◌≡◌, ℕ, List, [], ◌∷◌, ◌++◌, ◌≤◌, length, true, is_some, Option, Some, None, All}
use Rattle.txn_history.specs.declared.event.Answer.{Answer}
use Rattle.txn_history.specs.declared.event.Call.{Call}
use Rattle.txn_history.specs.declared.event.EventFault.{EventFault}
use Rattle.txn_history.specs.declared.event.EventFault.TheVariants as faults
use Rattle.txn_history.specs.declared.event.EventOf.TheVariants as events
use Rattle.txn_history.specs.declared.event.ToldOf.TheVariants as told
use Rattle.txn_history.specs.Lists.{numbered}
use Rattle.txn_history.specs.Seen.{asks_of}
use Rattle.txn_history.specs.Trace.{Event, Told}
use Rattle.txn_machine.specs.plain.Machine.{next_op}
use Rattle.txn_machine.specs.declared.doing.Operation.{Operation}
use Rattle.txn_machine.specs.Machine.{State, seen_calls, Takes, Runs}
use Rattle.txn_world.specs.finishing.Progress.{cost_of, most_left, own_count, FewPages, Undisturbed}
use Rattle.txn_world.specs.Runs.{EndsRun}

module _ {T : Type 0} where
  -- all of these are looks and serves of the operation
  abbrev pub AreOwn : ℕ → List (Event T × Told T) → Type 0
  AreOwn op taken = own_count op taken ≡ length taken

  -- the operation goes on after each of them
  abbrev pub AllWent : ℕ → List (Event T × Told T) → Type 0
  AllWent op taken = All (λ it. it.1 ≡ told.Went op) taken

  -- and after one more event it is answered
  abbrev pub then_answered : List (Event T × Told T) → Event T → ℕ → Answer T → List (Event T × Told T)
  then_answered taken event op answer = taken ++ (event, told.Answered op answer) ∷ []

module _ {T : Type 0} (encode : T → List ℕ) (decode : List ℕ → Option T) (get_epoch : T → ℕ) (set_epoch : T → ℕ → T) where
  -- Looks and serves of the operation, and nothing else, led from old to new, and it goes on.
  pub record GoesTo (old : State T) (op : ℕ) (taken : List (Event T × Told T)) (new : State T) : Type 0 where
    pub runs : Runs encode decode get_epoch set_epoch old taken new
    pub own : AreOwn op taken
    pub went : AllWent op taken

  -- So many events of an operation are no more than it takes alone, where a listing has at most so many pages before and after each.
  pub record IsInTime (old : State T) (op : ℕ) (taken : List (Event T × Told T)) (new : State T) : Type 0 where
    -- from wherever it stood
    pub left : (operation : Operation T) (pages : ℕ) → numbered old.operations op ≡ Some operation → FewPages pages old → Undisturbed encode decode get_epoch set_epoch op pages old taken new → length taken ≤ most_left operation.doing pages
    -- from the begin of its call, where that is the event before
    pub alone : (before : State T) (client : ℕ) (call : Call T) (said : Told T) (pages : ℕ) → EndsRun encode decode get_epoch set_epoch before → Takes encode decode get_epoch set_epoch before (events.Begin client call) said old → op ≡ next_op before → FewPages pages old → Undisturbed encode decode get_epoch set_epoch op pages old taken new → length taken ≤ (cost_of call pages).alone

  -- The operation is given what it asks for until it is answered: so many looks and serves, and nothing else happens.
  pub record Finishes (old : State T) (op : ℕ) (answer : Answer T) (count : ℕ) (new : State T) : Type 0 where
    pub taken : List (Event T × Told T)
    pub event : Event T
    pub runs : Runs encode decode get_epoch set_epoch old (then_answered taken event op answer) new
    pub own : AreOwn op (then_answered taken event op answer)
    pub went : AllWent op taken
    pub counted : count ≡ length (then_answered taken event op answer)
    pub in_time : IsInTime old op (then_answered taken event op answer) new

  -- The operation asks for nothing, and nothing changes; or memory is wanting for what it asks for next, after some looks and serves.
  abbrev pub Stops : State T → ℕ → EventFault → State T → Type 0
  Stops old op faults.UnknownNumber new = (asks_of (seen_calls old) op ≡ None) × (new ≡ old)
  Stops old op faults.NoMemory new = (taken : List (Event T × Told T)) × GoesTo old op taken new × (is_some (asks_of (seen_calls new) op) ≡ true)
  Stops old op _ new = ⊥
