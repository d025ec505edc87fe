-- How many looks and serves all operations of a run take together: what each call takes alone as it begins, and what each event adds to the operations that it disturbs.
use Rattle.std.specs.Prelude.{◌≡◌, ◌⊎◌, ℕ, zero, suc, ◌+◌, if◌then◌else◌, Bool, true, false, List, [], ◌∷◌, length, Option, Some, None}
use Rattle.txn_history.specs.declared.event.EventOf.TheVariants as events
use Rattle.txn_history.specs.Lists.{numbered}
use Rattle.txn_history.specs.Trace.{Event, Told}
use Rattle.txn_machine.specs.declared.plain.doing.PlainDoing.TheVariants as doings
use Rattle.txn_steps_views.specs.declared.op.ViewOp.TheVariants.{Enters, Reads, Claims}
use Rattle.txn_machine.specs.declared.doing.Doing.{Doing}
use Rattle.txn_machine.specs.declared.doing.Doing.TheVariants as does
use Rattle.txn_machine.specs.declared.doing.Operation.{Operation}
use Rattle.txn_machine.specs.CallsLeft.{taken_of}
use Rattle.txn_machine.specs.Machine.{State, Takes}
use Rattle.txn_world.specs.finishing.Progress.{reading, claiming, advancing, cost_of, is_own, LeavesAlone, FewPages}

module _ {T : Type 0} where
  -- what a disturbance adds at most to what an operation takes: nothing where others cannot keep it going, and where it has ended
  abbrev pub adds_to : Doing T → ℕ → ℕ
  adds_to (does.Plain (doings.Read op)) pages = (reading pages).again
  adds_to (does.Plain (doings.ListIds op)) pages = pages
  adds_to (does.Plain (doings.Advance op)) pages = advancing.again
  adds_to (does.Plain (doings.Write op)) pages = 0
  adds_to (does.Plain (doings.WriteUnchecked op)) pages = 0
  adds_to (does.Plain (doings.ReadUnchecked op)) pages = 0
  adds_to (does.Plain (doings.ReadSeen op)) pages = 0
  adds_to (does.Plain (doings.Delete op)) pages = 0
  adds_to (does.Plain (doings.Check op)) pages = 0
  adds_to (does.Plain doings.Ended) pages = 0
  adds_to (does.View (Enters op)) pages = 0
  adds_to (does.View (Reads op)) pages = (reading pages).again
  adds_to (does.View (Claims op)) pages = (claiming pages).again

  -- the same of the operation of a number, if there is one
  abbrev pub adds_in : Option (Operation T) → ℕ → ℕ
  adds_in None pages = 0
  adds_in (Some operation) pages = adds_to operation.doing pages

  -- what an event adds that disturbs just these of the first so many operations
  abbrev pub added_to : (ℕ → Bool) → List (Operation T) → ℕ → ℕ → ℕ
  added_to hits operations pages zero = 0
  added_to hits operations pages (suc n) = added_to hits operations pages n + (if hits (suc n) then adds_in (numbered operations (suc n)) pages else 0)

  -- what a call takes alone that begins here
  abbrev pub begun_cost : Event T → ℕ → ℕ
  begun_cost (events.Begin client call) pages = (cost_of call pages).alone
  begun_cost (events.Look op) pages = 0
  begun_cost (events.Serve op) pages = 0
  begun_cost (events.Fail op failure) pages = 0
  begun_cost (events.GiveUp op) pages = 0
  begun_cost (events.Land k) pages = 0
  begun_cost (events.Crash client) pages = 0

  -- a look or a serve, of whichever operation
  abbrev pub is_work : Event T → Bool
  is_work (events.Look op) = true
  is_work (events.Serve op) = true
  is_work (events.Begin client call) = false
  is_work (events.Fail op failure) = false
  is_work (events.GiveUp op) = false
  is_work (events.Land k) = false
  is_work (events.Crash client) = false

  -- how many looks and serves were taken
  abbrev pub work_count : List (Event T × Told T) → ℕ
  work_count taken = taken_of is_work taken

  -- An event disturbs no operations but these: it is a look or a serve of each other one, or leaves it alone.
  abbrev pub DisturbsOnly : (ℕ → Bool) → State T → Event T → State T → Type 0
  DisturbsOnly hits old event new = (op : ℕ) → hits op ≡ false → (is_own op event ≡ true) ⊎ LeavesAlone op old new

module _ {T : Type 0} (encode : T → List ℕ) (decode : List ℕ → Option T) (get_epoch : T → ℕ) (set_epoch : T → ℕ → T) where
  -- Events one after another, which cost so much: each begin what its call takes alone, and each event what it adds to the operations that it disturbs. After each event a listing has at most so many pages.
  abbrev pub Costs : ℕ → ℕ → State T → List (Event T × Told T) → State T → Type 0
  Costs pages cost old [] new = new ≡ old
  Costs pages cost old (taken ∷ rest) new =
      (middle : State T)
      × Takes encode decode get_epoch set_epoch old taken.0 taken.1 middle
      × FewPages pages middle
      × (hits : ℕ → Bool)
      × DisturbsOnly hits old taken.0 middle
      × (left : ℕ)
      × (cost ≡ begun_cost taken.0 pages + added_to hits old.operations pages (length old.operations) + left)
      × Costs pages left middle rest new
