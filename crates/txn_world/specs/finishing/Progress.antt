-- How many looks and serves an operation takes: by its call, where nothing disturbs it, and by how often something did.
use Rattle.std.specs.Prelude.{◌≡◌, ◌⊎◌, ℕ, ◌+◌, ◌*◌, ◌≤◌, ◌||◌, Bool, true, List, [], ◌∷◌, Option, Some, None}
use Rattle.txn_steps.specs.declared.boundary.caches.Caches.{Caches}
use Rattle.txn_steps.specs.boundary.Counts.{Budget, check_budget}
use Rattle.txn_steps_driven.specs.PageCount.{pages_below}
use Rattle.txn_steps.specs.CallsLeft.{unchecked_budget, write_budget, delete_budget, seen_budget}
use Rattle.txn_history.specs.declared.event.PlainCall.TheVariants as calls
use Rattle.txn_history.specs.declared.event.ViewCall.TheVariants as view_calls
use Rattle.txn_history.specs.declared.event.Call.{Call}
use Rattle.txn_history.specs.declared.event.Call.TheVariants as any
use Rattle.txn_history.specs.Lists.{numbered}
use Rattle.txn_history.specs.Names.{world_names}
use Rattle.txn_history.specs.Trace.{Event, Told}
use Rattle.txn_machine.specs.declared.plain.doing.PlainDoing.TheVariants as doings
use Rattle.txn_steps_views.specs.declared.op.ViewOp.TheVariants.{Enters, Reads, Claims}
use Rattle.txn_steps_views.specs.CallsLeft.{entry_budget}
use Rattle.txn_machine.specs.declared.doing.Doing.{Doing}
use Rattle.txn_machine.specs.declared.doing.Doing.TheVariants as does
use Rattle.txn_machine.specs.declared.doing.Operation.{Operation}
use Rattle.txn_machine.specs.CallsLeft.{is_look_of, is_serve_of, taken_of}
use Rattle.txn_machine.specs.Machine.{State, Takes}

-- How many looks and serves a call takes at most: so many alone, and so many more each time that it was disturbed.
pub record Cost : Type 0 where
  pub alone : ℕ
  pub again : ℕ

-- one that others cannot keep going
abbrev pub at_most : ℕ → Cost
at_most count = record { alone = count; again = 0 }

-- A read of the newest version. A try takes at most 17 and the pages of a listing: a look, four probes with a look each, the listing, three to choose, get and keep a version, and five to check its id. Alone a try that is refused has listed nothing and leaves nothing held, and the next one, of nine and the pages, finds the newest version. One that was disturbed may have a whole try before them.
abbrev pub reading : ℕ → Cost
reading pages = record { alone = 23 + pages; again = 40 + 2 * pages }

-- A claim. An attempt takes at most seven. Alone the first one may be overtaken already: then a read finds the newest version, and the attempt on that is the last. One that was disturbed may be amid a read, which leads to a first attempt.
abbrev pub claiming : ℕ → Cost
claiming pages = record { alone = 37 + pages; again = 77 + 3 * pages }

-- An advance. Alone its first put may come too late, for the boundary that it knew: then a read finds the boundary, and the next put is in time. So does the put that one disturbance makes late.
abbrev pub advancing : Cost
advancing = record { alone = 9; again = 5 }

-- looks and calls of the store together
abbrev pub sum_of : Budget → ℕ
sum_of budget = budget.looks + budget.calls

module _ {T : Type 0} where
  -- the cost of a call, where a listing of the versions has so many pages
  abbrev pub cost_of : Call T → ℕ → Cost
  cost_of (any.Plain (calls.Write base value)) pages = at_most 7
  cost_of (any.Plain (calls.WriteUnchecked base value)) pages = at_most 2
  cost_of (any.Plain calls.Read) pages = reading pages
  cost_of (any.Plain (calls.ReadUnchecked id)) pages = at_most 1
  cost_of (any.Plain (calls.ReadSeen id)) pages = at_most 3
  cost_of (any.Plain (calls.ListIds from to)) pages = record { alone = pages; again = pages }
  cost_of (any.Plain (calls.Delete id)) pages = at_most 7
  cost_of (any.Plain (calls.Check id)) pages = at_most 5
  cost_of (any.Plain (calls.Advance to)) pages = advancing
  cost_of (any.View (view_calls.Init value)) pages = at_most 7
  cost_of (any.View view_calls.Load) pages = reading pages
  cost_of (any.View (view_calls.Refresh view)) pages = reading pages
  cost_of (any.View (view_calls.Update view value)) pages = at_most 7
  cost_of (any.View (view_calls.Claim view)) pages = claiming pages
  cost_of (any.View (view_calls.ClaimAt view epoch)) pages = claiming pages
  cost_of (any.View (view_calls.HolderRefresh view)) pages = reading pages
  cost_of (any.View (view_calls.HolderUpdate view value)) pages = at_most 7

  -- the most that an operation has left alone, however far it has come
  abbrev pub most_left : Doing T → ℕ → ℕ
  most_left (does.Plain (doings.Write op)) pages = sum_of (write_budget op)
  most_left (does.Plain (doings.WriteUnchecked op)) pages = sum_of (unchecked_budget op)
  most_left (does.Plain (doings.Read op)) pages = (reading pages).again
  most_left (does.Plain (doings.ReadUnchecked op)) pages = 1
  most_left (does.Plain (doings.ReadSeen op)) pages = sum_of (seen_budget op)
  most_left (does.Plain (doings.ListIds op)) pages = pages
  most_left (does.Plain (doings.Delete op)) pages = sum_of (delete_budget op)
  most_left (does.Plain (doings.Check op)) pages = sum_of (check_budget op)
  most_left (does.Plain (doings.Advance op)) pages = 11
  most_left (does.Plain doings.Ended) pages = 0
  most_left (does.View (Enters op)) pages = sum_of (entry_budget op)
  most_left (does.View (Reads op)) pages = (reading pages).again
  most_left (does.View (Claims op)) pages = (claiming pages).again

  -- a look or a serve of this operation
  abbrev pub is_own : ℕ → Event T → Bool
  is_own op event = is_look_of op event || is_serve_of op event

  -- how many of its looks and serves were taken
  abbrev pub own_count : ℕ → List (Event T × Told T) → ℕ
  own_count op taken = taken_of (is_own op) taken

  -- what the client of an operation keeps

  abbrev pub caches_by : State T → Option (Operation T) → Option Caches
  caches_by s None = None
  caches_by s (Some operation) = numbered s.caches operation.client

  abbrev pub caches_of : State T → ℕ → Option Caches
  caches_of s op = caches_by s (numbered s.operations op)

  -- An event does not disturb an operation: the store's files are as they were, and so is what its client keeps.
  pub record LeavesAlone (op : ℕ) (old new : State T) : Type 0 where
    pub files : new.store.files ≡ old.store.files
    pub kept : caches_of new op ≡ caches_of old op

  -- a listing of the versions has at most so many pages
  abbrev pub FewPages : ℕ → State T → Type 0
  FewPages pages s = pages_below world_names s.page s.store.files ≤ pages

module _ {T : Type 0} (encode : T → List ℕ) (decode : List ℕ → Option T) (get_epoch : T → ℕ) (set_epoch : T → ℕ → T) where
  -- Events one after another, of which so many at most disturb the operation: all but its own looks and serves, and what leaves it alone. After each event a listing has at most so many pages.
  abbrev pub Disturbed : ℕ → ℕ → ℕ → State T → List (Event T × Told T) → State T → Type 0
  Disturbed op pages times old [] new = new ≡ old
  Disturbed op pages times old (taken ∷ rest) new =
      (middle : State T)
      × Takes encode decode get_epoch set_epoch old taken.0 taken.1 middle
      × FewPages pages middle
      × ((((is_own op taken.0 ≡ true) ⊎ LeavesAlone op old middle) × Disturbed op pages times middle rest new) ⊎ ((left : ℕ) × (times ≡ left + 1) × Disturbed op pages left middle rest new))

  -- none of them disturbs it
  abbrev pub Undisturbed : ℕ → ℕ → State T → List (Event T × Told T) → State T → Type 0
  Undisturbed op pages old taken new = Disturbed op pages 0 old taken new
