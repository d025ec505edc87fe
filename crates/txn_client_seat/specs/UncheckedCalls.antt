-- The unchecked operations of a client, and what each thing that is done to them makes of them.
use Rattle.std.specs.Prelude.{◌≡◌, ◌+◌, ℕ, All, List, [], ◌∷◌, ◌++◌, Option, Some, None}
use Rattle.std.specs.Option.{option_map}
use Rattle.txn_store.specs.declared.request.Request.{Request}
use Rattle.txn_store.specs.declared.request.Reply.{Reply}
use Rattle.txn_history.specs.Names.{world_names}
use Rattle.txn_history.specs.declared.event.EventFault.{EventFault}
use Rattle.txn_history.specs.declared.event.EventFault.TheVariants as faults
use Rattle.txn_history.specs.declared.event.PlainAnswer.{PlainAnswer}
use Rattle.txn_steps.specs.declared.boundary.caches.Cached.{Cached}
use Rattle.txn_steps.specs.declared.boundary.caches.CachedBoundary.{CachedBoundary}
use Rattle.txn_steps.specs.declared.boundary.caches.Caches.{Caches}
use Rattle.txn_steps.specs.boundary.Windows.{greatest_held, kept, above}
use Rattle.txn_steps.specs.declared.latest.LatestOp.TheVariants.{Looks}
use Rattle.txn_steps.specs.Deletes.{removal_started}
use Rattle.txn_script_lines.specs.declared.values.entry.Entry.{Entry}
use Rattle.txn_client_seat.specs.declared.unchecked_op.UncheckedOp.{UncheckedOp}
use Rattle.txn_client_seat.specs.declared.unchecked_op.UncheckedOp.TheVariants.{Read, Delete}
use Rattle.txn_client_seat.specs.UncheckedOps.{unchecked_asked, IsUncheckedReply, IsInRange, UncheckedTurns}
use Rattle.txn_client_seat.specs.Numbered.{waits_at, without}

-- How many files a page of a listing has at most, how many unchecked operations began, those that run by their numbers, and the versions that they cached.
pub record UncheckedState : Type 0 where
  pub page : ℕ
  pub begun : ℕ
  pub running : List (ℕ × UncheckedOp)
  pub cached : List Cached

abbrev pub unchecked_of : ℕ → ℕ → List (ℕ × UncheckedOp) → List Cached → UncheckedState
unchecked_of page begun running cached = record { page = page; begun = begun; running = running; cached = cached }

-- none began
abbrev pub no_unchecked : ℕ → UncheckedState
no_unchecked page = unchecked_of page 0 [] []

-- the number of the next: they are numbered from 2^63
abbrev pub next_unchecked : UncheckedState → ℕ
next_unchecked state = 9223372036854775808 + state.begun

-- one more begins, with these versions cached
abbrev pub with_begun : UncheckedOp → List Cached → UncheckedState → UncheckedState
with_begun operation cached state = unchecked_of state.page (state.begun + 1) (state.running ++ (next_unchecked state, operation) ∷ []) cached

-- the versions above a known boundary
abbrev pub above_known : Option CachedBoundary → List Cached → List Cached
above_known None versions = versions
above_known (Some known) versions = above known.number versions

-- with this version too, if one
abbrev pub kept_too : Option Cached → List Cached → List Cached
kept_too None versions = versions
kept_too (Some version) versions = kept version versions

-- what a read begins with: of the versions that unchecked operations cached those above the boundary that the client knows, and the newest that the client itself has cached
abbrev pub joined : Caches → List Cached → List Cached
joined caches cached = kept_too (greatest_held caches.latest) (above_known caches.boundary cached)

-- a read of the newest version begins, beside a client that has these caches
abbrev pub read_begun : Caches → UncheckedState → UncheckedState
read_begun caches state = with_begun (Read Looks) (joined caches state.cached) state

-- a delete begins
abbrev pub delete_begun : ℕ → UncheckedState → UncheckedState
delete_begun id state = with_begun (Delete (removal_started world_names id)) state.cached state

-- what an operation asks for, if it runs
abbrev pub asked_unchecked : UncheckedState → ℕ → Option (Option Request)
asked_unchecked state op = option_map unchecked_asked (waits_at op state.running)

-- the others go on, and so does this one, where it has no answer
abbrev pub goes_on : ℕ → UncheckedOp → Option (PlainAnswer Entry) → List (ℕ × UncheckedOp)
goes_on op next None = (op, next) ∷ []
goes_on op next (Some answer) = []

-- An operation that runs took a reply of the kind that it asked for, or looked, with this answer, if one.
pub record TakesUnchecked (old : UncheckedState) (op : ℕ) (reply : Option Reply) (answer : Option (PlainAnswer Entry)) (new : UncheckedState) : Type 0 where
  pub operation : UncheckedOp
  pub runs : waits_at op old.running ≡ Some operation
  pub kind : IsUncheckedReply operation reply
  pub next : UncheckedOp
  pub cached : List Cached
  pub turns : UncheckedTurns old.page operation old.cached reply next cached answer
  pub left : new ≡ unchecked_of old.page old.begun (without op old.running ++ goes_on op next answer) cached

-- why an operation, if one, is refused a reply or a look: it does not run, or asks for something else, or memory is wanting
abbrev pub IsUncheckedDue : Option UncheckedOp → Option Reply → EventFault → Type 0
IsUncheckedDue operation reply faults.NoMemory = Unit {0}
IsUncheckedDue None reply fault = fault ≡ faults.UnknownNumber
IsUncheckedDue (Some operation) reply fault = (fault ≡ faults.NotAsked) × (IsUncheckedReply operation reply → ⊥)

-- an operation runs that asks for such a reply, or for a look where there is none
abbrev pub Suits : Option UncheckedOp → Option Reply → Type 0
Suits None reply = ⊥
Suits (Some operation) reply = IsUncheckedReply operation reply

-- an operation that runs is given up
abbrev pub given_up : ℕ → UncheckedState → UncheckedState
given_up op state = unchecked_of state.page state.begun (without op state.running) state.cached

-- every one of these found at most four successors
abbrev pub AreInRange : List (ℕ × UncheckedOp) → Type 0
AreInRange running = All (λ one. IsInRange one.1) running
