-- A read alone: from its begin on, nothing happens but its own looks and its own serves.
use Rattle.std.specs.Prelude.{◌⊎◌, ℕ, zero, suc, ◌+◌, ◌≤◌, ◌&&◌, ◌||◌, if◌then◌else◌, Bool, true, false, List, [], ◌∷◌, length, Option, Some, None}
use Rattle.std.specs.FinMap.{entries}
use Rattle.txn_store.specs.Paths.{Segments}
use Rattle.txn_store.specs.Store.{Files, listing, page_of}
use Rattle.txn_store.specs.declared.page.Page.{Page}
use Rattle.txn_steps.specs.declared.boundary.caches.Cached.{Cached}
use Rattle.txn_steps.specs.boundary.Windows.{Ascends}
use Rattle.txn_steps.specs.declared.latest.LatestOp.TheVariants as latest
use Rattle.txn_steps.specs.declared.read.ReadOp.TheVariants as reads
use Rattle.txn_steps.specs.Requests.{next_after}
use Rattle.txn_history.specs.declared.event.PlainCall.TheVariants as calls
use Rattle.txn_history.specs.Trace.{PlainTold}
use Rattle.txn_history.specs.declared.event.EventOf.TheVariants as events
use Rattle.txn_history.specs.Lists.{numbered}
use Rattle.txn_history.specs.Names.{world_names}
use Rattle.txn_machine.specs.declared.plain.doing.PlainDoing.{PlainDoing}
use Rattle.txn_machine.specs.declared.plain.doing.PlainDoing.TheVariants.{Read, Ended}
use Rattle.txn_machine.specs.declared.plain.doing.PlainOperation.{PlainOperation}
use Rattle.txn_machine.specs.plain.Machine.{State, next_op, Takes}

-- what a client keeps of versions: at most eight, with ascending ids
pub record IsWindow (versions : List Cached) : Type 0 where
  pub few : length versions ≤ 8
  pub ascending : Ascends versions

-- the page of a listing of the versions that follows a path
abbrev pub page_after : Files → ℕ → Option Segments → Page
page_after files limit after = page_of limit (listing world_names.dir after (entries files))

-- At most so many pages follow, where the next begins after this path.
abbrev pub AtMost : Files → ℕ → ℕ → Option Segments → Type 0
AtMost files limit more None = Unit {0}
AtMost files limit zero (Some path) = ⊥
AtMost files limit (suc more) (Some path) = AtMost files limit more (next_after (page_after files limit (Some path)))

-- A listing of the versions, page by page, has at most so many pages after its first.
abbrev pub HasPages : Files → ℕ → ℕ → Type 0
HasPages files limit more = AtMost files limit more (next_after (page_after files limit None))

module _ {T : Type 0} where
  -- what an operation does, where it is there
  abbrev pub doing_of : Option (PlainOperation T) → PlainDoing T
  doing_of None = Ended
  doing_of (Some operation) = operation.doing

  abbrev pub doing_in : State T → ℕ → PlainDoing T
  doing_in s op = doing_of (numbered s.operations op)

  -- a read looks at what its client holds: it begins a pass
  abbrev pub begins_pass : PlainDoing T → Bool
  begins_pass (Read (reads.Reads latest.Looks boundary)) = true
  begins_pass _ = false

  -- it asks for a page of a listing
  abbrev pub asks_page : PlainDoing T → Bool
  asks_page (Read (reads.Reads (latest.Lists found request) boundary)) = true
  asks_page _ = false

  -- it asks for the version that it chose from a listing
  abbrev pub asks_version : PlainDoing T → Bool
  asks_version (Read (reads.Reads (latest.Gets id request) boundary)) = true
  asks_version _ = false

  -- A turn: a pass begins, or a page is asked for after a page, or after a version that is missing.
  abbrev pub is_turn : PlainDoing T → PlainDoing T → Bool
  is_turn before after = begins_pass after || (asks_page after && (asks_page before || asks_version before))

-- `does` is what an operation does in a state, whatever the states are
module _ {S T : Type 0} (does : S → ℕ → PlainDoing T) where
  -- how many passes begin in these states
  abbrev pub passes_by : ℕ → List S → ℕ
  passes_by op [] = 0
  passes_by op (s ∷ states) = (if begins_pass (does s op) then 1 else 0) + passes_by op states

  -- how many turns it takes through these states
  abbrev pub turns_by : ℕ → S → List S → ℕ
  turns_by op before [] = 0
  turns_by op before (s ∷ states) = (if is_turn (does before op) (does s op) then 1 else 0) + turns_by op s states

module _ {T : Type 0} where
  abbrev pub passes : ℕ → List (State T) → ℕ
  passes = passes_by doing_in

  abbrev pub turns : ℕ → State T → List (State T) → ℕ
  turns = turns_by doing_in

module _ {T : Type 0} (encode : T → List ℕ) (decode : List ℕ → Option T) (get_epoch : T → ℕ) where
  -- the operation looks, or its request is served
  abbrev pub Moves : ℕ → State T → State T → Type 0
  Moves op old new = (said : PlainTold T) × (Takes encode decode get_epoch old (events.Look op) said new ⊎ Takes encode decode get_epoch old (events.Serve op) said new)

  -- states that follow one another while the operation alone moves
  abbrev pub MovesAlone : ℕ → State T → List (State T) → Type 0
  MovesAlone op s [] = Unit {0}
  MovesAlone op s (next ∷ states) = Moves op s next × MovesAlone op next states

  -- The states of a read of a client from its begin on, where it alone moves.
  abbrev pub ReadsAlone : State T → ℕ → List (State T) → Type 0
  ReadsAlone s client [] = Unit {0}
  ReadsAlone s client (first ∷ states) = ((said : PlainTold T) × Takes encode decode get_epoch s (events.Begin client calls.Read) said first) × MovesAlone (next_op s) first states
