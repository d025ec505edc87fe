-- What a client keeps of a world, what it permits itself, and what each thing that it does makes of that.
use Rattle.std.specs.Prelude.{ℕ, List, [], ◌∷◌, ◌++◌, ◌+◌, ◌==◌, ◌&&◌, ◌||◌, not, nat_eq, nat_lt, Bool, true, false, if◌then◌else◌, Option, Some, None, is_some, length, map}
use Rattle.std.specs.List.{list_any}
use Rattle.txn_store.specs.types.Numbers.{number_of}
use Rattle.txn_steps.specs.declared.boundary.caches.Caches.{Caches}
use Rattle.txn_history.specs.declared.event.PlainCall.TheVariants as calls
use Rattle.txn_history.specs.declared.event.PlainAnswer.{PlainAnswer}
use Rattle.txn_history.specs.declared.event.PlainAnswer.TheVariants as plain_answers
use Rattle.txn_history.specs.declared.event.EventFault.{EventFault}
use Rattle.txn_history.specs.declared.event.EventFault.TheVariants as faults
use Rattle.txn_history.specs.Lists.{numbered}
use Rattle.txn_history.specs.Facts.{is_high}
use Rattle.txn_history.specs.Allowed.{is_client, first_fault, may_use, base_seen}
use Rattle.txn_machine.specs.plain.Machine.{no_caches}
use Rattle.txn_history.specs.declared.event.Call.{Call}
use Rattle.txn_history.specs.declared.event.Call.TheVariants as any
use Rattle.txn_history.specs.declared.event.Answer.{Answer}
use Rattle.txn_history.specs.declared.event.Answer.TheVariants as answers
use Rattle.txn_history.specs.Calls.{plain_has_low_boundary, view_used, is_holders, value_written}
use Rattle.txn_history.specs.Seen.{AllSeen}
use Rattle.txn_machine.specs.views.Layer.{Used}
use Rattle.txn_machine.specs.views.Steps.{view_without}
use Rattle.txn_machine.specs.declared.doing.Operation.{Operation}
use Rattle.txn_machine.specs.Doing.{Next, ended, caches_after}
use Rattle.txn_machine.specs.views.Parts.{is_claim_call}
use Rattle.txn_machine.specs.Machine.{seen_operations, seen_views, used_by, let_go, views_changed, views_after, views_taken, with_doing, new_operation, answered, ended_by}

-- What a client keeps. Its operations and its views stand in the order of its own numbers, from 1 on. An ended view is none.
pub record Part (T : Type 0) : Type 0 where
  pub caches : Caches
  pub operations : List (Operation T)
  pub views : List (Option (Used T))
  -- of each operation that is a checked write, the epoch of its value
  pub writes : List (Option ℕ)
  -- the ids that its checked calls answered, each with the epoch of its version, the last first
  pub told : List (ℕ × ℕ)

module _ {T : Type 0} where
  -- a client that has done nothing
  abbrev pub no_part : Part T
  no_part = record { caches = no_caches; operations = []; views = []; writes = []; told = [] }

  -- its operations and views, as a world shows them
  abbrev pub seen_in : ℕ → Part T → AllSeen T
  seen_in client part = record { calls = record { clients = client; operations = seen_operations part.operations; loose = []; failed = [] }; views = seen_views part.views }

-- what it was told

-- a base is none, or an id that a checked call answered
abbrev pub knows_base : List (ℕ × ℕ) → Option ℕ → Bool
knows_base told None = true
knows_base told (Some id) = list_any (λ note. nat_eq id note.0) told

-- a number is below an id that a checked call answered
abbrev pub is_below_known : List (ℕ × ℕ) → ℕ → Bool
is_below_known told to = list_any (λ note. nat_lt to note.0) told

-- the epoch of the version of this id, 0 where no checked call answered it
abbrev pub epoch_told : List (ℕ × ℕ) → ℕ → ℕ
epoch_told [] id = 0
epoch_told (note ∷ told) id = if note.0 == id then note.1 else epoch_told told id

-- a checked write of a value of this epoch answered the id; an unchecked one tells nothing
abbrev pub note_wrote : Option ℕ → ℕ → List (ℕ × ℕ)
note_wrote None id = []
note_wrote (Some epoch) id = (id, epoch) ∷ []

-- what stands in a place of a list of such, none where the list has no such place
abbrev pub written_in : Option (Option ℕ) → Option ℕ
written_in None = None
written_in (Some written) = written

module _ {T : Type 0} where
  -- a boundary to advance to is 0, or below an id that a checked call answered
  abbrev pub is_low : List (ℕ × ℕ) → Call T → Bool
  is_low told (any.Plain call) = plain_has_low_boundary (is_below_known told) call
  is_low told (any.View call) = true

  -- an operation runs on the view
  abbrev pub is_in_use : Option (Used T) → Bool
  is_in_use None = false
  is_in_use (Some used) = is_some used.busy

  -- the answer of an operation that does this next, where it has one
  abbrev pub answer_in : Part T → Operation T → Next T → Option (Answer T)
  answer_in part operation next = answered (length part.views) operation.view next.1

module _ {T : Type 0} (get_epoch : T → ℕ) where
  -- the epoch of what a checked write writes
  abbrev pub epoch_written : Call T → Option ℕ
  epoch_written (any.Plain (calls.Write base value)) = Some (get_epoch value)
  epoch_written _ = None

  -- the id that the answer of a checked call without a view tells, with the epoch of its version
  abbrev pub note_plain : Option ℕ → PlainAnswer T → List (ℕ × ℕ)
  note_plain written (plain_answers.Wrote id) = note_wrote written id
  note_plain written (plain_answers.Read (Some found)) = (found.0, get_epoch found.1) ∷ []
  note_plain written _ = []

  -- the id that the answer of a checked call tells, with the epoch of its version; neither an unchecked write nor a listing tells one
  abbrev pub note_of : Option ℕ → Option (Answer T) → List (ℕ × ℕ)
  note_of written None = []
  note_of written (Some (answers.Plain answer)) = note_plain written answer
  note_of written (Some (answers.View view id value)) = (id, get_epoch value) ∷ []
  note_of written (Some (answers.Held view id value epoch)) = (id, get_epoch value) ∷ []

  -- Why a client does not permit a begin, where it does not, tested in this order: its number and the view, a busy view, the base, the boundary, the epoch of the value.
  abbrev pub client_begin_fault : ℕ → Part T → Call T → Option EventFault
  client_begin_fault client part call = first_fault (
      (is_client client client && may_use (seen_in client part) client (is_holders call) (view_used call), faults.UnknownNumber)
      ∷ (not (is_in_use (used_by part.views (view_used call))), faults.ViewBusy)
      ∷ (knows_base part.told (base_seen (seen_in client part) call), faults.UnknownBase)
      ∷ (is_low part.told call, faults.BoundaryTooHigh)
      ∷ (is_high get_epoch (epoch_told part.told (number_of (base_seen (seen_in client part) call))) (value_written call), faults.EpochLowered)
      ∷ [])

  -- What is done to a part: all but the notes changes by the functions of a world's step.

  -- a call begins, and does this first
  abbrev pub begun : ℕ → Part T → Call T → Next T → Part T
  begun client part call start = record {
    caches = part.caches;
    operations = part.operations ++ new_operation client call start.0 ∷ [];
    views = views_after (views_taken part.views (view_used call) (length part.operations + 1)) client (view_used call) (is_claim_call call) start.1;
    writes = part.writes ++ epoch_written call ∷ [];
    told = part.told;
  }

  -- an operation does this next, and its client's caches are these
  abbrev pub turned_with : Part T → ℕ → Operation T → Next T → Caches → Part T
  turned_with part op operation next caches = record {
    caches = caches;
    operations = with_doing part.operations op operation next.0;
    views = views_after part.views operation.client operation.view operation.claims next.1;
    writes = part.writes;
    told = note_of (written_in (numbered part.writes op)) (answer_in part operation next) ++ part.told;
  }

  -- an operation does this next, and leaves of its client's caches what it leaves of them
  abbrev pub turned : Part T → ℕ → Operation T → Next T → Part T
  turned part op operation next = turned_with part op operation next (caches_after operation.doing part.caches next.1)

module _ {T : Type 0} where
  -- an operation ends with no answer, and lets its view go
  abbrev pub given_up : Part T → ℕ → Operation T → Part T
  given_up part op operation = record {
    caches = part.caches;
    operations = with_doing part.operations op operation ended;
    views = views_changed part.views operation.view (let_go operation.claims);
    writes = part.writes;
    told = part.told;
  }

  -- a killed client has no more caches, and its operations and views have ended
  abbrev pub killed : ℕ → Part T → Part T
  killed client part = record {
    caches = no_caches;
    operations = map (ended_by client) part.operations;
    views = map (view_without client) part.views;
    writes = part.writes;
    told = part.told;
  }
