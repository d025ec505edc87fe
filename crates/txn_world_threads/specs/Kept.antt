-- A world beside the journal of what its workers did, and the shares that its workers hold.
use Rattle.std.specs.Prelude.{◌≡◌, ◌+◌, ◌-◌, ◌^◌, ◌≤◌, ◌++◌, ◌∷◌, [], ℕ, List, Option, Some, None, All, count_by, length, map, nat_eq, if◌then◌else◌, slice_get, slice_index}
use Rattle.txn_history.specs.Trace.{Event, Told}
use Rattle.txn_history.specs.declared.event.EventFault.{EventFault}
use Rattle.txn_history.specs.declared.event.EventFault.TheVariants as faults
use Rattle.txn_world_threads.specs.declared.kept.EventRow.{EventRow}
use Rattle.txn_world_threads.specs.declared.kept.Share.{Share}
use Rattle.txn_machine.specs.Machine.{State, WorldState, opening, refusal_of, Takes, Runs}
use Rattle.txn_world_threads.specs.Lists.{AreEach}

-- a world, how many workers it has, and what they did
pub record KeptState (T C E : Type 0) : Type 0 where
  pub world : WorldState T C E
  pub workers : ℕ
  pub journal : List (EventRow T)

module _ {T : Type 0} where
  -- the events of a journal, each with what it told
  abbrev pub taken_of : List (EventRow T) → List (Event T × Told T)
  taken_of journal = map (λ row. (row.event, row.told)) journal

  -- how many rows of a journal are this worker's
  abbrev pub rows_of : List (EventRow T) → ℕ → ℕ
  rows_of journal worker = count_by (λ row. nat_eq row.worker worker) journal

  -- what the last row of a journal tells
  abbrev pub IsLastTold : List (EventRow T) → Told T → Type 0
  IsLastTold journal told = (rows : List (EventRow T)) × (row : EventRow T) × (journal ≡ rows ++ row ∷ []) × (row.told ≡ told)

-- An event for which memory is wanting is refused with the fault that it is due, and for want of memory where it is due none.
abbrev pub IsLack : Option EventFault → EventFault → Type 0
IsLack None fault = fault ≡ faults.NoMemory
IsLack (Some due) fault = fault ≡ due

-- the shares of so many workers, worker 1 first, each with no event
abbrev pub AreFirst : ℕ → List Share → Type 0
AreFirst workers shares = AreEach (λ k. record { worker = k + 1; count = 0 }) workers shares

-- a 0 for each of so many workers
abbrev pub AreZeros : ℕ → List ℕ → Type 0
AreZeros workers counts = AreEach (λ _. 0) workers counts

-- a share after one more event; the greatest count stays
abbrev pub one_more : Share → Share
one_more share = record { worker = share.worker; count = if nat_eq share.count (2 ^ 64 - 1) then share.count else share.count + 1 }

module _ {T : Type 0} (encode : T → List ℕ) (decode : List ℕ → Option T) (get_epoch : T → ℕ) (set_epoch : T → ℕ → T) where
  -- why this world refuses the event, where it does
  abbrev pub due_fault : {C E : Type 0} → WorldState T C E → Event T → Option EventFault
  due_fault world event = refusal_of encode decode get_epoch set_epoch world.state event

  -- Taking the journal's events in order, from a world in which nothing has happened, tells what the
  -- journal says and ends here.
  abbrev pub Replays : List (EventRow T) → State T → Type 0
  Replays journal state = Runs encode decode get_epoch set_epoch (opening state.clients state.page) (taken_of journal) state

  -- One row more, of this worker, event and what the world told of it; and the world took the event.
  pub record AddsEventRow {C E : Type 0} (old new : KeptState T C E) (worker : ℕ) (event : Event T) (told : Told T) : Type 0 where
    pub row : new.journal ≡ old.journal ++ record { worker = worker; event = event; told = told } ∷ []
    pub step : Takes encode decode get_epoch set_epoch old.world.state event told new.world.state
    pub codec : new.world.codec ≡ old.world.codec
    pub epochs : new.world.epochs ≡ old.world.epochs
    pub workers : new.workers ≡ old.workers

-- how many of the shares are this worker's
abbrev pub shares_of : List Share → ℕ → ℕ
shares_of shares worker = count_by (λ share. nat_eq share.worker worker) shares

-- each share is that of one of so many workers
abbrev pub AreAmong : ℕ → List Share → Type 0
AreAmong workers shares = All (λ share. (1 ≤ share.worker) × (share.worker ≤ workers)) shares

-- each share has the count that stands at its worker's place
abbrev pub AreCounted : List ℕ → List Share → Type 0
AreCounted counts shares = All (λ share. share.count ≡ slice_index counts (share.worker - 1)) shares

-- each worker's share once, and no others
pub record CameOnce (workers : ℕ) (shares : List Share) : Type 0 where
  pub all : length shares ≡ workers
  pub once : (worker : ℕ) → 1 ≤ worker → worker ≤ workers → shares_of shares worker ≡ 1

module _ {T : Type 0} where
  -- each share has the count of its worker's rows
  abbrev pub Agree : List (EventRow T) → List Share → Type 0
  Agree journal shares = (k : ℕ) (share : Share) → slice_get shares k ≡ Some share → share.count ≡ rows_of journal share.worker

  -- the count of each worker's rows, worker 1 first
  abbrev pub AreCounts : ℕ → List (EventRow T) → List ℕ → Type 0
  AreCounts workers journal counts = AreEach (λ k. rows_of journal (k + 1)) workers counts
