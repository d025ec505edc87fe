-- What it is to have done jobs, by the events that a caller took and what it heard of each.
use Rattle.std.specs.Prelude.{◌≡◌, ◌≤◌, ◌⊎◌, ◌+◌, ◌++◌, ℕ, zero, suc, List, [], ◌∷◌, length, Option, Some, None}
use Rattle.txn_history.specs.declared.event.PlainCall.TheVariants as plain
use Rattle.txn_history.specs.declared.event.Call.{Call}
use Rattle.txn_history.specs.declared.event.Call.TheVariants as calls
use Rattle.txn_history.specs.declared.event.Answer.{Answer}
use Rattle.txn_client_journals.specs.declared.rows.JournalRow.{JournalRow}
use Rattle.txn_client_journals.specs.declared.rows.Step.{Step}
use Rattle.txn_client_journals.specs.declared.rows.Step.TheVariants as steps
use Rattle.txn_diary.specs.Keepers.{IsTurn}
use Rattle.txn_diary.specs.Diaries.{DiaryState}
use Rattle.txn_world_threads.specs.declared.caller.Next.{Next}
use Rattle.txn_world_threads.specs.declared.caller.Next.TheVariants as nexts
use Rattle.txn_world_threads.specs.declared.caller.Heard.{Heard}
use Rattle.txn_world_threads.specs.declared.caller.Heard.TheVariants as heards
use Rattle.txn_world_threads.specs.declared.jobs.Job.{Job}
use Rattle.txn_world_threads.specs.declared.jobs.Job.TheVariants as jobs
use Rattle.txn_world_threads.specs.Work.{base_read}

module _ {T X : Type 0} (took : X → Next T → Heard → X → Type 0) where
  -- By so many events at most, of which this is the first, a caller came from old to new and heard that its call was answered, with this base for a write, if one. Each further event gives the operation that it heard of last what that asks for.
  abbrev pub Ends : ℕ → X → Next T → Option (Option ℕ) → X → Type 0
  Ends zero old next base new = ⊥
  Ends (suc most) old next base new = took old next (heards.Ended base) new ⊎ ((op : ℕ) × (between : X) × took old next (heards.Goes op) between × Ends most between (nexts.Step op) base new)

  -- It made this call, by 200 events at most, and the call was answered.
  pub record MakesCall (old : X) (call : Call T) (base : Option (Option ℕ)) (new : X) : Type 0 where
    pub events : ℕ
    pub few : events ≤ 200
    pub ends : Ends events old (nexts.Begin call) base new

  -- It did this job: its call was answered; or a read was answered, and then, where that gave a base, the write of the value on it.
  abbrev pub DoesJob : X → Job T → X → Type 0
  DoesJob old (jobs.Call call) new = (base : Option (Option ℕ)) × MakesCall old call base new
  DoesJob old (jobs.WriteOnRead value) new = MakesCall old (calls.Plain plain.Read) None new ⊎ ((base : Option ℕ) × (between : X) × MakesCall old (calls.Plain plain.Read) (Some base) between × ((told : Option (Option ℕ)) × MakesCall between (calls.Plain (plain.Write base value)) told new))

  -- It did these, one after another.
  abbrev pub DoesJobs : X → List (Job T) → X → Type 0
  DoesJobs old [] new = new ≡ old
  DoesJobs old (job ∷ rest) new = (between : X) × DoesJob old job between × DoesJobs between rest new

module _ {T : Type 0} where
  -- the row of a journal is this event's
  abbrev pub IsStepOf : Next T → Step T → Type 0
  IsStepOf (nexts.Begin call) step = step ≡ steps.Begin call
  IsStepOf (nexts.Step op) (steps.Act o act) = (o ≡ op) × IsTurn act
  IsStepOf (nexts.Step op) (steps.Begin call) = ⊥
  IsStepOf (nexts.Step op) (steps.Killed lefts) = ⊥

  -- what is heard of a row of this operation
  abbrev pub heard_in : ℕ → Option (Answer T) → Heard
  heard_in op None = heards.Goes op
  heard_in op (Some answer) = heards.Ended (base_read answer)

module _ {T C E : Type 0} where
  -- the operation that an event of a client is of: a begin is that of the next
  abbrev pub op_of : DiaryState T C E → Next T → ℕ
  op_of diary (nexts.Begin call) = length diary.part.operations + 1
  op_of diary (nexts.Step op) = op

  -- A client's journal has one row more, of this event, and the answer that the row tells, if one, was heard.
  pub record TookRow (old : DiaryState T C E) (next : Next T) (heard : Heard) (new : DiaryState T C E) : Type 0 where
    pub row : JournalRow T
    pub rows : new.rows ≡ old.rows ++ row ∷ []
    pub step_is : IsStepOf next row.step
    pub heard_is : heard ≡ heard_in (op_of old next) row.answer
