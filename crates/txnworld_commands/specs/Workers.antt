-- Words of private contracts: the workers of a run before and after it.
use Rattle.std.specs.Prelude.{◌≡◌, ◌+◌, ℕ, List, Option, Some, find, length, map, slice_get}
use Rattle.std.specs.Option.{option_map}
use Rattle.txn_script_lines.specs.declared.record.Record.{Record}
use Rattle.txn_world_threads.specs.declared.gate.FreeGate.{FreeGate}
use Rattle.txn_world_threads.specs.declared.jobs.Job.{Job}
use Rattle.txn_world_threads.specs.declared.work.Worked.{Worked}
use Rattle.txn_world_threads.specs.declared.work.Worker.{Worker}
use Rattle.txnworld_commands.specs.Threads.{is_stopped, job_list}

module _ {X : Type 0} (numbered : X → ℕ) where
  -- they are numbered from 1 on, in their order
  abbrev pub AreNumbered : List X → Type 0
  AreNumbered callers = (k : ℕ) (caller : X) → slice_get callers k ≡ Some caller → numbered caller ≡ k + 1

  -- each worker has its caller and its jobs
  abbrev pub IsCrew : List X → List (Worker X Record FreeGate) → Type 0
  IsCrew callers crew = map {B = X × List (Job Record)} (λ worker. (worker.caller, worker.jobs.items)) crew ≡ map {B = X × List (Job Record)} (λ caller. (caller, job_list (numbered caller))) callers

  -- the first worker that left a job undone
  abbrev pub stopped_worker : List (Worked X) → Option ℕ
  stopped_worker worked = option_map (λ one. numbered one.caller) (find (λ one. is_stopped one.end) worked)

module _ {X : Type 0} where
  abbrev pub caller_list : List (Worked X) → List X
  caller_list worked = map (λ one. one.caller) worked

  -- the same callers, in their order, each after some events more
  pub record AreAfter (goes : X → ℕ → X → Type 0) (before after : List X) : Type 0 where
    pub all : length after ≡ length before
    pub each : (k : ℕ) (caller : X) → slice_get after k ≡ Some caller → (was : X) × (slice_get before k ≡ Some was) × (most : ℕ) × goes was most caller
