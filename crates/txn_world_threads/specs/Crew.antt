-- What many workers leave. It stands alone, because it names what a thread takes along.
use Rattle.std.specs.Prelude.{◌≡◌, ◌*◌, ℕ, List, Some, slice_get, vec_len}
use Rattle.txn_world_threads.specs.declared.work.Worker.{Worker}
use Rattle.txn_world_threads.specs.declared.work.Worked.{Worked}
use Rattle.txn_world_threads.specs.declared.caller.Next.{Next}
use Rattle.txn_world_threads.specs.declared.caller.Heard.{Heard}
use Rattle.txn_world_threads.specs.declared.jobs.End.TheVariants as ends
use Rattle.txn_world_threads.specs.Done.{DoesJobs}

-- each place has the caller of its own worker, after 400 events at most for each of its jobs
abbrev pub EachGoes : {X T G : Type 0} → (X → ℕ → X → Type 0) → List (Worker X T G) → List (Worked X) → Type 0
EachGoes goes workers worked = (k : ℕ) (worker : _) (left : _) → slice_get workers k ≡ Some worker → slice_get worked k ≡ Some left → goes worker.caller (400 * vec_len worker.jobs) left.caller

-- each worker that came to its end with each job done did them, in their order
abbrev pub EachDone : {X T G : Type 0} → (X → Next T → Heard → X → Type 0) → List (Worker X T G) → List (Worked X) → Type 0
EachDone took workers worked = (k : ℕ) (worker : _) (left : _) → slice_get workers k ≡ Some worker → slice_get worked k ≡ Some left → left.end ≡ ends.Done → DoesJobs took worker.caller worker.jobs.items left.caller
