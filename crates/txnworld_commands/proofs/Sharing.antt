-- The numbers of workers and of those who make their calls, before a run and after it.
use Rattle.std.proofs.Common.{◌≡◌, ℕ, zero, suc, ◌+◌, ◌*◌, ◌<◌, ◌≤◌, List, [], ◌∷◌, length, map, get_or, slice_get, vec_len, Bool, true, false, cond, Option, Some, None, refl, sym, ◌∙◌, ap, subst, arith}
use Rattle.std.specs.List.{find}
use Rattle.std.specs.Option.{option_map}
use Rattle.std.proofs.lemmas.List.{length-map}
use Rattle.std.proofs.lemmas.Option.{slice_get-get_or, slice_get-map, slice_get_within, same_Some}
use Rattle.txn_script_lines.specs.declared.record.Record.{Record}
use Rattle.txn_world_threads.specs.declared.gate.FreeGate.{FreeGate}
use Rattle.txn_world_threads.specs.declared.jobs.Job.{Job}
use Rattle.txn_world_threads.specs.declared.work.Worked.{Worked}
use Rattle.txn_world_threads.specs.declared.work.Worker.{Worker}
use Rattle.txn_world_threads.specs.Crew.{EachGoes}
use Rattle.txnworld_commands.specs.Threads.{is_stopped, job_list}
use Rattle.txnworld_commands.specs.Workers.{AreNumbered, AreAfter, IsCrew, caller_list, stopped_worker}

pub has_at : {X : Type 0} (xs : List X) (k : ℕ) → k < length xs → (x : X) × (slice_get xs k ≡ Some x)
has_at [] k below = absurd (omega (arith, below))
has_at (x ∷ xs) zero below = (x, refl)
has_at (x ∷ xs) (suc k) below = has_at xs k (omega (arith, below))

found_here : {X : Type 0} (p : X → Bool) (y : X) (ys : List X) (x : X) (b : Bool) → cond b (Some y) (find p ys) ≡ Some x → ((k : ℕ) × (slice_get ys k ≡ Some x) → (k : ℕ) × (slice_get (y ∷ ys) k ≡ Some x)) → (find p ys ≡ Some x → (k : ℕ) × (slice_get ys k ≡ Some x)) → (k : ℕ) × (slice_get (y ∷ ys) k ≡ Some x)
found_here p y ys x true is later rest = (zero, is)
found_here p y ys x false is later rest = later (rest is)

-- what is found stands somewhere
found_at : {X : Type 0} (p : X → Bool) (xs : List X) (x : X) → find p xs ≡ Some x → (k : ℕ) × (slice_get xs k ≡ Some x)
found_at p [] x is = cc
found_at p (y ∷ ys) x is = found_here p y ys x (p y) is (λ at. (suc at.0, at.1)) (found_at p ys x)

pub mapped_from : {X Y : Type 0} (f : X → Y) (o : Option X) (y : Y) → option_map f o ≡ Some y → (x : X) × (o ≡ Some x) × (f x ≡ y)
mapped_from f None y is = cc
mapped_from f (Some x) y is = (x, refl, same_Some _ _ is)

module _ {X : Type 0} (numbered : X → ℕ) where
  pub few_numbered : (callers : List X) → AreNumbered numbered callers → length callers ≤ 64 → (k : ℕ) (d : X) → k < length callers → numbered (get_or callers k d) ≤ 64
  few_numbered callers are few k d below = omega (arith, are k (get_or callers k d) (slice_get-get_or callers k d below), below, few)

  -- a worker's caller and jobs, and those that a caller's worker is to have
  abbrev held_by : Worker X Record FreeGate → X × List (Job Record)
  held_by worker = (worker.caller, worker.jobs.items)

  abbrev due_to : X → X × List (Job Record)
  due_to caller = (caller, job_list (numbered caller))

  as_many_callers : (callers : List X) (crew : List (Worker X Record FreeGate)) → IsCrew numbered callers crew → length crew ≡ length callers
  as_many_callers callers crew is = sym (length-map crew held_by) ∙ (ap length is ∙ length-map callers due_to)

  -- the worker at a place has the caller of that place
  caller_at : (callers : List X) (crew : List (Worker X Record FreeGate)) (k : ℕ) (worker : Worker X Record FreeGate) → IsCrew numbered callers crew → slice_get crew k ≡ Some worker → slice_get callers k ≡ Some worker.caller
  caller_at callers crew k worker is at =
      let held : slice_get (map held_by crew) k ≡ Some (held_by worker) = slice_get-map held_by crew k ∙ ap (option_map held_by) at in
      let due : option_map due_to (slice_get callers k) ≡ Some (held_by worker) = sym (slice_get-map due_to callers k) ∙ (ap (λ (pairs : List (X × List (Job Record))). slice_get pairs k) (sym is) ∙ held) in
      let caller = mapped_from due_to (slice_get callers k) (held_by worker) due in
      caller.1 ∙ ap Some (ap (λ (pair : X × List (Job Record)). pair.0) caller.2)

  module _ (goes : X → ℕ → X → Type 0) where
    -- what stands at a place after the run has come from what stood there before it
    came_from : (callers : List X) (crew : List (Worker X Record FreeGate)) (worked : List (Worked X)) (k : ℕ) (left : Worked X) → IsCrew numbered callers crew → length worked ≡ length crew → EachGoes goes crew worked → slice_get worked k ≡ Some left → (was : X) × (slice_get callers k ≡ Some was) × (most : ℕ) × goes was most left.caller
    came_from callers crew worked k left is as_many went at =
        let worker = has_at crew k (omega (arith, slice_get_within worked k left at, as_many)) in
        (worker.0.caller, caller_at callers crew k worker.0 is worker.1, 400 * vec_len worker.0.jobs, went k worker.0 left worker.1 at)

    pub are_after : (callers : List X) (crew : List (Worker X Record FreeGate)) (worked : List (Worked X)) → IsCrew numbered callers crew → length worked ≡ length crew → EachGoes goes crew worked → AreAfter goes callers (caller_list worked)
    are_after callers crew worked is as_many went = record {
      all = length-map worked (λ (one : Worked X). one.caller) ∙ (as_many ∙ as_many_callers callers crew is);
      each = λ k caller at.
          let left = mapped_from (λ (one : Worked X). one.caller) (slice_get worked k) caller (sym (slice_get-map (λ (one : Worked X). one.caller) worked k) ∙ at) in
          subst (λ it. (was : X) × (slice_get callers k ≡ Some was) × (most : ℕ) × goes was most it) left.2 (came_from callers crew worked k left.0 is as_many went left.1);
    }

    -- a worker that stopped is one of the run
    pub stopped_is_one : ((x y : X) (most : ℕ) → goes x most y → numbered y ≡ numbered x) → (callers : List X) (crew : List (Worker X Record FreeGate)) (worked : List (Worked X)) (number : ℕ) → AreNumbered numbered callers → IsCrew numbered callers crew → length worked ≡ length crew → EachGoes goes crew worked → stopped_worker numbered worked ≡ Some number → (1 ≤ number) × (number ≤ length callers)
    stopped_is_one keeps callers crew worked number are is as_many went stopped =
        let left = mapped_from (λ (one : Worked X). numbered one.caller) (find (λ one. is_stopped one.end) worked) number stopped in
        let at = found_at (λ (one : Worked X). is_stopped one.end) worked left.0 left.1 in
        let from = came_from callers crew worked at.0 left.0 is as_many went at.1 in
        let number_is : number ≡ at.0 + 1 = sym left.2 ∙ (keeps from.0 left.0.caller from.2 from.3 ∙ are at.0 from.0 from.1) in
        (omega (arith, number_is), omega (arith, number_is, slice_get_within callers at.0 from.0 from.1))
