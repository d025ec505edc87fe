-- Events that make calls, and jobs that are done one after another.
use Rattle.std.proofs.Common.{◌≡◌, ℕ, suc, ◌+◌, ◌<◌, List, [], ◌∷◌, ◌++◌, length, take, get_or, Option, Some, None, inl, inr, refl, sym, ap, subst, ◌∙◌, arith}
use Rattle.std.proofs.lemmas.List.{take_more}
use Rattle.txn_history.specs.Added.{told_of}
use Rattle.txn_history.specs.declared.event.ToldOf.TheVariants as told
use Rattle.txn_history.specs.declared.event.Call.{Call}
use Rattle.txn_history.specs.declared.event.Answer.{Answer}
use Rattle.txn_history.specs.Trace.{Told}
use Rattle.txn_client_journals.specs.declared.rows.Act.{Act}
use Rattle.txn_client_journals.specs.declared.rows.Step.TheVariants as steps
use Rattle.txn_diary.specs.Keepers.{IsTurn}
use Rattle.txn_diary.specs.Diaries.{DiaryState}
use Rattle.txn_world_threads.specs.declared.caller.Next.{Next}
use Rattle.txn_world_threads.specs.declared.caller.Next.TheVariants as nexts
use Rattle.txn_world_threads.specs.declared.caller.Heard.{Heard}
use Rattle.txn_world_threads.specs.declared.caller.Heard.TheVariants as heards
use Rattle.txn_world_threads.specs.declared.jobs.Job.{Job}
use Rattle.txn_world_threads.specs.Work.{heard_of}
use Rattle.txn_world_threads.specs.Done.{Ends, MakesCall, DoesJob, DoesJobs, heard_in, TookRow}

pub none_by : {A : Type 0} (found : Option A) → ((x : A) → found ≡ Some x → ⊥) → found ≡ None
none_by None not = refl
none_by (Some x) not = absurd (not x refl)

module _ {T X : Type 0} (took : X → Next T → Heard → X → Type 0) where
  -- So many events of a call were taken: whatever so many more lead to, all of them do.
  abbrev pub IsUnderWay : ℕ → X → Call T → X → Next T → Type 0
  IsUnderWay taken old call now next = (most : ℕ) (base : Option (Option ℕ)) (new : X) → Ends took most now next base new → Ends took (taken + most) old (nexts.Begin call) base new

  -- before the first
  pub is_begun : (old : X) (call : Call T) → IsUnderWay 0 old call old (nexts.Begin call)
  is_begun old call most base new ends = let all : most ≡ 0 + most = omega arith in subst (λ n. Ends took n old (nexts.Begin call) base new) all ends

  -- one event more
  pub goes_more : (taken op : ℕ) (old now between : X) (call : Call T) (next : Next T) → IsUnderWay taken old call now next → took now next (heards.Goes op) between → IsUnderWay (taken + 1) old call between (nexts.Step op)
  goes_more taken op old now between call next so is most base new ends = let all : taken + suc most ≡ taken + 1 + most = omega arith in subst (λ n. Ends took n old (nexts.Begin call) base new) all (so (suc most) base new (inr (op, between, is, ends)))

  -- the event that was heard to be the last
  pub ends_now : (taken : ℕ) (base : Option (Option ℕ)) (old now new : X) (call : Call T) (next : Next T) → taken < 200 → IsUnderWay taken old call now next → took now next (heards.Ended base) new → MakesCall took old call base new
  ends_now taken base old now new call next few so is = record { events = taken + 1; few = omega (arith, few); ends = so 1 base new (inl is) }

  -- one job more
  does_more : (rest : List (Job T)) (job : Job T) (old between new : X) → DoesJobs took old rest between → DoesJob took between job new → DoesJobs took old (rest ++ job ∷ []) new
  does_more [] job old between new done one = (new, subst (λ from. DoesJob took from job new) done one, refl)
  does_more (first ∷ rest) job old between new done one = (done.0, done.1, does_more rest job done.0 between new done.2 one)

  -- the job at this place was done after those before it
  pub does_next : (jobs : List (Job T)) (k : ℕ) (job : Job T) (old between new : X) → k < length jobs → job ≡ get_or jobs k job → DoesJobs took old (take k jobs) between → DoesJob took between job new → DoesJobs took old (take (k + 1) jobs) new
  does_next jobs k job old between new below is done one = subst (λ (all : List (Job T)). DoesJobs took old all new) (ap (λ (j : Job T). take k jobs ++ j ∷ []) is ∙ sym (take_more jobs k job below)) (does_more (take k jobs) job old between new done one)

module _ {T : Type 0} where
  heard_begun : (op : ℕ) (answer : Option (Answer T)) → heard_of (told_of (told.Began op) op answer) ≡ heard_in op answer
  heard_begun op None = refl
  heard_begun op (Some answer) = refl

  heard_gone : (op : ℕ) (answer : Option (Answer T)) → heard_of (told_of (told.Went op) op answer) ≡ heard_in op answer
  heard_gone op None = refl
  heard_gone op (Some answer) = refl

module _ {T C E : Type 0} where
  -- a begin's row
  pub took_begin : (old new : DiaryState T C E) (next : Next T) (call : Call T) (heard : Heard) (said : Told T) (answer : Option (Answer T)) → next ≡ nexts.Begin call → heard ≡ heard_of said → said ≡ told_of (told.Began (length old.part.operations + 1)) (length old.part.operations + 1) answer → new.rows ≡ old.rows ++ record { step = steps.Begin call; answer = answer } ∷ [] → TookRow old next heard new
  took_begin old new next call heard said answer is heard_is said_is rows = subst (λ (n : Next T). TookRow old n heard new) (sym is) (record {
    row = record { step = steps.Begin call; answer = answer };
    rows = rows;
    step_is = refl;
    heard_is = heard_is ∙ (ap heard_of said_is ∙ heard_begun (length old.part.operations + 1) answer);
  })

  -- a step's row
  pub took_step : (old new : DiaryState T C E) (next : Next T) (op : ℕ) (act : Act) (heard : Heard) (said : Told T) (answer : Option (Answer T)) → next ≡ nexts.Step op → IsTurn act → heard ≡ heard_of said → said ≡ told_of (told.Went op) op answer → new.rows ≡ old.rows ++ record { step = steps.Act op act; answer = answer } ∷ [] → TookRow old next heard new
  took_step old new next op act heard said answer is turns heard_is said_is rows = subst (λ (n : Next T). TookRow old n heard new) (sym is) (record {
    row = record { step = steps.Act op act; answer = answer };
    rows = rows;
    step_is = (refl, turns);
    heard_is = heard_is ∙ (ap heard_of said_is ∙ heard_gone op answer);
  })
