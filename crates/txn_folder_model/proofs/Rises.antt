-- The boundary rises with each change of it, where what clients ask for says so, or what those that are to change it ask for.
use Rattle.std.proofs.Common.{◌≡◌, ℕ, zero, suc, ◌<◌, ◌==◌, if◌then◌else◌, not, is_some, Bool, true, false, List, Option, Some, None, refl, subst, arith}
use Rattle.std.specs.Prelude.{nat_lt}
use Rattle.std.proofs.lemmas.Bool.{eqb-true, eqb-false, ltb-true}
use Rattle.txn_store.specs.types.BoundaryText.{boundary_read}
use Rattle.txn_folder.specs.steps.Folders.{Place, Folder, Ask, Way, Plainly, Late, Told, step_told}
use Rattle.txn_folder.specs.steps.Steps as steps
use Rattle.txn_folder.specs.steps.Steps.{Verdict, Is, Ends, Work, Creates, Gets, Updates, Deletes, asked, turned, verdict_of}
use Rattle.txn_folder_model.specs.Worlds.{Call, World, Job, Create, Get, Update, Delete, Event, Begin, Step, Kill, Clean, MayHappen, SaysAbove, PutsAbove, AsksAbove, RaisesOnly, first_work, begun, answers, answer_of, ended_with, worked, goes, killed, may_draw, runs, after, stepped, world}
use Rattle.txn_folder_model.proofs.Ghosts.{Change, IsRise, RisesIn, effect_in, effect_of, by_call, link_change, rename_change, peek_change}
use Rattle.txn_folder_model.proofs.Stepping.{second_true}
use Rattle.txn_folder_model.proofs.Theorem.{Allowed}

-- what a call is to put says more, where it may change the boundary in its next step
abbrev pub RisesNow : Work → Type 0
RisesNow (Creates place bytes (Is (steps.Links n))) = PutsAbove place bytes
RisesNow (Updates bytes token (Is (steps.Renames n))) = SaysAbove token (boundary_read bytes)
RisesNow work = Unit {0}

abbrev ChangeRises : Option Change → Type 0
ChangeRises None = Unit {0}
ChangeRises (Some change) = IsRise change

link_rises : (place : Place) (bytes : List ℕ) (token : ℕ) (first now : Option ℕ) → PutsAbove place bytes → ChangeRises (link_change place bytes token first now)
link_rises place bytes token None now rise = tt
link_rises place bytes token (Some file) (Some other) rise = tt
link_rises place bytes token (Some file) None rise = rise

rename_rises : (bytes : List ℕ) (old token : ℕ) (first : Option ℕ) → SaysAbove old (boundary_read bytes) → ChangeRises (rename_change bytes old token first)
rename_rises bytes old token None rise = tt
rename_rises bytes old token (Some file) rise = rise

peek_rises : (id : ℕ) (o : Option ℕ) → ChangeRises (peek_change id o)
peek_rises id None = tt
peek_rises id (Some file) = tt

in_rises : (c : ℕ) (f : Folder) (work : Work) (way : Way) → RisesNow work → ChangeRises (effect_in c f work way)
in_rises c f (Creates place bytes (Is (steps.Links n))) Plainly rise = link_rises place bytes _ _ _ rise
in_rises c f (Creates place bytes (Is (steps.Links n))) Late rise = link_rises place bytes _ _ _ rise
in_rises c f (Creates place bytes (Is (steps.Links n))) way rise = tt
in_rises c f (Creates place bytes (Is state)) way rise = tt
in_rises c f (Creates place bytes (Ends verdict)) way rise = tt
in_rises c f (Gets place known phase) way rise = tt
in_rises c f (Updates bytes token (Is (steps.Renames n))) Plainly rise = rename_rises bytes token _ _ rise
in_rises c f (Updates bytes token (Is (steps.Renames n))) Late rise = rename_rises bytes token _ _ rise
in_rises c f (Updates bytes token (Is (steps.Renames n))) way rise = tt
in_rises c f (Updates bytes token (Is state)) way rise = tt
in_rises c f (Updates bytes token (Ends verdict)) way rise = tt
in_rises c f (Deletes id (Is steps.Removes)) Plainly rise = tt
in_rises c f (Deletes id (Is steps.Removes)) Late rise = tt
in_rises c f (Deletes id (Is steps.Removes)) way rise = tt
in_rises c f (Deletes id (Is steps.Peeks)) Plainly rise = peek_rises id _
in_rises c f (Deletes id (Is steps.Peeks)) way rise = tt
in_rises c f (Deletes id (Is state)) way rise = tt
in_rises c f (Deletes id (Ends verdict)) way rise = tt

by_rises : (c : ℕ) (o : Option Change) → ChangeRises o → RisesIn (by_call c o)
by_rises c None rise = tt
by_rises c (Some change) rise = rise

step_rises : (w : World) (c : ℕ) (way : Way) → ((d : ℕ) → runs w d ≡ true → RisesNow (w.calls d).work) → (b : Bool) → runs w c ≡ b → RisesIn (if b then by_call c (effect_in c w.folder (w.calls c).work way) else None)
step_rises w c way all true on = by_rises c (effect_in c w.folder (w.calls c).work way) (in_rises c w.folder (w.calls c).work way (all c on))
step_rises w c way all false on = tt

-- a change rises where each call that goes on is to raise
pub effect_rises : (w : World) → ((d : ℕ) → runs w d ≡ true → RisesNow (w.calls d).work) → (e : Event) → RisesIn (effect_of w e)
effect_rises w all (Begin client job) = tt
effect_rises w all (Step c way) = step_rises w c way all (runs w c) refl
effect_rises w all (Kill c) = tt
effect_rises w all (Clean c) = tt

-- Where what clients ask for says so.

abbrev WorkRises : Work → Type 0
WorkRises (Creates place bytes phase) = PutsAbove place bytes
WorkRises (Gets place known phase) = Unit {0}
WorkRises (Updates bytes token phase) = SaysAbove token (boundary_read bytes)
WorkRises (Deletes id phase) = Unit {0}

job_rises : (job : Job) → AsksAbove job → WorkRises (first_work job)
job_rises (Create true place bytes) above = above
job_rises (Create false place bytes) above = above
job_rises (Get place known) above = tt
job_rises (Update bytes token) above = above
job_rises (Delete id) above = tt

turned_rises : (work : Work) (told : Told) → WorkRises work → WorkRises (turned work told)
turned_rises (Creates place bytes (Is state)) told rise = rise
turned_rises (Creates place bytes (Ends verdict)) told rise = rise
turned_rises (Gets place known (Is state)) told rise = tt
turned_rises (Gets place known (Ends verdict)) told rise = tt
turned_rises (Updates bytes token (Is state)) told rise = rise
turned_rises (Updates bytes token (Ends verdict)) told rise = rise
turned_rises (Deletes id (Is state)) told rise = tt
turned_rises (Deletes id (Ends verdict)) told rise = tt

now_rises : (work : Work) → WorkRises work → RisesNow work
now_rises (Creates place bytes (Is (steps.Links n))) rise = rise
now_rises (Creates place bytes (Is state)) rise = tt
now_rises (Creates place bytes (Ends verdict)) rise = tt
now_rises (Gets place known phase) rise = tt
now_rises (Updates bytes token (Is (steps.Renames n))) rise = rise
now_rises (Updates bytes token (Is state)) rise = tt
now_rises (Updates bytes token (Ends verdict)) rise = tt
now_rises (Deletes id phase) rise = tt

module _ (floor t : ℕ) (w : World) (all : (d : ℕ) → d < w.count → WorkRises (w.calls d).work) where
  abbrev All : World → Type 0
  All v = (d : ℕ) → d < v.count → WorkRises (v.calls d).work

  one : (c : ℕ) (k : Call) → (c < w.count → WorkRises k.work) → (d : ℕ) → d < w.count → (b : Bool) → (d == c) ≡ b → WorkRises (if b then k else w.calls d).work
  one c k own d low true is = own (subst (λ (x : ℕ). x < w.count) (eqb-true d c is) low)
  one c k own d low false is = all d low

  answers_all : (c : ℕ) (o : Option Verdict) → All (answers t c o w)
  answers_all c None = all
  answers_all c (Some verdict) = λ d low. one c (ended_with t (answer_of verdict) (w.calls c)) (all c) d low (d == c) refl

  draws_all : (c : ℕ) (ask : Ask) (way : Way) (b : Bool) → All (if b then stepped c ask way w else w)
  draws_all c ask way true = λ d low. one c (worked (w.calls c) (turned (w.calls c).work (step_told c ask way w.folder))) (λ own. turned_rises (w.calls c).work (step_told c ask way w.folder) (all c own)) d low (d == c) refl
  draws_all c ask way false = all

  steps_all : (c : ℕ) (way : Way) (o : Option Ask) → All (goes floor t c o way w)
  steps_all c way None = answers_all c (verdict_of (w.calls c).work)
  steps_all c way (Some ask) = draws_all c ask way (may_draw floor w.owners way)

  runs_all : (c : ℕ) (way : Way) (b : Bool) → All (if b then goes floor t c (asked c (w.calls c).work) way w else w)
  runs_all c way true = steps_all c way (asked c (w.calls c).work)
  runs_all c way false = all

  kills_all : (c : ℕ) (b : Bool) → All (if b then killed t c w else w)
  kills_all c true = λ d low. one c (ended_with t None (w.calls c)) (all c) d low (d == c) refl
  kills_all c false = all

  begins_all : (client : ℕ) (job : Job) → AsksAbove job → All (begun t client job w)
  begins_all client job above d low = by (d == w.count) refl
    where
      by : (b : Bool) → (d == w.count) ≡ b → WorkRises (if b then record { client = client; work = first_work job; began = t; ended = None; answer = None } else w.calls d).work
      by true is = job_rises job above
      by false is = all d (let other = eqb-false d w.count is in omega (arith, low, other))

  event_all : (e : Event) → RaisesOnly e → All (after floor t e w)
  event_all (Begin client job) above = begins_all client job above
  event_all (Step c way) above = runs_all c way (runs w c)
  event_all (Kill c) above = kills_all c (runs w c)
  event_all (Clean c) above = all

module _ (floor : ℕ) (events : ℕ → Event) where
  all_rise : ((t : ℕ) → RaisesOnly (events t)) → (t d : ℕ) → d < (world floor events t).count → WorkRises ((world floor events t).calls d).work
  all_rise raises zero d low = absurd (omega (arith, low))
  all_rise raises (suc t) d low = event_all floor t (world floor events t) (all_rise raises t) (events t) (raises t) d low

  pub allowed : ((t : ℕ) → MayHappen floor (events t)) → ((t : ℕ) → RaisesOnly (events t)) → Allowed floor events
  allowed may raises = (may, λ t. effect_rises (world floor events t) (λ d on. now_rises ((world floor events t).calls d).work (all_rise raises t d (ltb-true d (world floor events t).count (second_true (nat_lt d (world floor events t).count) (not (is_some ((world floor events t).calls d).ended)) on).0))) (events t))
