-- Who makes a version: a call that creates it, in its link.
use Rattle.std.proofs.Common.{◌≡◌, ℕ, ◌<◌, not, is_some, true, Some, None, ap, sym, subst, ◌∙◌, inl, inr}
use Rattle.std.specs.Prelude.{List, nat_lt}
use Rattle.std.proofs.lemmas.Bool.{ltb-true}
use Rattle.std.proofs.lemmas.Option.{same_Some}
use Rattle.txn_folder.specs.steps.Folders.{Place, Version, At, Ask, Way}
use Rattle.txn_folder.specs.steps.Steps as steps
use Rattle.txn_folder.specs.steps.Steps.{Phase, Is, Work, Creates, Gets, Updates, Deletes, asked, create_asked, get_asked, update_asked, delete_asked}
use Rattle.txn_folder_model.specs.Worlds.{World, Event, stepped, runs, after}
use Rattle.txn_folder_model.proofs.Events.{Places, by_event, step_from}
use Rattle.txn_folder_model.proofs.Stepping.{nobody, second_true}

-- a call that creates this version, and runs
pub record Maker (w : World) (id : ℕ) : Type 0 where
  pub call : ℕ
  pub within : call < w.count
  pub on : (w.calls call).ended ≡ None
  pub bytes : List ℕ
  pub phase : Phase steps.Creating
  pub work_is : (w.calls call).work ≡ Creates (Version id) bytes phase

-- what a call creates where it asks for a link of a version
abbrev CreatesIt : ℕ → Work → Type 0
CreatesIt id work = (bytes : List ℕ) × (phase : Phase steps.Creating) × (work ≡ Creates (Version id) bytes phase)

module _ (c id : ℕ) where
  abbrev GivesIt : Ask → Type 0
  GivesIt ask = Places ask (Version id)

  creating : (place : Place) (bytes : List ℕ) (state : steps.Creating) → GivesIt (create_asked c place bytes state) → place ≡ Version id
  creating place bytes (steps.Links n) is = is
  creating place bytes state is = absurd is

  getting : (place : Place) (state : steps.Getting) → ¬ (GivesIt (get_asked place state))
  getting place steps.Looks is = is
  getting place state is = is

  updating : (bytes : List ℕ) (state : steps.Updating) → ¬ (GivesIt (update_asked c bytes state))
  updating bytes (steps.Renames n) is = cc
  updating bytes state is = is

  deleting : (d : ℕ) (state : steps.Deleting) → ¬ (GivesIt (delete_asked d state))
  deleting d steps.Peeks is = is
  deleting d state is = is

  giving : (ask was : Ask) → Some was ≡ Some ask → GivesIt ask → GivesIt was
  giving ask was is it = subst GivesIt (sym (same_Some was ask is)) it

  work_of : (work : Work) (ask : Ask) → asked c work ≡ Some ask → GivesIt ask → CreatesIt id work
  work_of (Creates place bytes (Is state)) ask is it = (bytes, Is state, ap (λ (p : Place). Creates p bytes (Is state)) (creating place bytes state (giving ask (create_asked c place bytes state) is it)))
  work_of (Gets place known (Is state)) ask is it = absurd (getting place state (giving ask (get_asked place state) is it))
  work_of (Updates bytes token (Is state)) ask is it = absurd (updating bytes state (giving ask (update_asked c bytes state) is it))
  work_of (Deletes d (Is state)) ask is it = absurd (deleting d state (giving ask (delete_asked d state) is it))
  work_of work ask is it = absurd (cc)

module _ (floor t : ℕ) (w : World) (id file : ℕ) (free : w.folder.names (At (Version id)) ≡ None) where
  abbrev Makes : World → Type 0
  Makes v = v.folder.names (At (Version id)) ≡ Some file → Maker w id

  still : Makes w
  still is = absurd (let none : None ≡ Some file = sym free ∙ is in cc)

  maker : (c : ℕ) → runs w c ≡ true → CreatesIt id (w.calls c).work → Maker w id
  maker c on it =
      let both = second_true (nat_lt c w.count) (not (is_some (w.calls c).ended)) on in
      record { call = c; within = ltb-true c w.count both.0; on = nobody (w.calls c).ended both.1; bytes = it.0; phase = it.1; work_is = it.2 }

  steps_make : (c : ℕ) (way : Way) (ask : Ask) → runs w c ≡ true → asked c (w.calls c).work ≡ Some ask → Makes (stepped c ask way w)
  steps_make c way ask on asks is = elim (step_from c w.folder (Version id) file ask way is) [
    | inl old ↦ still old
    | inr new ↦ maker c on (work_of c id (w.calls c).work ask asks new.0)
  ]

  -- a call makes what stands after an event and did not before
  pub event_makes : (event : Event) → Makes (after floor t event w)
  event_makes = by_event floor t w (λ e v. Makes v) (record {
    begins = λ client job. still;
    idles = λ c way. still;
    ends = λ c way verdict on says. still;
    steps = λ c way ask on asks may. steps_make c way ask on asks;
    rests = λ c. still;
    kills = λ c on. still;
    cleans = λ c. still;
  })
