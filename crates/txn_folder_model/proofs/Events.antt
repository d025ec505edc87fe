-- What one event leaves of a world, by what happens in it.
use Rattle.std.proofs.Common.{◌≡◌, ℕ, ◌==◌, if◌then◌else◌, Bool, true, false, Option, Some, None, refl, sym, ◌∙◌, ◌⊎◌, inl, inr}
use Rattle.txn_folder.specs.steps.Folders.{Place, At, Temporary, Folder, with_name, same_place, linked, moved, Ask, Link, Rename, Unlink, Way, Plainly, Late, after_step}
use Rattle.txn_folder.specs.steps.Steps.{Verdict, asked, verdict_of}
use Rattle.txn_folder_model.specs.Worlds.{World, Job, Event, Begin, Step, Kill, Clean, begun, answers, goes, killed, may_draw, runs, after, stepped}
use Rattle.txn_folder_model.proofs.Changes.{same_places}
use Rattle.txn_folder_model.proofs.Frames.{IsQuiet, step_frame}

-- the world, where somebody removed a temporary name
abbrev pub cleaned : ℕ → World → World
cleaned c w = record { count = w.count; calls = w.calls; folder = with_name w.folder (Temporary c) None; owners = w.owners }

-- A fact of an event and of the world after it holds if it holds in each way that the event can go.
module _ (floor t : ℕ) (w : World) (P : Event → World → Type 0) where
  pub record Ways : Type 0 where
    pub begins : (client : ℕ) (job : Job) → P (Begin client job) (begun t client job w)
    pub idles : (c : ℕ) (way : Way) → P (Step c way) w
    pub ends : (c : ℕ) (way : Way) (verdict : Verdict) → runs w c ≡ true → verdict_of (w.calls c).work ≡ Some verdict → P (Step c way) (answers t c (Some verdict) w)
    pub steps : (c : ℕ) (way : Way) (ask : Ask) → runs w c ≡ true → asked c (w.calls c).work ≡ Some ask → may_draw floor w.owners way ≡ true → P (Step c way) (stepped c ask way w)
    pub rests : (c : ℕ) → P (Kill c) w
    pub kills : (c : ℕ) → runs w c ≡ true → P (Kill c) (killed t c w)
    pub cleans : (c : ℕ) → P (Clean c) (cleaned c w)

  module _ (all : Ways) where
    answers_by : (c : ℕ) (way : Way) → runs w c ≡ true → (o : Option Verdict) → verdict_of (w.calls c).work ≡ o → P (Step c way) (answers t c o w)
    answers_by c way on None is = all.idles c way
    answers_by c way on (Some verdict) is = all.ends c way verdict on is

    draws_by : (c : ℕ) (way : Way) (ask : Ask) → runs w c ≡ true → asked c (w.calls c).work ≡ Some ask → (b : Bool) → may_draw floor w.owners way ≡ b → P (Step c way) (if b then stepped c ask way w else w)
    draws_by c way ask on asks true may = all.steps c way ask on asks may
    draws_by c way ask on asks false may = all.idles c way

    goes_by : (c : ℕ) (way : Way) → runs w c ≡ true → (o : Option Ask) → asked c (w.calls c).work ≡ o → P (Step c way) (goes floor t c o way w)
    goes_by c way on None asks = answers_by c way on (verdict_of (w.calls c).work) refl
    goes_by c way on (Some ask) asks = draws_by c way ask on asks (may_draw floor w.owners way) refl

    runs_by : (c : ℕ) (way : Way) (b : Bool) → runs w c ≡ b → P (Step c way) (if b then goes floor t c (asked c (w.calls c).work) way w else w)
    runs_by c way true on = goes_by c way on (asked c (w.calls c).work) refl
    runs_by c way false on = all.idles c way

    kills_by : (c : ℕ) (b : Bool) → runs w c ≡ b → P (Kill c) (if b then killed t c w else w)
    kills_by c true on = all.kills c on
    kills_by c false on = all.rests c

    pub by_event : (e : Event) → P e (after floor t e w)
    by_event (Begin client job) = all.begins client job
    by_event (Step c way) = runs_by c way (runs w c) refl
    by_event (Kill c) = kills_by c (runs w c) refl
    by_event (Clean c) = all.cleans c

-- asks that give the name of a place
abbrev pub Places : Ask → Place → Type 0
Places (Link there) place = there ≡ place
Places (Rename there) place = there ≡ place
Places ask place = ⊥

-- what a step leaves of the files of others, and of names
module _ (c : ℕ) (f : Folder) where
  linked_files : (place : Place) (o now : Option ℕ) (file : ℕ) → (linked f place o now).files file ≡ f.files file
  linked_files place None now file = refl
  linked_files place (Some i) None file = refl
  linked_files place (Some i) (Some x) file = refl

  moved_files : (place : Place) (o : Option ℕ) (file : ℕ) → (moved f c place o).files file ≡ f.files file
  moved_files place None file = refl
  moved_files place (Some i) file = refl

  quiet_files : (ask : Ask) (way : Way) (file : ℕ) → IsQuiet ask → ¬ (file ≡ c) → (after_step c ask way f).files file ≡ f.files file
  quiet_files ask way file quiet other = (step_frame c f ask way quiet (λ _. None) (λ _. None) (λ n d e. e)).files file other

  pub step_files : (ask : Ask) (way : Way) (file : ℕ) → ¬ (file ≡ c) → (after_step c ask way f).files file ≡ f.files file
  step_files (Link place) Plainly file other = linked_files place (f.names (Temporary c)) (f.names (At place)) file
  step_files (Link place) Late file other = linked_files place (f.names (Temporary c)) (f.names (At place)) file
  step_files (Link place) way file other = refl
  step_files (Rename place) Plainly file other = moved_files place (f.names (Temporary c)) file
  step_files (Rename place) Late file other = moved_files place (f.names (Temporary c)) file
  step_files (Rename place) way file other = refl
  step_files (Unlink (At place)) Plainly file other = refl
  step_files (Unlink (At place)) Late file other = refl
  step_files (Unlink (At place)) way file other = refl
  step_files ask way file other = quiet_files ask way file tt other

  -- each temporary name is of its call's own file
  abbrev pub OwnNames : Folder → Type 0
  OwnNames g = (d file : ℕ) → g.names (Temporary d) ≡ Some file → file ≡ d

  module _ (own : OwnNames f) where
    linked_temps : (place : Place) (o now : Option ℕ) → OwnNames (linked f place o now)
    linked_temps place None now = own
    linked_temps place (Some i) None = own
    linked_temps place (Some i) (Some x) = own

    gone : (d file : ℕ) (b : Bool) → (if b then None else f.names (Temporary d)) ≡ Some file → file ≡ d
    gone d file true is = absurd (cc)
    gone d file false is = own d file is

    moved_temps : (place : Place) (o : Option ℕ) → OwnNames (moved f c place o)
    moved_temps place None = own
    moved_temps place (Some i) = λ d file is. gone d file (d == c) is

    quiet_temps : (ask : Ask) (way : Way) → IsQuiet ask → OwnNames (after_step c ask way f)
    quiet_temps ask way quiet = (step_frame c f ask way quiet (λ _. None) (λ _. None) (λ n d e. e)).temps own

    pub step_temps : (ask : Ask) (way : Way) → OwnNames (after_step c ask way f)
    step_temps (Link place) Plainly = linked_temps place (f.names (Temporary c)) (f.names (At place))
    step_temps (Link place) Late = linked_temps place (f.names (Temporary c)) (f.names (At place))
    step_temps (Link place) way = own
    step_temps (Rename place) Plainly = moved_temps place (f.names (Temporary c))
    step_temps (Rename place) Late = moved_temps place (f.names (Temporary c))
    step_temps (Rename place) way = own
    step_temps (Unlink (At place)) Plainly = own
    step_temps (Unlink (At place)) Late = own
    step_temps (Unlink (At place)) way = own
    step_temps ask way = quiet_temps ask way tt

  -- a place's name leads to a file that it led to, or now to that of the call's temporary name
  module _ (p : Place) (file : ℕ) where
    abbrev From : Ask → Type 0
    From ask = (f.names (At p) ≡ Some file) ⊎ (Places ask p × (f.names (Temporary c) ≡ Some file))

    named : (ask : Ask) (place : Place) (i : ℕ) → (place ≡ p → Places ask p) → f.names (Temporary c) ≡ Some i → (b : Bool) → same_place p place ≡ b → (if b then Some i else f.names (At p)) ≡ Some file → From ask
    named ask place i places has true e is = inr (places (sym (same_places p place e)), has ∙ is)
    named ask place i places has false e is = inl is

    linked_from : (place : Place) (o now : Option ℕ) → f.names (Temporary c) ≡ o → (linked f place o now).names (At p) ≡ Some file → From (Link place)
    linked_from place None now has is = inl is
    linked_from place (Some i) (Some x) has is = inl is
    linked_from place (Some i) None has is = named (Link place) place i (λ e. e) has (same_place p place) refl is

    moved_from : (place : Place) (o : Option ℕ) → f.names (Temporary c) ≡ o → (moved f c place o).names (At p) ≡ Some file → From (Rename place)
    moved_from place None has is = inl is
    moved_from place (Some i) has is = named (Rename place) place i (λ e. e) has (same_place p place) refl is

    gone_from : (ask : Ask) (b : Bool) → (if b then None else f.names (At p)) ≡ Some file → From ask
    gone_from ask true is = absurd (cc)
    gone_from ask false is = inl is

    quiet_from : (ask : Ask) (way : Way) → IsQuiet ask → (after_step c ask way f).names (At p) ≡ Some file → From ask
    quiet_from ask way quiet is = inl (sym ((step_frame c f ask way quiet (λ _. None) (λ _. None) (λ n d e. e)).places p) ∙ is)

    pub step_from : (ask : Ask) (way : Way) → (after_step c ask way f).names (At p) ≡ Some file → From ask
    step_from (Link place) Plainly is = linked_from place (f.names (Temporary c)) (f.names (At place)) refl is
    step_from (Link place) Late is = linked_from place (f.names (Temporary c)) (f.names (At place)) refl is
    step_from (Link place) way is = inl is
    step_from (Rename place) Plainly is = moved_from place (f.names (Temporary c)) refl is
    step_from (Rename place) Late is = moved_from place (f.names (Temporary c)) refl is
    step_from (Rename place) way is = inl is
    step_from (Unlink (At place)) Plainly is = gone_from (Unlink (At place)) (same_place p place) is
    step_from (Unlink (At place)) Late is = gone_from (Unlink (At place)) (same_place p place) is
    step_from (Unlink (At place)) way is = inl is
    step_from ask way is = quiet_from ask way tt is
