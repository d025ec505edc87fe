-- Each event keeps what holds.
use Rattle.std.proofs.Common.{◌≡◌, ℕ, suc, ◌-◌, ◌^◌, ◌<◌, ◌==◌, ◌&&◌, if◌then◌else◌, not, is_some, Bool, true, false, List, Option, Some, None, Ok, refl, ap, sym, subst, ◌∙◌, arith, ◌⊎◌, inl, inr}
use Rattle.std.proofs.lemmas.Bool.{eqb-true, eqb-false, eq-eqb}
use Rattle.txn_store.specs.Paths.{Segments}
use Rattle.txn_store.specs.VersionName.{Names}
use Rattle.txn_store.specs.declared.request.Reply.{Reply}
use Rattle.txn_store.specs.declared.request.Reply.TheVariants as replies
use Rattle.txn_folder.specs.steps.Folders.{Place, Version, Boundary, At, Temporary, File, Folder, with_name, linked, linked_told, moved, there_told, found_told, Ask, Link, Rename, Way, Plainly, Late, after_step, step_told}
use Rattle.txn_folder.specs.steps.Steps as steps
use Rattle.txn_folder.specs.steps.Steps.{Verdict, Tells, Fails, Is, Ends, Work, Creates, Gets, Updates, Deletes, Creating, Getting, Updating, Deleting, asked, turned, verdict_of, create_asked, create_turned, get_asked, update_asked, update_turned, delete_asked, delete_turned, delete_ok, token_at, put_ok}
use Rattle.txn_folder_model.specs.Worlds.{Call, World, Clean, Job, Create, Get, Update, Delete, first_work, MayAsk, MayPut, IsPlace, worked, ended_with, answer_of, drawn, may_draw, answers, killed, freed, free_of, begun, after}
use Rattle.txn_folder_model.specs.Linear.{request_of, IsApart}
use Rattle.txn_folder_model.proofs.Ghosts.{RisesIn, Created, Updated, Removed, Effect, Ghost, effect_in, by_call, link_change, rename_change, peek_change, changed}
use Rattle.txn_folder_model.proofs.Facts.{By, NoWrite, IsSo, outcome_of, bound, so_on, opened_on, opened_of, Facts, facts_on, Holds, before_or_now, IsContent, content_of, Wrote}
use Rattle.txn_folder_model.proofs.Quiet.{holds_on}
use Rattle.txn_folder_model.proofs.Frames.{Frame, IsQuiet, Rewrites, step_frame, still_frame, step_own, drawn_owns, Running, facts_of, goes_to, holds_after}
use Rattle.txn_folder_model.proofs.Getting.{get_running}
use Rattle.txn_folder_model.proofs.Creating as creating
use Rattle.txn_folder_model.proofs.Updating as updating
use Rattle.txn_folder_model.proofs.Deleting as deleting
use Rattle.txn_folder_model.proofs.Puts.{wrote_now, linked_holds, moved_holds, gone_holds}

-- the asks of each call that leave the store
create_quiet : (c : ℕ) (place : Place) (bytes : List ℕ) (state : Creating) → ¬ (creating.IsLinks state) → IsQuiet (create_asked c place bytes state)
create_quiet c place bytes steps.LooksFirst other = tt
create_quiet c place bytes steps.Draws other = tt
create_quiet c place bytes (steps.Makes n) other = tt
create_quiet c place bytes (steps.Writes n) other = tt
create_quiet c place bytes (steps.SetsTime n) other = tt
create_quiet c place bytes (steps.SyncsNew n) other = tt
create_quiet c place bytes (steps.Links n) other = absurd (other tt)
create_quiet c place bytes (steps.LooksOwn n taken) other = tt
create_quiet c place bytes (steps.LooksThere n taken own) other = tt
create_quiet c place bytes (steps.LooksTaken n) other = tt
create_quiet c place bytes (steps.Cleans verdict) other = tt
create_quiet c place bytes (steps.Syncs verdict) other = tt

create_effect : (c : ℕ) (f : Folder) (place : Place) (bytes : List ℕ) (state : Creating) (way : Way) → ¬ (creating.IsLinks state) → effect_in c f (Creates place bytes (Is state)) way ≡ None
create_effect c f place bytes steps.LooksFirst way other = refl
create_effect c f place bytes steps.Draws way other = refl
create_effect c f place bytes (steps.Makes n) way other = refl
create_effect c f place bytes (steps.Writes n) way other = refl
create_effect c f place bytes (steps.SetsTime n) way other = refl
create_effect c f place bytes (steps.SyncsNew n) way other = refl
create_effect c f place bytes (steps.Links n) way other = absurd (other tt)
create_effect c f place bytes (steps.LooksOwn n taken) way other = refl
create_effect c f place bytes (steps.LooksThere n taken own) way other = refl
create_effect c f place bytes (steps.LooksTaken n) way other = refl
create_effect c f place bytes (steps.Cleans verdict) way other = refl
create_effect c f place bytes (steps.Syncs verdict) way other = refl

update_quiet : (c : ℕ) (bytes : List ℕ) (state : Updating) → ¬ (updating.IsRenames state) → IsQuiet (update_asked c bytes state)
update_quiet c bytes steps.Locks other = tt
update_quiet c bytes steps.Seeks other = tt
update_quiet c bytes steps.Enters other = tt
update_quiet c bytes (steps.Compares file) other = tt
update_quiet c bytes steps.UpdateDraws other = tt
update_quiet c bytes (steps.UpdateMakes n) other = tt
update_quiet c bytes (steps.UpdateWrites n) other = tt
update_quiet c bytes (steps.UpdateSetsTime n) other = tt
update_quiet c bytes (steps.UpdateSyncsNew n) other = tt
update_quiet c bytes (steps.Renames n) other = absurd (other tt)
update_quiet c bytes (steps.LooksNumber n) other = tt
update_quiet c bytes steps.UpdateCleans other = tt
update_quiet c bytes (steps.UpdateSyncs verdict) other = tt
update_quiet c bytes (steps.Frees verdict) other = tt

update_effect : (c : ℕ) (f : Folder) (bytes : List ℕ) (token : ℕ) (state : Updating) (way : Way) → ¬ (updating.IsRenames state) → effect_in c f (Updates bytes token (Is state)) way ≡ None
update_effect c f bytes token steps.Locks way other = refl
update_effect c f bytes token steps.Seeks way other = refl
update_effect c f bytes token steps.Enters way other = refl
update_effect c f bytes token (steps.Compares file) way other = refl
update_effect c f bytes token steps.UpdateDraws way other = refl
update_effect c f bytes token (steps.UpdateMakes n) way other = refl
update_effect c f bytes token (steps.UpdateWrites n) way other = refl
update_effect c f bytes token (steps.UpdateSetsTime n) way other = refl
update_effect c f bytes token (steps.UpdateSyncsNew n) way other = refl
update_effect c f bytes token (steps.Renames n) way other = absurd (other tt)
update_effect c f bytes token (steps.LooksNumber n) way other = refl
update_effect c f bytes token steps.UpdateCleans way other = refl
update_effect c f bytes token (steps.UpdateSyncs verdict) way other = refl
update_effect c f bytes token (steps.Frees verdict) way other = refl

get_quiet : (place : Place) (state : Getting) → IsQuiet (get_asked place state)
get_quiet place steps.Looks = tt
get_quiet place steps.Opens = tt
get_quiet place (steps.Reads file) = tt
get_quiet place (steps.Lasts verdict) = tt

get_same : (c : ℕ) (f : Folder) (place : Place) (state : Getting) (way : Way) (file : ℕ) → (after_step c (get_asked place state) way f).files file ≡ f.files file
get_same c f place steps.Looks Plainly file = refl
get_same c f place steps.Looks way file = refl
get_same c f place steps.Opens Plainly file = refl
get_same c f place steps.Opens way file = refl
get_same c f place (steps.Reads x) Plainly file = refl
get_same c f place (steps.Reads x) way file = refl
get_same c f place (steps.Lasts x) Plainly file = refl
get_same c f place (steps.Lasts x) way file = refl

delete_quiet : (id : ℕ) (state : Deleting) (way : Way) → ¬ (deleting.MayRemove state way) → (c : ℕ) (f : Folder) (owners after : ℕ → Option ℕ) → ((n d : ℕ) → owners n ≡ Some d → after n ≡ Some d) → Frame c f (after_step c (delete_asked id state) way f) owners after
delete_quiet id steps.Peeks Plainly other c f owners after owns = absurd (other tt)
delete_quiet id steps.Peeks way other c f owners after owns = still_frame c f owners after owns
delete_quiet id steps.DeleteLocks way other c f owners after owns = step_frame c f (delete_asked id steps.DeleteLocks) way tt owners after owns
delete_quiet id steps.Removes Plainly other c f owners after owns = absurd (other tt)
delete_quiet id steps.Removes Late other c f owners after owns = absurd (other tt)
delete_quiet id steps.Removes way other c f owners after owns = still_frame c f owners after owns
delete_quiet id (steps.DeleteSyncs verdict) way other c f owners after owns = step_frame c f (delete_asked id (steps.DeleteSyncs verdict)) way tt owners after owns
delete_quiet id (steps.DeleteFrees verdict) way other c f owners after owns = step_frame c f (delete_asked id (steps.DeleteFrees verdict)) way tt owners after owns

delete_effect : (c : ℕ) (f : Folder) (id : ℕ) (state : Deleting) (way : Way) → ¬ (deleting.MayRemove state way) → effect_in c f (Deletes id (Is state)) way ≡ None
delete_effect c f id steps.Peeks Plainly other = absurd (other tt)
delete_effect c f id steps.Peeks way other = refl
delete_effect c f id steps.DeleteLocks way other = refl
delete_effect c f id steps.Removes Plainly other = absurd (other tt)
delete_effect c f id steps.Removes Late other = absurd (other tt)
delete_effect c f id steps.Removes way other = refl
delete_effect c f id (steps.DeleteSyncs verdict) way other = refl
delete_effect c f id (steps.DeleteFrees verdict) way other = refl

delete_plain : (id : ℕ) (state : Deleting) → ¬ (Rewrites (delete_asked id state))
delete_plain id steps.Peeks x = x
delete_plain id steps.DeleteLocks x = x
delete_plain id steps.Removes x = x
delete_plain id (steps.DeleteSyncs verdict) x = x
delete_plain id (steps.DeleteFrees verdict) x = x

-- Of each state: may it remove in this way?
removes_or : (state : Deleting) (way : Way) → deleting.MayRemove state way ⊎ ¬ (deleting.MayRemove state way)
removes_or steps.Peeks Plainly = inl tt
removes_or steps.Peeks way = inr (λ x. x)
removes_or steps.DeleteLocks way = inr (λ x. x)
removes_or steps.Removes Plainly = inl tt
removes_or steps.Removes Late = inl tt
removes_or steps.Removes way = inr (λ x. x)
removes_or (steps.DeleteSyncs verdict) way = inr (λ x. x)
removes_or (steps.DeleteFrees verdict) way = inr (λ x. x)

links_or : (state : Creating) → ((n : ℕ) × (state ≡ steps.Links n)) ⊎ ¬ (creating.IsLinks state)
links_or (steps.Links n) = inl (n, refl)
links_or state = inr (λ x. x)

renames_or : (state : Updating) → ((n : ℕ) × (state ≡ steps.Renames n)) ⊎ ¬ (updating.IsRenames state)
renames_or (steps.Renames n) = inl (n, refl)
renames_or state = inr (λ x. x)

-- a lock of another outlives a kill
free_by : (c d : ℕ) → ¬ (d ≡ c) → (b : Bool) → (d == c) ≡ b → (if b then None else Some d) ≡ Some d
free_by c d other true is = absurd (other (eqb-true d c is))
free_by c d other false is = refl

free_keeps : (c d : ℕ) (o : Option ℕ) → ¬ (d ≡ c) → o ≡ Some d → free_of c o ≡ Some d
free_keeps c d o other is = ap (free_of c) is ∙ free_by c d other (d == c) refl

pub fits_of : (floor : ℕ) (p : Place) (b : List ℕ) → MayPut floor p b → IsPlace p
fits_of floor (Version id) b is = is
fits_of floor Boundary b is = tt

pub nobody : (o : Option ℕ) → not (is_some o) ≡ true → o ≡ None
nobody None is = refl
nobody (Some x) is = absurd (cc)

pub second_true : (a b : Bool) → (a && b) ≡ true → (a ≡ true) × (b ≡ true)
second_true true true is = (refl, refl)
second_true true false is = absurd (cc)
second_true false b is = absurd (cc)

module _ (names : Names) (boundary : Segments) (floor : ℕ) (ghosts : ℕ → Ghost) (effects : ℕ → Option Effect) (t : ℕ) (w : World) (h : Holds names boundary floor ghosts effects t w) (apart : IsApart names boundary) (room : t < 2 ^ 64 - 1) where
  abbrev pub HoldsNow : World → Type 0
  HoldsNow after = Holds names boundary floor ghosts effects (suc t) after

  -- nothing happens
  pub idle : effects t ≡ None → ghosts (suc t) ≡ ghosts t → HoldsNow w
  idle none same = holds_on names boundary floor ghosts effects t w w h (record {
    none = none;
    same = same;
    places = λ p. refl;
    temps = h.temps;
    old_files = λ file wrote. refl;
    owners = λ n d owns. owns;
    more = omega arith;
    calls = λ c low. facts_on names boundary floor ghosts effects t w w h c (w.calls c)
        (record { none = λ by. let clash = sym none ∙ by.1 in absurd (cc); owners = λ n d owns. owns; own_file = refl; old_files = λ file wrote. refl; lock = λ l has. has; steady = λ has file there. there })
        (h.calls c low);
  })

  unlinked_by : (d file e : ℕ) (b : Bool) → (if b then None else w.folder.names (Temporary d)) ≡ Some file → file ≡ d
  unlinked_by d file e true is = absurd (cc)
  unlinked_by d file e false is = h.temps d file is

  pub cleaned : (c : ℕ) → effects t ≡ None → ghosts (suc t) ≡ ghosts t → HoldsNow (after floor t (Clean c) w)
  cleaned c none same = holds_on names boundary floor ghosts effects t w (after floor t (Clean c) w) h (record {
    none = none;
    same = same;
    places = λ p. refl;
    temps = λ d file e. unlinked_by d file c (d == c) e;
    old_files = λ file wrote. refl;
    owners = λ n d owns. owns;
    more = omega arith;
    calls = λ d low. facts_on names boundary floor ghosts effects t w (after floor t (Clean c) w) h d (w.calls d)
        (record { none = λ by. let clash = sym none ∙ by.1 in absurd (cc); owners = λ n d owns. owns; own_file = refl; old_files = λ file wrote. refl; lock = λ l has. has; steady = λ has file there. there })
        (h.calls d low);
  })

  abbrev new_call : ℕ → Job → Call
  new_call client job = record { client = client; work = first_work job; began = t; ended = None; answer = None }

  never_count : effects t ≡ None → NoWrite effects (suc t) w.count
  never_count none s low by = at (before_or_now names boundary floor ghosts effects s t low)
    where
      at : (s < t) ⊎ (s ≡ t) → ⊥
      at (inl before) = let less = h.writers s w.count before by in omega (arith, less)
      at (inr now) = let e = subst (λ (m : ℕ). By effects m w.count) now by in let clash = sym none ∙ e.1 in absurd (cc)

  first_facts : (client : ℕ) (job : Job) → MayAsk floor job → effects t ≡ None → Facts names boundary floor ghosts effects (suc t) (begun t client job w) w.count (new_call client job)
  first_facts client (Create true place bytes) may none = record { may = may; outcome = never_count none; number = λ n is. absurd (cc); content = tt; opened = tt; live = λ _. tt; began_is = omega arith; told = λ r is. absurd (cc); silent = λ _. refl }
  first_facts client (Create false place bytes) may none = record { may = may; outcome = never_count none; number = λ n is. absurd (cc); content = tt; opened = tt; live = λ _. tt; began_is = omega arith; told = λ r is. absurd (cc); silent = λ _. refl }
  first_facts client (Get place known) may none = record { may = may; outcome = never_count none; number = λ n is. absurd (cc); content = tt; opened = tt; live = λ _. tt; began_is = omega arith; told = λ r is. absurd (cc); silent = λ _. refl }
  first_facts client (Update bytes token) may none = record { may = may; outcome = never_count none; number = λ n is. absurd (cc); content = tt; opened = tt; live = λ _. tt; began_is = omega arith; told = λ r is. absurd (cc); silent = λ _. refl }
  first_facts client (Delete id) may none = record { may = may; outcome = never_count none; number = λ n is. absurd (cc); content = tt; opened = tt; live = λ _. tt; began_is = omega arith; told = λ r is. absurd (cc); silent = λ _. refl }

  begun_by : (client : ℕ) (job : Job) → MayAsk floor job → effects t ≡ None → (d : ℕ) → d < suc w.count → (b : Bool) → (d == w.count) ≡ b → Facts names boundary floor ghosts effects (suc t) (begun t client job w) d (if b then new_call client job else w.calls d)
  begun_by client job may none d low true is = subst (λ (x : ℕ). Facts names boundary floor ghosts effects (suc t) (begun t client job w) x (new_call client job)) (sym (eqb-true d w.count is)) (first_facts client job may none)
  begun_by client job may none d low false is =
      let other = eqb-false d w.count is in
      facts_on names boundary floor ghosts effects t w (begun t client job w) h d (w.calls d)
      (record { none = λ by. let clash = sym none ∙ by.1 in absurd (cc); owners = λ n d owns. owns; own_file = refl; old_files = λ file wrote. refl; lock = λ l has. has; steady = λ has file there. there })
      (h.calls d (omega (arith, low, other)))

  pub begins : (client : ℕ) (job : Job) → MayAsk floor job → effects t ≡ None → ghosts (suc t) ≡ ghosts t → HoldsNow (begun t client job w)
  begins client job may none same = holds_on names boundary floor ghosts effects t w (begun t client job w) h (record {
    none = none;
    same = same;
    places = λ p. refl;
    temps = h.temps;
    old_files = λ file wrote. refl;
    owners = λ n d owns. owns;
    more = omega arith;
    calls = λ d low. begun_by client job may none d low (d == w.count) refl;
  })

  -- events of one call that has not ended
  module _ (c : ℕ) (low : c < w.count) (runs_on : (w.calls c).ended ≡ None) (rises : RisesIn (effects t)) where
    its : Facts names boundary floor ghosts effects t w c (w.calls c)
    its = h.calls c low

    abbrev pub its_call : Call
    its_call = w.calls c

    -- it ends
    end_facts : (g : Folder) (answer : Option Reply) → ((file : ℕ) → g.files file ≡ w.folder.files file) → effects t ≡ None → ((r : Reply) → answer ≡ Some r → verdict_of its_call.work ≡ Some (Tells r)) → Facts names boundary floor ghosts effects (suc t) (goes_to names boundary floor ghosts effects t w h c g w.owners (ended_with t answer its_call)) c (ended_with t answer its_call)
    end_facts g answer files none tells =
        let began = its.began_is in
        record {
          may = its.may;
          outcome = so_on names boundary floor ghosts effects t t (suc t) its_call.began c (request_of names boundary its_call.work) (outcome_of its_call.work) (λ by. let clash = sym none ∙ by.1 in absurd (cc)) (omega arith)
              (subst (λ (e : Option ℕ). IsSo names boundary floor ghosts effects t (bound t e) its_call.began c (request_of names boundary its_call.work) (outcome_of its_call.work)) runs_on its.outcome);
          number = its.number;
          content = subst (λ (f : File). IsContent f (content_of its_call.work)) (sym (files c)) its.content;
          opened = opened_on names boundary floor ghosts effects t w (goes_to names boundary floor ghosts effects t w h c g w.owners (ended_with t answer its_call)) h its_call.began (opened_of its_call.work) (λ file wrote. files file) its.opened;
          live = λ e. absurd (cc);
          began_is = omega (arith, began);
          told = tells;
          silent = λ e. absurd (cc);
        }

    answer_by : (v : Verdict) (r : Reply) → answer_of v ≡ Some r → v ≡ Tells r
    answer_by (Tells x) r is = ap Tells (ap (λ (o : Option Reply). elim o [ None ↦ x | Some y ↦ y ]) is)
    answer_by Fails r is = absurd (cc)

    answered_now : (o : Option Verdict) → verdict_of its_call.work ≡ o → effects t ≡ None → ghosts (suc t) ≡ ghosts t → HoldsNow (answers t c o w)
    answered_now None is none same = idle none same
    answered_now (Some v) is none same =
        holds_after names boundary floor ghosts effects t w h c w.folder w.owners (ended_with t (answer_of v) its_call) (still_frame c w.folder w.owners w.owners (λ n d owns. owns)) (inr refl) none same
        (end_facts w.folder (answer_of v) (λ file. refl) none (λ r e. is ∙ ap Some (answer_by v r e)))

    abbrev freed_folder : Folder
    freed_folder = record { names = w.folder.names; files = w.folder.files; locks = freed w.folder.locks c }

    pub killed_now : effects t ≡ None → ghosts (suc t) ≡ ghosts t → HoldsNow (killed t c w)
    killed_now none same =
        holds_after names boundary floor ghosts effects t w h c freed_folder w.owners (ended_with t None its_call)
        (record { places = λ p. refl; temps = λ old d file e. old d file e; files = λ file other. refl; locks = λ l d other has. free_keeps c d (w.folder.locks l) other has; owns = λ n d owns. owns })
        (inr refl) none same (end_facts freed_folder None (λ file. refl) none (λ r e. absurd (cc)))

    -- the world after a step of a call at this work
    abbrev pub AfterIts : Folder → (ℕ → Option ℕ) → Work → World
    AfterIts g owners work = goes_to names boundary floor ghosts effects t w h c g owners (worked its_call work)

    abbrev pub RunningThen : Folder → (ℕ → Option ℕ) → Work → Type 0
    RunningThen g owners work = Running names boundary floor ghosts effects (suc t) c its_call.began g owners work

    abbrev pub RunningNow : Work → Type 0
    RunningNow work = Running names boundary floor ghosts effects t c its_call.began w.folder w.owners work

    facts_then : (g : Folder) (owners : ℕ → Option ℕ) (work : Work) → RunningThen g owners work → Facts names boundary floor ghosts effects (suc t) (AfterIts g owners work) c (worked its_call work)
    facts_then g owners work r = let began = its.began_is in facts_of names boundary floor ghosts effects (suc t) c (AfterIts g owners work) its_call work runs_on (its.silent runs_on) (omega (arith, began)) r

    quiet_step : (g : Folder) (owners : ℕ → Option ℕ) (work : Work) → Frame c w.folder g w.owners owners → (NoWrite effects t c ⊎ (g.files c ≡ w.folder.files c)) → effects t ≡ None → ghosts (suc t) ≡ ghosts t → RunningThen g owners work → HoldsNow (AfterIts g owners work)
    quiet_step g owners work fr own none same r = holds_after names boundary floor ghosts effects t w h c g owners (worked its_call work) fr own none same (facts_then g owners work r)

    not_by : effects t ≡ None → ¬ (By effects t c)
    not_by none by = let clash = sym none ∙ by.1 in absurd (cc)

    -- the outcome of a step, for each ask and way
    abbrev pub StepTo : Ask → Way → Work → Type 0
    StepTo ask way work = HoldsNow (AfterIts (after_step c ask way w.folder) (drawn w.owners c ask way) (turned work (step_told c ask way w.folder)))

    get_step : (place : Place) (known : Option ℕ) (state : Getting) (way : Way) → may_draw floor w.owners way ≡ true → effects t ≡ None → ghosts (suc t) ≡ ghosts t → RunningNow (Gets place known (Is state)) → StepTo (get_asked place state) way (Gets place known (Is state))
    get_step place known state way may none same r =
        quiet_step (after_step c (get_asked place state) way w.folder) (drawn w.owners c (get_asked place state) way) (turned (Gets place known (Is state)) (step_told c (get_asked place state) way w.folder))
        (step_frame c w.folder (get_asked place state) way (get_quiet place state) w.owners (drawn w.owners c (get_asked place state) way) (drawn_owns floor w.owners c (get_asked place state) way may))
        (inr (get_same c w.folder place state way c)) none same
        (get_running names boundary floor ghosts effects t w h c its_call.began its.began_is (not_by none) place known r.may (after_step c (get_asked place state) way w.folder) (drawn w.owners c (get_asked place state) way) state way (λ file is. get_same c w.folder place state way file) r)

    create_own : (place : Place) (bytes : List ℕ) (state : Creating) (way : Way) → ¬ (creating.IsLinks state) → RunningNow (Creates place bytes (Is state)) → NoWrite effects t c ⊎ ((after_step c (create_asked c place bytes state) way w.folder).files c ≡ w.folder.files c)
    create_own place bytes steps.LooksFirst way other r = inl r.outcome
    create_own place bytes steps.Draws way other r = inl r.outcome
    create_own place bytes (steps.Makes n) way other r = inl r.outcome
    create_own place bytes (steps.Writes n) way other r = inl r.outcome
    create_own place bytes (steps.SetsTime n) way other r = inl r.outcome
    create_own place bytes (steps.SyncsNew n) way other r = inl r.outcome
    create_own place bytes (steps.Links n) way other r = absurd (other tt)
    create_own place bytes (steps.LooksOwn n taken) way other r = inr (step_own c w.folder (create_asked c place bytes (steps.LooksOwn n taken)) way (λ x. x))
    create_own place bytes (steps.LooksThere n taken own) way other r = inr (step_own c w.folder (create_asked c place bytes (steps.LooksThere n taken own)) way (λ x. x))
    create_own place bytes (steps.LooksTaken n) way other r = inl r.outcome
    create_own place bytes (steps.Cleans verdict) way other r = inr (step_own c w.folder (create_asked c place bytes (steps.Cleans verdict)) way (λ x. x))
    create_own place bytes (steps.Syncs verdict) way other r = inr (step_own c w.folder (create_asked c place bytes (steps.Syncs verdict)) way (λ x. x))

    create_step : (place : Place) (bytes : List ℕ) (state : Creating) (way : Way) → ¬ (creating.IsLinks state) → may_draw floor w.owners way ≡ true → effects t ≡ None → ghosts (suc t) ≡ ghosts t → RunningNow (Creates place bytes (Is state)) → StepTo (create_asked c place bytes state) way (Creates place bytes (Is state))
    create_step place bytes state way other may none same r =
        quiet_step (after_step c (create_asked c place bytes state) way w.folder) (drawn w.owners c (create_asked c place bytes state) way) (turned (Creates place bytes (Is state)) (step_told c (create_asked c place bytes state) way w.folder))
        (step_frame c w.folder (create_asked c place bytes state) way (create_quiet c place bytes state other) w.owners (drawn w.owners c (create_asked c place bytes state) way) (drawn_owns floor w.owners c (create_asked c place bytes state) way may))
        (create_own place bytes state way other r) none same
        (creating.create_running names boundary floor ghosts effects t w h c its_call.began its.began_is (not_by none) place bytes r.may state way other may r)

    update_own : (bytes : List ℕ) (token : ℕ) (state : Updating) (way : Way) → ¬ (updating.IsRenames state) → RunningNow (Updates bytes token (Is state)) → NoWrite effects t c ⊎ ((after_step c (update_asked c bytes state) way w.folder).files c ≡ w.folder.files c)
    update_own bytes token steps.Locks way other r = inl r.outcome
    update_own bytes token steps.Seeks way other r = inl r.outcome
    update_own bytes token steps.Enters way other r = inl r.outcome
    update_own bytes token (steps.Compares file) way other r = inl r.outcome
    update_own bytes token steps.UpdateDraws way other r = inl r.outcome
    update_own bytes token (steps.UpdateMakes n) way other r = inl r.outcome
    update_own bytes token (steps.UpdateWrites n) way other r = inl r.outcome
    update_own bytes token (steps.UpdateSetsTime n) way other r = inl r.outcome
    update_own bytes token (steps.UpdateSyncsNew n) way other r = inl r.outcome
    update_own bytes token (steps.Renames n) way other r = absurd (other tt)
    update_own bytes token (steps.LooksNumber n) way other r = inr (step_own c w.folder (update_asked c bytes (steps.LooksNumber n)) way (λ x. x))
    update_own bytes token steps.UpdateCleans way other r = inr (step_own c w.folder (update_asked c bytes steps.UpdateCleans) way (λ x. x))
    update_own bytes token (steps.UpdateSyncs verdict) way other r = inr (step_own c w.folder (update_asked c bytes (steps.UpdateSyncs verdict)) way (λ x. x))
    update_own bytes token (steps.Frees verdict) way other r = inr (step_own c w.folder (update_asked c bytes (steps.Frees verdict)) way (λ x. x))

    update_step : (bytes : List ℕ) (token : ℕ) (state : Updating) (way : Way) → ¬ (updating.IsRenames state) → may_draw floor w.owners way ≡ true → effects t ≡ None → ghosts (suc t) ≡ ghosts t → RunningNow (Updates bytes token (Is state)) → StepTo (update_asked c bytes state) way (Updates bytes token (Is state))
    update_step bytes token state way other may none same r =
        quiet_step (after_step c (update_asked c bytes state) way w.folder) (drawn w.owners c (update_asked c bytes state) way) (turned (Updates bytes token (Is state)) (step_told c (update_asked c bytes state) way w.folder))
        (step_frame c w.folder (update_asked c bytes state) way (update_quiet c bytes state other) w.owners (drawn w.owners c (update_asked c bytes state) way) (drawn_owns floor w.owners c (update_asked c bytes state) way may))
        (update_own bytes token state way other r) none same
        (updating.update_running names boundary floor ghosts effects t w h c its_call.began its.began_is (not_by none) bytes token r.may state way other may r)

    delete_step : (id : ℕ) (state : Deleting) (way : Way) → ¬ (deleting.MayRemove state way) → may_draw floor w.owners way ≡ true → effects t ≡ None → ghosts (suc t) ≡ ghosts t → RunningNow (Deletes id (Is state)) → StepTo (delete_asked id state) way (Deletes id (Is state))
    delete_step id state way other may none same r =
        quiet_step (after_step c (delete_asked id state) way w.folder) (drawn w.owners c (delete_asked id state) way) (turned (Deletes id (Is state)) (step_told c (delete_asked id state) way w.folder))
        (delete_quiet id state way other c w.folder w.owners (drawn w.owners c (delete_asked id state) way) (drawn_owns floor w.owners c (delete_asked id state) way may))
        (inr (step_own c w.folder (delete_asked id state) way (delete_plain id state))) none same
        (deleting.delete_running names boundary floor ghosts effects t w h c its_call.began its.began_is (not_by none) id r.may state way other r)

    -- nothing of the folder changes, and the call goes on so
    still_step : (work : Work) → effects t ≡ None → ghosts (suc t) ≡ ghosts t → RunningThen w.folder w.owners work → HoldsNow (AfterIts w.folder w.owners work)
    still_step work none same r = quiet_step w.folder w.owners work (still_frame c w.folder w.owners w.owners (λ n d owns. owns)) (inr refl) none same r

    injected : (n m : ℕ) (P : ℕ → Type 0) → Some n ≡ Some m → P n → P m
    injected n m P is p = subst P (ap (λ (o : Option ℕ). elim o [ None ↦ n | Some x ↦ x ]) is) p

    module _ (place : Place) (bytes : List ℕ) (n : ℕ) (r : RunningNow (Creates place bytes (Is (steps.Links n)))) (becomes : ghosts (suc t) ≡ changed names boundary (ghosts t) (effects t)) where
      abbrev token : ℕ
      token = token_at place bytes n

      -- the link was made now
      made_now : (i : ℕ) (work : Work) → w.folder.names (Temporary c) ≡ Some i → w.folder.names (At place) ≡ None → effects t ≡ Some (record { call = c; change = Created place bytes token }) → (work ≡ Creates place bytes (Is (steps.Cleans (put_ok token)))) ⊎ (work ≡ Creates place bytes (Is (steps.LooksOwn n false))) → HoldsNow (AfterIts (with_name w.folder (At place) (Some i)) w.owners work)
      made_now i work first free is goes_on =
          let own = r.number n refl in
          linked_holds names boundary floor ghosts effects t w h c apart low room place bytes n i r.may (subst RisesIn is rises) own.0 own.1 r.content.0 r.content.1 r.outcome first free is (becomes ∙ ap (changed names boundary (ghosts t)) is) (fits_of floor place bytes r.may) (worked its_call work)
          (facts_then (with_name w.folder (At place) (Some i)) w.owners work (by goes_on))
        where
          wrote : Wrote names boundary floor ghosts effects (suc t) (suc t) its_call.began c (request_of names boundary (Creates place bytes (Is (steps.Links n)))) (replies.Put (Ok token))
          wrote = wrote_now names boundary floor ghosts effects t w h c its_call.began (request_of names boundary (Creates place bytes (Is (steps.Links n)))) (replies.Put (Ok token)) (Created place bytes token) its.began_is r.outcome is refl refl

          by : (work ≡ Creates place bytes (Is (steps.Cleans (put_ok token)))) ⊎ (work ≡ Creates place bytes (Is (steps.LooksOwn n false))) → RunningThen (with_name w.folder (At place) (Some i)) w.owners work
          by (inl e) = subst (RunningThen (with_name w.folder (At place) (Some i)) w.owners) (sym e) (record { may = r.may; outcome = inl wrote; number = λ m x. absurd (cc); content = tt; opened = tt; live = tt })
          by (inr e) = subst (RunningThen (with_name w.folder (At place) (Some i)) w.owners) (sym e) (record { may = r.may; outcome = inr wrote; number = λ m x. injected n m (λ (y : ℕ). (w.owners y ≡ Some c) × (floor < y)) x (r.number n refl); content = tt; opened = tt; live = tt })

      -- it was not
      not_made : (taken : Bool) → effects t ≡ None → HoldsNow (AfterIts w.folder w.owners (Creates place bytes (Is (steps.LooksOwn n taken))))
      not_made taken none =
          still_step (Creates place bytes (Is (steps.LooksOwn n taken))) none (becomes ∙ ap (changed names boundary (ghosts t)) none)
          (creating.unlinked names boundary floor ghosts effects t w h c its_call.began its.began_is (not_by none) place bytes r.may n taken w.folder w.owners (r.number n refl) r.outcome)

      link_plainly : (first now : Option ℕ) → w.folder.names (Temporary c) ≡ first → w.folder.names (At place) ≡ now → effects t ≡ by_call c (link_change place bytes token first now) → HoldsNow (AfterIts (linked w.folder place first now) w.owners (Creates place bytes (create_turned place bytes (steps.Links n) (linked_told first now))))
      link_plainly None now has there is = not_made false is
      link_plainly (Some i) (Some x) has there is = not_made true is
      link_plainly (Some i) None has there is = made_now i (Creates place bytes (Is (steps.Cleans (put_ok token)))) has there is (inl refl)

      link_late : (first now : Option ℕ) → w.folder.names (Temporary c) ≡ first → w.folder.names (At place) ≡ now → effects t ≡ by_call c (link_change place bytes token first now) → HoldsNow (AfterIts (linked w.folder place first now) w.owners (Creates place bytes (Is (steps.LooksOwn n false))))
      link_late None now has there is = not_made false is
      link_late (Some i) (Some x) has there is = not_made false is
      link_late (Some i) None has there is = made_now i (Creates place bytes (Is (steps.LooksOwn n false))) has there is (inr refl)

      link_step : (way : Way) → effects t ≡ by_call c (effect_in c w.folder (Creates place bytes (Is (steps.Links n))) way) → StepTo (Link place) way (Creates place bytes (Is (steps.Links n)))
      link_step Plainly is = link_plainly (w.folder.names (Temporary c)) (w.folder.names (At place)) refl refl is
      link_step Late is = link_late (w.folder.names (Temporary c)) (w.folder.names (At place)) refl refl is
      link_step way is = not_made false is

    module _ (bytes : List ℕ) (old n : ℕ) (r : RunningNow (Updates bytes old (Is (steps.Renames n)))) (becomes : ghosts (suc t) ≡ changed names boundary (ghosts t) (effects t)) where
      abbrev said : ℕ
      said = token_at Boundary bytes n

      moved_now : (i : ℕ) (work : Work) → w.folder.names (Temporary c) ≡ Some i → effects t ≡ Some (record { call = c; change = Updated bytes old said }) → (work ≡ Updates bytes old (Is (steps.UpdateSyncs (put_ok said)))) ⊎ (work ≡ Updates bytes old (Is (steps.LooksNumber n))) → HoldsNow (AfterIts (with_name (with_name w.folder (At Boundary) (Some i)) (Temporary c) None) w.owners work)
      moved_now i work first is goes_on =
          let own = r.number n refl in
          let lives = r.live in
          moved_holds names boundary floor ghosts effects t w h c apart low room bytes old n i lives.1.0 r.may (subst RisesIn is rises) own.0 r.content.0 r.content.1 r.outcome lives.0 lives.1.1 lives.1.2 first is (becomes ∙ ap (changed names boundary (ghosts t)) is) (worked its_call work)
          (facts_then (with_name (with_name w.folder (At Boundary) (Some i)) (Temporary c) None) w.owners work (by goes_on))
        where
          wrote : Wrote names boundary floor ghosts effects (suc t) (suc t) its_call.began c (request_of names boundary (Updates bytes old (Is (steps.Renames n)))) (replies.Put (Ok said))
          wrote = wrote_now names boundary floor ghosts effects t w h c its_call.began (request_of names boundary (Updates bytes old (Is (steps.Renames n)))) (replies.Put (Ok said)) (Updated bytes old said) its.began_is r.outcome is refl refl

          by : (work ≡ Updates bytes old (Is (steps.UpdateSyncs (put_ok said)))) ⊎ (work ≡ Updates bytes old (Is (steps.LooksNumber n))) → RunningThen (with_name (with_name w.folder (At Boundary) (Some i)) (Temporary c) None) w.owners work
          by (inl e) = subst (RunningThen (with_name (with_name w.folder (At Boundary) (Some i)) (Temporary c) None) w.owners) (sym e) (record { may = r.may; outcome = inl wrote; number = λ m x. absurd (cc); content = tt; opened = tt; live = tt })
          by (inr e) = subst (RunningThen (with_name (with_name w.folder (At Boundary) (Some i)) (Temporary c) None) w.owners) (sym e) (record { may = r.may; outcome = inr wrote; number = λ m x. injected n m (λ (y : ℕ). (w.owners y ≡ Some c) × (floor < y)) x (r.number n refl); content = tt; opened = tt; live = tt })

      not_moved : effects t ≡ None → HoldsNow (AfterIts w.folder w.owners (Updates bytes old (Is (steps.LooksNumber n))))
      not_moved none =
          still_step (Updates bytes old (Is (steps.LooksNumber n))) none (becomes ∙ ap (changed names boundary (ghosts t)) none)
          (updating.unrenamed names boundary floor ghosts effects t w h c its_call.began its.began_is (not_by none) bytes old r.may n w.folder w.owners (r.number n refl) r.outcome)

      rename_plainly : (first : Option ℕ) → w.folder.names (Temporary c) ≡ first → effects t ≡ by_call c (rename_change bytes old said first) → HoldsNow (AfterIts (moved w.folder c Boundary first) w.owners (Updates bytes old (update_turned bytes old (steps.Renames n) (there_told first))))
      rename_plainly None has is = not_moved is
      rename_plainly (Some i) has is = moved_now i (Updates bytes old (Is (steps.UpdateSyncs (put_ok said)))) has is (inl refl)

      rename_late : (first : Option ℕ) → w.folder.names (Temporary c) ≡ first → effects t ≡ by_call c (rename_change bytes old said first) → HoldsNow (AfterIts (moved w.folder c Boundary first) w.owners (Updates bytes old (Is (steps.LooksNumber n))))
      rename_late None has is = not_moved is
      rename_late (Some i) has is = moved_now i (Updates bytes old (Is (steps.LooksNumber n))) has is (inr refl)

      rename_step : (way : Way) → effects t ≡ by_call c (effect_in c w.folder (Updates bytes old (Is (steps.Renames n))) way) → StepTo (Rename Boundary) way (Updates bytes old (Is (steps.Renames n)))
      rename_step Plainly is = rename_plainly (w.folder.names (Temporary c)) refl is
      rename_step Late is = rename_late (w.folder.names (Temporary c)) refl is
      rename_step way is = not_moved is

    module _ (id : ℕ) (may : IsPlace (Version id)) (never : NoWrite effects t c) (becomes : ghosts (suc t) ≡ changed names boundary (ghosts t) (effects t)) where
      abbrev gone_from : Folder
      gone_from = with_name w.folder (At (Version id)) None

      gone_wrote : effects t ≡ Some (record { call = c; change = Removed id }) → Wrote names boundary floor ghosts effects (suc t) (suc t) its_call.began c (request_of names boundary (Deletes id (Is steps.Removes))) (replies.Delete (Ok tt))
      gone_wrote is = wrote_now names boundary floor ghosts effects t w h c its_call.began (request_of names boundary (Deletes id (Is steps.Removes))) (replies.Delete (Ok tt)) (Removed id) its.began_is never is refl refl

      told_gone : (g : Folder) → effects t ≡ Some (record { call = c; change = Removed id }) → RunningThen g w.owners (Deletes id (Is (steps.DeleteSyncs delete_ok)))
      told_gone g is = record { may = may; outcome = inl (gone_wrote is); number = λ n e. absurd (cc); content = tt; opened = tt; live = tt }

      lost_gone : (g : Folder) → effects t ≡ Some (record { call = c; change = Removed id }) → RunningThen g w.owners (Deletes id (Is (steps.DeleteFrees Fails)))
      lost_gone g is = record { may = may; outcome = inr (replies.Delete (Ok tt), gone_wrote is); number = λ n e. absurd (cc); content = tt; opened = tt; live = tt }

      unlink_to : (work : Work) → effects t ≡ Some (record { call = c; change = Removed id }) → RunningThen gone_from w.owners work → HoldsNow (AfterIts gone_from w.owners work)
      unlink_to work is r = gone_holds names boundary floor ghosts effects t w h c apart low room id may gone_from (rw (eq-eqb id id refl) refl) (λ p other. rw other refl) (λ d. refl) (λ file. refl) (λ l. refl) is (becomes ∙ ap (changed names boundary (ghosts t)) is) (worked its_call work) (facts_then gone_from w.owners work r)

      unlinked_told : (o : Option ℕ) → effects t ≡ Some (record { call = c; change = Removed id }) → HoldsNow (AfterIts gone_from w.owners (Deletes id (delete_turned steps.Removes (there_told o))))
      unlinked_told None is = unlink_to (Deletes id (Is (steps.DeleteSyncs delete_ok))) is (told_gone gone_from is)
      unlinked_told (Some x) is = unlink_to (Deletes id (Is (steps.DeleteSyncs delete_ok))) is (told_gone gone_from is)

      peek_step : (o : Option ℕ) → w.folder.names (At (Version id)) ≡ o → effects t ≡ by_call c (peek_change id o) → HoldsNow (AfterIts w.folder w.owners (Deletes id (delete_turned steps.Peeks (found_told w.folder o))))
      peek_step (Some x) there is = still_step (Deletes id (Is steps.DeleteLocks)) is (becomes ∙ ap (changed names boundary (ghosts t)) is) (deleting.peeked names boundary floor ghosts effects t w h c its_call.began its.began_is (not_by is) id may w.folder w.owners never)
      peek_step None there is = gone_holds names boundary floor ghosts effects t w h c apart low room id may w.folder there (λ p other. refl) (λ d. refl) (λ file. refl) (λ l. refl) is (becomes ∙ ap (changed names boundary (ghosts t)) is) (worked its_call (Deletes id (Is (steps.DeleteSyncs delete_ok)))) (facts_then w.folder w.owners (Deletes id (Is (steps.DeleteSyncs delete_ok))) (told_gone w.folder is))

    remove_step : (id : ℕ) (state : Deleting) (way : Way) → deleting.MayRemove state way → RunningNow (Deletes id (Is state)) → ghosts (suc t) ≡ changed names boundary (ghosts t) (effects t) → effects t ≡ by_call c (effect_in c w.folder (Deletes id (Is state)) way) → StepTo (delete_asked id state) way (Deletes id (Is state))
    remove_step id steps.Peeks Plainly removes r becomes is = peek_step id r.may r.outcome becomes (w.folder.names (At (Version id))) refl is
    remove_step id steps.Removes Plainly removes r becomes is = unlinked_told id r.may r.outcome becomes (w.folder.names (At (Version id))) is
    remove_step id steps.Removes Late removes r becomes is = unlink_to id r.may r.outcome becomes (Deletes id (Is (steps.DeleteFrees Fails))) is (lost_gone id r.may r.outcome becomes (with_name w.folder (At (Version id)) None) is)
    remove_step id state way removes r becomes is = absurd (removes)

    -- by what the call is at
    create_any : (place : Place) (bytes : List ℕ) (state : Creating) (way : Way) → ((n : ℕ) × (state ≡ steps.Links n)) ⊎ ¬ (creating.IsLinks state) → may_draw floor w.owners way ≡ true → RunningNow (Creates place bytes (Is state)) → ghosts (suc t) ≡ changed names boundary (ghosts t) (effects t) → effects t ≡ by_call c (effect_in c w.folder (Creates place bytes (Is state)) way) → StepTo (create_asked c place bytes state) way (Creates place bytes (Is state))
    create_any place bytes state way (inl (n, e)) may r becomes is =
        subst (λ (s : Creating). StepTo (create_asked c place bytes s) way (Creates place bytes (Is s))) (sym e)
        (link_step place bytes n (subst (λ (s : Creating). RunningNow (Creates place bytes (Is s))) e r) becomes way (is ∙ ap (λ (s : Creating). by_call c (effect_in c w.folder (Creates place bytes (Is s)) way)) e))
    create_any place bytes state way (inr other) may r becomes is =
        let none = is ∙ ap (by_call c) (create_effect c w.folder place bytes state way other) in
        create_step place bytes state way other may none (becomes ∙ ap (changed names boundary (ghosts t)) none) r

    update_any : (bytes : List ℕ) (old : ℕ) (state : Updating) (way : Way) → ((n : ℕ) × (state ≡ steps.Renames n)) ⊎ ¬ (updating.IsRenames state) → may_draw floor w.owners way ≡ true → RunningNow (Updates bytes old (Is state)) → ghosts (suc t) ≡ changed names boundary (ghosts t) (effects t) → effects t ≡ by_call c (effect_in c w.folder (Updates bytes old (Is state)) way) → StepTo (update_asked c bytes state) way (Updates bytes old (Is state))
    update_any bytes old state way (inl (n, e)) may r becomes is =
        subst (λ (s : Updating). StepTo (update_asked c bytes s) way (Updates bytes old (Is s))) (sym e)
        (rename_step bytes old n (subst (λ (s : Updating). RunningNow (Updates bytes old (Is s))) e r) becomes way (is ∙ ap (λ (s : Updating). by_call c (effect_in c w.folder (Updates bytes old (Is s)) way)) e))
    update_any bytes old state way (inr other) may r becomes is =
        let none = is ∙ ap (by_call c) (update_effect c w.folder bytes old state way other) in
        update_step bytes old state way other may none (becomes ∙ ap (changed names boundary (ghosts t)) none) r

    delete_any : (id : ℕ) (state : Deleting) (way : Way) → deleting.MayRemove state way ⊎ ¬ (deleting.MayRemove state way) → may_draw floor w.owners way ≡ true → RunningNow (Deletes id (Is state)) → ghosts (suc t) ≡ changed names boundary (ghosts t) (effects t) → effects t ≡ by_call c (effect_in c w.folder (Deletes id (Is state)) way) → StepTo (delete_asked id state) way (Deletes id (Is state))
    delete_any id state way (inl removes) may r becomes is = remove_step id state way removes r becomes is
    delete_any id state way (inr other) may r becomes is =
        let none = is ∙ ap (by_call c) (delete_effect c w.folder id state way other) in
        delete_step id state way other may none (becomes ∙ ap (changed names boundary (ghosts t)) none) r

    get_any : (place : Place) (known : Option ℕ) (state : Getting) (way : Way) → may_draw floor w.owners way ≡ true → RunningNow (Gets place known (Is state)) → ghosts (suc t) ≡ changed names boundary (ghosts t) (effects t) → effects t ≡ None → StepTo (get_asked place state) way (Gets place known (Is state))
    get_any place known state way may r becomes none = get_step place known state way may none (becomes ∙ ap (changed names boundary (ghosts t)) none) r

    -- a step, or no step where the number is not to be drawn
    abbrev pub GoesTo : Work → Option Ask → Way → Type 0
    GoesTo work None way = HoldsNow (answers t c (verdict_of work) w)
    GoesTo work (Some ask) way = may_draw floor w.owners way ≡ true → StepTo ask way work

    pub step_any : (work : Work) → its_call.work ≡ work → RunningNow work → (way : Way) → ghosts (suc t) ≡ changed names boundary (ghosts t) (effects t) → effects t ≡ by_call c (effect_in c w.folder work way) → GoesTo work (asked c work) way
    step_any (Creates place bytes (Is state)) e r way becomes is = λ may. create_any place bytes state way (links_or state) may r becomes is
    step_any (Gets place known (Is state)) e r way becomes is = λ may. get_any place known state way may r becomes is
    step_any (Updates bytes old (Is state)) e r way becomes is = λ may. update_any bytes old state way (renames_or state) may r becomes is
    step_any (Deletes id (Is state)) e r way becomes is = λ may. delete_any id state way (removes_or state way) may r becomes is
    step_any (Creates place bytes (Ends verdict)) e r way becomes is = answered_now (Some verdict) (ap verdict_of e) is (becomes ∙ ap (changed names boundary (ghosts t)) is)
    step_any (Gets place known (Ends verdict)) e r way becomes is = answered_now (Some verdict) (ap verdict_of e) is (becomes ∙ ap (changed names boundary (ghosts t)) is)
    step_any (Updates bytes old (Ends verdict)) e r way becomes is = answered_now (Some verdict) (ap verdict_of e) is (becomes ∙ ap (changed names boundary (ghosts t)) is)
    step_any (Deletes id (Ends verdict)) e r way becomes is = answered_now (Some verdict) (ap verdict_of e) is (becomes ∙ ap (changed names boundary (ghosts t)) is)
