-- Three settled scans under the lock tell what stood at one moment.
use Rattle.std.proofs.Common.{◌≡◌, ℕ, zero, suc, ◌+◌, ◌-◌, ◌^◌, ◌<◌, ◌≤◌, ◌&&◌, if◌then◌else◌, Bool, true, false, List, ◌++◌, Option, Some, None, refl, ap, sym, subst, ◌∙◌, arith, ◌⊎◌, inl, inr, ◌↔◌, is_some, not}
use Rattle.std.specs.Prelude.{nat_lt, Contains}
use Rattle.std.proofs.lemmas.Bool.{ltb-true, ltb-false}
use Rattle.txn_store.specs.Paths.{Segments}
use Rattle.txn_store.specs.VersionName.{Names}
use Rattle.txn_folder.specs.steps.Scans.{AreSettled}
use Rattle.txn_folder.specs.steps.Moments.{Grows, AreScans}
use Rattle.txn_folder.proofs.steps.Moments as moments
use Rattle.txn_folder.specs.steps.Folders.{Place, Version, At, Temporary, Folder, OfVersions, same_place, linked, moved, Ask, Link, Rename, Unlink, Way, Plainly, Late, after_step}
use Rattle.txn_folder.specs.steps.Steps as steps
use Rattle.txn_folder.specs.steps.Steps.{Verdict, Is, Ends, Work, Creates, Gets, Updates, Deletes, asked, verdict_of}
use Rattle.txn_folder_model.specs.Worlds.{World, Event, Begin, Step, Kill, Clean, answers, goes, stepped, killed, may_draw, runs, after, world}
use Rattle.txn_folder_model.specs.Linear.{IsApart}
use Rattle.txn_folder_model.specs.Listings.{stands, is_over, shows, IsScanOf, StoodAt, IsListing}
use Rattle.txn_folder_model.proofs.Ghosts.{Effect, Ghost}
use Rattle.txn_folder_model.proofs.Facts.{Holds, LockedVersions, live_of, IsLive}
use Rattle.txn_folder_model.proofs.Frames.{IsQuiet, step_frame}
use Rattle.txn_folder_model.proofs.Stepping.{nobody, second_true}
use Rattle.txn_folder_model.proofs.Theorem.{Allowed, all_holds, ghosts, effects}

-- a name of a version outlives each step but its removal
module _ (c : ℕ) (f : Folder) (id : ℕ) (there : is_some (f.names (At (Version id))) ≡ true) where
  some_by : (b : Bool) (i : ℕ) → is_some (if b then Some i else f.names (At (Version id))) ≡ true
  some_by true i = refl
  some_by false i = there

  linked_keeps : (place : Place) (o now : Option ℕ) → is_some ((linked f place o now).names (At (Version id))) ≡ true
  linked_keeps place None now = there
  linked_keeps place (Some i) (Some x) = there
  linked_keeps place (Some i) None = some_by (same_place (Version id) place) i

  moved_keeps : (place : Place) (o : Option ℕ) → is_some ((moved f c place o).names (At (Version id))) ≡ true
  moved_keeps place None = there
  moved_keeps place (Some i) = some_by (same_place (Version id) place) i

  same_keeps : (ask : Ask) (way : Way) → IsQuiet ask → is_some ((after_step c ask way f).names (At (Version id))) ≡ true
  same_keeps ask way quiet = ap is_some ((step_frame c f ask way quiet (λ _. None) (λ _. None) (λ n d e. e)).places (Version id)) ∙ there

  step_keeps : (ask : Ask) (way : Way) → ((place : Place) → ask ≡ Unlink (At place) → ⊥) → is_some ((after_step c ask way f).names (At (Version id))) ≡ true
  step_keeps (Link place) Plainly other = linked_keeps place (f.names (Temporary c)) (f.names (At place))
  step_keeps (Link place) Late other = linked_keeps place (f.names (Temporary c)) (f.names (At place))
  step_keeps (Link place) way other = there
  step_keeps (Rename place) Plainly other = moved_keeps place (f.names (Temporary c))
  step_keeps (Rename place) Late other = moved_keeps place (f.names (Temporary c))
  step_keeps (Rename place) way other = there
  step_keeps (Unlink (At place)) way other = absurd (other place refl)
  step_keeps ask way other = same_keeps ask way tt

-- only a delete that has the lock asks for the removal of a place's name
unlinks : (c : ℕ) (work : Work) (place : Place) → asked c work ≡ Some (Unlink (At place)) → live_of work ≡ LockedVersions
unlinks c (Deletes id (Is steps.Removes)) place is = refl
unlinks c (Deletes id (Is steps.Peeks)) place is = absurd (cc)
unlinks c (Deletes id (Is steps.DeleteLocks)) place is = absurd (cc)
unlinks c (Deletes id (Is (steps.DeleteSyncs v))) place is = absurd (cc)
unlinks c (Deletes id (Is (steps.DeleteFrees v))) place is = absurd (cc)
unlinks c (Deletes id (Ends v)) place is = absurd (cc)
unlinks c (Creates p b (Is state)) place is = absurd (creates state is)
  where
    creates : (state : steps.Creating) → Some (steps.create_asked c p b state) ≡ Some (Unlink (At place)) → ⊥
    creates steps.LooksFirst e = cc
    creates steps.Draws e = cc
    creates (steps.Makes n) e = cc
    creates (steps.Writes n) e = cc
    creates (steps.SetsTime n) e = cc
    creates (steps.SyncsNew n) e = cc
    creates (steps.Links n) e = cc
    creates (steps.LooksOwn n taken) e = cc
    creates (steps.LooksThere n taken own) e = cc
    creates (steps.LooksTaken n) e = cc
    creates (steps.Cleans v) e = cc
    creates (steps.Syncs v) e = cc
unlinks c (Creates p b (Ends v)) place is = absurd (cc)
unlinks c (Gets p k (Is state)) place is = absurd (gets state is)
  where
    gets : (state : steps.Getting) → Some (steps.get_asked p state) ≡ Some (Unlink (At place)) → ⊥
    gets steps.Looks e = cc
    gets steps.Opens e = cc
    gets (steps.Reads file) e = cc
    gets (steps.Lasts v) e = cc
unlinks c (Gets p k (Ends v)) place is = absurd (cc)
unlinks c (Updates b k (Is state)) place is = absurd (updates state is)
  where
    updates : (state : steps.Updating) → Some (steps.update_asked c b state) ≡ Some (Unlink (At place)) → ⊥
    updates steps.Locks e = cc
    updates steps.Seeks e = cc
    updates steps.Enters e = cc
    updates (steps.Compares file) e = cc
    updates steps.UpdateDraws e = cc
    updates (steps.UpdateMakes n) e = cc
    updates (steps.UpdateWrites n) e = cc
    updates (steps.UpdateSetsTime n) e = cc
    updates (steps.UpdateSyncsNew n) e = cc
    updates (steps.Renames n) e = cc
    updates (steps.LooksNumber n) e = cc
    updates steps.UpdateCleans e = cc
    updates (steps.UpdateSyncs v) e = cc
    updates (steps.Frees v) e = cc
unlinks c (Updates b k (Ends v)) place is = absurd (cc)

module _ (names : Names) (boundary : Segments) (floor : ℕ) (ghosts : ℕ → Ghost) (effects : ℕ → Option Effect) (t : ℕ) (w : World) (h : Holds names boundary floor ghosts effects t w) (shared : w.folder.locks OfVersions ≡ None) (id : ℕ) (there : stands w id ≡ true) where
  no_unlink : (c : ℕ) → c < w.count → (w.calls c).ended ≡ None → (ask : Ask) → asked c (w.calls c).work ≡ Some ask → (place : Place) → ask ≡ Unlink (At place) → ⊥
  no_unlink c low on ask is place same =
      let lives = (h.calls c low).live on in
      let has : w.folder.locks OfVersions ≡ Some c = subst (IsLive w.folder c) (unlinks c (w.calls c).work place (is ∙ ap Some same)) lives in
      let clash = sym shared ∙ has in cc

  draw_keeps : (c : ℕ) (ask : Ask) (way : Way) → ((place : Place) → ask ≡ Unlink (At place) → ⊥) → (b : Bool) → stands (if b then stepped c ask way w else w) id ≡ true
  draw_keeps c ask way other true = step_keeps c w.folder id there ask way other
  draw_keeps c ask way other false = there

  answer_keeps : (c : ℕ) (o : Option Verdict) → stands (answers t c o w) id ≡ true
  answer_keeps c None = there
  answer_keeps c (Some v) = there

  goes_keeps : (c : ℕ) (way : Way) → c < w.count → (w.calls c).ended ≡ None → (o : Option Ask) → asked c (w.calls c).work ≡ o → stands (goes floor t c o way w) id ≡ true
  goes_keeps c way low on None is = answer_keeps c (verdict_of (w.calls c).work)
  goes_keeps c way low on (Some ask) is = draw_keeps c ask way (no_unlink c low on ask is) (may_draw floor w.owners way)

  run_keeps : (c : ℕ) (way : Way) (b : Bool) → runs w c ≡ b → stands (if b then goes floor t c (asked c (w.calls c).work) way w else w) id ≡ true
  run_keeps c way true on = let both = second_true (nat_lt c w.count) (not (is_some (w.calls c).ended)) on in goes_keeps c way (ltb-true c w.count both.0) (nobody (w.calls c).ended both.1) (asked c (w.calls c).work) refl
  run_keeps c way false on = there

  kill_keeps : (c : ℕ) (b : Bool) → stands (if b then killed t c w else w) id ≡ true
  kill_keeps c true = there
  kill_keeps c false = there

  pub event_keeps : (e : Event) → stands (after floor t e w) id ≡ true
  event_keeps (Begin client job) = there
  event_keeps (Step c way) = run_keeps c way (runs w c) refl
  event_keeps (Kill c) = kill_keeps c (runs w c)
  event_keeps (Clean c) = there

and_true : (a b : Bool) → a ≡ true → b ≡ true → (a && b) ≡ true
and_true a b x y = rw x (rw y refl)

-- over moments
module _ (worlds : ℕ → World) (after : Option ℕ) (last a b c d e f : ℕ) (first second third : List ℕ) (l : IsListing worlds after last a b c d e f first second third) (keeps : (s id : ℕ) → s < f → (worlds s).folder.locks OfVersions ≡ None → stands (worlds s) id ≡ true → stands (worlds (suc s)) id ≡ true) where
  -- one moment on
  next_shows : (s id : ℕ) → a ≤ s → s < f → shows worlds after s id ≡ true → shows worlds after (suc s) id ≡ true
  next_shows s id low high h = let both = second_true (is_over after id) (stands (worlds s) id) h in and_true (is_over after id) (stands (worlds (suc s)) id) both.0 (keeps s id high (l.shared s low high) both.1)

  later_by : (k s t id : ℕ) → t ≡ s + k → a ≤ s → t ≤ f → shows worlds after s id ≡ true → shows worlds after t id ≡ true
  later_by zero s t id is low high h = let same : s ≡ t = omega (arith, is) in subst (λ (m : ℕ). shows worlds after m id ≡ true) same h
  later_by (suc k) s t id is low high h =
      let same : suc (s + k) ≡ t = omega (arith, is) in
      subst (λ (m : ℕ). shows worlds after m id ≡ true) same (next_shows (s + k) id (omega (arith, low)) (omega (arith, is, high)) (later_by k s (s + k) id refl low (omega (arith, is, high)) h))

  later : (s t id : ℕ) → s ≤ t → a ≤ s → t ≤ f → shows worlds after s id ≡ true → shows worlds after t id ≡ true
  later s t id most low high h = later_by (t - s) s t id (omega (arith, most)) low high h

  -- Above the last id, each stands only beside the one before it.
  Beside : ℕ → Type 0
  Beside t = (id : ℕ) → last < id → shows worlds after t (id + 1) ≡ true → shows worlds after t id ≡ true

  down : (t : ℕ) → Beside t → (k id top : ℕ) → top ≡ id + k → last < id → shows worlds after t top ≡ true → shows worlds after t id ≡ true
  unfolding Beside
  down t beside zero id top is low h = let same : top ≡ id = omega (arith, is) in subst (λ (m : ℕ). shows worlds after t m ≡ true) same h
  down t beside (suc k) id top is low h =
      let same : top ≡ (id + k) + 1 = omega (arith, is) in
      down t beside k id (id + k) refl low (beside (id + k) (omega (arith, low)) (subst (λ (m : ℕ). shows worlds after t m ≡ true) same h))

  -- what came in a step had the one before it beside it
  came : (t id : ℕ) → Beside t → a ≤ t → t < f → last < id → (x : Bool) → stands (worlds t) (id + 1) ≡ x → shows worlds after (suc t) (id + 1) ≡ true → shows worlds after t id ≡ true
  unfolding Beside
  came t id beside low high above true was h = beside id above (and_true (is_over after (id + 1)) (stands (worlds t) (id + 1)) (second_true (is_over after (id + 1)) (stands (worlds (suc t)) (id + 1)) h).0 was)
  came t id beside low high above false was h = by (l.in_order t id low high was (second_true (is_over after (id + 1)) (stands (worlds (suc t)) (id + 1)) h).1)
    where
      by : (id ≡ 0) ⊎ ((j : ℕ) × (id ≤ j) × (stands (worlds t) j ≡ true)) → shows worlds after t id ≡ true
      by (inl none) = absurd (omega (arith, none, above))
      by (inr (j, most, there)) = down t beside (j - id) id j (omega (arith, most)) above (and_true (is_over after j) (stands (worlds t) j) (l.over j (omega (arith, most, above))) there)

  beside_by : (k t : ℕ) → t ≡ a + k → t ≤ f → Beside t
  unfolding Beside
  beside_by zero t is high id above h =
      let seen : Contains first (id + 1) = l.first_is.all (id + 1) (λ s low most. let takes = l.first_takes in let x = l.second_after in let y = l.second_takes in let z = l.third_after in let v = l.third_takes in later t s (id + 1) (omega (arith, is, low)) (omega (arith, is)) (omega (arith, most, x, y, z, v)) h) in
      let small = l.up_to (id + 1) seen in
      absurd (omega (arith, small, above))
  beside_by (suc k) t is high id above h =
      let same : t ≡ suc (a + k) = omega (arith, is) in
      let before = beside_by k (a + k) refl (omega (arith, is, high)) in
      subst (λ (m : ℕ). shows worlds after m id ≡ true) (sym same)
      (next_shows (a + k) id (omega arith) (omega (arith, is, high))
      (came (a + k) id before (omega arith) (omega (arith, is, high)) above (stands (worlds (a + k)) (id + 1)) refl (subst (λ (m : ℕ). shows worlds after m (id + 1) ≡ true) same h)))

  -- The moments from the first scan's begin on, and at last that of the third's end for ever.
  now : ℕ → ℕ
  now t = if nat_lt (a + t) f then a + t else f

  now_by : (t : ℕ) (x : Bool) → nat_lt (a + t) f ≡ x → (((a + t) < f) × (now t ≡ a + t)) ⊎ ((f ≤ a + t) × (now t ≡ f))
  unfolding now
  now_by t true is = inl (ltb-true (a + t) f is, rw is refl)
  now_by t false is = inr (ltb-false (a + t) f is, rw is refl)

  now_is : (t : ℕ) → (((a + t) < f) × (now t ≡ a + t)) ⊎ ((f ≤ a + t) × (now t ≡ f))
  now_is t = now_by t (nat_lt (a + t) f) refl

  stood : ℕ → ℕ → Bool
  stood t id = shows worlds after (now t) id

  all_takes : a ≤ f
  all_takes = let takes = l.first_takes in let x = l.second_after in let y = l.second_takes in let z = l.third_after in let v = l.third_takes in omega (arith, takes, x, y, z, v)

  now_low : (t : ℕ) → a ≤ now t
  now_low t = by (now_is t)
    where
      by : (((a + t) < f) × (now t ≡ a + t)) ⊎ ((f ≤ a + t) × (now t ≡ f)) → a ≤ now t
      by (inl x) = let e = x.1 in omega (arith, e)
      by (inr x) = let e = x.1 in let all = all_takes in omega (arith, e, all)

  now_high : (t : ℕ) → now t ≤ f
  now_high t = by (now_is t)
    where
      by : (((a + t) < f) × (now t ≡ a + t)) ⊎ ((f ≤ a + t) × (now t ≡ f)) → now t ≤ f
      by (inl x) = let e = x.1 in let small = x.0 in omega (arith, e, small)
      by (inr x) = let e = x.1 in omega (arith, e)

  now_next : (t : ℕ) → ((now t < f) × (now (t + 1) ≡ suc (now t))) ⊎ (now (t + 1) ≡ now t)
  now_next t = by (now_is t) (now_is (t + 1))
    where
      by : (((a + t) < f) × (now t ≡ a + t)) ⊎ ((f ≤ a + t) × (now t ≡ f)) → (((a + (t + 1)) < f) × (now (t + 1) ≡ a + (t + 1))) ⊎ ((f ≤ a + (t + 1)) × (now (t + 1) ≡ f)) → ((now t < f) × (now (t + 1) ≡ suc (now t))) ⊎ (now (t + 1) ≡ now t)
      by (inl x) (inl y) = let p = x.0 in let q = x.1 in let r = y.1 in inl (omega (arith, p, q), omega (arith, q, r))
      by (inl x) (inr y) = let p = x.0 in let q = x.1 in let r = y.0 in let s = y.1 in inl (omega (arith, p, q), omega (arith, p, q, r, s))
      by (inr x) (inl y) = let p = x.0 in let q = y.0 in absurd (omega (arith, p, q))
      by (inr x) (inr y) = inr (y.1 ∙ sym x.1)

  now_at : (t m : ℕ) → m ≡ a + t → m ≤ f → now t ≡ m
  now_at t m is high = by (now_is t)
    where
      by : (((a + t) < f) × (now t ≡ a + t)) ⊎ ((f ≤ a + t) × (now t ≡ f)) → now t ≡ m
      by (inl x) = let e = x.1 in omega (arith, e, is)
      by (inr x) = let e = x.1 in let most = x.0 in omega (arith, e, is, high, most)

  beside_at : (t : ℕ) → a ≤ t → t ≤ f → Beside t
  beside_at t low high = beside_by (t - a) t (omega (arith, low)) high

  grows : Grows last stood
  unfolding stood Beside
  grows = record {
    stays = λ t id h. stays t id h (now_next t);
    beside = λ t id above h. beside_at (now t) (now_low t) (now_high t) id above h;
    after = λ t id above h. after_by t id above h (now_next t);
  }
    where
      stays : (t id : ℕ) → shows worlds after (now t) id ≡ true → ((now t < f) × (now (t + 1) ≡ suc (now t))) ⊎ (now (t + 1) ≡ now t) → shows worlds after (now (t + 1)) id ≡ true
      stays t id h (inl x) = subst (λ (m : ℕ). shows worlds after m id ≡ true) (sym x.1) (next_shows (now t) id (now_low t) x.0 h)
      stays t id h (inr x) = subst (λ (m : ℕ). shows worlds after m id ≡ true) (sym x) h

      after_by : (t id : ℕ) → last < id → shows worlds after (now (t + 1)) (id + 1) ≡ true → ((now t < f) × (now (t + 1) ≡ suc (now t))) ⊎ (now (t + 1) ≡ now t) → shows worlds after (now t) id ≡ true
      after_by t id above h (inl x) = came (now t) id (beside_at (now t) (now_low t) (now_high t)) (now_low t) x.0 above (stands (worlds (now t)) (id + 1)) refl (subst (λ (m : ℕ). shows worlds after m (id + 1) ≡ true) x.1 h)
      after_by t id above h (inr x) = beside_at (now t) (now_low t) (now_high t) id above (subst (λ (m : ℕ). shows worlds after m (id + 1) ≡ true) x h)

  -- a scan's ids, by the moments since the first began
  scan_shows : (from to : ℕ) (ids : List ℕ) → IsScanOf worlds after from to ids → a ≤ from → to ≤ f → (t : ℕ) → from ≡ a + t → from ≤ to → (id : ℕ) → stood t id ≡ true → Contains ids id
  unfolding stood
  scan_shows from to ids scan low high t is takes id h =
      let here : shows worlds after from id ≡ true = subst (λ (m : ℕ). shows worlds after m id ≡ true) (now_at t from is (omega (arith, takes, high))) h in
      scan.all id (λ s since until. later from s id since low (omega (arith, until, high)) here)

  scan_shown : (from to : ℕ) (ids : List ℕ) → IsScanOf worlds after from to ids → a ≤ from → to ≤ f → (t : ℕ) → to ≡ a + t → (id : ℕ) → Contains ids id → stood t id ≡ true
  unfolding stood
  scan_shown from to ids scan low high t is id has =
      let seen = scan.only id has in
      let since = seen.1 in
      subst (λ (m : ℕ). shows worlds after m id ≡ true) (sym (now_at t to is high)) (later seen.0 to id seen.2 (omega (arith, since, low)) high seen.3)

  are_scans : AreScans last stood (b - a) (c - a) (d - a) (e - a) first second third
  are_scans =
      let first_takes = l.first_takes in let second_after = l.second_after in let second_takes = l.second_takes in let third_after = l.third_after in let third_takes = l.third_takes in
      record {
        grows = grows;
        first_up_to = l.up_to;
        first_shown = λ id has. scan_shown a b first l.first_is (omega arith) (omega (arith, second_after, second_takes, third_after, third_takes)) (b - a) (omega (arith, first_takes)) id has;
        second_is = record {
          ascend = l.second_is.ascend;
          shows = λ id h. scan_shows c d second l.second_is (omega (arith, first_takes, second_after)) (omega (arith, third_after, third_takes)) (c - a) (omega (arith, first_takes, second_after)) second_takes id h;
          shown = λ id has. scan_shown c d second l.second_is (omega (arith, first_takes, second_after)) (omega (arith, third_after, third_takes)) (d - a) (omega (arith, first_takes, second_after, second_takes)) id has;
        };
        third_ascends = l.third_is.ascend;
        third_shows = λ id h. scan_shows e f third l.third_is (omega (arith, first_takes, second_after, second_takes, third_after)) (omega arith) (e - a) (omega (arith, first_takes, second_after, second_takes, third_after)) third_takes id h;
        second_after = omega (arith, second_after);
        second_takes = omega (arith, second_takes);
        third_after = omega (arith, third_after);
      }

  pub stood_at : (run : List ℕ) → AreSettled last first second third run → StoodAt worlds after b d (first ++ run)
  unfolding stood
  stood_at run settled =
      let found = moments.moment last stood (b - a) (c - a) (d - a) (e - a) first second third run are_scans settled in
      let since = found.since in let until = found.until in
      let first_takes = l.first_takes in let second_after = l.second_after in let second_takes = l.second_takes in let third_after = l.third_after in let third_takes = l.third_takes in
      let at : now found.moment ≡ a + found.moment = now_at found.moment (a + found.moment) refl (omega (arith, until, first_takes, second_after, second_takes, third_after, third_takes)) in
      record {
        moment = a + found.moment;
        since = omega (arith, since, first_takes);
        until = omega (arith, until, first_takes, second_after, second_takes);
        exactly = λ id. subst (λ (m : ℕ). (shows worlds after m id ≡ true) ↔ Contains (first ++ run) id) at (found.exactly id);
      }

-- of a schedule
module _ (names : Names) (boundary : Segments) (floor : ℕ) (events : ℕ → Event) (apart : IsApart names boundary) (may : Allowed floor events) where
  pub listing_stood : (after : Option ℕ) (last a b c d e f : ℕ) (first second third run : List ℕ) → f < 2 ^ 64 → IsListing (world floor events) after last a b c d e f first second third → AreSettled last first second third run → StoodAt (world floor events) after b d (first ++ run)
  listing_stood after last a b c d e f first second third run room l settled =
      stood_at (world floor events) after last a b c d e f first second third l
      (λ s id below shared there. event_keeps names boundary floor (ghosts names boundary floor events apart may) (effects names boundary floor events apart may) s (world floor events s) (all_holds names boundary floor events apart may s (omega (arith, below, room))) shared id there (events s))
      run settled
