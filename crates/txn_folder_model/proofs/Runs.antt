-- A run of the machine of a listing tells what stood at a moment.
use Rattle.std.proofs.Common.{◌≡◌, ℕ, zero, suc, ◌+◌, ◌-◌, ◌^◌, ◌<◌, ◌≤◌, ◌&&◌, Bool, true, false, List, [], ◌∷◌, ◌++◌, map, length, take, drop, Option, Some, None, unwrap_or, Ok, Err, refl, ap, sym, subst, ◌∙◌, append_assoc, take-append-drop, arith, ◌⊎◌, inl, inr, ◌↔◌}
use Rattle.std.specs.Prelude.{nat_lt, Contains}
use Rattle.std.specs.List.Sorted.{IsStrictlyIncreasing}
use Rattle.std.proofs.lemmas.Bool.{ltb-true, ltb-false, lt-ltb, le-ltb}
use Rattle.std.proofs.lemmas.List.{append-nil, map_push}
use Rattle.std.proofs.lemmas.List.Elements.{Contains-append_left}
use Rattle.std.proofs.lemmas.List.Kept.{AllPairs-from_increasing}
use Rattle.txn_store.specs.Paths.{Segments}
use Rattle.txn_store.specs.VersionName.{Names, version_path}
use Rattle.txn_store.specs.Store.{meta_of, page_of}
use Rattle.txn_store.specs.declared.store.Got.{Got}
use Rattle.txn_store.specs.declared.store.ObjectMeta.{ObjectMeta}
use Rattle.txn_store.specs.declared.page.Page.{Page}
use Rattle.txn_store.specs.declared.request.Reply.TheVariants as replies
use Rattle.txn_folder.specs.steps.Scans.{followed, beyond, settled_run}
use Rattle.txn_folder.specs.steps.Folders.{Version, OfVersions}
use Rattle.txn_folder.specs.steps.Steps.{Verdict, Tells, Fails, Phase, Is, Ends, got_at}
use Rattle.txn_folder.specs.steps.Listing.{Scanning, Once, Twice, Thrice, Settles, last_of, twice_turned, thrice_turned, scan_turned, Done, Missing, Shown, Holds, Error, ListTold, Paging, ListSees, ListShares, ListScans, ListLooks, ListFrees, ListSyncs, list_asked, list_turned, looks_up, scanned, freed, meta_told}
use Rattle.txn_folder.proofs.steps.Scanning.{beyond_so, settled_so}
use Rattle.txn_folder_model.specs.Worlds.{World, Event, world}
use Rattle.txn_folder_model.specs.Linear.{IsApart, IsElsewhere, AreRuns, AllComeInOrder, IsLinearizable}
use Rattle.txn_folder_model.specs.Listings.{stands, is_over, shows, IsScanOf, IsShared, ComeInOrder, IsListing, Listing}
use Rattle.txn_folder_model.specs.Power.{Syncs, IsListed}
use Rattle.txn_folder_model.specs.Runs.{ListingStep, IsFileAt, IsToldOf, HasLock, GoesOn, IsRun}
use Rattle.txn_folder_model.proofs.Stepping.{second_true}
use Rattle.txn_folder_model.proofs.Theorem.{Allowed, all_holds, ghosts, effects}
use Rattle.txn_folder_model.proofs.Listing.{event_keeps, listing_stood}
use Rattle.txn_folder_model.proofs.Pages.{Rises, rises, settled_front, settled_rises, file_in, got_in, seen_at, there, stands_on, IsOfMoment}
use Rattle.txn_folder_model.proofs.Pages as pages
use Rattle.txn_folder_model.proofs.Until.{ends_by}

both_true : (a b : Bool) → a ≡ true → b ≡ true → (a && b) ≡ true
both_true a b x y = rw x (rw y refl)

-- the greatest of ids that rise

last_least : (low : ℕ) (ids : List ℕ) → Rises ids → ((y : ℕ) → Contains ids y → low < y) → low ≤ last_of low ids
unfolding Rises
last_least low [] up above = omega arith
last_least low (x ∷ xs) up above = let first = above x (0, omega arith, refl) in let more = last_least x xs up.1 up.0 in omega (arith, first, more)

last_most : (low : ℕ) (ids : List ℕ) → Rises ids → (id : ℕ) → Contains ids id → id ≤ last_of low ids
unfolding Rises
last_most low [] up id (k, less, is) = absurd (omega (arith, less))
last_most low (x ∷ xs) up id (zero, less, is) = let least = last_least x xs up.1 up.0 in omega (arith, least, is)
last_most low (x ∷ xs) up id (suc k, less, is) = last_most x xs up.1 id (k, omega (arith, less), is)

has_next : (x y : ℕ) (xs : List ℕ) → Contains xs y → Contains (x ∷ xs) y
has_next x y xs (k, less, is) = (suc k, omega (arith, less), is)

last_by : (low x : ℕ) (xs : List ℕ) → ((last_of x xs ≡ x) ⊎ Contains xs (last_of x xs)) → Contains (x ∷ xs) (last_of x xs)
last_by low x xs (inl same) = (0, omega arith, sym same)
last_by low x xs (inr has) = has_next x (last_of x xs) xs has

last_has : (low : ℕ) (ids : List ℕ) → (last_of low ids ≡ low) ⊎ Contains ids (last_of low ids)
last_has low [] = inl refl
last_has low (x ∷ xs) = inr (last_by low x xs (last_has x xs))

over_up : (after : Option ℕ) (x id : ℕ) → is_over after x ≡ true → x < id → is_over after id ≡ true
over_up None x id over less = refl
over_up (Some a) x id over less = let low = ltb-true a x over in lt-ltb a id (omega (arith, low, less))

over_low : (after : Option ℕ) (id : ℕ) → unwrap_or after 0 < id → is_over after id ≡ true
over_low None id less = refl
over_low (Some a) id less = lt-ltb a id less

-- pages

take_map : (f : ℕ → ObjectMeta) (n : ℕ) (ids : List ℕ) → take n (map f ids) ≡ map f (take n ids)
take_map f zero ids = refl
take_map f (suc n) [] = refl
take_map f (suc n) (x ∷ xs) = ap (λ (ms : List ObjectMeta). f x ∷ ms) (take_map f n xs)

long_map : (f : ℕ → ObjectMeta) (ids : List ℕ) → length (map f ids) ≡ length ids
long_map f [] = refl
long_map f (x ∷ xs) = ap suc (long_map f xs)

abbrev page : List ObjectMeta → Bool → Page
page metas more = record { metas = metas; more = more }

page_same : (f : ℕ → ObjectMeta) (limit : ℕ) (ids front : List ℕ) (metas : List ObjectMeta) (more : Bool) → metas ≡ map f front → front ≡ take limit ids → more ≡ nat_lt limit (length ids) → page metas more ≡ page_of limit (map f ids)
page_same f limit ids front metas more told is more_is =
    ap (λ (ms : List ObjectMeta). page ms more) (told ∙ ap (map f) is ∙ sym (take_map f limit ids))
    ∙ ap (page (take limit (map f ids))) (more_is ∙ ap (nat_lt limit) (sym (long_map f ids)))

none_told : (f : ℕ → ObjectMeta) (limit : ℕ) → page [] false ≡ page_of limit (map f [])
none_told f zero = refl
none_told f (suc limit) = ap (page []) (sym (le-ltb (suc limit) 0 (omega arith)))

has_at : (done : List ℕ) (id : ℕ) (ids : List ℕ) → Contains (done ++ id ∷ ids) id
has_at [] id ids = (0, omega arith, refl)
has_at (x ∷ done) id ids = has_next x id (done ++ id ∷ ids) (has_at done id ids)

some_got : (a b : Got) → ◌≡◌ {A = Option Got} (Some a) (Some b) → a ≡ b
some_got a b is = ap (λ (o : Option Got). elim o [ None ↦ a | Some x ↦ x ]) is

abbrev Fit : List ℕ → Type 0
Fit ids = (id : ℕ) → Contains ids id → id < 2 ^ 64

none_rises : Rises []
unfolding Rises
none_rises = tt

rise : (ids : List ℕ) → IsStrictlyIncreasing ids → Rises ids
rise ids up = rises ids (AllPairs-from_increasing ids up)

module _ (names : Names) (boundary : Segments) (floor : ℕ) (events : ℕ → Event) (apart : IsApart names boundary) (elsewhere : IsElsewhere names boundary) (may : Allowed floor events) where
  abbrev w : ℕ → World
  w = world floor events

  abbrev seen : ℕ → ℕ → ObjectMeta
  seen = seen_at names w

  module _ (l : Listing) (room : l.ended < 2 ^ 64) (in_order : ComeInOrder w l.began l.ended) where
    joined : (a b c : ℕ) → IsShared w a b → IsShared w b c → IsShared w a c
    joined a b c one two s low high = by (nat_lt s b) refl
      where
        by : (x : Bool) → nat_lt s b ≡ x → (w s).folder.locks OfVersions ≡ None
        by true is = one s low (ltb-true s b is)
        by false is = two s (ltb-false s b is) high

    within : (a b c d : ℕ) → IsShared w a d → a ≤ b → c ≤ d → IsShared w b c
    within a b c d all low high s from to = all s (omega (arith, low, from)) (omega (arith, high, to))

    -- what stands stands on while nobody removes

    stand_next : (s id : ℕ) → s < l.ended → (w s).folder.locks OfVersions ≡ None → stands (w s) id ≡ true → stands (w (suc s)) id ≡ true
    stand_next s id below shared h = event_keeps names boundary floor (ghosts names boundary floor events apart may) (effects names boundary floor events apart may) s (w s) (all_holds names boundary floor events apart may s (omega (arith, below, room))) shared id h (events s)

    stand_by : (k s t id : ℕ) → t ≡ s + k → t ≤ l.ended → IsShared w s t → stands (w s) id ≡ true → stands (w t) id ≡ true
    stand_by zero s t id is high shared h = let same : s ≡ t = omega (arith, is) in subst (λ (m : ℕ). stands (w m) id ≡ true) same h
    stand_by (suc k) s t id is high shared h =
        let same : suc (s + k) ≡ t = omega (arith, is) in
        subst (λ (m : ℕ). stands (w m) id ≡ true) same
        (stand_next (s + k) id (omega (arith, is, high)) (shared (s + k) (omega arith) (omega (arith, is)))
        (stand_by k s (s + k) id refl (omega (arith, is, high)) (λ m low less. shared m low (omega (arith, less, is))) h))

    show_later : (s t id : ℕ) → s ≤ t → t ≤ l.ended → IsShared w s t → shows w l.after s id ≡ true → shows w l.after t id ≡ true
    show_later s t id most high shared h =
        let both = second_true (is_over l.after id) (stands (w s) id) h in
        both_true (is_over l.after id) (stands (w t) id) both.0 (stand_by (t - s) s t id (omega (arith, most)) high shared both.1)

    -- what stood at a moment since the listing began
    pub record StoodThen (now : ℕ) : Type 0 where
      pub ids : List ℕ
      pub moment : ℕ
      pub since : l.began ≤ moment
      pub until : moment ≤ now
      pub exactly : (id : ℕ) → (shows w l.after moment id ≡ true) ↔ Contains ids id
      pub up : Rises ids
      pub fits : Fit ids

    abbrev then_later : (now to : ℕ) → now ≤ to → StoodThen now → StoodThen to
    then_later now to most at = let until = at.until in record { ids = at.ids; moment = at.moment; since = at.since; until = omega (arith, until, most); exactly = at.exactly; up = at.up; fits = at.fits }

    record HasOne (now : ℕ) (first : List ℕ) : Type 0 where
      pub a : ℕ
      pub b : ℕ
      pub since : l.began ≤ a
      pub takes : a ≤ b
      pub until : b ≤ now
      pub scan : IsScanOf w l.after a b first
      pub fits : Fit first
      pub shared : IsShared w a now

    record HasTwo (now : ℕ) (first second : List ℕ) : Type 0 where
      pub a : ℕ
      pub b : ℕ
      pub c : ℕ
      pub d : ℕ
      pub since : l.began ≤ a
      pub takes : a ≤ b
      pub next : b ≤ c
      pub next_takes : c ≤ d
      pub until : d ≤ now
      pub scan : IsScanOf w l.after a b first
      pub next_scan : IsScanOf w l.after c d second
      pub fits : Fit second
      pub shared : IsShared w a now

    record LooksOn (now id : ℕ) (ids : List ℕ) (metas : List ObjectMeta) (more : Bool) : Type 0 where
      pub at : StoodThen now
      pub shared : IsShared w at.moment now
      pub done : List ℕ
      pub told : metas ≡ map (seen at.moment) done
      pub all : done ++ id ∷ ids ≡ take l.limit at.ids
      pub more_is : more ≡ nat_lt l.limit (length at.ids)

    pub record TellsThen (now : ℕ) (told : Page) : Type 0 where
      pub at : StoodThen now
      pub tells : told ≡ page_of l.limit (map (seen at.moment) at.ids)

    abbrev EndAt : ℕ → Verdict → Type 0
    EndAt now (Tells (replies.List (Ok told))) = TellsThen now told
    EndAt now verdict = Unit {0}

    abbrev ScansAt : ℕ → Scanning → Type 0
    ScansAt now Once = Unit {0}
    ScansAt now (Twice first) = HasOne now first
    ScansAt now (Thrice first second) = HasTwo now first second

    abbrev IsIn : ℕ → Paging → Type 0
    IsIn now ListSees = Unit {0}
    IsIn now ListShares = Unit {0}
    IsIn now (ListScans scanning) = ScansAt now scanning
    IsIn now (ListLooks id ids metas more) = LooksOn now id ids metas more
    IsIn now (ListFrees verdict) = EndAt now verdict
    IsIn now (ListSyncs verdict) = EndAt now verdict

    abbrev NextIn : ℕ → Phase Paging → Type 0
    NextIn now (Is state) = IsIn now state
    NextIn now (Ends verdict) = EndAt now verdict

    end_later : (now to : ℕ) (verdict : Verdict) → now ≤ to → EndAt now verdict → EndAt to verdict
    end_later now to (Tells (replies.List (Ok told))) most end = record { at = then_later now to most end.at; tells = end.tells }
    end_later now to (Tells (replies.List (Err error))) most end = tt
    end_later now to (Tells (replies.Put answer)) most end = tt
    end_later now to (Tells (replies.Get answer)) most end = tt
    end_later now to (Tells (replies.Delete answer)) most end = tt
    end_later now to Fails most end = tt

    first_by : (now : ℕ) (at : StoodThen now) → IsShared w at.moment now → (front : List ℕ) → take l.limit at.ids ≡ front → IsIn now (looks_up front [] (nat_lt l.limit (length at.ids)))
    first_by now at shared [] is = record { at = at; tells = page_same (seen at.moment) l.limit at.ids [] [] (nat_lt l.limit (length at.ids)) refl (sym is) refl }
    first_by now at shared (id ∷ rest) is = record { at = at; shared = shared; done = []; told = refl; all = sym is; more_is = refl }

    settles : (now : ℕ) (at : StoodThen now) → IsShared w at.moment now → (ids : List ℕ) → at.ids ≡ ids → IsIn now (scanned l.limit (Settles ids))
    settles now at shared ids is = subst (λ (xs : List ℕ). IsIn now (looks_up (take l.limit xs) [] (nat_lt l.limit (length xs)))) is (first_by now at shared (take l.limit at.ids) refl)

    -- the file of a version that is looked up is the one that stood at the moment

    got_same : (s m id : ℕ) → id < 2 ^ 64 → m ≤ s → s ≤ l.ended → IsShared w m s → stands (w m) id ≡ true → got_in (w s) id ≡ got_in (w m) id
    got_same s m id fits most high shared h =
        let on = stands_on names boundary floor events apart elsewhere may id fits (s - m) m s (omega (arith, most)) (omega (arith, high, room)) shared h in
        some_got (got_in (w s) id) (got_in (w m) id)
        (sym (there names boundary floor events apart elsewhere may id fits s (omega (arith, high, room)) on.0) ∙ on.1 ∙ there names boundary floor events apart elsewhere may id fits m (omega (arith, most, high, room)) h)

    file_seen : (s id size time : ℕ) → IsFileAt (w s) id size time → meta_told names id size time ≡ seen s id
    file_seen s id size time (file, name_is, so) =
        ap (λ (n : ℕ). meta_told names id n time) so.0
        ∙ ap (meta_told names id (length ((w s).folder.files file).bytes)) so.1
        ∙ sym (ap (λ (o : Option ℕ). meta_of (version_path names id, got_at (Version id) (file_in (w s) o))) name_is)

    -- a step from one moment to another, with the lock
    module _ (now from to : ℕ) (after_now : now ≤ from) (takes : from ≤ to) (high : to ≤ l.ended) (began : l.began ≤ now) (shared : IsShared w now to) where
      module _ (ids : List ℕ) (scan : IsScanOf w l.after from to ids) (fits : Fit ids) where
        one : HasOne to ids
        one = record { a = from; b = to; since = omega (arith, began, after_now); takes = takes; until = omega arith; scan = scan; fits = fits; shared = within now from to to shared after_now (omega arith) }

        equal : (first : List ℕ) (h : HasOne now first) → first ≡ ids → IsIn to (scanned l.limit (Settles ids))
        equal first h same =
            let since = h.since in let h_takes = h.takes in let until = h.until in
            let whole : IsShared w h.a to = joined h.a now to h.shared shared in
            settles to
            (record {
              ids = ids;
              moment = h.b;
              since = omega (arith, since, h_takes);
              until = omega (arith, until, after_now, takes);
              exactly = λ id. (
                λ x. scan.all id (λ s low most. show_later h.b s id (omega (arith, until, after_now, low)) (omega (arith, most, high)) (within h.a h.b s to whole h_takes most) x),
                λ has.
                    let there_at = h.scan.only id (subst (λ (xs : List ℕ). Contains xs id) (sym same) has) in
                    let low = there_at.1 in let most = there_at.2 in
                    show_later there_at.0 h.b id most (omega (arith, until, after_now, takes, high)) (within h.a there_at.0 h.b to whole low (omega (arith, until, after_now, takes))) there_at.3,
              );
              up = rise ids scan.ascend;
              fits = fits;
            })
            (within h.a h.b to to whole h_takes (omega arith)) ids refl

        twice_by : (last : ℕ) (first : List ℕ) → HasOne now first → (o : Option (List ℕ)) → beyond last first ids ≡ o → IsIn to (scanned l.limit (twice_turned first ids o))
        twice_by last first h None is = one
        twice_by last first h (Some []) is = equal first h (sym ((beyond_so last first ids [] is).0 ∙ append-nil first))
        twice_by last first h (Some (x ∷ xs)) is =
            let until = h.until in
            record {
              a = h.a;
              b = h.b;
              c = from;
              d = to;
              since = h.since;
              takes = h.takes;
              next = omega (arith, until, after_now);
              next_takes = takes;
              until = omega arith;
              scan = h.scan;
              next_scan = scan;
              fits = fits;
              shared = joined h.a now to h.shared shared;
            }

        module _ (first second : List ℕ) (h : HasTwo now first second) where
          abbrev low : ℕ
          low = unwrap_or l.after 0

          abbrev last : ℕ
          last = last_of low first

          over_by : (id : ℕ) → last < id → (last ≡ low) ⊎ Contains first last → is_over l.after id ≡ true
          over_by id less (inl same) = over_low l.after id (omega (arith, less, same))
          over_by id less (inr has) =
              let there_at = h.scan.only last has in
              over_up l.after last id (second_true (is_over l.after last) (stands (w there_at.0) last) there_at.3).0 less

          whole_two : IsShared w h.a to
          whole_two = joined h.a now to h.shared shared

          is_listing : IsListing w l.after last h.a h.b h.c h.d from to first second ids
          is_listing =
              let since = h.since in let until = h.until in
              record {
                shared = whole_two;
                in_order = λ s id s_low s_high. in_order s id (omega (arith, s_low, since)) (omega (arith, s_high, high));
                first_is = h.scan;
                second_is = h.next_scan;
                third_is = scan;
                up_to = λ id has. last_most low first (rise first h.scan.ascend) id has;
                over = λ id less. over_by id less (last_has low first);
                first_takes = h.takes;
                second_after = h.next;
                second_takes = h.next_takes;
                third_after = omega (arith, until, after_now);
                third_takes = takes;
              }

          thrice_by : (o : Option (List ℕ)) → settled_run last first second ids ≡ o → IsIn to (scanned l.limit (thrice_turned first ids o))
          thrice_by None is = one
          thrice_by (Some run) is =
              let settled = settled_so last first second ids run is in
              let stood = listing_stood names boundary floor events apart may l.after last h.a h.b h.c h.d from to first second ids run (omega (arith, high, room)) is_listing settled in
              let least = stood.since in let most = stood.until in
              let since = h.since in let h_takes = h.takes in let until = h.until in
              settles to
              (record {
                ids = first ++ run;
                moment = stood.moment;
                since = omega (arith, since, h_takes, least);
                until = omega (arith, most, until, after_now, takes);
                exactly = stood.exactly;
                up = settled_rises last first second ids run settled (rise second h.next_scan.ascend);
                fits = λ id has. h.fits id (subst (λ (xs : List ℕ). Contains xs id) (settled_front last first second ids run settled) (Contains-append_left (first ++ run) (drop (length (followed last settled.rest)) settled.rest) id has));
              })
              (within h.a stood.moment to to whole_two (omega (arith, h_takes, least)) (omega arith)) (first ++ run) refl

        scan_in : (scanning : Scanning) → ScansAt now scanning → IsIn to (scanned l.limit (scan_turned (unwrap_or l.after 0) scanning ids))
        scan_in Once at = one
        scan_in (Twice first) at = twice_by (last_of (unwrap_or l.after 0) first) first at (beyond (last_of (unwrap_or l.after 0) first) first ids) refl
        scan_in (Thrice first second) at = thrice_by first second at (settled_run (last_of (unwrap_or l.after 0) first) first second ids) refl

      module _ (id : ℕ) (ids : List ℕ) (metas : List ObjectMeta) (more : Bool) (on : LooksOn now id ids metas more) (size time s : ℕ) (low : from ≤ s) (most : s ≤ to) (file : IsFileAt (w s) id size time) where
        its : Contains on.at.ids id
        its = subst (λ (xs : List ℕ). Contains xs id) (take-append-drop l.limit on.at.ids)
            (Contains-append_left (take l.limit on.at.ids) (drop l.limit on.at.ids) id (subst (λ (xs : List ℕ). Contains xs id) on.all (has_at on.done id ids)))

        all_shared : IsShared w on.at.moment to
        all_shared = joined on.at.moment now to on.shared shared

        its_meta : meta_told names id size time ≡ seen on.at.moment id
        its_meta =
            let until = on.at.until in
            file_seen s id size time file
            ∙ ap (λ (got : Got). meta_of (version_path names id, got))
            (got_same s on.at.moment id (on.at.fits id its) (omega (arith, until, after_now, low)) (omega (arith, most, high)) (within on.at.moment on.at.moment s to all_shared (omega arith) most)
            (second_true (is_over l.after id) (stands (w on.at.moment) id) ((on.at.exactly id).1 its)).1)

        more_told : metas ++ meta_told names id size time ∷ [] ≡ map (seen on.at.moment) (on.done ++ id ∷ [])
        more_told =
            ap (λ (m : ObjectMeta). metas ++ m ∷ []) its_meta
            ∙ ap (λ (ms : List ObjectMeta). ms ++ seen on.at.moment id ∷ []) on.told
            ∙ sym (map_push (seen on.at.moment) on.done id)

        abbrev its_later : StoodThen to
        its_later = then_later now to (omega (arith, after_now, takes)) on.at

        looked_by : (rest : List ℕ) → ids ≡ rest → IsIn to (looks_up rest (metas ++ meta_told names id size time ∷ []) more)
        looked_by [] is = record { at = its_later; tells = page_same (seen on.at.moment) l.limit on.at.ids (on.done ++ id ∷ []) (metas ++ meta_told names id size time ∷ []) more more_told (subst (λ (xs : List ℕ). on.done ++ id ∷ xs ≡ take l.limit on.at.ids) is on.all) on.more_is }
        looked_by (next ∷ rest) is = record {
          at = its_later;
          shared = all_shared;
          done = on.done ++ id ∷ [];
          told = more_told;
          all = append_assoc on.done (id ∷ []) (next ∷ rest) ∙ subst (λ (xs : List ℕ). on.done ++ id ∷ xs ≡ take l.limit on.at.ids) is on.all;
          more_is = on.more_is;
        }

    -- a step, in any state
    module _ (now from to : ℕ) (after_now : now ≤ from) (takes : from ≤ to) (high : to ≤ l.ended) (began : l.began ≤ now) where
      later : now ≤ to
      later = omega (arith, after_now, takes)

      none_then : (s : ℕ) → from ≤ s → s ≤ to → ((id : ℕ) → stands (w s) id ≡ false) → TellsThen to (page [] false)
      none_then s low most none = record {
        at = record {
          ids = [];
          moment = s;
          since = omega (arith, began, after_now, low);
          until = most;
          exactly = λ id. (
            λ x. absurd (let there_at = (second_true (is_over l.after id) (stands (w s) id) x).1 in let clash = sym there_at ∙ none id in cc),
            λ (k, less, is). absurd (omega (arith, less)),
          );
          up = none_rises;
          fits = λ id (k, less, is). absurd (omega (arith, less));
        };
        tells = none_told (seen s) l.limit;
      }

      freed_in : (verdict : Verdict) → EndAt now verdict → NextIn to (freed verdict)
      freed_in (Tells reply) end = end_later now to (Tells reply) later end
      freed_in Fails end = tt

      turned_in : (state : Paging) (told : ListTold) → IsIn now state → HasLock names w l state now to → IsToldOf names w l (list_asked state) from to told → NextIn to (list_turned names l.after l.limit state told)
      turned_in ListSees Done at lock so = tt
      turned_in ListSees Missing at lock (s, low, most, none) = none_then s low most none
      turned_in ListSees (Shown ids) at lock so = tt
      turned_in ListSees (Holds size time) at lock so = tt
      turned_in ListSees Error at lock so = tt
      turned_in ListShares Done at lock so = tt
      turned_in ListShares Missing at lock so = tt
      turned_in ListShares (Shown ids) at lock so = tt
      turned_in ListShares (Holds size time) at lock so = tt
      turned_in ListShares Error at lock so = tt
      turned_in (ListScans scanning) Done at lock so = tt
      turned_in (ListScans scanning) Missing at lock so = tt
      turned_in (ListScans scanning) (Shown ids) at lock so = scan_in now from to after_now takes high began lock ids so.0 so.1 scanning at
      turned_in (ListScans scanning) (Holds size time) at lock so = tt
      turned_in (ListScans scanning) Error at lock so = tt
      turned_in (ListLooks id ids metas more) Done at lock so = tt
      turned_in (ListLooks id ids metas more) Missing at lock so = tt
      turned_in (ListLooks id ids metas more) (Shown others) at lock so = tt
      turned_in (ListLooks id ids metas more) (Holds size time) at lock (s, low, most, file) = looked_by now from to after_now takes high began lock id ids metas more at size time s low most file ids refl
      turned_in (ListLooks id ids metas more) Error at lock so = tt
      turned_in (ListFrees verdict) told at lock so = freed_in verdict at
      turned_in (ListSyncs verdict) Done at lock so = end_later now to verdict later at
      turned_in (ListSyncs verdict) Missing at lock so = tt
      turned_in (ListSyncs verdict) (Shown ids) at lock so = tt
      turned_in (ListSyncs verdict) (Holds size time) at lock so = tt
      turned_in (ListSyncs verdict) Error at lock so = tt

    comes_to : (steps : List ListingStep) (now : ℕ) (phase : Phase Paging) → l.began ≤ now → NextIn now phase → GoesOn names w l now phase steps → TellsThen l.ended l.page
    comes_to [] now (Is state) began at goes = absurd goes
    comes_to [] now (Ends verdict) began at goes =
        let end : TellsThen now l.page = subst (EndAt now) goes.0 at in
        record { at = then_later now l.ended goes.1 end.at; tells = end.tells }
    comes_to (step ∷ steps) now (Is state) began at goes =
        let low = goes.0 in let takes = goes.1 in
        let high = ends_by names w l steps step.to (list_turned names l.after l.limit state step.told) goes.4 in
        comes_to steps step.to (list_turned names l.after l.limit state step.told) (omega (arith, began, low, takes))
        (turned_in now step.from step.to goes.0 goes.1 high began state step.told at goes.2 goes.3) goes.4
    comes_to (step ∷ steps) now (Ends verdict) began at goes = absurd goes

    -- Where the run synced it was so before its sync.
    pub record SyncedThen (syncs : Syncs) : Type 0 where
      pub sync : ℕ
      pub listed : syncs.listed sync ≡ true
      pub past : sync ≤ l.ended
      pub told : TellsThen sync l.page

    module _ (syncs : Syncs) where
      sync_end : (now from to : ℕ) (verdict : Verdict) (told : ListTold) (steps : List ListingStep) → now ≤ from → from ≤ to → syncs.listed from ≡ true → EndAt now verdict → GoesOn names w l to (list_turned names l.after l.limit (ListSyncs verdict) told) steps → SyncedThen syncs
      sync_end now from to verdict Done [] low high listed at goes =
          let end : TellsThen now l.page = subst (EndAt now) goes.0 at in
          let most = goes.1 in
          record { sync = from; listed = listed; past = omega (arith, high, most); told = record { at = then_later now from low end.at; tells = end.tells } }
      sync_end now from to verdict Done (step ∷ steps) low high listed at goes = absurd goes
      sync_end now from to verdict Missing [] low high listed at goes = absurd (let clash = goes.0 in cc)
      sync_end now from to verdict Missing (step ∷ steps) low high listed at goes = absurd goes
      sync_end now from to verdict (Shown ids) [] low high listed at goes = absurd (let clash = goes.0 in cc)
      sync_end now from to verdict (Shown ids) (step ∷ steps) low high listed at goes = absurd goes
      sync_end now from to verdict (Holds size time) [] low high listed at goes = absurd (let clash = goes.0 in cc)
      sync_end now from to verdict (Holds size time) (step ∷ steps) low high listed at goes = absurd goes
      sync_end now from to verdict Error [] low high listed at goes = absurd (let clash = goes.0 in cc)
      sync_end now from to verdict Error (step ∷ steps) low high listed at goes = absurd goes

      -- what a step of another state leads to
      leads : (now : ℕ) (state : Paging) (step : ListingStep) (steps : List ListingStep) → l.began ≤ now → IsIn now state → GoesOn names w l now (Is state) (step ∷ steps) → (l.began ≤ step.to) × NextIn step.to (list_turned names l.after l.limit state step.told)
      leads now state step steps began at goes =
          let low = goes.0 in let takes = goes.1 in
          let high = ends_by names w l steps step.to (list_turned names l.after l.limit state step.told) goes.4 in
          (omega (arith, began, low, takes), turned_in now step.from step.to goes.0 goes.1 high began state step.told at goes.2 goes.3)

      synced_to : (steps : List ListingStep) (now : ℕ) (phase : Phase Paging) → l.began ≤ now → NextIn now phase → GoesOn names w l now phase steps → IsListed floor events syncs names l phase steps → SyncedThen syncs
      synced_to [] now (Is state) began at goes listed = absurd goes
      synced_to [] now (Ends verdict) began at goes listed = absurd listed
      synced_to (step ∷ steps) now (Ends verdict) began at goes listed = absurd listed
      synced_to (step ∷ steps) now (Is (ListSyncs verdict)) began at goes listed = sync_end now step.from step.to verdict step.told steps goes.0 goes.1 listed at goes.4
      synced_to (step ∷ steps) now (Is ListSees) began at goes listed = let next = leads now ListSees step steps began at goes in synced_to steps step.to (list_turned names l.after l.limit ListSees step.told) next.0 next.1 goes.4 listed
      synced_to (step ∷ steps) now (Is ListShares) began at goes listed = let next = leads now ListShares step steps began at goes in synced_to steps step.to (list_turned names l.after l.limit ListShares step.told) next.0 next.1 goes.4 listed
      synced_to (step ∷ steps) now (Is (ListScans scanning)) began at goes listed = let next = leads now (ListScans scanning) step steps began at goes in synced_to steps step.to (list_turned names l.after l.limit (ListScans scanning) step.told) next.0 next.1 goes.4 listed
      synced_to (step ∷ steps) now (Is (ListLooks id ids metas more)) began at goes listed = let next = leads now (ListLooks id ids metas more) step steps began at goes in synced_to steps step.to (list_turned names l.after l.limit (ListLooks id ids metas more) step.told) next.0 next.1 goes.4 listed
      synced_to (step ∷ steps) now (Is (ListFrees verdict)) began at goes listed = let next = leads now (ListFrees verdict) step steps began at goes in synced_to steps step.to (list_turned names l.after l.limit (ListFrees verdict) step.told) next.0 next.1 goes.4 listed

  -- a listing of a moment before its sync
  pub record SyncedMoment (syncs : Syncs) (l : Listing) : Type 0 where
    pub of : IsOfMoment names boundary floor events apart elsewhere may l
    pub sync : ℕ
    pub listed : syncs.listed sync ≡ true
    pub past : sync ≤ l.ended
    pub before : of.moment ≤ sync

  pub synced_moment : (syncs : Syncs) (l : Listing) (run : IsRun names w l) → ComeInOrder w l.began l.ended → l.ended < 2 ^ 64 → IsListed floor events syncs names l (Is ListSees) run.steps → SyncedMoment syncs l
  synced_moment syncs l run in_order room listed =
      let s = synced_to l room in_order syncs run.steps l.began (Is ListSees) (omega arith) tt run.goes listed in
      let at = s.told.at in
      let least = at.until in
      let most = s.past in
      record {
        of = record {
          ids = at.ids;
          moment = at.moment;
          since = at.since;
          until = omega (arith, least, most);
          exactly = at.exactly;
          up = at.up;
          fits = at.fits;
          after_fits = run.after_fits;
          tells = s.told.tells;
        };
        sync = s.sync;
        listed = s.listed;
        past = s.past;
        before = at.until;
      }

  of_moment : (l : Listing) → IsRun names w l → ComeInOrder w l.began l.ended → l.ended < 2 ^ 64 → IsOfMoment names boundary floor events apart elsewhere may l
  of_moment l run in_order room =
      let then = comes_to l room in_order run.steps l.began (Is ListSees) (omega arith) tt run.goes in
      record {
        ids = then.at.ids;
        moment = then.at.moment;
        since = then.at.since;
        until = then.at.until;
        exactly = then.at.exactly;
        up = then.at.up;
        fits = then.at.fits;
        after_fits = run.after_fits;
        tells = then.tells;
      }

  pub is_linearizable : (n : ℕ) → n < 2 ^ 64 → (listings : ℕ → Listing) (many : ℕ) → AreRuns names n w listings many → AllComeInOrder w listings many → (ops : ℕ → ℕ) → IsLinearizable names boundary ops n w listings many
  is_linearizable n room listings many runs in_order ops = pages.is_linearizable names boundary floor events apart elsewhere may n room listings many
      (λ j low. let high = (runs j low).1 in (of_moment (listings j) (runs j low).0 (in_order j low) (omega (arith, high, room)), high)) ops

  -- the store's files are those of the moment
  pub its_files : (n : ℕ) (room : n < 2 ^ 64) (listings : ℕ → Listing) (many : ℕ) (runs : AreRuns names n w listings many) (in_order : AllComeInOrder w listings many) (ops : ℕ → ℕ) → (is_linearizable n room listings many runs in_order ops).store.files ≡ (ghosts names boundary floor events apart may n).files
  unfolding is_linearizable
  its_files n room listings many runs in_order ops = pages.its_files names boundary floor events apart elsewhere may n room listings many
      (λ j low. let high = (runs j low).1 in (of_moment (listings j) (runs j low).0 (in_order j low) (omega (arith, high, room)), high)) ops
