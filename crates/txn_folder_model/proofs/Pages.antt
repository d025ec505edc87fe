-- A listing that tells what stood at a moment tells the page of the store there; and the order of calls and listings.
use Rattle.std.proofs.Common.{◌≡◌, ℕ, zero, suc, ◌+◌, ◌^◌, ◌<◌, ◌≤◌, ◌&&◌, is_some, Bool, true, false, cond, T, List, [], ◌∷◌, ◌++◌, map, length, Option, Some, None, refl, ap, sym, subst, ◌∙◌, append_assoc, arith, ◌⊎◌, inl, inr, ◌↔◌}
use Rattle.std.specs.Prelude.{nat_lt, Contains, drop}
use Rattle.std.specs.Option.{option_map}
use Rattle.std.specs.List.{AllPairs}
use Rattle.std.specs.FinMap.{get, insert, remove, entries, entries_sorted, get-entries, get-empty, is_sorted, find}
use Rattle.std.specs.FinMap.Entries.{below_all, where_key, find-where_key, is_sorted-where_key, same_entries}
use Rattle.std.specs.Ordering.{eq_by_cmp, is_eq, is_lt}
use Rattle.std.specs.Cmp.{tied_itself}
use Rattle.std.specs.declared.cmp.Ordering.{Ordering}
use Rattle.std.specs.declared.cmp.Ordering.TheVariants.{Less, Equal, Greater}
use Rattle.std.proofs.lemmas.Bool.{ltb-true, ltb-false}
use Rattle.std.proofs.lemmas.List.{take-append-drop}
use Rattle.std.proofs.lemmas.List.Elements.{Contains-append_left}
use Rattle.std.proofs.lemmas.Map.Made.{Contains-tail}
use Rattle.std.proofs.lemmas.Simd.{map-map}
use Rattle.txn_store.specs.Paths.{Segments, path_cmp, is_below}
use Rattle.txn_store.specs.VersionName.{Names, version_path}
use Rattle.txn_store.specs.Store.{meta_of, listing, page_of, is_above, create_fault}
use Rattle.txn_store.specs.declared.store.Got.{Got}
use Rattle.txn_store.specs.declared.store.ObjectMeta.{ObjectMeta}
use Rattle.txn_store.proofs.FileLemmas.{path_cmp_total, path_cmp-IsAntisymmetric, get-insert_other, get-remove_same, get-remove_other}
use Rattle.txn_store.proofs.VersionOfLemmas.{version_below, one_path}
use Rattle.txn_store.proofs.VersionOrder.{version_order, path_up}
use Rattle.txn_folder.specs.steps.Scans.{AreSettled, followed}
use Rattle.txn_folder.proofs.steps.ScanLemmas.{run_front}
use Rattle.txn_folder.specs.steps.Folders.{Place, Version, Boundary, At, File, no_file, OfVersions}
use Rattle.txn_folder.specs.steps.Steps.{got_at}
use Rattle.txn_folder_model.specs.Worlds.{World, Event, IsPlace, world}
use Rattle.txn_folder_model.specs.Linear.{path_of, IsApart, IsElsewhere, IsLinearizable}
use Rattle.txn_folder_model.specs.Listings.{stands, is_over, shows, IsShared, Listing, listing_row}
use Rattle.txn_folder_model.proofs.Ghosts.{Change, Created, Updated, Removed, Effect, Ghost, ReadsSo, changed, changed_by}
use Rattle.txn_folder_model.proofs.Facts.{Holds}
use Rattle.txn_folder_model.proofs.Replies.{listed_reads}
use Rattle.txn_folder_model.proofs.Stepping.{second_true}
use Rattle.txn_folder_model.proofs.ChangedPaths.{EffectIn, effect_in_place, place_of}
use Rattle.txn_folder_model.proofs.Theorem.{Allowed, all_holds, ended_before, ghosts, effects}
use Rattle.txn_folder_model.proofs.Listing.{event_keeps}
use Rattle.txn_folder_model.proofs.Points.{linearizable, its_files as files_of}

-- Paths: the same, or apart.

path_by : (q p : Segments) (o : Ordering) → path_cmp q p ≡ o → (q ≡ p) ⊎ ¬ (q ≡ p)
path_by q p Equal is = inl (path_cmp-IsAntisymmetric q p is)
path_by q p Less is = inr (λ same. let e : path_cmp q q ≡ Less = subst (λ (x : Segments). path_cmp q x ≡ Less) (sym same) is in let clash = sym (tied_itself path_cmp_total q) ∙ e in cc)
path_by q p Greater is = inr (λ same. let e : path_cmp q q ≡ Greater = subst (λ (x : Segments). path_cmp q x ≡ Greater) (sym same) is in let clash = sym (tied_itself path_cmp_total q) ∙ e in cc)

path_or : (q p : Segments) → (q ≡ p) ⊎ ¬ (q ≡ p)
path_or q p = path_by q p (path_cmp q p) refl

tied : (q p : Segments) → q ≡ p → eq_by_cmp path_cmp q p ≡ true
tied q p same = ap (λ x. eq_by_cmp path_cmp x p) same ∙ ap is_eq (tied_itself path_cmp_total p)

untied_by : (q p : Segments) → ¬ (q ≡ p) → (o : Ordering) → path_cmp q p ≡ o → is_eq o ≡ false
untied_by q p apart Equal is = absurd (apart (path_cmp-IsAntisymmetric q p is))
untied_by q p apart Less is = refl
untied_by q p apart Greater is = refl

untied : (q p : Segments) → ¬ (q ≡ p) → eq_by_cmp path_cmp q p ≡ false
untied q p apart = untied_by q p apart (path_cmp q p) refl

both_true : (a b : Bool) → T a → T b → T (a && b)
both_true true b x y = y
both_true false b x y = absurd x

-- Ids that rise: each is below all later ones.

unfoldable pub Rises : List ℕ → Type 0
Rises [] = Unit {0}
Rises (x ∷ xs) = ((y : ℕ) → Contains xs y → x < y) × Rises xs

pub rises : (xs : List ℕ) → AllPairs (λ x y. x < y) xs → Rises xs
unfolding Rises
rises [] h = tt
rises (x ∷ xs) h = (
  λ y has. let low = has.1 in subst (λ (z : ℕ). x < z) has.2 (h 0 (suc has.0) y (omega arith) (omega (arith, low))),
  rises xs (λ i j d low high. h (suc i) (suc j) d (omega (arith, low)) (omega (arith, high))),
)

front_rises : (xs ys : List ℕ) → Rises (xs ++ ys) → Rises xs
unfolding Rises
front_rises [] ys h = tt
front_rises (x ∷ xs) ys h = (λ y has. h.0 y (Contains-append_left xs ys y has), front_rises xs ys h.1)

-- what settled scans tell together is a front of the second
pub settled_front : (last : ℕ) (first second third run : List ℕ) (s : AreSettled last first second third run) → (first ++ run) ++ drop (length (followed last s.rest)) s.rest ≡ second
settled_front last first second third run s =
    let n = length (followed last s.rest) in
    let front : run ++ drop n s.rest ≡ s.rest = ap (λ (xs : List ℕ). xs ++ drop n s.rest) (s.run_is ∙ sym (run_front last s.rest)) ∙ take-append-drop n s.rest in
    append_assoc first run (drop n s.rest) ∙ ap (λ (xs : List ℕ). first ++ xs) front ∙ sym s.second_is

pub settled_rises : (last : ℕ) (first second third run : List ℕ) → AreSettled last first second third run → Rises second → Rises (first ++ run)
settled_rises last first second third run s h = front_rises (first ++ run) (drop (length (followed last s.rest)) s.rest) (subst Rises (sym (settled_front last first second third run s)) h)

-- Rows of versions, in the order of their ids, each with a file.

module _ (names : Names) (got : ℕ → Got) where
  abbrev row : ℕ → Segments × Got
  row id = (version_path names id, got id)

  abbrev Fit : List ℕ → Type 0
  Fit ids = (id : ℕ) → Contains ids id → id < 2 ^ 64

  rest_has : (x id : ℕ) (ids : List ℕ) → Contains ids id → Contains (x ∷ ids) id
  rest_has x id ids has = let low = has.1 in (suc has.0, omega (arith, low), has.2)

  first_has : (x : ℕ) (ids : List ℕ) → Contains (x ∷ ids) x
  first_has x ids = (0, omega arith, refl)

  found_by : (x id : ℕ) (ids : List ℕ) → Contains (x ∷ ids) id → Fit (x ∷ ids) → (Contains ids id → find path_cmp (version_path names id) (map row ids) ≡ Some (got id)) →
      (version_path names id ≡ version_path names x) ⊎ ¬ (version_path names id ≡ version_path names x) → find path_cmp (version_path names id) (map row (x ∷ ids)) ≡ Some (got id)
  found_by x id ids has fits rest (inl same) =
      let one : id ≡ x = one_path names id x (fits id has) (fits x (first_has x ids)) same in
      ap (λ (b : Bool). cond b (Some (got x)) (find path_cmp (version_path names id) (map row ids))) (tied (version_path names id) (version_path names x) same) ∙ ap (λ (y : ℕ). Some (got y)) (sym one)
  found_by x id ids has fits rest (inr other) =
      ap (λ (b : Bool). cond b (Some (got x)) (find path_cmp (version_path names id) (map row ids))) (untied (version_path names id) (version_path names x) other)
      ∙ rest (Contains-tail x ids id (λ same. other (ap (version_path names) (sym same))) has)

  found : (ids : List ℕ) (id : ℕ) → Contains ids id → Fit ids → find path_cmp (version_path names id) (map row ids) ≡ Some (got id)
  found [] id has fits = absurd (let low = has.1 in omega (arith, low))
  found (x ∷ ids) id has fits = found_by x id ids has fits (λ more. found ids id more (λ y in_rest. fits y (rest_has x y ids in_rest))) (path_or (version_path names id) (version_path names x))

  absent : (ids : List ℕ) (q : Segments) → ((id : ℕ) → Contains ids id → ¬ (q ≡ version_path names id)) → find path_cmp q (map row ids) ≡ None
  absent [] q none = refl
  absent (x ∷ ids) q none =
      ap (λ (b : Bool). cond b (Some (got x)) (find path_cmp q (map row ids))) (untied q (version_path names x) (none x (first_has x ids)))
      ∙ absent ids q (λ id has. none id (rest_has x id ids has))

  less : (x y : ℕ) → x < y → y < 2 ^ 64 → T (is_lt (path_cmp (version_path names x) (version_path names y)))
  less x y low fits = subst (λ (o : Ordering). T (is_lt o)) (sym (version_order names x y low fits)) tt

  rows_below : (x : ℕ) (ids : List ℕ) → ((y : ℕ) → Contains ids y → x < y) → Fit ids → T (below_all path_cmp (version_path names x) (map row ids))
  rows_below x [] low fits = tt
  rows_below x (y ∷ ids) low fits =
      both_true (is_lt (path_cmp (version_path names x) (version_path names y))) (below_all path_cmp (version_path names x) (map row ids))
      (less x y (low y (first_has y ids)) (fits y (first_has y ids)))
      (rows_below x ids (λ z has. low z (rest_has y z ids has)) (λ z has. fits z (rest_has y z ids has)))

  rows_sorted : (ids : List ℕ) → Rises ids → Fit ids → T (is_sorted path_cmp (map row ids))
  unfolding Rises
  rows_sorted [] up fits = tt
  rows_sorted (x ∷ ids) up fits =
      both_true (below_all path_cmp (version_path names x) (map row ids)) (is_sorted path_cmp (map row ids))
      (rows_below x ids up.0 (λ z has. fits z (rest_has x z ids has)))
      (rows_sorted ids up.1 (λ z has. fits z (rest_has x z ids has)))

-- above a version, by paths and by ids
above_by : (names : Names) (a id : ℕ) → a < 2 ^ 64 → id < 2 ^ 64 → (o : Ordering) → path_cmp (version_path names a) (version_path names id) ≡ o → (b : Bool) → nat_lt a id ≡ b → is_lt o ≡ b
above_by names a id small fits Less is true low = refl
above_by names a id small fits Less is false low = let up = path_up names a id small is in let most = ltb-false a id low in absurd (omega (arith, up, most))
above_by names a id small fits Equal is true low = let e = version_order names a id (ltb-true a id low) fits in let clash = sym is ∙ e in absurd (cc)
above_by names a id small fits Equal is false low = refl
above_by names a id small fits Greater is true low = let e = version_order names a id (ltb-true a id low) fits in let clash = sym is ∙ e in absurd (cc)
above_by names a id small fits Greater is false low = refl

above_is : (names : Names) (after : Option ℕ) (id : ℕ) → ((a : ℕ) → after ≡ Some a → a < 2 ^ 64) → id < 2 ^ 64 → is_above (option_map (version_path names) after) (version_path names id) ≡ is_over after id
above_is names None id small fits = refl
above_is names (Some a) id small fits = above_by names a id (small a refl) fits (path_cmp (version_path names a) (version_path names id)) refl (nat_lt a id) refl

module _ (names : Names) (boundary : Segments) where
  -- a path is that of a place
  abbrev pub IsOf : Segments → Type 0
  IsOf q = (place : Place) × IsPlace place × (q ≡ path_of names boundary place)

  abbrev pub AllOf : Ghost → Type 0
  AllOf g = (q : Segments) (got : Got) → get g.files q ≡ Some got → IsOf q

  inserted_of : (g : Ghost) (p : Segments) (x : Got) → IsOf p → AllOf g → (q : Segments) (got : Got) → get (insert g.files p x) q ≡ Some got → (q ≡ p) ⊎ ¬ (q ≡ p) → IsOf q
  inserted_of g p x of old q got is (inl same) = subst IsOf (sym same) of
  inserted_of g p x of old q got is (inr other) = old q got (sym (get-insert_other g.files p q x other) ∙ is)

  removed_of : (g : Ghost) (p : Segments) → AllOf g → (q : Segments) (got : Got) → get (remove g.files p) q ≡ Some got → (q ≡ p) ⊎ ¬ (q ≡ p) → IsOf q
  removed_of g p old q got is (inl same) = let clash = sym (subst (λ (x : Segments). get (remove g.files p) x ≡ None) (sym same) (get-remove_same g.files p)) ∙ is in absurd (cc)
  removed_of g p old q got is (inr other) = old q got (sym (get-remove_other g.files p q other) ∙ is)

  change_of : (g : Ghost) (change : Change) → IsPlace (place_of change) → AllOf g → AllOf (changed_by names boundary g change)
  change_of g (Created place bytes token) fits old q got is = inserted_of g (path_of names boundary place) (record { bytes = bytes; token = token }) (place, fits, refl) old q got is (path_or q (path_of names boundary place))
  change_of g (Updated bytes before token) fits old q got is = inserted_of g boundary (record { bytes = bytes; token = token }) (Boundary, tt, refl) old q got is (path_or q boundary)
  change_of g (Removed id) fits old q got is = removed_of g (version_path names id) old q got is (path_or q (version_path names id))

  pub changed_of : (g : Ghost) (o : Option Effect) → EffectIn o → AllOf g → AllOf (changed names boundary g o)
  changed_of g None fits old = old
  changed_of g (Some effect) fits old = change_of g effect.change fits old

-- the file of a name
abbrev pub file_in : World → Option ℕ → File
file_in w None = no_file
file_in w (Some file) = w.folder.files file

-- what stands at the name of a version
abbrev pub got_in : World → ℕ → Got
got_in w id = got_at (Version id) (file_in w (w.folder.names (At (Version id))))

-- what a look at the file of a version tells
abbrev pub seen_at : Names → (ℕ → World) → ℕ → ℕ → ObjectMeta
seen_at names worlds t id = meta_of (version_path names id, got_in (worlds t) id)

is_there : (o : Option ℕ) → is_some o ≡ true → (file : ℕ) × (o ≡ Some file)
is_there None is = absurd (cc)
is_there (Some file) is = (file, refl)

seen_got : (w : World) (id : ℕ) (o : Option ℕ) → is_some o ≡ true → option_map (λ file. got_at (Version id) (w.folder.files file)) o ≡ Some (got_at (Version id) (file_in w o))
seen_got w id None is = absurd (cc)
seen_got w id (Some file) is = refl

stands_by : (w : World) (id : ℕ) (got : Got) (o : Option ℕ) → option_map (λ file. got_at (Version id) (w.folder.files file)) o ≡ Some got → is_some o ≡ true
stands_by w id got None is = absurd (cc)
stands_by w id got (Some file) is = refl

-- of a schedule
module _ (names : Names) (boundary : Segments) (floor : ℕ) (events : ℕ → Event) (apart : IsApart names boundary) (elsewhere : IsElsewhere names boundary) (may : Allowed floor events) where
  abbrev pub worlds : ℕ → World
  worlds t = world floor events t

  abbrev pub stores : ℕ → Ghost
  stores t = ghosts names boundary floor events apart may t

  abbrev HoldsAt : ℕ → Type 0
  HoldsAt t = Holds names boundary floor (ghosts names boundary floor events apart may) (effects names boundary floor events apart may) t (worlds t)

  holds : (t : ℕ) → t < 2 ^ 64 → HoldsAt t
  holds t room = all_holds names boundary floor events apart may t room

  pub of_places : (t : ℕ) → t < 2 ^ 64 → AllOf names boundary (stores t)
  of_places zero room q got is = let clash = sym (get-empty path_cmp q) ∙ is in absurd (cc)
  of_places (suc t) room q got is = changed_of names boundary (stores t) (effects names boundary floor events apart may t)
      (effect_in_place names boundary floor events apart may t (omega (arith, room)))
      (of_places t (omega (arith, room))) q got is

  module _ (id : ℕ) (fits : id < 2 ^ 64) where
    abbrev pub path : Segments
    path = version_path names id

    abbrev pub file_at : ℕ → Option Got
    file_at t = get (stores t).files path

    shown_at : (t : ℕ) → t < 2 ^ 64 → file_at t ≡ option_map (λ file. got_at (Version id) ((worlds t).folder.files file)) ((worlds t).folder.names (At (Version id)))
    shown_at t room = (holds t room).shown (Version id) fits

    pub there : (t : ℕ) → t < 2 ^ 64 → stands (worlds t) id ≡ true → file_at t ≡ Some (got_at (Version id) (file_in (worlds t) ((worlds t).folder.names (At (Version id)))))
    there t room h = shown_at t room ∙ seen_got (worlds t) id ((worlds t).folder.names (At (Version id))) h

    module _ (s : ℕ) (room : suc s < 2 ^ 64) (before : stands (worlds s) id ≡ true) (still : stands (worlds (suc s)) id ≡ true) where
      created_stays : (c : ℕ) (place : Place) (bytes : List ℕ) (token : ℕ) → effects names boundary floor events apart may s ≡ Some (record { call = c; change = Created place bytes token }) →
          (path ≡ path_of names boundary place) ⊎ ¬ (path ≡ path_of names boundary place) → get (changed_by names boundary (stores s) (Created place bytes token)).files path ≡ file_at s
      created_stays c place bytes token is (inl same) =
          let allowed = ((holds (suc s) room).right s c (Created place bytes token) (omega arith) is 0).allowed in
          let stood = subst (λ (p : Segments). get (stores s).files p ≡ Some (got_at (Version id) (file_in (worlds s) ((worlds s).folder.names (At (Version id)))))) same (there s (omega (arith, room)) before) in
          let clash = sym (ap create_fault stood) ∙ allowed in
          absurd (cc)
      created_stays c place bytes token is (inr other) = get-insert_other (stores s).files (path_of names boundary place) path (record { bytes = bytes; token = token }) other

      updated_stays : (bytes : List ℕ) (token : ℕ) → (path ≡ boundary) ⊎ ¬ (path ≡ boundary) → get (insert (stores s).files boundary (record { bytes = bytes; token = token })) path ≡ file_at s
      updated_stays bytes token (inl same) = absurd (apart id fits (sym same))
      updated_stays bytes token (inr other) = get-insert_other (stores s).files boundary path (record { bytes = bytes; token = token }) other

      removed_stays : (other : ℕ) → file_at (suc s) ≡ get (remove (stores s).files (version_path names other)) path → (path ≡ version_path names other) ⊎ ¬ (path ≡ version_path names other) → get (remove (stores s).files (version_path names other)) path ≡ file_at s
      removed_stays other is (inl same) =
          let gone = subst (λ (x : Segments). get (remove (stores s).files (version_path names other)) x ≡ None) (sym same) (get-remove_same (stores s).files (version_path names other)) in
          let clash = sym (there (suc s) room still) ∙ is ∙ gone in
          absurd (cc)
      removed_stays other is (inr apart_from) = get-remove_other (stores s).files (version_path names other) path apart_from

      one_stays : (c : ℕ) (change : Change) → effects names boundary floor events apart may s ≡ Some (record { call = c; change = change }) → file_at (suc s) ≡ get (changed_by names boundary (stores s) change).files path → get (changed_by names boundary (stores s) change).files path ≡ file_at s
      one_stays c (Created place bytes token) is leads = created_stays c place bytes token is (path_or path (path_of names boundary place))
      one_stays c (Updated bytes old token) is leads = updated_stays bytes token (path_or path boundary)
      one_stays c (Removed other) is leads = removed_stays other leads (path_or path (version_path names other))

      stays_by : (o : Option Effect) → effects names boundary floor events apart may s ≡ o → file_at (suc s) ≡ file_at s
      stays_by None is = ap (λ (e : Option Effect). get (changed names boundary (stores s) e).files path) is
      stays_by (Some e) is =
          let leads : file_at (suc s) ≡ get (changed_by names boundary (stores s) e.change).files path = ap (λ (x : Option Effect). get (changed names boundary (stores s) x).files path) is in
          leads ∙ one_stays e.call e.change is leads

      stays : file_at (suc s) ≡ file_at s
      stays = stays_by (effects names boundary floor events apart may s) refl

    -- while nobody removes, a version stands, with its file
    abbrev pub StandsSo : ℕ → ℕ → Type 0
    StandsSo s t = (stands (worlds t) id ≡ true) × (file_at t ≡ file_at s)

    next_stands : (s t : ℕ) → suc t < 2 ^ 64 → (worlds t).folder.locks OfVersions ≡ None → StandsSo s t → StandsSo s (suc t)
    next_stands s t room shared so =
        let still : stands (worlds (suc t)) id ≡ true = event_keeps names boundary floor (ghosts names boundary floor events apart may) (effects names boundary floor events apart may) t (worlds t) (holds t (omega (arith, room))) shared id so.0 (events t) in
        (still, stays t room so.0 still ∙ so.1)

    pub stands_on : (k s t : ℕ) → t ≡ s + k → t < 2 ^ 64 → IsShared worlds s t → stands (worlds s) id ≡ true → StandsSo s t
    stands_on zero s t is room shared h = let same : s ≡ t = omega (arith, is) in subst (StandsSo s) same (h, refl)
    stands_on (suc k) s t is room shared h =
        let same : suc (s + k) ≡ t = omega (arith, is) in
        subst (StandsSo s) same
        (next_stands s (s + k) (omega (arith, is, room)) (shared (s + k) (omega arith) (omega (arith, is)))
        (stands_on k s (s + k) refl (omega (arith, is, room)) (λ m low high. shared m low (omega (arith, high, is))) h))

  -- A listing tells what stood at a moment between its begin and its end: all versions above the one that it goes on after, up to the limit.
  pub record IsOfMoment (l : Listing) : Type 0 where
    pub ids : List ℕ
    pub moment : ℕ
    pub since : l.began ≤ moment
    pub until : moment ≤ l.ended
    pub exactly : (id : ℕ) → (shows worlds l.after moment id ≡ true) ↔ Contains ids id
    pub up : Rises ids
    pub fits : (id : ℕ) → Contains ids id → id < 2 ^ 64
    pub after_fits : (id : ℕ) → l.after ≡ Some id → id < 2 ^ 64
    pub tells : l.page ≡ page_of l.limit (map (seen_at names worlds moment) ids)

  module _ (l : Listing) (of : IsOfMoment l) (room : l.ended < 2 ^ 64) where
    abbrev after_path : Option Segments
    after_path = option_map (version_path names) l.after

    abbrev kept : Segments → Bool
    kept q = is_below names.dir q && is_above after_path q

    abbrev pub moment : ℕ
    moment = of.moment

    abbrev got_of : ℕ → Got
    got_of = got_in (worlds moment)

    abbrev rows : List (Segments × Got)
    rows = map (row names got_of) of.ids

    in_time : moment < 2 ^ 64
    in_time = let until = of.until in omega (arith, until, room)

    shows_it : (id : ℕ) → Contains of.ids id → shows worlds l.after moment id ≡ true
    shows_it id has = (of.exactly id).1 has

    got_here : (id : ℕ) → Contains of.ids id → get (stores moment).files (version_path names id) ≡ Some (got_of id)
    got_here id has = there id (of.fits id has) moment in_time (second_true (is_over l.after id) (stands (worlds moment) id) (shows_it id has)).1

    is_kept : (id : ℕ) → Contains of.ids id → kept (version_path names id) ≡ true
    is_kept id has =
        let both = second_true (is_over l.after id) (stands (worlds moment) id) (shows_it id has) in
        rw (version_below names id) (above_is names l.after id of.after_fits (of.fits id has) ∙ both.0)

    -- where a kept file stands it is of a version that is told
    place_found : (q : Segments) (got : Got) → kept q ≡ true → get (stores moment).files q ≡ Some got → (place : Place) → IsPlace place → q ≡ path_of names boundary place → Some got ≡ find path_cmp q rows
    place_found q got k is Boundary fits e =
        let both = second_true (is_below names.dir q) (is_above after_path q) k in
        let clash = sym (subst (λ (p : Segments). is_below names.dir p ≡ true) e both.0) ∙ elsewhere in
        absurd (cc)
    place_found q got k is (Version id) fits e =
        let both = second_true (is_below names.dir q) (is_above after_path q) k in
        let here : get (stores moment).files (version_path names id) ≡ Some got = subst (λ (p : Segments). get (stores moment).files p ≡ Some got) e is in
        let there_now : stands (worlds moment) id ≡ true = stands_by (worlds moment) id got ((worlds moment).folder.names (At (Version id))) (sym (shown_at id fits moment in_time) ∙ here) in
        let over : is_over l.after id ≡ true = sym (above_is names l.after id of.after_fits fits) ∙ subst (λ (p : Segments). is_above after_path p ≡ true) e both.1 in
        let has : Contains of.ids id = (of.exactly id).0 (rw over there_now) in
        sym here ∙ got_here id has ∙ sym (found names got_of of.ids id has of.fits) ∙ ap (λ (p : Segments). find path_cmp p rows) (sym e)

    none_else : (q : Segments) → ((id : ℕ) → Contains of.ids id → ¬ (q ≡ version_path names id)) → None ≡ find path_cmp q rows
    none_else q none = sym (absent names got_of of.ids q none)

    same_by : (q : Segments) (b : Bool) → kept q ≡ b → (o : Option Got) → get (stores moment).files q ≡ o → cond b o None ≡ find path_cmp q rows
    same_by q true k (Some got) is = let of = of_places moment in_time q got is in place_found q got k is of.0 of.1 of.2
    same_by q true k None is = none_else q (λ id has e. let clash = sym (subst (λ (p : Segments). get (stores moment).files p ≡ None) e is) ∙ got_here id has in cc)
    same_by q false k o is = none_else q (λ id has e. let clash = sym (subst (λ (p : Segments). kept p ≡ false) e k) ∙ is_kept id has in cc)

    -- in a store that has the same versions
    module _ (g : Ghost) (alike : (q : Segments) → is_below names.dir q ≡ true → get g.files q ≡ get (stores moment).files q) where
      alike_by : (q : Segments) (b : Bool) → kept q ≡ b → cond b (get g.files q) None ≡ cond b (get (stores moment).files q) None
      alike_by q true k = alike q (second_true (is_below names.dir q) (is_above after_path q) k).0
      alike_by q false k = refl

      same_find : (q : Segments) → find path_cmp q (where_key path_cmp kept (entries g.files)) ≡ find path_cmp q rows
      same_find q =
          find-where_key path_cmp kept q (λ x t. ap kept (sym (path_cmp-IsAntisymmetric q x t))) (entries g.files)
          ∙ ap (λ (o : Option Got). cond (kept q) o None) (sym (get-entries g.files q))
          ∙ alike_by q (kept q) refl
          ∙ same_by q (kept q) refl (get (stores moment).files q) refl

      same_rows : where_key path_cmp kept (entries g.files) ≡ rows
      same_rows = same_entries path_cmp path_cmp_total path_cmp-IsAntisymmetric (where_key path_cmp kept (entries g.files)) rows
          (is_sorted-where_key path_cmp kept (entries g.files) (entries_sorted g.files))
          (rows_sorted names got_of of.ids of.up of.fits)
          same_find

      page_is : l.page ≡ page_of l.limit (listing names.dir after_path (entries g.files))
      page_is = of.tells ∙ ap (page_of l.limit) (sym (map-map meta_of (row names got_of) of.ids) ∙ ap (map meta_of) (sym same_rows))

      pub right_in : ReadsSo g (listing_row names l).request (listing_row names l).reply
      right_in = listed_reads g names.dir after_path l.limit l.page page_is

    pub right_there : ReadsSo (stores moment) (listing_row names l).request (listing_row names l).reply
    right_there = right_in (stores moment) (λ q below. refl)

  -- the moments of listings
  module _ (n : ℕ) (room : n < 2 ^ 64) (listings : ℕ → Listing) (many : ℕ) (made : (number : ℕ) → number < many → IsOfMoment (listings number) × ((listings number).ended < n)) where
    its_moment : (j : ℕ) → j < many → ℕ
    its_moment j low = let high = (made j low).1 in moment (listings j) (made j low).0 (omega (arith, high, room))

    moment_by : (j : ℕ) (b : Bool) → nat_lt j many ≡ b → ℕ
    moment_by j true is = its_moment j (ltb-true j many is)
    moment_by j false is = 0

    moments : ℕ → ℕ
    moments j = moment_by j (nat_lt j many) refl

    moment_is : (j : ℕ) (b : Bool) (is : nat_lt j many ≡ b) → j < many → (low : j < many) × (moment_by j b is ≡ its_moment j low)
    unfolding moment_by
    moment_is j true is low = (ltb-true j many is, refl)
    moment_is j false is low = let most = ltb-false j many is in absurd (omega (arith, low, most))

    abbrev IsBetween : ℕ → ℕ → Type 0
    IsBetween j m = ((listings j).began ≤ m) × (m ≤ (listings j).ended) × (m < n)

    abbrev IsRightAt : ℕ → ℕ → Type 0
    IsRightAt j m = ReadsSo (stores m) (listing_row names (listings j)).request (listing_row names (listings j)).reply

    listed : (j : ℕ) → j < many → IsBetween j (moments j)
    unfolding moments its_moment
    listed j low =
        let e = moment_is j (nat_lt j many) refl low in
        let high = (made j e.0).1 in
        let most = (made j e.0).0.until in
        subst (IsBetween j) (sym e.1) ((made j e.0).0.since, most, omega (arith, most, high))

    reads : (s j : ℕ) → j < many → moments j ≡ s → IsRightAt j s
    unfolding moments its_moment
    reads s j low at =
        let e = moment_is j (nat_lt j many) refl low in
        let high = (made j e.0).1 in
        subst (IsRightAt j) (sym e.1 ∙ at) (right_there (listings j) (made j e.0).0 (omega (arith, high, room)))

    pub is_linearizable : (ops : ℕ → ℕ) → IsLinearizable names boundary ops n worlds listings many
    is_linearizable ops = linearizable names boundary floor (ghosts names boundary floor events apart may) (effects names boundary floor events apart may) n ops worlds listings many moments (holds n room)
        (λ s none. ap (changed names boundary (stores s)) none) refl listed (ended_before floor events n) reads

    -- the store's files are those of the moment
    pub its_files : (ops : ℕ → ℕ) → (is_linearizable ops).store.files ≡ (stores n).files
    unfolding is_linearizable
    its_files ops = files_of names boundary floor (ghosts names boundary floor events apart may) (effects names boundary floor events apart may) n ops worlds listings many moments (holds n room)
        (λ s none. ap (changed names boundary (stores s)) none) refl listed (ended_before floor events n) reads
