-- What a page of a listing of the store tells: of the newest version, and of the ids within bounds.
use Rattle.std.proofs.Common.{◌≡◌, nat_eq, ℕ, suc, ◌-◌, ◌<◌, ◌≤◌, ◌^◌, ◌&&◌, Bool, true, false, cond, T, List, [], ◌∷◌, ◌++◌, length, map, take, filter, slice_get, is_some, Option, Some, None, ◌⊎◌, inl, inr, refl, sym, ◌∙◌, ap, subst, arith}
use Rattle.std.specs.List.Sorted.{IsStrictlySortedBy}
use Rattle.std.specs.Option.{option_map}
use Rattle.std.specs.FinMap.{get, entries, is_sorted, entries_sorted, contains_key-keys}
use Rattle.std.specs.FinMap.Entries.{below_all}
use Rattle.std.specs.Ordering.{is_lt, nat_cmp}
use Rattle.std.specs.declared.ops.Bound.{Bound}
use Rattle.std.proofs.lemmas.Bool.{cases_Bool, cases_lt, both_ways, and_parts, or_cases, or_left, or_right, ltb-true, ltb-false}
use Rattle.std.proofs.lemmas.List.{length-map, length-take-le, take-map, take_all, map-append}
use Rattle.std.proofs.lemmas.List.Folds.{list_any-append}
use Rattle.std.proofs.lemmas.Option.{same_Some}
use Rattle.txn_store.specs.Paths.{Segments, path_cmp, is_below}
use Rattle.txn_store.specs.VersionName.{version_path}
use Rattle.txn_store.specs.VersionOf.{version_of}
use Rattle.txn_store.specs.Store.{Files, State as StoreState, meta_of, listing, page_of, is_above as is_after}
use Rattle.txn_store.specs.declared.page.Page.{Page}
use Rattle.txn_store.specs.declared.store.Got.{Got}
use Rattle.txn_store.specs.declared.store.ObjectMeta.{ObjectMeta}
use Rattle.txn_store.specs.declared.request.Request.{Request}
use Rattle.txn_store.proofs.EntryLemmas.{is_less, first_sorted, rest_sorted, is_at, at_first, at_rest, at_cases, later}
use Rattle.txn_store.proofs.VersionOfLemmas.{version_of_path, path_of_version, version_below, one_path}
use Rattle.txn_store.proofs.VersionOrder.{version_order, path_up}
use Rattle.txn_store.specs.types.Numbers.{is_within}
use Rattle.txn_steps.specs.Latest.{greater_of, greatest_from}
use Rattle.txn_steps.specs.Listed.{Listed}
use Rattle.txn_steps.specs.Picked.{picked}
use Rattle.txn_steps.specs.Requests.{version_page, last_location, next_after}
use Rattle.txn_history.specs.Trace.{PlainRow}
use Rattle.txn_history.specs.Names.{world_names}
use Rattle.txn_history.specs.History.{newest, boundary}
use Rattle.txn_history.specs.Facts.{IsListing}
use Rattle.txn_machine.specs.plain.Doing.{ids_of}
use Rattle.txn_machine.proofs.plain.ListedIds.{is_in, AscendsFrom, last_or, greatest_of, in_first, in_rest, in_cases, last_in, last_least, ascends_within, take_ascends, take_in, take_has, filter_ascends, filter_in, filter_has, sorted_append, greatest_one, greatest_most}
use Rattle.txn_machine.proofs.plain.Stands.{IsVersionPath, AllVersions, BeginsAfter, Found, IsKnown, KnowsFound, ListingStands, CollectingStands, KnowStands, is_there}
use Rattle.txn_machine.proofs.plain.Stored.{there_above}

-- what a listing keeps
abbrev is_kept : Option Segments → Segments × Got → Bool
is_kept after e = is_below world_names.dir e.0 && is_after after e.0

-- each entry below the folder is a version
abbrev AllNamed : List (Segments × Got) → Type 0
AllNamed es = (path : Segments) → is_at path es ≡ true → is_below world_names.dir path ≡ true → IsVersionPath path

-- each listed version is above a bound
abbrev AllAbove : ℕ → Option Segments → List (Segments × Got) → Type 0
AllAbove low after es = (n : ℕ) → n < 2 ^ 64 → is_after after (version_path world_names n) ≡ true → is_at (version_path world_names n) es ≡ true → low < n

-- these files are the versions of these ids
abbrev AreVersions : List ObjectMeta → List ℕ → Type 0
AreVersions metas ids = map (λ (meta : ObjectMeta). version_of world_names meta.location) metas ≡ map Some ids

-- a whole listing: the ids of its versions
record Whole (after : Option Segments) (low : ℕ) (es : List (Segments × Got)) (metas : List ObjectMeta) : Type 0 where
  ids : List ℕ
  are : AreVersions metas ids
  ascends : AscendsFrom low ids
  stored : (n : ℕ) → is_in n ids ≡ true → (n < 2 ^ 64) × (is_at (version_path world_names n) es ≡ true)
  all : (n : ℕ) → n < 2 ^ 64 → is_after after (version_path world_names n) ≡ true → is_at (version_path world_names n) es ≡ true → is_in n ids ≡ true

-- a version that stands after the path is kept
version_kept : (after : Option Segments) (e : Segments × Got) (n : ℕ) → version_path world_names n ≡ e.0 → is_after after (version_path world_names n) ≡ true → is_kept after e ≡ true
version_kept after e n path above =
    let below : is_below world_names.dir e.0 ≡ true = ap (is_below world_names.dir) (sym path) ∙ version_below world_names n in
    let up : is_after after e.0 ≡ true = ap (is_after after) (sym path) ∙ above in
    rw (below, up) refl

dropped : (after : Option Segments) (low : ℕ) (e : Segments × Got) (es : List (Segments × Got)) → is_kept after e ≡ false → Whole after low es (listing world_names.dir after es) → Whole after low (e ∷ es) (listing world_names.dir after es)
dropped after low e es out rest =
    record {
      ids = rest.ids;
      are = rest.are;
      ascends = rest.ascends;
      stored = λ n h. (let s = rest.stored n h in (s.0, at_rest e es (version_path world_names n) s.1));
      all = λ n fits above at. elim (at_cases e es (version_path world_names n) at) [
        | inl here ↦ absurd (both_ways (is_kept after e) out (version_kept after e n here above))
        | inr there ↦ rest.all n fits above there
      ];
    }

listed : (after : Option Segments) (low : ℕ) (e : Segments × Got) (es : List (Segments × Got)) → (v : IsVersionPath e.0) → low < v.0 → Whole after v.0 es (listing world_names.dir after es) → Whole after low (e ∷ es) (meta_of e ∷ listing world_names.dir after es)
listed after low e es v up rest =
    let named : version_of world_names e.0 ≡ Some v.0 = ap (version_of world_names) v.2 ∙ version_of_path world_names v.0 v.1 in
    record {
      ids = v.0 ∷ rest.ids;
      are = λ i. named i ∷ rest.are i;
      ascends = (up, rest.ascends);
      stored = λ n h. elim (in_cases n v.0 rest.ids h) [
        | inl here ↦ (omega (arith, here, v.1), at_first e es (version_path world_names n) (ap (version_path world_names) here ∙ sym v.2))
        | inr there ↦ (let s = rest.stored n there in (s.0, at_rest e es (version_path world_names n) s.1))
      ];
      all = λ n fits above at. elim (at_cases e es (version_path world_names n) at) [
        | inl here ↦ in_first n v.0 rest.ids (one_path world_names n v.0 fits v.1 (here ∙ v.2))
        | inr there ↦ in_rest n v.0 rest.ids (rest.all n fits above there)
      ];
    }

-- the entries after a version's are above it
above_first : (after : Option Segments) (e : Segments × Got) (es : List (Segments × Got)) (v : IsVersionPath e.0) → T (below_all path_cmp e.0 es) → AllAbove v.0 after es
above_first after e es v below n fits above at = path_up world_names v.0 n v.1 (ap (λ p. path_cmp p (version_path world_names n)) (sym v.2) ∙ later e.0 es below (version_path world_names n) at)

whole : (after : Option Segments) (low : ℕ) (es : List (Segments × Got)) → T (is_sorted path_cmp es) → AllNamed es → AllAbove low after es → Whole after low es (listing world_names.dir after es)
whole after low [] sorted named above = record { ids = []; are = refl; ascends = tt; stored = λ n h. cc; all = λ n fits up at. cc }
whole after low (e ∷ es) sorted named above =
    let others : T (is_sorted path_cmp es) = rest_sorted e es sorted in
    let names : AllNamed es = λ path at. named path (at_rest e es path at) in
    elim (cases_Bool (is_kept after e)) [
      | inr out ↦ rw out (dropped after low e es out (whole after low es others names (λ n fits up at. above n fits up (at_rest e es (version_path world_names n) at))))
      | inl kept ↦
          let parts = and_parts (is_below world_names.dir e.0) (is_after after e.0) kept in
          let v = named e.0 (at_first e es e.0 refl) parts.0 in
          let up = above v.0 v.1 (ap (is_after after) (sym v.2) ∙ parts.1) (at_first e es (version_path world_names v.0) (sym v.2)) in
          rw kept (listed after low e es v up (whole after v.0 es others names (above_first after e es v (first_sorted e es sorted))))
    ]

-- what the versions of a page are to a read, and to a listing of ids

name_first : (meta : ObjectMeta) (metas : List ObjectMeta) (id : ℕ) (ids : List ℕ) → AreVersions (meta ∷ metas) (id ∷ ids) → (version_of world_names meta.location ≡ Some id) × AreVersions metas ids
name_first meta metas id ids are = (cc, cc)

greatest_told : (found : Option ℕ) (metas : List ObjectMeta) (ids : List ℕ) → AreVersions metas ids → greatest_from found world_names metas ≡ greatest_of found ids
greatest_told found [] [] are = refl
greatest_told found [] (id ∷ ids) are = cc
greatest_told found (meta ∷ metas) [] are = cc
greatest_told found (meta ∷ metas) (id ∷ ids) are =
    let first = name_first meta metas id ids are in
    ap (λ (named : Option ℕ). greatest_from (greater_of found named) world_names metas) first.0 ∙ greatest_told (greater_of found (Some id)) metas ids first.1

picked_told : (from to : Bound ℕ) (metas : List ObjectMeta) (ids : List ℕ) → AreVersions metas ids → ids_of (picked world_names from to metas) ≡ filter (is_within from to) ids
picked_told from to [] [] are = refl
picked_told from to [] (id ∷ ids) are = cc
picked_told from to (meta ∷ metas) [] are = cc
picked_told from to (meta ∷ metas) (id ∷ ids) are =
    let first = name_first meta metas id ids are in
    let rest = picked_told from to metas ids first.1 in
    elim (cases_Bool (is_within from to id)) [ inl within ↦ rw (first.0, within) (ap (λ (ns : List ℕ). id ∷ ns) rest) | inr outside ↦ rw (first.0, outside) rest ]

last_later : (meta next : ObjectMeta) (metas : List ObjectMeta) → last_location (meta ∷ next ∷ metas) ≡ last_location (next ∷ metas)
last_later meta next metas =
    let index : length (meta ∷ next ∷ metas) - 1 ≡ suc (length (next ∷ metas) - 1) = omega arith in
    ap (λ k. option_map (λ (m : ObjectMeta). m.location) (slice_get (meta ∷ next ∷ metas) k)) index

-- the last file of a page is the version of the last id
last_told : (meta : ObjectMeta) (metas : List ObjectMeta) (id : ℕ) (ids : List ℕ) → AreVersions (meta ∷ metas) (id ∷ ids) → last_location (meta ∷ metas) ≡ Some (version_path world_names (last_or id ids))
last_told meta [] id [] are = ap Some (path_of_version world_names meta.location id (name_first meta [] id [] are).0).0
last_told meta [] id (n ∷ ids) are = absurd (let rest = (name_first meta [] id (n ∷ ids) are).1 in cc)
last_told meta (next ∷ metas) id [] are = absurd (let rest = (name_first meta (next ∷ metas) id [] are).1 in cc)
last_told meta (next ∷ metas) id (n ∷ ids) are = last_later meta next metas ∙ last_told next metas n ids (name_first meta (next ∷ metas) id (n ∷ ids) are).1

last_location_told : (low : ℕ) (metas : List ObjectMeta) (ids : List ℕ) → AreVersions metas ids → 0 < length metas → last_location metas ≡ Some (version_path world_names (last_or low ids))
last_location_told low [] ids are some = absurd (omega (arith, some))
last_location_told low (meta ∷ metas) [] are some = cc
last_location_told low (meta ∷ metas) (id ∷ ids) are some = last_told meta metas id ids are

-- a page of the store's versions above a bound: all up to its last, or all where no more follow
record PageTells (files : Files) (low : ℕ) (metas : List ObjectMeta) (more : Bool) : Type 0 where
  ids : List ℕ
  are : AreVersions metas ids
  ascends : AscendsFrom low ids
  stored : (n : ℕ) → is_in n ids ≡ true → (n < 2 ^ 64) × (is_there files n ≡ true)
  all : (n : ℕ) → low < n → n < 2 ^ 64 → is_there files n ≡ true → (more ≡ false) ⊎ (n ≤ last_or low ids) → is_in n ids ≡ true

some_of : {A : Type 0} (o : Option A) → is_some o ≡ true → (x : A) × (o ≡ Some x)
some_of None h = cc
some_of (Some x) h = (x, refl)

all_named : (files : Files) → AllVersions files → AllNamed (entries files)
all_named files versions path at below = let got = some_of (get files path) (contains_key-keys files path ∙ at) in versions path got.0 below got.1

same_length : (metas : List ObjectMeta) (ids : List ℕ) → AreVersions metas ids → length ids ≡ length metas
same_length metas ids are =
    let long : length (map (λ (meta : ObjectMeta). version_of world_names meta.location) metas) ≡ length (map {B = Option ℕ} Some ids) = ap length are in
    sym (length-map ids Some) ∙ (sym long ∙ length-map metas (λ (meta : ObjectMeta). version_of world_names meta.location))

taken_versions : (limit : ℕ) (metas : List ObjectMeta) (ids : List ℕ) → AreVersions metas ids → AreVersions (take limit metas) (take limit ids)
taken_versions limit metas ids are = sym (take-map (λ (meta : ObjectMeta). version_of world_names meta.location) limit metas) ∙ (ap (take limit) are ∙ take-map Some limit ids)

-- a version above what was reached stands after its path
begins_before : (after : Option Segments) (reached n : ℕ) → BeginsAfter after reached → reached < n → n < 2 ^ 64 → is_after after (version_path world_names n) ≡ true
begins_before after reached n (inl start) lt fits = ap (λ (a : Option Segments). is_after a (version_path world_names n)) start.0
begins_before after reached n (inr path) lt fits = ap (λ (a : Option Segments). is_after a (version_path world_names n)) path ∙ ap is_lt (version_order world_names reached n lt fits)

-- what is found is the newest id, and nothing where there is none
abbrev pub IsNewest : Option ℕ → ℕ → Type 0
IsNewest None m = m ≡ 0
IsNewest (Some n) m = (0 < n) × (n ≡ m)

module _ {T : Type 0} where
  -- what a page leaves a read of the newest version with: the newest id after the last page, and else what its next page owes
  abbrev pub NewestLeaves : List (PlainRow T) → Option Segments → Option ℕ → Type 0
  NewestLeaves rows None found = IsNewest found (newest rows)
  NewestLeaves rows (Some path) found = (limit : ℕ) → 1 ≤ limit → ListingStands rows found (version_page world_names (Some path) limit)

  -- what a page leaves a listing of ids with: all of them after the last page, and else what its next page owes
  abbrev pub ListLeaves : List (PlainRow T) → Bound ℕ → Bound ℕ → Option Segments → List ℕ → Type 0
  ListLeaves rows from to None ids = IsListing rows from to ids × ((n : ℕ) → is_in n ids ≡ true → IsKnown rows n)
  ListLeaves rows from to (Some path) ids = (limit : ℕ) → 1 ≤ limit → CollectingStands rows from to ids (version_page world_names (Some path) limit)

  -- what was reached is known
  reached_known : (rows : List (PlainRow T)) (reached : ℕ) (found : Option ℕ) → Found reached found → KnowsFound rows found → reached ≤ newest rows
  reached_known rows reached found passed known =
      elim (cases_lt 0 reached) [
        | inl some ↦ (let most = passed some in let top = known most.0 most.1 in omega (arith, most.2, top.1))
        | inr none ↦ omega (arith, none)
      ]

  is_newest : (rows : List (PlainRow T)) (found : Option ℕ) → KnowsFound rows found → (0 < newest rows → (most : ℕ) × (found ≡ Some most) × (newest rows ≤ most)) → IsNewest found (newest rows)
  is_newest rows None known reaches =
      elim (cases_lt 0 (newest rows)) [
        | inl some ↦ (let clash = (reaches some).1 in absurd (cc))
        | inr none ↦ omega (arith, none)
      ]
  is_newest rows (Some n) known reaches =
      let bound = known n refl in
      let up = reaches (omega (arith, bound.0, bound.1)) in
      let same = same_Some n up.0 up.1 in
      (bound.0, omega (arith, bound.1, up.2, same))

module _ {T : Type 0} (decode : List ℕ → Option T) (get_epoch : T → ℕ) (failed : List ℕ) (rows : List (PlainRow T)) (store : StoreState) (k : KnowStands decode get_epoch failed rows store) where
  -- a page of the store's versions, after a path
  abbrev page : Option Segments → ℕ → Page
  page after limit = page_of limit (listing world_names.dir after (entries store.files))

  -- a stored version that stands after the path of what was reached is above it
  begins_above : (after : Option Segments) (reached : ℕ) → BeginsAfter after reached → reached ≤ newest rows → AllAbove reached after (entries store.files)
  begins_above after reached (inl start) le n fits up at =
      let known = k.files.within n fits (contains_key-keys store.files (version_path world_names n) ∙ at) in
      omega (arith, start.1, known.0)
  begins_above after reached (inr path) le n fits up at =
      let small = k.history.small in
      let far : is_lt (path_cmp (version_path world_names reached) (version_path world_names n)) ≡ true = sym (ap (λ (a : Option Segments). is_after a (version_path world_names n)) path) ∙ up in
      path_up world_names reached n (omega (arith, le, small)) (is_less (path_cmp (version_path world_names reached) (version_path world_names n)) far)

  page_tells : (after : Option Segments) (reached limit : ℕ) → BeginsAfter after reached → reached ≤ newest rows → PageTells store.files reached (page after limit).metas (page after limit).more
  page_tells after reached limit begins le =
      let metas = listing world_names.dir after (entries store.files) in
      let w = whole after reached (entries store.files) (entries_sorted store.files) (all_named store.files k.files.versions) (begins_above after reached begins le) in
      record {
        ids = take limit w.ids;
        are = taken_versions limit metas w.ids w.are;
        ascends = take_ascends limit reached w.ids w.ascends;
        stored = λ n h. (let s = w.stored n (take_in limit w.ids n h) in (s.0, contains_key-keys store.files (version_path world_names n) ∙ s.1));
        all = λ n above fits there end.
            let among = w.all n fits (begins_before after reached n begins above fits) (sym (contains_key-keys store.files (version_path world_names n)) ∙ there) in
            elim end [
              | inl last ↦
                  let long = same_length metas w.ids w.are in
                  let short = ltb-false limit (length metas) last in
                  subst (λ (ns : List ℕ). is_in n ns ≡ true) (sym (take_all limit w.ids (omega (arith, long, short)))) among
              | inr most ↦ take_has limit reached w.ids w.ascends n among most
            ];
      }

  -- where more follow, the next page begins after the last id of this one
  last_path : (after : Option Segments) (reached limit : ℕ) → 1 ≤ limit → (p : PageTells store.files reached (page after limit).metas (page after limit).more) → (page after limit).more ≡ true → last_location (page after limit).metas ≡ Some (version_path world_names (last_or reached p.ids))
  last_path after reached limit room p more =
      let metas = listing world_names.dir after (entries store.files) in
      let lt = ltb-true limit (length metas) more in
      let long : length (take limit metas) ≡ limit = length-take-le limit metas (omega (arith, lt)) in
      last_location_told reached (take limit metas) p.ids p.are (omega (arith, long, room))

  -- what a page leaves, where it is the last and where it is not
  by_page : (P : Option Segments → Type 0) (after : Option Segments) (reached limit : ℕ) → 1 ≤ limit → (p : PageTells store.files reached (page after limit).metas (page after limit).more) →
      ((page after limit).more ≡ false → P None) → ((page after limit).more ≡ true → P (Some (version_path world_names (last_or reached p.ids)))) → P (next_after (page after limit))
  by_page P after reached limit room p last more =
      elim (cases_Bool (page after limit).more) [
        | inl e ↦ subst (λ (b : Bool). P (cond b (last_location (page after limit).metas) None)) (sym e) (subst P (sym (last_path after reached limit room p e)) (more e))
        | inr e ↦ subst (λ (b : Bool). P (cond b (last_location (page after limit).metas) None)) (sym e) (last e)
      ]

  module _ (reached : ℕ) (metas : List ObjectMeta) (more : Bool) (p : PageTells store.files reached metas more) where
    -- an id of a page is known
    page_known : (n : ℕ) → is_in n p.ids ≡ true → IsKnown rows n
    page_known n h = let s = p.stored n h in k.files.within n s.0 s.1

    last_known : reached ≤ newest rows → last_or reached p.ids ≤ newest rows
    last_known le = elim (last_in reached p.ids) [ inl same ↦ omega (arith, same, le) | inr h ↦ (page_known (last_or reached p.ids) h).1 ]

    -- a version above the boundary and above what was reached is on the page, unless the page ends below it
    on_page : (n : ℕ) → boundary rows < n → n ≤ newest rows → reached < n → (more ≡ false) ⊎ (n ≤ last_or reached p.ids) → is_in n p.ids ≡ true
    on_page n above le past end = let small = k.history.small in p.all n past (omega (arith, le, small)) (there_above decode get_epoch failed rows store k n above le) end

    -- the newest version

    greatest_known : (found : Option ℕ) → KnowsFound rows found → KnowsFound rows (greatest_of found p.ids)
    greatest_known found known n e = elim (greatest_one found p.ids n e) [ inl before ↦ known n before | inr among ↦ page_known n among ]

    greatest_reaches : (found : Option ℕ) → Found reached found → Found (last_or reached p.ids) (greatest_of found p.ids)
    greatest_reaches found passed some =
        elim (last_in reached p.ids) [
          | inl same ↦
              let before = passed (omega (arith, same, some)) in
              let up = greatest_most found p.ids before.0 (inl before.1) in
              (up.0, up.1, omega (arith, same, before.2, up.2))
          | inr among ↦ greatest_most found p.ids (last_or reached p.ids) (inr among)
        ]

    -- the last page reaches the newest version, or the pages before it did
    reaches_newest : (found : Option ℕ) → more ≡ false → Found reached found → 0 < newest rows → (most : ℕ) × (greatest_of found p.ids ≡ Some most) × (newest rows ≤ most)
    reaches_newest found last passed some =
        elim (cases_lt reached (newest rows)) [
          | inl past ↦ elim k.history.gap [
            | inl above ↦ greatest_most found p.ids (newest rows) (inr (on_page (newest rows) above (omega arith) past (inl last)))
            | inr none ↦ absurd (omega (arith, some, none.0))
          ]
          | inr done ↦
              let before = passed (omega (arith, done, some)) in
              let up = greatest_most found p.ids before.0 (inl before.1) in
              (up.0, up.1, omega (arith, done, before.2, up.2))
        ]

  -- after a page of a read of the newest version
  pub newest_leaves : (found : Option ℕ) (request : Request) → (l : ListingStands rows found request) → NewestLeaves rows (next_after (page_of l.limit (listing world_names.dir l.after (entries store.files)))) (greatest_from found world_names (page_of l.limit (listing world_names.dir l.after (entries store.files))).metas)
  newest_leaves found request l =
      let metas = (page l.after l.limit).metas in
      let more = (page l.after l.limit).more in
      let p = page_tells l.after l.reached l.limit l.begins (reached_known rows l.reached found l.passed l.known) in
      let known = greatest_known l.reached metas more p found l.known in
      subst (λ (greatest : Option ℕ). NewestLeaves rows (next_after (page l.after l.limit)) greatest) (sym (greatest_told found metas p.ids p.are))
      (by_page (λ (next : Option Segments). NewestLeaves rows next (greatest_of found p.ids)) l.after l.reached l.limit l.room p
      (λ last. is_newest rows (greatest_of found p.ids) known (reaches_newest l.reached metas more p found last l.passed))
      (λ follow limit room. record {
        after = Some (version_path world_names (last_or l.reached p.ids));
        limit = limit;
        room = room;
        asks = refl;
        reached = last_or l.reached p.ids;
        begins = inr refl;
        passed = greatest_reaches l.reached metas more p found l.passed;
        known = known;
      }))

  -- a listing of ids

  -- what was listed, up to an id
  record ListsTo (from to : Bound ℕ) (top : ℕ) (ids : List ℕ) : Type 0 where
    ascending : IsStrictlySortedBy nat_cmp ids
    there : (n : ℕ) → is_in n ids ≡ true → (0 < n) × (n ≤ top) × (is_within from to n ≡ true)
    whole : (n : ℕ) → boundary rows < n → n ≤ top → is_within from to n ≡ true → is_in n ids ≡ true

  module _ (from to : Bound ℕ) (so_far : List ℕ) (request : Request) (c : CollectingStands rows from to so_far request) (metas : List ObjectMeta) (more : Bool) (p : PageTells store.files c.reached metas more) where
    abbrev collected : List ℕ
    collected = so_far ++ filter (is_within from to) p.ids

    collected_in : (n : ℕ) → is_in n so_far ≡ true → is_in n collected ≡ true
    collected_in n h = list_any-append (nat_eq n) so_far (filter (is_within from to) p.ids) ∙ or_left (is_in n so_far) (is_in n (filter (is_within from to) p.ids)) h

    collected_more : (n : ℕ) → is_in n p.ids ≡ true → is_within from to n ≡ true → is_in n collected ≡ true
    collected_more n h within = list_any-append (nat_eq n) so_far (filter (is_within from to) p.ids) ∙ or_right (is_in n so_far) (is_in n (filter (is_within from to) p.ids)) (filter_has (is_within from to) p.ids n h within)

    collected_cases : (n : ℕ) → is_in n collected ≡ true → (is_in n so_far ≡ true) ⊎ ((is_in n p.ids ≡ true) × (is_within from to n ≡ true))
    collected_cases n h =
        elim (or_cases (is_in n so_far) (is_in n (filter (is_within from to) p.ids)) (sym (list_any-append (nat_eq n) so_far (filter (is_within from to) p.ids)) ∙ h)) [
          | inl before ↦ inl before
          | inr among ↦ inr (filter_in (is_within from to) p.ids n among)
        ]

    collected_there : (top : ℕ) → c.reached ≤ top → last_or c.reached p.ids ≤ top → (n : ℕ) → is_in n collected ≡ true → (0 < n) × (n ≤ top) × (is_within from to n ≡ true)
    collected_there top old new n h =
        elim (collected_cases n h) [
          | inl before ↦ (let t = c.there n before in (t.0, omega (arith, t.1, old), t.2))
          | inr among ↦ (let w = ascends_within c.reached p.ids p.ascends n among.0 in (omega (arith, w.0), omega (arith, w.1, new), among.1))
        ]

    collected_whole : (top : ℕ) → top ≤ newest rows → (more ≡ false) ⊎ (top ≤ last_or c.reached p.ids) → (n : ℕ) → boundary rows < n → n ≤ top → is_within from to n ≡ true → is_in n collected ≡ true
    collected_whole top known end n above le within =
        elim (cases_lt c.reached n) [
          | inr done ↦ collected_in n (c.whole n above done within)
          | inl past ↦ collected_more n (on_page c.reached metas more p n above (omega (arith, le, known)) past (elim end [ inl last ↦ inl last | inr most ↦ inr (omega (arith, le, most)) ])) within
        ]

    -- a page more, up to what it reaches
    lists_to : (top : ℕ) → c.reached ≤ top → last_or c.reached p.ids ≤ top → top ≤ newest rows → (more ≡ false) ⊎ (top ≤ last_or c.reached p.ids) → ListsTo from to top collected
    lists_to top old new known end =
        record {
          ascending = sorted_append c.reached so_far (filter (is_within from to) p.ids) c.ascending (λ n h. (c.there n h).1) (filter_ascends (is_within from to) c.reached p.ids p.ascends);
          there = collected_there top old new;
          whole = collected_whole top known end;
        }

    -- the last page has all of them
    lists_all : more ≡ false → ListLeaves rows from to None collected
    lists_all last =
        let l = lists_to (newest rows) c.known (last_known c.reached metas more p c.known) (omega arith) (inl last) in (
          record { ascending = l.ascending; there = λ n h. (let t = l.there n h in ((t.0, t.1), t.2)); whole = l.whole },
          λ n h. (let t = l.there n h in (t.0, t.1)),
        )

    -- where more follow, the next page goes on after the last of this one
    lists_on : ListLeaves rows from to (Some (version_path world_names (last_or c.reached p.ids))) collected
    lists_on limit room =
        let known = last_known c.reached metas more p c.known in
        let l = lists_to (last_or c.reached p.ids) (last_least c.reached p.ids p.ascends) (omega arith) known (inr (omega arith)) in
        record {
          after = Some (version_path world_names (last_or c.reached p.ids));
          limit = limit;
          room = room;
          asks = refl;
          reached = last_or c.reached p.ids;
          begins = inr refl;
          known = known;
          ascending = l.ascending;
          there = l.there;
          whole = l.whole;
        }

  -- what was found, with what a page tells
  found_with : (from to : Bound ℕ) (found : List Listed) (metas : List ObjectMeta) (ids : List ℕ) → AreVersions metas ids → ids_of (found ++ picked world_names from to metas) ≡ ids_of found ++ filter (is_within from to) ids
  found_with from to found metas ids are =
      map-append (λ (listed : Listed). listed.id) found (picked world_names from to metas) ∙ ap (λ (ns : List ℕ). ids_of found ++ ns) (picked_told from to metas ids are)

  -- after a page of a listing of ids
  pub list_leaves : (from to : Bound ℕ) (found : List Listed) (request : Request) → (c : CollectingStands rows from to (ids_of found) request) →
      ListLeaves rows from to (next_after (page_of c.limit (listing world_names.dir c.after (entries store.files)))) (ids_of (found ++ picked world_names from to (page_of c.limit (listing world_names.dir c.after (entries store.files))).metas))
  list_leaves from to found request c =
      let metas = (page c.after c.limit).metas in
      let more = (page c.after c.limit).more in
      let p = page_tells c.after c.reached c.limit c.begins c.known in
      subst (λ (ids : List ℕ). ListLeaves rows from to (next_after (page c.after c.limit)) ids) (sym (found_with from to found metas p.ids p.are))
      (by_page (λ (next : Option Segments). ListLeaves rows from to next (ids_of found ++ filter (is_within from to) p.ids)) c.after c.reached c.limit c.room p
      (lists_all from to (ids_of found) request c metas more p) (λ follow. lists_on from to (ids_of found) request c metas more p))
