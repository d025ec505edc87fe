-- The ids of the versions within bounds, of all files below the directory.
use Rattle.std.proofs.Common.{◌≡◌, ◌⊎◌, ℕ, ◌<◌, ◌^◌, ◌==◌, Bool, true, false, T, List, [], ◌∷◌, cond, Option, Some, None, refl, sym, ap, subst, ◌∙◌, inl, inr, arith}
use Rattle.std.specs.List.{list_any, AllByRecursion}
use Rattle.std.specs.List.Sorted.{IsStrictlySortedBy}
use Rattle.std.specs.FinMap.{entries, get, is_sorted, entries_sorted, get-entries, contains_key-keys}
use Rattle.std.specs.FinMap.Entries.{below_all, find}
use Rattle.std.specs.Ordering.{nat_cmp, eq_by_cmp, is_eq}
use Rattle.std.specs.Cmp.{nat_cmp_is, tied_itself}
use Rattle.std.specs.declared.cmp.Ordering.TheVariants.{Less, Equal}
use Rattle.std.specs.declared.ops.Bound.{Bound}
use Rattle.std.proofs.lemmas.Bool.{cases_Bool, or_cases, or_left, or_right, eqb-true, eq-eqb}
use Rattle.txn_store.specs.Paths.{Segments, path_cmp, is_below}
use Rattle.txn_store.specs.VersionName.{Names, version_path}
use Rattle.txn_store.specs.VersionOf.{version_of}
use Rattle.txn_store.specs.Store.{Files, listing, meta_of}
use Rattle.txn_store.specs.declared.store.Got.{Got}
use Rattle.txn_store.proofs.FileLemmas.{path_cmp_total}
use Rattle.txn_store.proofs.EntryLemmas.{is_at, at_first, at_rest, at_cases, later, first_sorted, rest_sorted}
use Rattle.txn_store.proofs.VersionOfLemmas.{version_of_path, path_of_version, version_below, one_path}
use Rattle.txn_store.proofs.VersionOrder.{path_up}
use Rattle.txn_store.specs.types.Numbers.{is_within}
use Rattle.txn_steps.specs.Listed.{Listed}
use Rattle.txn_steps.specs.Picked.{picked}
use Rattle.txn_steps_driven.specs.PageCount.{files_below}
use Rattle.txn_steps_driven.specs.ListRuns.{ids_of, is_listed, AreStored, AreTold}

-- an id among others

in_first : (n id : ℕ) (ids : List ℕ) → n ≡ id → list_any (λ m. n == m) (id ∷ ids) ≡ true
in_first n id ids e = or_left (n == id) (list_any (λ m. n == m) ids) (eq-eqb n id e)

in_rest : (n id : ℕ) (ids : List ℕ) → list_any (λ m. n == m) ids ≡ true → list_any (λ m. n == m) (id ∷ ids) ≡ true
in_rest n id ids h = or_right (n == id) (list_any (λ m. n == m) ids) h

in_cases : (n id : ℕ) (ids : List ℕ) → list_any (λ m. n == m) (id ∷ ids) ≡ true → (n ≡ id) ⊎ (list_any (λ m. n == m) ids ≡ true)
in_cases n id ids h = elim (or_cases (n == id) (list_any (λ m. n == m) ids) h) [ inl here ↦ inl (eqb-true n id here) | inr rest ↦ inr rest ]

all_in : (low : ℕ) (ids : List ℕ) → ((n : ℕ) → list_any (λ m. n == m) ids ≡ true → low < n) → AllByRecursion (λ n. nat_cmp low n ≡ Less) ids
all_in low [] up = tt
all_in low (id ∷ ids) up = (sym (nat_cmp_is low id Less (up id (in_first id id ids refl))), all_in low ids (λ n h. up n (in_rest n id ids h)))

-- what is got of each entry is what stands there

abbrev AllGot : (Segments → Option Got) → List (Segments × Got) → Type 0
AllGot gets [] = Unit {0}
AllGot gets (e ∷ es) = (gets e.0 ≡ Some e.1) × AllGot gets es

carried : (gets gets' : Segments → Option Got) (es : List (Segments × Got)) → ((q : Segments) → is_at q es ≡ true → gets' q ≡ gets q) → AllGot gets es → AllGot gets' es
carried gets gets' [] same all = tt
carried gets gets' (e ∷ es) same all = (same e.0 (at_first e es e.0 refl) ∙ all.0, carried gets gets' es (λ q at. same q (at_rest e es q at)) all.1)

apart : (e : Segments × Got) (es : List (Segments × Got)) → T (below_all path_cmp e.0 es) → (q : Segments) → is_at q es ≡ true → eq_by_cmp path_cmp q e.0 ≡ false
apart e es below q at = elim (cases_Bool (eq_by_cmp path_cmp q e.0)) [
  | inl ties ↦ elim (at_cases e [] q (or_left (eq_by_cmp path_cmp q e.0) false ties)) [
    | inl same ↦ (let clash : Less ≡ Equal = sym (later e.0 es below q at) ∙ (ap (path_cmp e.0) same ∙ tied_itself path_cmp_total e.0) in absurd (cc))
    | inr none ↦ absurd (cc)
  ]
  | inr other ↦ other
]

all_got : (es : List (Segments × Got)) → T (is_sorted path_cmp es) → AllGot (λ q. find path_cmp q es) es
all_got [] sorted = tt
all_got (e ∷ es) sorted = (
  ap (λ o. cond (is_eq o) (Some e.1) (find path_cmp e.0 es)) (tied_itself path_cmp_total e.0),
  carried (λ q. find path_cmp q es) (λ q. find path_cmp q (e ∷ es)) es (λ q at. ap (λ b. cond b (Some e.1) (find path_cmp q es)) (apart e es (first_sorted e es sorted) q at)) (all_got es (rest_sorted e es sorted)),
)

files_got : (files : Files) → AllGot (get files) (entries files)
files_got files = carried (λ q. find path_cmp q (entries files)) (get files) (entries files) (λ q at. get-entries files q) (all_got (entries files) (entries_sorted files))

module _ (names : Names) (from to : Bound ℕ) where
  abbrev chosen : List (Segments × Got) → List Listed
  chosen es = picked names from to (listing names.dir None es)

  -- one more entry: it is a version within the bounds, whose id comes first, or nothing comes of it
  record IsChosen (e : Segments × Got) (es : List (Segments × Got)) : Type 0 where
    id : ℕ
    fits : id < 2 ^ 64
    within : is_within from to id ≡ true
    path : e.0 ≡ version_path names id
    ids : ids_of (chosen (e ∷ es)) ≡ id ∷ ids_of (chosen es)

  record IsPassed (e : Segments × Got) (es : List (Segments × Got)) : Type 0 where
    ids : ids_of (chosen (e ∷ es)) ≡ ids_of (chosen es)
    none : (n : ℕ) → n < 2 ^ 64 → is_within from to n ≡ true → version_path names n ≡ e.0 → ⊥

  by_version : (e : Segments × Got) (es : List (Segments × Got)) → is_below names.dir e.0 ≡ true → (version : Option ℕ) → version_of names e.0 ≡ version → IsChosen e es ⊎ IsPassed e es
  by_version e es below None is = inr (record {
    ids = rw (below, is) refl;
    none = λ n fits within path. let named : version_of names e.0 ≡ Some n = ap (version_of names) (sym path) ∙ version_of_path names n fits in let clash : None ≡ Some n = sym is ∙ named in absurd (cc);
  })
  by_version e es below (Some id) is =
      let path = path_of_version names e.0 id is in
      elim (cases_Bool (is_within from to id)) [
        | inl within ↦ inl (record { id = id; fits = path.1; within = within; path = path.0; ids = rw (below, is, within) refl })
        | inr outside ↦ inr (record {
          ids = rw (below, is, outside) refl;
          none = λ n fits within at.
              let same : n ≡ id = one_path names n id fits path.1 (at ∙ path.0) in
              let clash : true ≡ false = sym within ∙ (ap (is_within from to) same ∙ outside) in
              absurd (cc);
        })
      ]

  one_more : (e : Segments × Got) (es : List (Segments × Got)) → IsChosen e es ⊎ IsPassed e es
  one_more e es =
      elim (cases_Bool (is_below names.dir e.0)) [
        | inl below ↦ by_version e es below (version_of names e.0) refl
        | inr other ↦ inr (record {
          ids = rw other refl;
          none = λ n fits within path. let below : is_below names.dir e.0 ≡ true = ap (is_below names.dir) (sym path) ∙ version_below names n in let clash : true ≡ false = sym below ∙ other in absurd (cc);
        })
      ]

  abbrev is_chosen : ℕ → List (Segments × Got) → Bool
  is_chosen n es = is_listed n (chosen es)

  -- each id is that of an entry
  each_stored : (es : List (Segments × Got)) (n : ℕ) → is_chosen n es ≡ true → (n < 2 ^ 64) × (is_within from to n ≡ true) × (is_at (version_path names n) es ≡ true)
  each_stored [] n h = cc
  each_stored (e ∷ es) n h = elim (one_more e es) [
    | inl one ↦
        elim (in_cases n one.id (ids_of (chosen es)) (subst (λ ids. list_any (λ m. n == m) ids ≡ true) one.ids h)) [
          | inl here ↦
              let fits = one.fits in
              (omega (arith, here, fits), ap (is_within from to) here ∙ one.within, at_first e es (version_path names n) (ap (version_path names) here ∙ sym one.path))
          | inr rest ↦ (let s = each_stored es n rest in (s.0, s.1, at_rest e es (version_path names n) s.2))
        ]
    | inr none ↦ (let s = each_stored es n (subst (λ ids. list_any (λ m. n == m) ids ≡ true) none.ids h) in (s.0, s.1, at_rest e es (version_path names n) s.2))
  ]

  -- each version within the bounds is there
  all_stored : (es : List (Segments × Got)) (n : ℕ) → n < 2 ^ 64 → is_within from to n ≡ true → is_at (version_path names n) es ≡ true → is_chosen n es ≡ true
  all_stored [] n fits within at = cc
  all_stored (e ∷ es) n fits within at = elim (one_more e es) [
    | inl one ↦ subst (λ ids. list_any (λ m. n == m) ids ≡ true) (sym one.ids) (elim (at_cases e es (version_path names n) at) [
      | inl here ↦ in_first n one.id (ids_of (chosen es)) (one_path names n one.id fits one.fits (here ∙ one.path))
      | inr rest ↦ in_rest n one.id (ids_of (chosen es)) (all_stored es n fits within rest)
    ])
    | inr none ↦ subst (λ ids. list_any (λ m. n == m) ids ≡ true) (sym none.ids) (elim (at_cases e es (version_path names n) at) [
      | inl here ↦ absurd (none.none n fits within here)
      | inr rest ↦ all_stored es n fits within rest
    ])
  ]

  -- they ascend
  ascending : (es : List (Segments × Got)) → T (is_sorted path_cmp es) → IsStrictlySortedBy nat_cmp (ids_of (chosen es))
  unfolding IsStrictlySortedBy
  ascending [] sorted = tt
  ascending (e ∷ es) sorted =
      let rest = ascending es (rest_sorted e es sorted) in
      let first : T (below_all path_cmp e.0 es) = first_sorted e es sorted in
      elim (one_more e es) [
        | inl one ↦ subst (IsStrictlySortedBy nat_cmp) (sym one.ids)
            (all_in one.id (ids_of (chosen es)) (λ n h. path_up names one.id n one.fits (ap (λ p. path_cmp p (version_path names n)) (sym one.path) ∙ later e.0 es first (version_path names n) (each_stored es n h).2)), rest)
        | inr none ↦ subst (IsStrictlySortedBy nat_cmp) (sym none.ids) rest
      ]

  -- what is told of each is so
  told_so : (files : Files) (e : Segments × Got) (es : List (Segments × Got)) → is_below names.dir e.0 ≡ true → AllGot (get files) (e ∷ es) → AreTold (version_path names) files (chosen es) → (version : Option ℕ) → version_of names e.0 ≡ version → AreTold (version_path names) files (chosen (e ∷ es))
  told_so files e es below got rest None is = rw (below, is) rest
  told_so files e es below got rest (Some id) is =
      let path = path_of_version names e.0 id is in
      elim (cases_Bool (is_within from to id)) [
        | inl within ↦ rw (below, is, within) (record { got = e.1; stands = ap (get files) (sym path.0) ∙ got.0; metadata = ap (λ (p : Segments). meta_of (p, e.1)) path.0 }, rest)
        | inr outside ↦ rw (below, is, outside) rest
      ]

  told_all : (files : Files) (es : List (Segments × Got)) → AllGot (get files) es → AreTold (version_path names) files (chosen es)
  told_all files [] got = tt
  told_all files (e ∷ es) got =
      let rest = told_all files es got.1 in
      elim (cases_Bool (is_below names.dir e.0)) [
        | inl below ↦ told_so files e es below got rest (version_of names e.0) refl
        | inr other ↦ rw other rest
      ]

  pub are_told : (files : Files) → AreTold (version_path names) files (picked names from to (files_below names files))
  are_told files = told_all files (entries files) (files_got files)

  pub are_stored : (files : Files) → AreStored names from to files (picked names from to (files_below names files))
  are_stored files = record {
    ascend = ascending (entries files) (entries_sorted files);
    stored = λ n h. (let s = each_stored (entries files) n h in (s.0, s.1, contains_key-keys files (version_path names n) ∙ s.2));
    all = λ n fits within there. all_stored (entries files) n fits within (sym (contains_key-keys files (version_path names n)) ∙ there);
  }
