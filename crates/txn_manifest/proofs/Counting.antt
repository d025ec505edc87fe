-- How many versions a collection removes, how many pages it lists, and what it spends.
use Rattle.std.proofs.Common.{◌≡◌, ℕ, zero, suc, ◌+◌, ◌*◌, ◌<◌, ◌≤◌, ◌^◌, ◌&&◌, Bool, true, false, cond, T, List, [], ◌∷◌, length, map, filter, get_or, Option, None, is_some, refl, sym, ◌∙◌, ap, subst, inl, inr, arith}
use Rattle.std.specs.Prelude.{nat_eq, nat_lt, ◌||◌}
use Rattle.std.specs.List.{list_any, range_with_len, AllByRecursion}
use Rattle.std.specs.List.Sorted.{IsStrictlySortedBy}
use Rattle.std.specs.Int.{div_ceil}
use Rattle.std.specs.Set.{is_member}
use Rattle.std.specs.Cmp.{tied_itself}
use Rattle.std.specs.Ordering.{nat_cmp, eq_by_cmp, is_eq, is_lt}
use Rattle.std.specs.declared.cmp.Ordering.{Ordering}
use Rattle.std.specs.declared.cmp.Ordering.TheVariants.{Less, Equal, Greater}
use Rattle.std.specs.FinMap as finmap
use Rattle.std.specs.FinMap.Entries.{is_sorted, below_all, where_key, is_some-find, find-where_key, is_sorted-where_key}
use Rattle.std.proofs.lemmas.Bool.{cases_Bool, both_ways, and_parts, ltb-true, eq-eqb, eqb-true}
use Rattle.std.proofs.lemmas.Cmp.{eq_by_cmp_equiv, nat_cmp_total}
use Rattle.std.proofs.lemmas.Grind.{div_ceil_times}
use Rattle.std.proofs.lemmas.List.{length-map}
use Rattle.std.proofs.lemmas.List.FromFn.{length-range_with_len, get_or-range_with_len}
use Rattle.std.proofs.lemmas.List.Folds.{list_any_at}
use Rattle.std.proofs.lemmas.List.Kept.{IsStrictlySortedBy-filter}
use Rattle.std.proofs.lemmas.Map.Keys.{IsDistinct-from_sorted}
use Rattle.std.proofs.lemmas.Map.Made.{length-le_from_is_member}
use Rattle.std.proofs.Math.Nat.{lt_of_mul-lt-mul_right, le_antisymm, div-zero, mod-zero}
use Rattle.txn_store.specs.Paths.{Segments, path_cmp, is_below}
use Rattle.txn_store.specs.VersionName.{Names, version_path}
use Rattle.txn_store.specs.Store.{Files, State, meta_of, is_above}
use Rattle.txn_store.specs.declared.store.Got.{Got}
use Rattle.txn_store.proofs.FileLemmas.{path_cmp_total, path_cmp-IsAntisymmetric}
use Rattle.txn_steps_driven.specs.Calls.{SameBut, Spends, SpendsTurns, one_if}
use Rattle.txn_steps_driven.specs.PageCount.{pages_below, files_below}
use Rattle.txn_manifest.specs.Collected.{is_spare_file, is_unpinned, spare_count, pages_listed, calls_beside_turns}

pub and_false : (b : Bool) → (b && false) ≡ false
and_false true = refl
and_false false = refl

-- an id is among those that pass a test
pub any_filtered : (p : ℕ → Bool) (ids : List ℕ) (n : ℕ) → list_any (nat_eq n) (filter p ids) ≡ (list_any (nat_eq n) ids && p n)
any_filtered p [] n = refl
any_filtered p (id ∷ ids) n = by (p id) (nat_eq n id) refl refl (any_filtered p ids n)
  where
    by : (b c : Bool) → p id ≡ b → nat_eq n id ≡ c → list_any (nat_eq n) (filter p ids) ≡ (list_any (nat_eq n) ids && p n) → list_any (nat_eq n) (cond (p id) (id ∷ filter p ids) (filter p ids)) ≡ ((nat_eq n id || list_any (nat_eq n) ids) && p n)
    by true true passes same rest = (let here : p n ≡ true = ap p (eqb-true n id same) ∙ passes in rw (passes, same, here) refl)
    by true false passes same rest = rw (passes, same) rest
    by false true passes same rest = (let here : p n ≡ false = ap p (eqb-true n id same) ∙ passes in rw (passes, same, rest, here) (and_false (list_any (nat_eq n) ids)))
    by false false passes same rest = rw (passes, same) rest

-- numbers in a row ascend, and each below their end is there

rises_after : (low a n : ℕ) → low < a → AllByRecursion (λ y. nat_cmp low y ≡ Less) (range_with_len a n)
rises_after low a zero lt = tt
rises_after low a (suc n) lt = (less low a lt, rises_after low (a + 1) n (omega (arith, lt)))
  where
    less : (x y : ℕ) → x < y → nat_cmp x y ≡ Less
    less x y lt = grind (arith, lt)

range_rises : (a n : ℕ) → IsStrictlySortedBy nat_cmp (range_with_len a n)
unfolding IsStrictlySortedBy
range_rises a zero = tt
range_rises a (suc n) = (rises_after a (a + 1) n (omega arith), range_rises (a + 1) n)

range_has : (newest n : ℕ) → n < newest → list_any (nat_eq n) (range_with_len 0 newest) ≡ true
range_has newest n lt =
    let long : n < length (range_with_len 0 newest) = omega (arith, length-range_with_len 0 newest, lt) in
    list_any_at (nat_eq n) (range_with_len 0 newest) n 0 long (eq-eqb n (get_or (range_with_len 0 newest) n 0) (omega (arith, get_or-range_with_len 0 newest n 0 lt)))

-- two numbers tie where they are one
ties : (a b : ℕ) → eq_by_cmp nat_cmp a b ≡ nat_eq a b
ties a b = grind arith

any_tied : (n : ℕ) (ids : List ℕ) → is_member (eq_by_cmp nat_cmp) ids n ≡ list_any (nat_eq n) ids
any_tied n [] = refl
any_tied n (id ∷ ids) = rw (ties n id, any_tied n ids) refl

-- an ascending list is no longer than one that has all that it has
shorter : (xs ys : List ℕ) → IsStrictlySortedBy nat_cmp xs → ((n : ℕ) → list_any (nat_eq n) xs ≡ true → list_any (nat_eq n) ys ≡ true) → length xs ≤ length ys
shorter xs ys sorted within =
    length-le_from_is_member (eq_by_cmp_equiv nat_cmp_total) xs ys (IsDistinct-from_sorted nat_cmp xs sorted)
    (λ n e. any_tied n ys ∙ within n (sym (any_tied n xs) ∙ e))

module _ (names : Names) (newest : ℕ) (pins : List ℕ) (files : Files) (small : newest < 2 ^ 64) where
  both : (b c : Bool) → b ≡ true → c ≡ true → (b && c) ≡ true
  both b c e f = rw (e, f) refl

  spare_rises : IsStrictlySortedBy nat_cmp (filter (is_spare_file names newest pins files) (range_with_len 0 newest))
  spare_rises = IsStrictlySortedBy-filter nat_cmp (is_spare_file names newest pins files) (range_with_len 0 newest) (range_rises 0 newest)

  below : (n : ℕ) → is_spare_file names newest pins files n ≡ true → n < newest
  below n e = ltb-true n newest (and_parts (nat_lt n newest) (is_unpinned pins n) (and_parts (nat_lt n newest && is_unpinned pins n) (is_some (finmap.get files (version_path names n))) e).0).0

  spare_has : (n : ℕ) → is_spare_file names newest pins files n ≡ true → list_any (nat_eq n) (filter (is_spare_file names newest pins files) (range_with_len 0 newest)) ≡ true
  spare_has n e = any_filtered (is_spare_file names newest pins files) (range_with_len 0 newest) n ∙ both (list_any (nat_eq n) (range_with_len 0 newest)) (is_spare_file names newest pins files n) (range_has newest n (below n e)) e

  spare_only : (n : ℕ) → list_any (nat_eq n) (filter (is_spare_file names newest pins files) (range_with_len 0 newest)) ≡ true → is_spare_file names newest pins files n ≡ true
  spare_only n e = (and_parts (list_any (nat_eq n) (range_with_len 0 newest)) (is_spare_file names newest pins files n) (sym (any_filtered (is_spare_file names newest pins files) (range_with_len 0 newest) n) ∙ e)).1

  -- so many versions are removed as are spare
  pub counted_all : (ids : List ℕ) → IsStrictlySortedBy nat_cmp ids → ((n : ℕ) → list_any (nat_eq n) ids ≡ true → n < 2 ^ 64) → ((n : ℕ) → n < 2 ^ 64 → list_any (nat_eq n) ids ≡ is_spare_file names newest pins files n) → length ids ≡ spare_count names newest pins files
  counted_all ids sorted fit same =
      le_antisymm
      (shorter ids (filter (is_spare_file names newest pins files) (range_with_len 0 newest)) sorted (λ n e. spare_has n (sym (same n (fit n e)) ∙ e)))
      (shorter (filter (is_spare_file names newest pins files) (range_with_len 0 newest)) ids spare_rises (λ n e. (
      let is = spare_only n e in
      same n (omega (arith, below n is, small)) ∙ is
      )))

-- files of which one may be new

lt_less : (o : Ordering) → T (is_lt o) → o ≡ Less
lt_less Less h = refl
lt_less Equal h = absurd h
lt_less Greater h = absurd h

both_hold : (a b : Bool) → T (a && b) → T a × T b
both_hold true true h = (tt, tt)
both_hold true false h = absurd h
both_hold false b h = absurd h

keys_after : (path : Segments) (es : List (Segments × Got)) → T (below_all path_cmp path es) → AllByRecursion (λ q. path_cmp path q ≡ Less) (map (λ e. e.0) es)
keys_after path [] h = tt
keys_after path (e ∷ es) h = let parts = both_hold (is_lt (path_cmp path e.0)) (below_all path_cmp path es) h in (lt_less (path_cmp path e.0) parts.0, keys_after path es parts.1)

keys_rise : (es : List (Segments × Got)) → T (is_sorted path_cmp es) → IsStrictlySortedBy path_cmp (map (λ e. e.0) es)
unfolding IsStrictlySortedBy
keys_rise [] h = tt
keys_rise (e ∷ es) h = let parts = both_hold (below_all path_cmp e.0 es) (is_sorted path_cmp es) h in (keys_after e.0 es parts.0, keys_rise es parts.1)

cond_some : (t : Bool) (o : Option Got) → is_some (cond t o None) ≡ true → (t ≡ true) × (is_some o ≡ true)
cond_some true o e = (refl, e)
cond_some false o e = absurd (cc)

some_cond : (t : Bool) (o : Option Got) → t ≡ true → is_some o ≡ true → is_some (cond t o None) ≡ true
some_cond t o is some = rw is some

is_tie : (o : Ordering) → is_eq o ≡ true → o ≡ Equal
is_tie Less e = absurd (cc)
is_tie Equal e = refl
is_tie Greater e = absurd (cc)

module _ (names : Names) (boundary : Segments) (old new : Files) (others : (other : Segments) → (other ≡ boundary → ⊥) → finmap.get new other ≡ finmap.get old other) where
  abbrev here : Segments → Bool
  here q = is_below names.dir q && is_above None q

  abbrev listed_keys : Files → List Segments
  listed_keys files = map (λ e. e.0) (where_key path_cmp here (finmap.entries files))

  abbrev with_boundary : List Segments
  with_boundary = cond (here boundary) (boundary ∷ listed_keys old) (listed_keys old)

  keys_length : (files : Files) → length (files_below names files) ≡ length (listed_keys files)
  keys_length files = length-map (where_key path_cmp here (finmap.entries files)) meta_of ∙ sym (length-map (where_key path_cmp here (finmap.entries files)) (λ e. e.0))

  same_here : (q x : Segments) → path_cmp q x ≡ Equal → here x ≡ here q
  same_here q x tied = ap here (sym (path_cmp-IsAntisymmetric q x tied))

  member_is : (files : Files) (q : Segments) → is_member (eq_by_cmp path_cmp) (listed_keys files) q ≡ is_some (cond (here q) (finmap.get files q) None)
  member_is files q =
      sym (is_some-find path_cmp q (where_key path_cmp here (finmap.entries files)))
      ∙ (ap (λ (o : Option Got). is_some o) (find-where_key path_cmp here q (same_here q) (finmap.entries files))
      ∙ ap (λ (o : Option Got). is_some (cond (here q) o None)) (sym (finmap.get-entries files q)))

  within : (q : Segments) → is_member (eq_by_cmp path_cmp) (listed_keys new) q ≡ true → is_member (eq_by_cmp path_cmp) with_boundary q ≡ true
  within q e = by (eq_by_cmp path_cmp q boundary) refl
    where
      there : (here q ≡ true) × (is_some (finmap.get new q) ≡ true)
      there = cond_some (here q) (finmap.get new q) (sym (member_is new q) ∙ e)

      apart : eq_by_cmp path_cmp q boundary ≡ false → q ≡ boundary → ⊥
      apart is same = both_ways (eq_by_cmp path_cmp q boundary) is (subst (λ (p : Segments). eq_by_cmp path_cmp q p ≡ true) same (ap is_eq (tied_itself path_cmp_total q)))

      by : (b : Bool) → eq_by_cmp path_cmp q boundary ≡ b → is_member (eq_by_cmp path_cmp) with_boundary q ≡ true
      by true is =
          let at : here boundary ≡ true = ap here (sym (path_cmp-IsAntisymmetric q boundary (is_tie (path_cmp q boundary) is))) ∙ there.0 in
          rw (at, is) refl
      by false is =
          let before : is_member (eq_by_cmp path_cmp) (listed_keys old) q ≡ true = member_is old q ∙ some_cond (here q) (finmap.get old q) there.0 (ap (λ (o : Option Got). is_some o) (sym (others q (apart is))) ∙ there.1) in
          elim (cases_Bool (here boundary)) [
            | inl on ↦ rw (on, is) before
            | inr off ↦ rw off before
          ]

  count_with : length with_boundary ≡ length (listed_keys old) + one_if (here boundary)
  count_with = elim (cases_Bool (here boundary)) [ inl on ↦ rw on (omega arith) | inr off ↦ rw off (omega arith) ]

  one_here : one_if (here boundary) ≤ one_if (is_below names.dir boundary)
  one_here = by (is_below names.dir boundary) (is_above None boundary)
    where
      by : (a b : Bool) → one_if (a && b) ≤ one_if a
      by true true = omega arith
      by true false = omega arith
      by false b = omega arith

  fewer : length (files_below names new) ≤ length (files_below names old) + one_if (is_below names.dir boundary)
  fewer =
      let most = length-le_from_is_member (eq_by_cmp_equiv path_cmp_total) (listed_keys new) with_boundary (IsDistinct-from_sorted path_cmp (listed_keys new) (keys_rise (where_key path_cmp here (finmap.entries new)) (is_sorted-where_key path_cmp here (finmap.entries new) (finmap.entries_sorted new)))) within in
      omega (arith, most, keys_length new, keys_length old, count_with, one_here)

-- more files make no fewer pages
quotient_rises : (page n n' : ℕ) → n' ≤ n → div_ceil n' page ≤ div_ceil n page
quotient_rises zero n n' le = rw (div-zero n, div-zero n', mod-zero n, mod-zero n') (omega (arith, le))
quotient_rises (suc page) n n' le =
    let old = (div_ceil_times n (suc page) (omega arith)).0 in
    let new = (div_ceil_times n' (suc page) (omega arith)).1 in
    let one : (div_ceil n (suc page) + 1) * suc page ≡ div_ceil n (suc page) * suc page + suc page = grind arith in
    let lt : div_ceil n' (suc page) * suc page < (div_ceil n (suc page) + 1) * suc page = omega (arith, old, new, one, le) in
    let less = lt_of_mul-lt-mul_right (suc page) lt in
    omega (arith, less)

-- what an advance leaves of the pages
pub pages_advanced : (names : Names) (page : ℕ) (boundary : Segments) (old new : Files) → ((other : Segments) → (other ≡ boundary → ⊥) → finmap.get new other ≡ finmap.get old other) → pages_below names page new ≤ pages_listed names page boundary old
pages_advanced names page boundary old new others =
    let less = quotient_rises page (length (files_below names old) + one_if (is_below names.dir boundary)) (length (files_below names new)) (fewer names boundary old new others) in
    omega (arith, less)

-- what is spent one after another

pub spends_more : (each beside beside' tokens turns turns' : ℕ) (old new : State) → beside ≤ beside' → SpendsTurns each beside tokens turns turns' old new → SpendsTurns each beside' tokens turns turns' old new
spends_more each beside beside' tokens turns turns' old new le s = record {
  turns_fall = s.turns_fall;
  calls_rise = s.calls_rise;
  calls_most = omega (arith, s.calls_most, le);
  failures_rise = s.failures_rise;
  left_falls = s.left_falls;
  left_least = s.left_least;
}

pub spends_then : (each beside calls tokens turns turns' : ℕ) (old middle new : State) → SpendsTurns each beside tokens turns turns' old middle → Spends calls 0 middle new → SpendsTurns each (beside + calls) tokens turns turns' old new
spends_then each beside calls tokens turns turns' old middle new s t = record {
  turns_fall = s.turns_fall;
  calls_rise = omega (arith, s.calls_rise, t.calls_rise);
  calls_most = omega (arith, s.calls_most, t.calls_most);
  failures_rise = omega (arith, s.failures_rise, t.failures_rise);
  left_falls = omega (arith, s.left_falls, t.left_falls);
  left_least = omega (arith, s.left_least, t.left_least);
}

-- an advance, a listing, and removals
module _ (names now : Names) (page page' : ℕ) (boundary : Segments) (turns left : ℕ) (old middle listed : State) (same : now ≡ names) (same_page : page' ≡ page) (others : SameBut boundary old middle) (advances : SpendsTurns 2 1 1 turns left old middle) (lists : Spends (pages_below now page' middle.files) 0 middle listed) where
  pages_few : pages_below now page' middle.files ≤ pages_listed names page boundary old.files
  pages_few = rw (same, same_page) (pages_advanced names page boundary old.files middle.files others)

  listing_spends : SpendsTurns 2 (1 + pages_listed names page boundary old.files) 1 turns left old listed
  listing_spends = spends_more 2 (1 + pages_below now page' middle.files) (1 + pages_listed names page boundary old.files) 1 turns left old listed (omega (arith, pages_few)) (spends_then 2 1 (pages_below now page' middle.files) 1 turns left old middle listed advances lists)

  pub listed_spends : (newest : ℕ) (pins : List ℕ) → SpendsTurns 2 (calls_beside_turns names page boundary newest pins old.files) 1 turns left old listed
  listed_spends newest pins = spends_more 2 (1 + pages_listed names page boundary old.files) (calls_beside_turns names page boundary newest pins old.files) 1 turns left old listed (omega arith) listing_spends

  pub removed_spends : (newest : ℕ) (pins : List ℕ) (count : ℕ) (new : State) → count ≡ spare_count names newest pins old.files → Spends (2 * count) 0 listed new → SpendsTurns 2 (calls_beside_turns names page boundary newest pins old.files) 1 turns left old new
  removed_spends newest pins count new all removes = spends_more 2 (1 + pages_listed names page boundary old.files + 2 * count) (calls_beside_turns names page boundary newest pins old.files) 1 turns left old new (omega (arith, all)) (spends_then 2 (1 + pages_listed names page boundary old.files) (2 * count) 1 turns left old listed new listing_spends removes)

-- a refresh, and then a collection at the version that it found
pub spends_after : (beside turns middle left : ℕ) (old between new : State) → SpendsTurns 7 0 0 turns middle old between → SpendsTurns 2 beside 1 middle left between new → SpendsTurns 7 beside 1 turns left old new
spends_after beside turns middle left old between new s t = record {
  turns_fall = omega (arith, s.turns_fall, t.turns_fall);
  calls_rise = omega (arith, s.calls_rise, t.calls_rise);
  calls_most = omega (arith, s.calls_most, t.calls_most, t.turns_fall);
  failures_rise = omega (arith, s.failures_rise, t.failures_rise);
  left_falls = omega (arith, s.left_falls, t.left_falls);
  left_least = omega (arith, s.left_least, t.left_least);
}

-- removals one after another
pub spends_none : (old : State) → Spends (2 * 0) 0 old old
spends_none old = record {
  calls_rise = omega arith;
  calls_most = omega arith;
  failures_rise = omega arith;
  left_falls = omega arith;
  left_least = omega arith;
}

pub spends_next : (k n : ℕ) (old middle new : State) → k < n → Spends (2 * k) 0 old middle → Spends 2 0 middle new → Spends (2 * (k + 1)) 0 old new × Spends (2 * n) 0 old new
spends_next k n old middle new lt s t = (
  record {
    calls_rise = omega (arith, s.calls_rise, t.calls_rise);
    calls_most = omega (arith, s.calls_most, t.calls_most);
    failures_rise = omega (arith, s.failures_rise, t.failures_rise);
    left_falls = omega (arith, s.left_falls, t.left_falls);
    left_least = omega (arith, s.left_least, t.left_least);
  },
  record {
    calls_rise = omega (arith, s.calls_rise, t.calls_rise);
    calls_most = omega (arith, s.calls_most, t.calls_most, lt);
    failures_rise = omega (arith, s.failures_rise, t.failures_rise);
    left_falls = omega (arith, s.left_falls, t.left_falls);
    left_least = omega (arith, s.left_least, t.left_least);
  },
)
