-- The pages of one listing, each after the last path of the one before, are the listing, cut.
use Rattle.std.proofs.Common.{◌≡◌, ◌⊎◌, ℕ, zero, suc, ◌+◌, ◌*◌, ◌-◌, ◌<◌, ◌≤◌, ◌&&◌, Bool, true, false, T, List, [], ◌∷◌, length, map, take, drop, filter, slice_get, Option, Some, None, refl, sym, ap, ◌∙◌, inl, inr, arith}
use Rattle.std.specs.Option.{option_map}
use Rattle.std.specs.Int.{div_ceil}
use Rattle.std.specs.FinMap.{entries, is_sorted}
use Rattle.std.specs.FinMap.Entries.{below_all}
use Rattle.std.specs.Ordering.{is_lt}
use Rattle.std.specs.Cmp.{tied_itself}
use Rattle.std.specs.declared.cmp.Ordering.{Ordering}
use Rattle.std.specs.declared.cmp.Ordering.TheVariants.{Less, Equal, Greater}
use Rattle.std.proofs.Math.Nat.{lt_of_mul-lt-mul_right, mul-le-mul_right}
use Rattle.std.proofs.lemmas.Bool.{cases_Bool, and_parts}
use Rattle.std.proofs.lemmas.Grind.{div_ceil_times}
use Rattle.std.proofs.lemmas.List.{length-map, length-take-le, drop-map}
use Rattle.std.proofs.lemmas.Option.{slice_get-map}
use Rattle.txn_store.specs.Paths.{Segments, path_cmp, is_below}
use Rattle.txn_store.specs.Store.{Files, is_above, listing, meta_of}
use Rattle.txn_store.specs.VersionName.{Names}
use Rattle.txn_store.specs.declared.store.Got.{Got}
use Rattle.txn_store.specs.declared.store.ObjectMeta.{ObjectMeta}
use Rattle.txn_store.proofs.EntryLemmas.{is_less, first_behind, rest_behind, first_sorted, rest_sorted}
use Rattle.txn_store.proofs.FileLemmas.{path_cmp_total}
use Rattle.txn_store.proofs.SortedLemmas.{reversed}
use Rattle.txn_steps.specs.Requests.{last_location}
use Rattle.txn_steps_driven.specs.LatestReads.{HasPages}
use Rattle.txn_steps_driven.specs.PageCount.{page_count, pages_below}

get_there : {A : Type 0} (xs : List A) (k : ℕ) → k < length xs → (x : A) × (slice_get xs k ≡ Some x)
get_there [] k lt = absurd (omega (arith, lt))
get_there (x ∷ xs) zero lt = (x, refl)
get_there (x ∷ xs) (suc k) lt = get_there xs k (omega (arith, lt))

get_taken : {A : Type 0} (xs : List A) (n k : ℕ) → k < n → slice_get (take n xs) k ≡ slice_get xs k
get_taken xs zero k lt = absurd (omega (arith, lt))
get_taken [] (suc n) k lt = refl
get_taken (x ∷ xs) (suc n) zero lt = refl
get_taken (x ∷ xs) (suc n) (suc k) lt = get_taken xs n k (omega (arith, lt))

module _ (prefix : Segments) where
  abbrev is_kept : Option Segments → Segments × Got → Bool
  is_kept after e = is_below prefix e.0 && is_above after e.0

  abbrev kept_of : Option Segments → List (Segments × Got) → List (Segments × Got)
  kept_of after es = filter (is_kept after) es

  -- a path that all later ones are behind
  abbrev IsFirst : Segments → List (Segments × Got) → Type 0
  IsFirst path es = T (below_all path_cmp path es)

  -- what is kept of later entries stands behind
  kept_behind : (path : Segments) (after : Option Segments) (es : List (Segments × Got)) → IsFirst path es → (k : ℕ) (e : Segments × Got) → slice_get (kept_of after es) k ≡ Some e → path_cmp path e.0 ≡ Less
  kept_behind path after [] first k e is = cc
  kept_behind path after (x ∷ es) first k e is =
      let less = first_behind path x es first in
      let later : IsFirst path es = rest_behind path x es first in
      elim (cases_Bool (is_kept after x)) [
        | inr out ↦ kept_behind path after es later k e (rw out at is)
        | inl kept ↦ at_place k less (λ j at. kept_behind path after es later j e at) (rw kept at is)
      ]
    where
      at_place : (k : ℕ) → path_cmp path x.0 ≡ Less → ((j : ℕ) → slice_get (kept_of after es) j ≡ Some e → path_cmp path e.0 ≡ Less) → slice_get (x ∷ kept_of after es) k ≡ Some e → path_cmp path e.0 ≡ Less
      at_place zero less rest is = let same : x ≡ e = cc in ap (λ (f : Segments × Got). path_cmp path f.0) (sym same) ∙ less
      at_place (suc k) less rest is = rest k is

  -- behind a path that is above a bound, being above it says nothing more
  up_behind : (after : Option Segments) (x y : Segments) → is_above after x ≡ true → path_cmp x y ≡ Less → is_above after y ≡ true
  up_behind None x y up less = refl
  up_behind (Some a) x y up less = ap is_lt (path_cmp_total.trans a x y (is_less (path_cmp a x) up) less)

  same_behind : (after : Option Segments) (x : Segments) (es : List (Segments × Got)) → is_above after x ≡ true → IsFirst x es → kept_of (Some x) es ≡ kept_of after es
  same_behind after x [] up first = refl
  same_behind after x (y ∷ es) up first =
      let less = first_behind x y es first in
      let rest = same_behind after x es up (rest_behind x y es first) in
      let here : is_kept (Some x) y ≡ is_kept after y = ap (λ (t : Bool). is_below prefix y.0 && t) (ap is_lt less ∙ sym (up_behind after x y.0 up less)) in
      elim (cases_Bool (is_kept after y)) [
        | inl kept ↦ rw (here ∙ kept, kept) (ap (λ (r : List (Segments × Got)). y ∷ r) rest)
        | inr out ↦ rw (here ∙ out, out) rest
      ]

  -- a path is not above one that stands behind it, nor above itself
  not_up : (x y : Segments) (o : Ordering) → path_cmp x y ≡ o → is_lt o ≡ true → is_lt (path_cmp y x) ≡ false
  not_up x y Less is lt = ap is_lt (reversed x y Less is)
  not_up x y Equal is lt = cc
  not_up x y Greater is lt = cc

  dropped : (after : Option Segments) (x : Segments × Got) (es : List (Segments × Got)) → is_above after x.0 ≡ false → kept_of after (x ∷ es) ≡ kept_of after es
  dropped after x es out = elim (cases_Bool (is_below prefix x.0)) [ inl below ↦ rw (below, out) refl | inr other ↦ rw other refl ]

  -- what stands behind one that is kept is what is kept after it
  pub next_kept : (es : List (Segments × Got)) → T (is_sorted path_cmp es) → (after : Option Segments) (k : ℕ) (e : Segments × Got) → slice_get (kept_of after es) k ≡ Some e → kept_of (Some e.0) es ≡ drop (suc k) (kept_of after es)
  next_kept [] sorted after k e is = cc
  next_kept (x ∷ es) sorted after k e is =
      let first : IsFirst x.0 es = first_sorted x es sorted in
      let later : T (is_sorted path_cmp es) = rest_sorted x es sorted in
      elim (cases_Bool (is_kept after x)) [
        | inr out ↦ (let is' : slice_get (kept_of after es) k ≡ Some e = rw out at is in rw out (dropped (Some e.0) x es (not_up x.0 e.0 (path_cmp x.0 e.0) refl (ap is_lt (kept_behind x.0 after es first k e is'))) ∙ next_kept es later after k e is'))
        | inl kept ↦ rw kept (at_place k first (λ j at. next_kept es later after j e at) (and_parts (is_below prefix x.0) (is_above after x.0) kept).1 (rw kept at is))
      ]
    where
      at_place : (k : ℕ) → IsFirst x.0 es → ((j : ℕ) → slice_get (kept_of after es) j ≡ Some e → kept_of (Some e.0) es ≡ drop (suc j) (kept_of after es)) → is_above after x.0 ≡ true → slice_get (x ∷ kept_of after es) k ≡ Some e → kept_of (Some e.0) (x ∷ es) ≡ drop k (kept_of after es)
      at_place zero first rest up is =
          let same : e ≡ x = cc in
          ap (λ (f : Segments × Got). kept_of (Some f.0) (x ∷ es)) same ∙ (dropped (Some x.0) x es (ap is_lt (tied_itself path_cmp_total x.0)) ∙ same_behind after x.0 es up first)
      at_place (suc k) first rest up is = dropped (Some e.0) x es (not_up x.0 e.0 (path_cmp x.0 e.0) refl (ap is_lt (kept_behind x.0 after es first k e is))) ∙ rest k is

  -- where more follow, the next page begins after the last of this one, and lists the rest
  pub next_page : (es : List (Segments × Got)) → T (is_sorted path_cmp es) → (after : Option Segments) (limit : ℕ) → 1 ≤ limit → limit < length (listing prefix after es)
      → (path : Segments) × (last_location (take limit (listing prefix after es)) ≡ Some path) × (listing prefix (Some path) es ≡ drop limit (listing prefix after es))
  next_page es sorted after limit room more =
      let metas = listing prefix after es in
      let long : length metas ≡ length (kept_of after es) = length-map (kept_of after es) meta_of in
      let at : (e : Segments × Got) × (slice_get (kept_of after es) (limit - 1) ≡ Some e) = get_there (kept_of after es) (limit - 1) (omega (arith, room, more, long)) in
      let index : length (take limit metas) - 1 ≡ limit - 1 = (let taken = length-take-le limit metas (omega (arith, more)) in omega (arith, taken)) in
      let got : slice_get (take limit metas) (length (take limit metas) - 1) ≡ Some (meta_of at.0) = ap (slice_get (take limit metas)) index ∙ (get_taken metas limit (limit - 1) (omega (arith, room)) ∙ (slice_get-map meta_of (kept_of after es) (limit - 1) ∙ ap (option_map meta_of) at.1)) in
      let next : suc (limit - 1) ≡ limit = omega (arith, room) in
      (at.0.0, ap (option_map (λ (meta : ObjectMeta). meta.location)) got, ap (map meta_of) (next_kept es sorted after (limit - 1) at.0 at.1 ∙ ap (λ n. drop n (kept_of after es)) next) ∙ sym (drop-map meta_of limit (kept_of after es)))

-- how many pages there are

page_times : (page files : ℕ) → 1 ≤ page → (files ≤ div_ceil files page * page) × (div_ceil files page * page < files + page)
page_times page files room = div_ceil_times files page room

-- a page that has files has a number below that of the pages
pub page_within : (page files told : ℕ) → 1 ≤ page → (told ≡ 0) ⊎ (told * page < files) → told < page_count page files
page_within page files told room (inl none) = omega (arith, none)
page_within page files told room (inr more) =
    let times = (page_times page files room).0 in
    let lt : told * page < div_ceil files page * page = omega (arith, more, times) in
    let below : told < div_ceil files page = lt_of_mul-lt-mul_right page lt in
    omega (arith, below)

-- after the page that reaches the last file, there are as many as were told
pub page_last : (page files told : ℕ) → 1 ≤ page → (told ≡ 0) ⊎ (told * page < files) → files ≤ told * page + page → told + 1 ≡ page_count page files
page_last page files told room more end =
    let low = page_within page files told room more in
    let times = (page_times page files room).1 in
    let twice : (told + 2) * page ≡ told * page + page + page = grind arith in
    let lt : div_ceil files page * page < (told + 2) * page = omega (arith, times, end, twice) in
    let below : div_ceil files page < told + 2 = lt_of_mul-lt-mul_right page lt in
    omega (arith, low, below)

-- the pages have room for all files
pub has_pages : (names : Names) (page : ℕ) (files : Files) → 1 ≤ page → HasPages names page files (pages_below names page files)
has_pages names page files room =
    let count = length (listing names.dir None (entries files)) in
    let times = (page_times page count room).0 in
    let most : div_ceil count page ≤ page_count page count = omega arith in
    let all : div_ceil count page * page ≤ page_count page count * page = mul-le-mul_right page most in
    (omega arith, omega (arith, times, all))
