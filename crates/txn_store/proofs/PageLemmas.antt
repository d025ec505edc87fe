-- A page: the files behind its beginning and before the end of the prefix are those of the listing.
use Rattle.std.proofs.Common.{◌≡◌, ℕ, zero, suc, ◌-◌, ◌≤◌, Bool, true, false, cond, not, ◌&&◌, min, List, [], ◌∷◌, length, take, drop, map, filter, Option, Some, None, refl, sym, ap, ◌∙◌, arith}
use Rattle.std.specs.Prelude.{nat_lt}
use Rattle.std.specs.List.{AllByRecursion}
use Rattle.std.specs.Ordering.{is_lt}
use Rattle.std.specs.declared.cmp.Ordering.{Ordering}
use Rattle.std.specs.declared.cmp.Ordering.TheVariants.{Less, Equal, Greater}
use Rattle.std.proofs.lemmas.List.{length-take-le, take-map, length-map}
use Rattle.txn_store.specs.Paths.{Segments, path_cmp, is_below}
use Rattle.txn_store.specs.Store.{is_above, listing, page_of, meta_of}
use Rattle.txn_store.specs.Sorted.{side, AllAt, IsUpTo, IsBehind, further}
use Rattle.txn_store.specs.declared.store.Got.{Got}
use Rattle.txn_store.specs.declared.store.ObjectMeta.{ObjectMeta}
use Rattle.txn_store.specs.declared.sorted.Mark.TheVariants.{Path, End}
use Rattle.txn_store.proofs.BelowLemmas.{below_above}
use Rattle.txn_store.proofs.EntryLemmas.{Entries, is_less}
use Rattle.txn_store.proofs.FileLemmas.{path_cmp_total}
use Rattle.txn_store.proofs.SortedLemmas.{reversed}

and_none : (a b : Bool) → b ≡ false → (a && b) ≡ false
and_none true b h = h
and_none false b h = refl

-- a path that does not stand behind another one is not above it
not_above : (x y : Segments) (o : Ordering) → path_cmp x y ≡ o → IsUpTo o → is_lt (path_cmp y x) ≡ false
not_above x y Less is up = ap is_lt (reversed x y Less is)
not_above x y Equal is up = ap is_lt (reversed x y Equal is)
not_above x y Greater is up = absurd up

not_below : (prefix x : Segments) → is_lt (path_cmp prefix x) ≡ false → (b : Bool) → is_below prefix x ≡ b → b ≡ false
not_below prefix x out true is = let less = below_above prefix x is in (let clash = sym (ap is_lt less) ∙ out in cc)
not_below prefix x out false is = refl

-- which paths a listing tells, by whether they stand behind its beginning and before its end

before_start_by : (prefix a x : Segments) (t : Bool) → is_lt (path_cmp prefix a) ≡ t → (o : Ordering) → path_cmp x (cond t a prefix) ≡ o → IsUpTo o → (is_below prefix x && is_lt (path_cmp a x)) ≡ false
before_start_by prefix a x true e o is up = and_none (is_below prefix x) (is_lt (path_cmp a x)) (not_above x a o is up)
before_start_by prefix a x false e o is up = rw (not_below prefix x (not_above x prefix o is up) (is_below prefix x) refl) refl

before_start : (prefix : Segments) (after : Option Segments) (x : Segments) → IsUpTo (side Path (further prefix after) x) → (is_below prefix x && is_above after x) ≡ false
before_start prefix None x up = rw (not_below prefix x (not_above x prefix (path_cmp x prefix) refl up) (is_below prefix x) refl) refl
before_start prefix (Some a) x up = before_start_by prefix a x (is_lt (path_cmp prefix a)) refl (path_cmp x (further prefix (Some a))) refl up

-- what stands behind the beginning is above the path after which the page comes, and behind the prefix

lt_of : (x y : Segments) → path_cmp x y ≡ Greater → path_cmp y x ≡ Less
lt_of x y is = reversed x y Greater is

reaches : (prefix a x : Segments) (o : Ordering) → path_cmp prefix a ≡ o → is_lt o ≡ false → path_cmp prefix x ≡ Less → path_cmp a x ≡ Less
reaches prefix a x Less is far less = cc
reaches prefix a x Equal is far less = sym (path_cmp_total.congr prefix a x is) ∙ less
reaches prefix a x Greater is far less = path_cmp_total.trans a prefix x (lt_of prefix a is) less

behind_both : (prefix a x : Segments) (t : Bool) → is_lt (path_cmp prefix a) ≡ t → path_cmp x (cond t a prefix) ≡ Greater → (path_cmp prefix x ≡ Less) × (path_cmp a x ≡ Less)
behind_both prefix a x true e is = let up = lt_of x a is in (path_cmp_total.trans prefix a x (is_less (path_cmp prefix a) e) up, up)
behind_both prefix a x false e is = let up = lt_of x prefix is in (up, reaches prefix a x (path_cmp prefix a) refl e up)

behind_start : (prefix : Segments) (after : Option Segments) (x : Segments) → side Path (further prefix after) x ≡ Greater → (path_cmp prefix x ≡ Less) × (is_above after x ≡ true)
behind_start prefix None x is = (lt_of x prefix is, refl)
behind_start prefix (Some a) x is = let both = behind_both prefix a x (is_lt (path_cmp prefix a)) refl is in (both.0, ap is_lt both.1)

before_end : (a b : Bool) → a ≡ true → cond (a && not b) Greater Less ≡ Less → b ≡ true
before_end true true e h = refl
before_end true false e h = cc
before_end false b e h = cc

behind_end : (a b : Bool) → cond (a && not b) Greater Less ≡ Greater → b ≡ false
behind_end true true h = cc
behind_end true false h = refl
behind_end false b h = cc

is_told : (prefix : Segments) (after : Option Segments) (x : Segments) → side Path (further prefix after) x ≡ Greater → side End prefix x ≡ Less → (is_below prefix x && is_above after x) ≡ true
is_told prefix after x start end =
    let from = behind_start prefix after x start in
    rw (before_end (is_lt (path_cmp prefix x)) (is_below prefix x) (ap is_lt from.0) end, from.1) refl

not_told : (prefix : Segments) (after : Option Segments) (x : Segments) → side End prefix x ≡ Greater → (is_below prefix x && is_above after x) ≡ false
not_told prefix after x end = rw (behind_end (is_lt (path_cmp prefix x)) (is_below prefix x) end) refl

none_taken : {A : Type 0} (n : ℕ) → [] ≡ take {A = A} n []
none_taken zero = refl
none_taken (suc n) = refl

min_taken : {A : Type 0} (xs : List A) (limit below : ℕ) → take limit (take below xs) ≡ take (min limit below) xs
min_taken [] zero below = none_taken (min 0 below)
min_taken [] (suc limit) zero = none_taken (min (suc limit) 0)
min_taken [] (suc limit) (suc below) = none_taken (min (suc limit) (suc below))
min_taken (x ∷ xs) zero below = let none : min 0 below ≡ 0 = omega arith in rw none refl
min_taken (x ∷ xs) (suc limit) zero = let none : min (suc limit) 0 ≡ 0 = omega arith in rw none refl
min_taken (x ∷ xs) (suc limit) (suc below) = let same : min (suc limit) (suc below) ≡ suc (min limit below) = omega arith in rw same (ap (λ r. x ∷ r) (min_taken xs limit below))

rest_long : (es : Entries) (start end : ℕ) → end ≤ length es → end - start ≤ length (drop start es)
rest_long es zero end le = omega (arith, le)
rest_long [] (suc start) end le = omega (arith, le)
rest_long (e ∷ es) (suc start) zero le = omega arith
rest_long (e ∷ es) (suc start) (suc end) le = let rest = rest_long es start end (omega (arith, le)) in omega (arith, rest)

module _ (prefix : Segments) (after : Option Segments) where
  abbrev is_listed : Segments × Got → Bool
  is_listed e = is_below prefix e.0 && is_above after e.0

  abbrev UpToStart : Entries → Type 0
  UpToStart es = AllByRecursion (λ e. IsUpTo (side Path (further prefix after) e.0)) es

  -- the files from the beginning to the end of the prefix are those listed
  told_between : (es : Entries) (start end : ℕ) → UpToStart (take start es) → AllAt Path (further prefix after) Greater (drop start es) → AllByRecursion (λ e. IsUpTo (side End prefix e.0)) (take end es) → AllAt End prefix Greater (drop end es) →
      filter is_listed es ≡ take (end - start) (drop start es)
  told_between [] zero end a b c d = none_taken (end - 0)
  told_between [] (suc start) end a b c d = none_taken (end - suc start)
  told_between (e ∷ es) (suc start) (suc end) a b c d =
      let rest = told_between es start end a.1 b c.1 d in
      let same : suc end - suc start ≡ end - start = omega arith in
      rw (before_start prefix after e.0 a.0, same) rest
  told_between (e ∷ es) (suc start) zero a b c d =
      let rest = told_between es start zero a.1 b tt d.1 in
      let none : 0 - suc start ≡ 0 = omega arith in
      let none' : 0 - start ≡ 0 = omega arith in
      rw (before_start prefix after e.0 a.0, none) (rw none' at rest)
  told_between (e ∷ es) zero (suc end) a b c d =
      let rest = told_between es zero end tt b.1 c.1 d in
      let less : side End prefix e.0 ≡ Less = up_to_end (is_lt (path_cmp prefix e.0)) (is_below prefix e.0) c.0 in
      let more : suc end - 0 ≡ suc (end - 0) = omega arith in
      rw (is_told prefix after e.0 b.0 less, more) (ap (λ (r : Entries). e ∷ r) rest)
    where
      up_to_end : (x y : Bool) → IsUpTo (cond (x && not y) Greater Less) → cond (x && not y) Greater Less ≡ Less
      up_to_end true true h = refl
      up_to_end true false h = absurd h
      up_to_end false y h = refl
  told_between (e ∷ es) zero zero a b c d = rw (not_told prefix after e.0 d.0) (told_between es zero zero tt b.1 tt d.1)

  -- a page of them
  pub page_told : (es : Entries) (start end : ℕ) → IsBehind Path (further prefix after) es start → IsBehind End prefix es end → (limit : ℕ) → page_of limit (listing prefix after es) ≡ record { metas = map meta_of (take (min limit (end - start)) (drop start es)); more = nat_lt limit (end - start) }
  page_told es start end s t limit =
      let told = told_between es start end s.before s.behind t.before t.behind in
      let all : listing prefix after es ≡ map meta_of (take (end - start) (drop start es)) = ap (map meta_of) told in
      let long : length (listing prefix after es) ≡ end - start = ap (λ (ms : List ObjectMeta). length ms) all ∙ (length-map (take (end - start) (drop start es)) meta_of ∙ length-take-le (end - start) (drop start es) (rest_long es start end t.within)) in
      rw (long, all, take-map meta_of limit (take (end - start) (drop start es)), min_taken (drop start es) limit (end - start)) refl
