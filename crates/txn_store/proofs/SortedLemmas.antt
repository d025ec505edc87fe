-- A search over sorted files, and what stands before and behind its place.
use Rattle.std.proofs.Common.{◌≡◌, ◌≢◌, ℕ, zero, suc, ◌+◌, ◌-◌, ◌*◌, ◌^◌, ◌/◌, ◌≤◌, ◌<◌, Bool, true, false, cond, not, ◌&&◌, T, [], ◌∷◌, length, take, drop, slice_get, slice_index_or, Some, ◌⊎◌, inl, inr, refl, sym, ap, subst, ◌∙◌, arith}
use Rattle.std.specs.FinMap.{FinMap, from_sorted, is_sorted, entries, entries-from_sorted}
use Rattle.std.specs.FinMap.Entries.{below_all}
use Rattle.std.specs.Ordering.{is_lt, ordering_reverse}
use Rattle.std.specs.declared.cmp.Ordering.{Ordering}
use Rattle.std.specs.declared.cmp.Ordering.TheVariants.{Less, Equal, Greater}
use Rattle.std.proofs.lemmas.Int.Digits.{length-digits_of_step}
use Rattle.std.proofs.Math.Pow.{suc_ones}
use Rattle.txn_store.specs.Paths.{Segments, path_cmp, is_below}
use Rattle.txn_store.specs.Memory.{binary_digits}
use Rattle.txn_store.specs.Sorted.{side, AllAt, StandsAt, StandsBetween}
use Rattle.txn_store.specs.declared.sorted.Mark.{Mark}
use Rattle.txn_store.specs.declared.sorted.Mark.TheVariants.{Path, End}
use Rattle.txn_store.specs.declared.store.Got.{Got}
use Rattle.txn_store.proofs.BelowLemmas.{none_beyond}
use Rattle.txn_store.proofs.EntryLemmas.{Entries, is_less, first_behind, rest_behind, first_sorted, rest_sorted}
use Rattle.txn_store.proofs.FileLemmas.{path_cmp_total}

less_or : (o : Ordering) → (o ≡ Less) ⊎ (o ≢ Less)
less_or Less = inl refl
less_or Equal = inr (λ e. cc)
less_or Greater = inr (λ e. cc)

-- once a file does not stand before the mark, each later one stands behind it
module _ (mark : Mark) (asked : Segments) where
  abbrev pub Rises : Entries → Type 0
  Rises [] = Unit {0}
  Rises (e ∷ es) = (side mark asked e.0 ≢ Less → AllAt mark asked Greater es) × Rises es

  at_index : (o : Ordering) (es : Entries) (i : ℕ) (e : Segments × Got) → AllAt mark asked o es → i < length es → e ≡ slice_index_or es i e → side mark asked e.0 ≡ o
  at_index o [] i e all lt is = absurd (omega (arith, lt))
  at_index o (x ∷ es) zero e all lt is = ap (λ (y : Segments × Got). side mark asked y.0) is ∙ all.0
  at_index o (x ∷ es) (suc i) e all lt is = at_index o es i e all.1 (omega (arith, lt)) is

  one_before : (x : Segments × Got) (es : Entries) (i : ℕ) (e : Segments × Got) → (side mark asked x.0 ≢ Less → AllAt mark asked Greater es) → i < length es → e ≡ slice_index_or es i e → side mark asked e.0 ≢ Greater → side mark asked x.0 ≡ Less
  one_before x es i e r lt is g = elim (less_or (side mark asked x.0)) [ inl less ↦ less | inr far ↦ absurd (g (at_index Greater es i e (r far) lt is)) ]

  pub before : (es : Entries) (i : ℕ) (e : Segments × Got) → Rises es → i < length es → e ≡ slice_index_or es i e → side mark asked e.0 ≢ Greater → AllAt mark asked Less (take i es)
  before [] i e r lt is g = absurd (omega (arith, lt))
  before (x ∷ es) zero e r lt is g = tt
  before (x ∷ es) (suc i) e r lt is g = (one_before x es i e r.0 (omega (arith, lt)) is g, before es i e r.1 (omega (arith, lt)) is g)

  pub through : (es : Entries) (i : ℕ) (e : Segments × Got) → Rises es → i < length es → e ≡ slice_index_or es i e → side mark asked e.0 ≡ Less → AllAt mark asked Less (take (suc i) es)
  through [] i e r lt is g = absurd (omega (arith, lt))
  through (x ∷ es) zero e r lt is g = (ap (λ (y : Segments × Got). side mark asked y.0) (sym is) ∙ g, tt)
  through (x ∷ es) (suc i) e r lt is g = (one_before x es i e r.0 (omega (arith, lt)) is (λ h. cc), through es i e r.1 (omega (arith, lt)) is g)

  pub behind : (es : Entries) (i : ℕ) (e : Segments × Got) → Rises es → i < length es → e ≡ slice_index_or es i e → side mark asked e.0 ≢ Less → AllAt mark asked Greater (drop (suc i) es)
  behind [] i e r lt is g = absurd (omega (arith, lt))
  behind (x ∷ es) zero e r lt is g = r.0 (λ l. g (ap (λ (y : Segments × Got). side mark asked y.0) is ∙ l))
  behind (x ∷ es) (suc i) e r lt is g = behind es i e r.1 (omega (arith, lt)) is g

  pub from : (es : Entries) (i : ℕ) (e : Segments × Got) → Rises es → i < length es → e ≡ slice_index_or es i e → side mark asked e.0 ≡ Greater → AllAt mark asked Greater (drop i es)
  from [] i e r lt is g = absurd (omega (arith, lt))
  from (x ∷ es) zero e r lt is g = (ap (λ (y : Segments × Got). side mark asked y.0) (sym is) ∙ g, r.0 (λ l. (let same = ap (λ (y : Segments × Got). side mark asked y.0) is in cc)))
  from (x ∷ es) (suc i) e r lt is g = from es i e r.1 (omega (arith, lt)) is g

  pub entry_there : (es : Entries) (i : ℕ) (e : Segments × Got) → i < length es → e ≡ slice_index_or es i e → slice_get es i ≡ Some e
  entry_there [] i e lt is = absurd (omega (arith, lt))
  entry_there (x ∷ es) zero e lt is = ap Some (sym is)
  entry_there (x ∷ es) (suc i) e lt is = entry_there es i e (omega (arith, lt)) is

-- sorted files rise to either mark

above : (x y p : Segments) → path_cmp x y ≡ Less → path_cmp x p ≢ Less → (o : Ordering) → path_cmp x p ≡ o → path_cmp p y ≡ Less
above x y p up far Less is = absurd (far is)
above x y p up far Equal is = sym (path_cmp_total.congr x p y is) ∙ up
above x y p up far Greater is = path_cmp_total.trans p x y (path_cmp_total.antisymm p x ∙ ap ordering_reverse is) up

pub reversed : (x y : Segments) (o : Ordering) → path_cmp x y ≡ o → path_cmp y x ≡ ordering_reverse o
reversed x y o is = path_cmp_total.antisymm y x ∙ ap ordering_reverse is

all_above : (x p : Segments) (es : Entries) → T (below_all path_cmp x es) → path_cmp x p ≢ Less → AllAt Path p Greater es
all_above x p [] h far = tt
all_above x p (e ∷ es) h far = (reversed p e.0 Less (above x e.0 p (first_behind x e es h) far (path_cmp x p) refl), all_above x p es (rest_behind x e es h) far)

past : (a b : Bool) → cond (a && not b) Greater Less ≢ Less → (a ≡ true) × (b ≡ false)
past true true h = absurd (h refl)
past true false h = (refl, refl)
past false b h = absurd (h refl)

all_past : (x p : Segments) (es : Entries) → T (below_all path_cmp x es) → path_cmp p x ≡ Less → is_below p x ≡ false → AllAt End p Greater es
all_past x p [] h up out = tt
all_past x p (e ∷ es) h up out =
    let less : path_cmp x e.0 ≡ Less = first_behind x e es h in
    let far : path_cmp p e.0 ≡ Less = path_cmp_total.trans p x e.0 up less in
    (rw (far, none_beyond p x e.0 up out less) refl, all_past x p es (rest_behind x e es h) up out)

pub rises : (mark : Mark) (asked : Segments) (es : Entries) → T (is_sorted path_cmp es) → Rises mark asked es
rises mark asked [] h = tt
rises Path asked (e ∷ es) h = (all_above e.0 asked es (first_sorted e es h), rises Path asked es (rest_sorted e es h))
rises End asked (e ∷ es) h =
    ((λ far. (let p = past (is_lt (path_cmp asked e.0)) (is_below asked e.0) far in all_past e.0 asked es (first_sorted e es h) (is_less _ p.0) p.1)), rises End asked es (rest_sorted e es h))

-- how many binary digits a number has

digits_rise : (k a b : ℕ) → b ≤ k → a ≤ b → binary_digits a ≤ binary_digits b
digits_rise zero a b fuel le = let same : a ≡ b = omega (arith, fuel, le) in rw same (omega arith)
digits_rise (suc k) zero b fuel le = omega arith
digits_rise (suc k) (suc a) b fuel le =
    let one = length-digits_of_step 2 (suc a) (omega arith) (omega arith) in
    let other = length-digits_of_step 2 b (omega arith) (omega (arith, le)) in
    let rest = digits_rise k (suc a / 2) (b / 2) (omega (arith, fuel, le)) (omega (arith, le)) in
    omega (arith, one, other, rest)

pub fewer_digits : (a b : ℕ) → a ≤ b → binary_digits a ≤ binary_digits b
fewer_digits a b le = digits_rise b a b (omega arith) le

pub half_digits : (a b : ℕ) → 0 < b → a ≤ b / 2 → binary_digits a + 1 ≤ binary_digits b
half_digits a b some le =
    let step = length-digits_of_step 2 b (omega arith) some in
    let less = fewer_digits a (b / 2) le in
    omega (arith, step, less)

-- the entries of the map that sorted files are seen as
pub entries_are : (es : Entries) (m : FinMap path_cmp Got) → T (is_sorted path_cmp es) → from_sorted es ≡ m → entries m ≡ es
entries_are es m sorted view = sym (ap entries view) ∙ entries-from_sorted path_cmp es sorted

-- a search between two indices: what stands before the first and behind the second, and how many paths may still be compared
pub record Narrows (mark : Mark) (asked : Segments) (es : Entries) (low high : ℕ) : Type 0 where
  pub rising : low ≤ high
  pub within : high ≤ length es
  pub before : AllAt mark asked Less (take low es)
  pub behind : AllAt mark asked Greater (drop high es)

-- so many may stand on each side of the next that is compared, if any is left
pub record IsFew (es : Entries) (first compared low high most : ℕ) : Type 0 where
  pub now : compared ≤ first + binary_digits (length es)
  pub covers : low < high → high - low ≤ 2 * most + 1
  pub later : low < high → compared + binary_digits most + 1 ≤ first + binary_digits (length es)

all_dropped : (mark : Mark) (asked : Segments) (es : Entries) → AllAt mark asked Greater (drop (length es) es)
all_dropped mark asked [] = tt
all_dropped mark asked (e ∷ es) = all_dropped mark asked es

pub narrows_all : (mark : Mark) (asked : Segments) (es : Entries) (n : ℕ) → n ≡ length es → Narrows mark asked es 0 n
narrows_all mark asked es n is = rw is (record { rising = omega arith; within = omega arith; before = tt; behind = all_dropped mark asked es })

module _ (mark : Mark) (asked : Segments) (es : Entries) (low high middle : ℕ) (e : Segments × Got) (sorted : T (is_sorted path_cmp es)) (n : Narrows mark asked es low high) (up : low ≤ middle) (some : middle < high) (is : e ≡ slice_index_or es middle e) where
  within_files : middle < length es
  within_files = let most = n.within in omega (arith, some, most)

  pub narrows_up : side mark asked e.0 ≡ Less → Narrows mark asked es (middle + 1) high
  narrows_up less = record {
    rising = omega (arith, some);
    within = n.within;
    before = let next : middle + 1 ≡ suc middle = omega arith in subst (λ (k : ℕ). AllAt mark asked Less (take k es)) (sym next) (through mark asked es middle e (rises mark asked es sorted) within_files is less);
    behind = n.behind;
  }

  pub narrows_down : side mark asked e.0 ≡ Greater → Narrows mark asked es low middle
  narrows_down greater = record {
    rising = omega arith;
    within = let most = n.within in omega (arith, some, most);
    before = n.before;
    behind = from mark asked es middle e (rises mark asked es sorted) within_files is greater;
  }

  pub stands_at : side mark asked e.0 ≡ Equal → StandsAt mark asked es middle
  stands_at equal = record {
    entry = e;
    there = entry_there mark asked es middle e within_files is;
    equal = equal;
    before = before mark asked es middle e (rises mark asked es sorted) within_files is (λ h. cc);
    behind = behind mark asked es middle e (rises mark asked es sorted) within_files is (λ h. cc);
  }

pub stands_between : (mark : Mark) (asked : Segments) (es : Entries) (low high : ℕ) → Narrows mark asked es low high → high ≤ low → StandsBetween mark asked es low
stands_between mark asked es low high n none =
    let up = n.rising in
    let same : high ≡ low = omega (arith, up, none) in
    record { within = rw (← same) n.within; before = n.before; behind = subst (λ (k : ℕ). AllAt mark asked Greater (drop k es)) same n.behind }

-- one path was compared, and no more than might stand on a side are left
pub few_more : (es : Entries) (first was compared low high most low' high' : ℕ) → IsFew es first was low high most → low < high → compared ≤ was + 1 → high' - low' ≤ most → IsFew es first compared low' high' (most / 2)
few_more es first was compared low high most low' high' few some one left = record {
  now = let before = few.later some in omega (arith, before, one);
  covers = λ more. omega (arith, left);
  later = λ more. let before = few.later some in let less = half_digits (most / 2) most (omega (arith, left, more)) (omega arith) in omega (arith, before, less, one);
}

pub few_at_last : (es : Entries) (first was compared low high most : ℕ) → IsFew es first was low high most → low < high → compared ≤ was + 1 → compared ≤ first + binary_digits (length es)
few_at_last es first was compared low high most few some one = let before = few.later some in omega (arith, before, one)

pub few_at_first : (es : Entries) (first high most : ℕ) → high ≡ length es → high ≤ 2 * most + 1 → (0 < high → binary_digits most + 1 ≤ binary_digits high) → IsFew es first first 0 high most
few_at_first es first high most is covers less = record {
  now = omega arith;
  covers = λ more. omega (arith, covers);
  later = λ more. let here = less more in let same : binary_digits high ≡ binary_digits (length es) = ap binary_digits is in omega (arith, here, same);
}

-- a power of two has one binary digit more than its exponent
pub digits_of_power : (j n : ℕ) → 2 ^ j ≤ n → j + 1 ≤ binary_digits n
digits_of_power zero n le = let step = length-digits_of_step 2 n (omega arith) (omega (arith, le)) in omega (arith, step)
digits_of_power (suc j) n le =
    let twice : 2 ^ suc j ≡ 2 * 2 ^ j = omega arith in
    let half : 2 ^ j ≤ n / 2 = omega (arith, le, twice) in
    let rest = digits_of_power j (n / 2) half in
    let positive = suc_ones j in
    let some : 0 < n = omega (arith, half, positive) in
    let step = length-digits_of_step 2 n (omega arith) some in
    omega (arith, rest, step)
