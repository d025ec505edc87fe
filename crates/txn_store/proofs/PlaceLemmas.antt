-- What stands at a place among sorted files, and what a put or a removal there makes of them.
use Rattle.std.proofs.Common.{◌≡◌, ℕ, zero, suc, ◌+◌, ◌≤◌, ◌<◌, Bool, true, false, cond, not, T, List, [], ◌∷◌, ◌++◌, length, take, drop, slice_get, slice_index_or, slice_set, Option, Some, None, OnSome, IsSome, map, append_assoc, append-nil, refl, sym, ap, subst, ◌∙◌, arith}
use Rattle.std.specs.List.{AllByRecursion, insert, remove}
use Rattle.std.specs.FinMap as finmap
use Rattle.std.specs.FinMap.{from_sorted, find, put, is_sorted, entries, get, entries-from_sorted, entries-insert, get-from_sorted, get-entries, get-remove, same_map, same_entries_map, empty_of_len, len-entries}
use Rattle.std.specs.FinMap.Entries.{where_key, is_sorted-put, is_sorted-where_key, find-where_key}
use Rattle.std.specs.Ordering.{eq_by_cmp, is_eq}
use Rattle.std.specs.Cmp.{eq_by_cmp_equiv, alike_right}
use Rattle.std.specs.declared.cmp.Ordering.{Ordering}
use Rattle.std.specs.declared.cmp.Ordering.TheVariants.{Less, Equal, Greater}
use Rattle.std.proofs.lemmas.Option.{same_Some}
use Rattle.txn_store.specs.Paths.{Segments, path_cmp}
use Rattle.txn_store.specs.Store.{Files, meta_of}
use Rattle.txn_store.specs.Sorted.{side, AllAt, StandsAt, StandsBetween, IsUpTo, IsBehind}
use Rattle.txn_store.specs.declared.sorted.Mark.{Mark}
use Rattle.txn_store.specs.declared.sorted.Mark.TheVariants.{Path}
use Rattle.txn_store.specs.declared.store.Got.{Got}
use Rattle.txn_store.specs.declared.store.ObjectMeta.{ObjectMeta}
use Rattle.txn_store.proofs.EntryLemmas.{Entries}
use Rattle.txn_store.proofs.FileLemmas.{path_cmp_total, path_cmp-IsAntisymmetric}
use Rattle.txn_store.proofs.SortedLemmas.{reversed}

pub when_some : {A : Type 0} {P : Type 0} (o : Option A) → OnSome o P → IsSome o → P
when_some None h some = absurd (cc)
when_some (Some x) h some = h

-- an index with an entry is within
pub there_within : (es : Entries) (i : ℕ) (e : Segments × Got) → slice_get es i ≡ Some e → i < length es
there_within [] i e is = cc
there_within (x ∷ es) zero e is = omega arith
there_within (x ∷ es) (suc i) e is = let rest = there_within es i e is in omega (arith, rest)

pub there_is : (es : Entries) (i : ℕ) (e d : Segments × Got) → slice_get es i ≡ Some e → d ≡ slice_index_or es i d → e ≡ d
there_is [] i e d is at = cc
there_is (x ∷ es) zero e d is at = sym (same_Some x e is) ∙ sym at
there_is (x ∷ es) (suc i) e d is at = there_is es i e d is at

-- no file
pub no_files : (es : Entries) → es ≡ [] → from_sorted {R = path_cmp} es ≡ finmap.empty
no_files es is = empty_of_len (from_sorted es) (len-entries (from_sorted es) ∙ (ap length (entries-from_sorted path_cmp es (subst (λ (fs : Entries). T (is_sorted path_cmp fs)) (sym is) tt)) ∙ ap length is))

module _ (p : Segments) where
  -- what is found

  find_at : (es : Entries) (i : ℕ) (e : Segments × Got) → AllAt Path p Less (take i es) → slice_get es i ≡ Some e → side Path p e.0 ≡ Equal → find path_cmp p es ≡ Some e.1
  find_at [] i e before is equal = cc
  find_at (x ∷ es) zero e before is equal =
      let same = same_Some x e is in
      let ties : path_cmp p x.0 ≡ Equal = reversed x.0 p Equal (ap (λ (y : Segments × Got). path_cmp y.0 p) same ∙ equal) in
      rw ties (ap (λ (y : Segments × Got). Some y.1) same)
  find_at (x ∷ es) (suc i) e before is equal = rw (reversed x.0 p Less before.0) (find_at es i e before.1 is equal)

  find_behind : (es : Entries) → AllAt Path p Greater es → find path_cmp p es ≡ None
  find_behind [] h = refl
  find_behind (x ∷ es) h = rw (reversed x.0 p Greater h.0) (find_behind es h.1)

  find_none : (es : Entries) (i : ℕ) → AllAt Path p Less (take i es) → AllAt Path p Greater (drop i es) → find path_cmp p es ≡ None
  find_none es zero before behind = find_behind es behind
  find_none [] (suc i) before behind = refl
  find_none (x ∷ es) (suc i) before behind = rw (reversed x.0 p Less before.0) (find_none es i before.1 behind)

  -- a put

  put_at : (x : Got) (es : Entries) (i : ℕ) (e : Segments × Got) → AllAt Path p Less (take i es) → slice_get es i ≡ Some e → side Path p e.0 ≡ Equal → put path_cmp p x es ≡ slice_set es i (e.0, x)
  put_at x [] i e before is equal = cc
  put_at x (y ∷ es) zero e before is equal =
      let same = same_Some y e is in
      let ties : path_cmp p y.0 ≡ Equal = reversed y.0 p Equal (ap (λ (z : Segments × Got). path_cmp z.0 p) same ∙ equal) in
      rw ties (ap (λ (z : Segments × Got). (z.0, x) ∷ es) same)
  put_at x (y ∷ es) (suc i) e before is equal = rw (reversed y.0 p Less before.0) (ap (λ (r : Entries). y ∷ r) (put_at x es i e before.1 is equal))

  put_first : (x : Got) (es : Entries) → AllAt Path p Greater es → put path_cmp p x es ≡ (p, x) ∷ es
  put_first x [] h = refl
  put_first x (y ∷ es) h = rw (reversed y.0 p Greater h.0) refl

  put_new : (x : Got) (es : Entries) (i : ℕ) → AllAt Path p Less (take i es) → AllAt Path p Greater (drop i es) → put path_cmp p x es ≡ insert es i (p, x)
  put_new x es zero before behind = put_first x es behind
  put_new x [] (suc i) before behind = refl
  put_new x (y ∷ es) (suc i) before behind = rw (reversed y.0 p Less before.0) (ap (λ (r : Entries). y ∷ r) (put_new x es i before.1 behind))

  -- a removal

  abbrev is_kept : Segments → Bool
  is_kept q = not (eq_by_cmp path_cmp p q)

  kept_behind : (es : Entries) → AllAt Path p Greater es → where_key path_cmp is_kept es ≡ es
  kept_behind [] h = refl
  kept_behind (x ∷ es) h = rw (reversed x.0 p Greater h.0) (ap (λ (r : Entries). x ∷ r) (kept_behind es h.1))

  kept_all : (es : Entries) (i : ℕ) → AllAt Path p Less (take i es) → AllAt Path p Greater (drop i es) → where_key path_cmp is_kept es ≡ es
  kept_all es zero before behind = kept_behind es behind
  kept_all [] (suc i) before behind = refl
  kept_all (x ∷ es) (suc i) before behind = rw (reversed x.0 p Less before.0) (ap (λ (r : Entries). x ∷ r) (kept_all es i before.1 behind))

  kept_but : (es : Entries) (i : ℕ) (e : Segments × Got) → AllAt Path p Less (take i es) → slice_get es i ≡ Some e → side Path p e.0 ≡ Equal → AllAt Path p Greater (drop (suc i) es) → where_key path_cmp is_kept es ≡ remove es i
  kept_but [] i e before is equal behind = cc
  kept_but (x ∷ es) zero e before is equal behind =
      let same = same_Some x e is in
      let ties : path_cmp p x.0 ≡ Equal = reversed x.0 p Equal (ap (λ (y : Segments × Got). path_cmp y.0 p) same ∙ equal) in
      rw ties (kept_behind es behind)
  kept_but (x ∷ es) (suc i) e before is equal behind = rw (reversed x.0 p Less before.0) (ap (λ (r : Entries). x ∷ r) (kept_but es i e before.1 is equal behind))

  turned : {A : Type 0} (b : Bool) (x y : A) → cond (not b) x y ≡ cond b y x
  turned true x y = refl
  turned false x y = refl

  -- the maps that sorted files are seen as

  seen_put : (m : Files) (x : Got) (fs : Entries) → put path_cmp p x (entries m) ≡ fs → from_sorted fs ≡ finmap.insert m p x
  seen_put m x fs is =
      let sorted : T (is_sorted path_cmp fs) = subst (λ (es : Entries). T (is_sorted path_cmp es)) is (is_sorted-put path_cmp path_cmp_total p x (entries m) (finmap.entries_sorted m)) in
      same_entries_map (from_sorted fs) (finmap.insert m p x) (entries-from_sorted path_cmp fs sorted ∙ (sym is ∙ sym (entries-insert path_cmp_total m p x)))

  sorted_put : (m : Files) (x : Got) (fs : Entries) → put path_cmp p x (entries m) ≡ fs → T (is_sorted path_cmp fs)
  sorted_put m x fs is = subst (λ (es : Entries). T (is_sorted path_cmp es)) is (is_sorted-put path_cmp path_cmp_total p x (entries m) (finmap.entries_sorted m))

  sorted_kept : (m : Files) (fs : Entries) → where_key path_cmp is_kept (entries m) ≡ fs → T (is_sorted path_cmp fs)
  sorted_kept m fs is = subst (λ (es : Entries). T (is_sorted path_cmp es)) is (is_sorted-where_key path_cmp is_kept (entries m) (finmap.entries_sorted m))

  seen_kept : (m : Files) (fs : Entries) → where_key path_cmp is_kept (entries m) ≡ fs → from_sorted fs ≡ finmap.remove m p
  seen_kept m fs is = same_map path_cmp_total path_cmp-IsAntisymmetric (from_sorted fs) (finmap.remove m p) (λ q.
      get-from_sorted path_cmp fs q (sorted_kept m fs is)
      ∙ (ap (find path_cmp q) (sym is)
      ∙ (find-where_key path_cmp is_kept q (λ x t. ap (λ r. not (is_eq r)) (sym (alike_right path_cmp_total q x p t))) (entries m)
      ∙ (turned (eq_by_cmp path_cmp p q) (find path_cmp q (entries m)) None
      ∙ (ap (λ b. cond b None (find path_cmp q (entries m))) ((eq_by_cmp_equiv path_cmp_total).symm p q)
      ∙ (ap (cond (eq_by_cmp path_cmp q p) None) (sym (get-entries m q))
      ∙ sym (get-remove path_cmp_total m p q)))))))

  module _ (m : Files) (i : ℕ) where
    pub got_at : (at : StandsAt Path p (entries m) i) → Some at.entry.1 ≡ get m p
    got_at at = sym (get-entries m p ∙ find_at (entries m) i at.entry at.before at.there at.equal)

    pub none_between : StandsBetween Path p (entries m) i → None ≡ get m p
    none_between at = sym (get-entries m p ∙ find_none (entries m) i at.before at.behind)

    puts_at : (at : StandsAt Path p (entries m) i) (x : Got) (fs : Entries) → fs ≡ slice_set (entries m) i (at.entry.0, x) → put path_cmp p x (entries m) ≡ fs
    puts_at at x fs is = put_at x (entries m) i at.entry at.before at.there at.equal ∙ sym is

    puts_between : StandsBetween Path p (entries m) i → (x : Got) (fs : Entries) → fs ≡ insert (entries m) i (p, x) → put path_cmp p x (entries m) ≡ fs
    puts_between at x fs is = put_new x (entries m) i at.before at.behind ∙ sym is

    keeps_at : StandsAt Path p (entries m) i → (fs : Entries) → fs ≡ remove (entries m) i → where_key path_cmp is_kept (entries m) ≡ fs
    keeps_at at fs is = kept_but (entries m) i at.entry at.before at.there at.equal at.behind ∙ sym is

    keeps_between : StandsBetween Path p (entries m) i → (fs : Entries) → fs ≡ entries m → where_key path_cmp is_kept (entries m) ≡ fs
    keeps_between at fs is = kept_all (entries m) i at.before at.behind ∙ sym is

-- What a call makes of the files at a place: the entries after it are sorted, and seen as the map that the call is to leave.
pub record Leaves (m : Files) (fs : Entries) : Type 0 where
  pub sorted : T (is_sorted path_cmp fs)
  pub seen : from_sorted fs ≡ m

module _ (p : Segments) (m : Files) (es : Entries) (is : entries m ≡ es) (i : ℕ) where
  pub place_within : (n : ℕ) → n ≡ length es → StandsAt Path p (entries m) i → i < n
  place_within n long at = let lt = there_within (entries m) i at.entry at.there in let same = ap (λ (xs : Entries). length xs) is in omega (arith, lt, same, long)

  pub between_within : (n : ℕ) → n ≡ length es → StandsBetween Path p (entries m) i → i ≤ n
  between_within n long at = let most = at.within in let same = ap (λ (xs : Entries). length xs) is in omega (arith, most, same, long)

  pub leaves_put_at : StandsAt Path p (entries m) i → (d : Segments × Got) (x : Got) → d ≡ slice_index_or es i d → Leaves (finmap.insert m p x) (slice_set es i (d.0, x))
  leaves_put_at at d x there =
      let own : d ≡ slice_index_or (entries m) i d = there ∙ ap (λ (xs : Entries). slice_index_or xs i d) (sym is) in
      let same = there_is (entries m) i at.entry d at.there own in
      let put_is = puts_at p m i at x (slice_set es i (d.0, x)) (ap (λ (xs : Entries). slice_set xs i (d.0, x)) (sym is) ∙ ap (λ (e : Segments × Got). slice_set (entries m) i (e.0, x)) (sym same)) in
      record { sorted = sorted_put p m x _ put_is; seen = seen_put p m x _ put_is }

  pub leaves_put_between : StandsBetween Path p (entries m) i → (x : Got) (fs : Entries) → fs ≡ insert es i (p, x) → Leaves (finmap.insert m p x) fs
  leaves_put_between at x fs put =
      let put_is = puts_between p m i at x fs (put ∙ ap (λ (xs : Entries). insert xs i (p, x)) (sym is)) in
      record { sorted = sorted_put p m x fs put_is; seen = seen_put p m x fs put_is }

  pub leaves_removed_at : StandsAt Path p (entries m) i → (fs : Entries) → fs ≡ remove es i → Leaves (finmap.remove m p) fs
  leaves_removed_at at fs gone =
      let kept = keeps_at p m i at fs (gone ∙ ap (λ (xs : Entries). remove xs i) (sym is)) in
      record { sorted = sorted_kept p m fs kept; seen = seen_kept p m fs kept }

  pub leaves_removed_between : StandsBetween Path p (entries m) i → Leaves (finmap.remove m p) es
  leaves_removed_between at = let kept = keeps_between p m i at es (sym is) in record { sorted = sorted_kept p m es kept; seen = seen_kept p m es kept }

-- the first index behind a mark

up_to : (o : Ordering) → o ≡ Less → IsUpTo o
up_to Less is = tt
up_to Equal is = tt
up_to Greater is = cc

up_to_equal : (o : Ordering) → o ≡ Equal → IsUpTo o
up_to_equal Less is = tt
up_to_equal Equal is = tt
up_to_equal Greater is = cc

module _ (mark : Mark) (asked : Segments) where
  abbrev AllUpTo : Entries → Type 0
  AllUpTo es = AllByRecursion (λ e. IsUpTo (side mark asked e.0)) es

  all_up_to : (es : Entries) → AllAt mark asked Less es → AllUpTo es
  all_up_to [] h = tt
  all_up_to (e ∷ es) h = (up_to (side mark asked e.0) h.0, all_up_to es h.1)

  all_through : (es : Entries) (i : ℕ) (e : Segments × Got) → AllAt mark asked Less (take i es) → slice_get es i ≡ Some e → side mark asked e.0 ≡ Equal → AllUpTo (take (suc i) es)
  all_through [] i e before is equal = cc
  all_through (x ∷ es) zero e before is equal = (up_to_equal (side mark asked x.0) (ap (λ (y : Segments × Got). side mark asked y.0) (same_Some x e is) ∙ equal), tt)
  all_through (x ∷ es) (suc i) e before is equal = (up_to (side mark asked x.0) before.0, all_through es i e before.1 is equal)

  pub behind_at : (es : Entries) (i : ℕ) → StandsAt mark asked es i → IsBehind mark asked es (i + 1)
  behind_at es i at =
      let lt = there_within es i at.entry at.there in
      let next : suc i ≡ i + 1 = omega arith in
      subst (λ (k : ℕ). IsBehind mark asked es k) next (record { within = omega (arith, lt); before = all_through es i at.entry at.before at.there at.equal; behind = at.behind })

  pub behind_between : (es : Entries) (i : ℕ) → StandsBetween mark asked es i → IsBehind mark asked es i
  behind_between es i at = record { within = at.within; before = all_up_to (take i es) at.before; behind = at.behind }

-- the loop that tells each file once

pub one_told : (told : List ObjectMeta) (rest more all : Entries) (e : Segments × Got) (meta : ObjectMeta) → rest ≡ e ∷ more → meta ≡ meta_of e → told ++ map meta_of rest ≡ map meta_of all → (told ++ meta ∷ []) ++ map meta_of more ≡ map meta_of all
one_told told rest more all e meta is tells h =
    append_assoc told (meta ∷ []) (map meta_of more)
    ∙ (ap (λ (m : ObjectMeta). told ++ m ∷ map meta_of more) tells ∙ (ap (λ (r : Entries). told ++ map meta_of r) (sym is) ∙ h))

pub all_told : (told : List ObjectMeta) (rest all : Entries) → length rest ≡ 0 → told ++ map meta_of rest ≡ map meta_of all → told ≡ map meta_of all
all_told told [] all none h = sym (append-nil told) ∙ h
all_told told (e ∷ rest) all none h = absurd (omega (arith, none))
