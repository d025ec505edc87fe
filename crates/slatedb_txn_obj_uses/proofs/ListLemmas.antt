-- What a list of files stands for after a put and a removal, and what stands at a place of it.
use Rattle.std.proofs.Common.{◌≡◌, ℕ, zero, suc, ◌<◌, Bool, true, false, cond, List, [], ◌∷◌, ◌++◌, length, take, slice_get, slice_index_or, slice_set, Option, Some, None, refl, sym, ap, subst, ◌∙◌, arith}
use Rattle.std.specs.List.{remove}
use Rattle.std.specs.FinMap as finmap
use Rattle.std.specs.FinMap.{find, get, get-insert, get-remove, get-from_entries, from_entries_push, same_map}
use Rattle.std.specs.FinMap.Entries.{find-append}
use Rattle.std.specs.Ordering.{eq_by_cmp, is_eq, nat_cmp}
use Rattle.std.specs.Cmp.{eq_by_cmp_equiv}
use Rattle.std.specs.Cmp.Lexicographic.{pointwise, slice_cmp, lists_ties, texts_ties}
use Rattle.std.specs.Prelude.{nat_eq}
use Rattle.std.specs.declared.cmp.Ordering.{Ordering}
use Rattle.std.specs.declared.cmp.Ordering.TheVariants.{Less, Equal, Greater}
use Rattle.std.proofs.lemmas.Option.{same_Some}
use Rattle.txn_store.specs.Paths.{Segments, path_cmp}
use Rattle.txn_store.specs.Store.{Files}
use Rattle.txn_store.specs.declared.store.Got.{Got}
use Rattle.txn_store.proofs.FileLemmas.{path_cmp_total, path_cmp-IsAntisymmetric}
use Rattle.slatedb_txn_obj_uses.specs.Listed.{files_in, NoneTwice, IsFirst}

abbrev pub Entries : Type 0
Entries = List (Segments × Got)

-- equal in the order
abbrev pub same : Segments → Segments → Bool
same = eq_by_cmp path_cmp

equal_is : (o : Ordering) → is_eq o ≡ true → o ≡ Equal
equal_is Less is = cc
equal_is Equal is = refl
equal_is Greater is = cc

same_is : (p q : Segments) → same p q ≡ true → p ≡ q
same_is p q is = path_cmp-IsAntisymmetric p q (equal_is (path_cmp p q) is)

-- what `==` of two paths says
pub compared : (p q : Segments) (b c : Bool) → b ≡ pointwise (pointwise nat_eq) p q → b ≡ c → same p q ≡ c
compared p q b c eq is = sym (lists_ties (slice_cmp nat_cmp) texts_ties p q) ∙ (sym eq ∙ is)

pub turned : (p q : Segments) (b : Bool) → same p q ≡ b → same q p ≡ b
turned p q b is = (eq_by_cmp_equiv path_cmp_total).symm q p ∙ is

shadowed : {A : Type 0} (b : Bool) (x y z : A) → cond b x z ≡ cond b x (cond b y z)
shadowed true x y z = refl
shadowed false x y z = refl

-- a path that is one of two that differ is not the other
swapped : {A : Type 0} (p y q : Segments) → same p y ≡ false → (a b c : A) → cond (same q y) a (cond (same q p) b c) ≡ cond (same q p) b (cond (same q y) a c)
swapped p y q apart a b c = by (same q y) (same q p) refl refl
  where
    by : (s t : Bool) → same q y ≡ s → same q p ≡ t → cond s a (cond t b c) ≡ cond t b (cond s a c)
    by true true u v = let clash = sym (ap (λ r. same r y) (same_is q p v)) ∙ u in absurd (cc)
    by true false u v = refl
    by false t u v = refl

-- no file stands under a path, so not the first one, and none of the others
none_head : (b : Bool) (x : Got) (o : Option Got) → cond b (Some x) o ≡ None → b ≡ false
none_head true x o is = cc
none_head false x o is = refl

none_tail : (b : Bool) (x : Got) (o : Option Got) → cond b (Some x) o ≡ None → o ≡ None
none_tail true x o is = cc
none_tail false x o is = is

pub none_at : (k : Segments) (es : Entries) (i : ℕ) (e : Segments × Got) → find path_cmp k es ≡ None → i < length es → e ≡ slice_index_or es i e → same k e.0 ≡ false
none_at k [] i e none lt is = absurd (omega (arith, lt))
none_at k (x ∷ es) zero e none lt is = ap (λ (y : Segments × Got). same k y.0) is ∙ none_head (same k x.0) x.1 (find path_cmp k es) none
none_at k (x ∷ es) (suc i) e none lt is = none_at k es i e (none_tail (same k x.0) x.1 (find path_cmp k es) none) (omega (arith, lt)) is

-- each file's path stands in no file before it
pub none_before : (es : Entries) (i : ℕ) (e : Segments × Got) → NoneTwice es → i < length es → e ≡ slice_index_or es i e → find path_cmp e.0 (take i es) ≡ None
none_before [] i e once lt is = absurd (omega (arith, lt))
none_before (x ∷ es) zero e once lt is = refl
none_before (x ∷ es) (suc i) e once lt is = rw (turned x.0 e.0 false (none_at x.0 es i e once.0 (omega (arith, lt)) is)) (none_before es i e once.1 (omega (arith, lt)) is)

pub there_within : (es : Entries) (i : ℕ) (e : Segments × Got) → slice_get es i ≡ Some e → i < length es
there_within [] i e is = cc
there_within (x ∷ es) zero e is = omega arith
there_within (x ∷ es) (suc i) e is = let rest = there_within es i e is in omega (arith, rest)

there_is : (es : Entries) (i : ℕ) (e d : Segments × Got) → slice_get es i ≡ Some e → d ≡ slice_index_or es i d → e ≡ d
there_is [] i e d is at = cc
there_is (x ∷ es) zero e d is at = sym (same_Some x e is) ∙ sym at
there_is (x ∷ es) (suc i) e d is at = there_is es i e d is at

there : (es : Entries) (i : ℕ) (e : Segments × Got) → i < length es → e ≡ slice_index_or es i e → slice_get es i ≡ Some e
there [] i e lt is = absurd (omega (arith, lt))
there (x ∷ es) zero e lt is = ap (λ (y : Segments × Got). Some y) (sym is)
there (x ∷ es) (suc i) e lt is = there es i e (omega (arith, lt)) is

-- the first file under a path
pub first_at : (p : Segments) (es : Entries) (i : ℕ) (e : Segments × Got) → i < length es → e ≡ slice_index_or es i e → same p e.0 ≡ true → find path_cmp p (take i es) ≡ None → IsFirst p es i
first_at p es i e lt is tied before = record { file = e; there = there es i e lt is; tied = equal_is (path_cmp p e.0) tied; before = before }

-- a search that goes one file on
pub one_passed : (p : Segments) (es : Entries) (i : ℕ) (e : Segments × Got) → i < length es → e ≡ slice_index_or es i e → same p e.0 ≡ false → find path_cmp p (take i es) ≡ None → find path_cmp p (take (suc i) es) ≡ None
one_passed p [] i e lt is apart none = absurd (omega (arith, lt))
one_passed p (x ∷ es) zero e lt is apart none = let here : same p x.0 ≡ false = ap (λ (y : Segments × Got). same p y.0) (sym is) ∙ apart in rw here refl
one_passed p (x ∷ es) (suc i) e lt is apart none =
    let here = none_head (same p x.0) x.1 (find path_cmp p (take i es)) none in
    rw here (one_passed p es i e (omega (arith, lt)) is apart (none_tail (same p x.0) x.1 (find path_cmp p (take i es)) none))

-- What a call makes of the files: no path stands twice, and they are the map that the call is to leave.
pub record Leaves (m : Files) (es : Entries) : Type 0 where
  pub once : NoneTwice es
  pub seen : files_in es ≡ m

module _ (p : Segments) where
  find_first : (es : Entries) (i : ℕ) (e : Segments × Got) → find path_cmp p (take i es) ≡ None → slice_get es i ≡ Some e → same p e.0 ≡ true → find path_cmp p es ≡ Some e.1
  find_first [] i e before is tied = cc
  find_first (x ∷ es) zero e before is tied =
      let own = same_Some x e is in
      let here : same p x.0 ≡ true = ap (λ (y : Segments × Got). same p y.0) own ∙ tied in
      rw here (ap (λ (y : Segments × Got). Some y.1) own)
  find_first (x ∷ es) (suc i) e before is tied =
      rw (none_head (same p x.0) x.1 (find path_cmp p (take i es)) before) (find_first es i e (none_tail (same p x.0) x.1 (find path_cmp p (take i es)) before) is tied)

  pub got_first : (es : Entries) (i : ℕ) → IsFirst p es i → (d : Segments × Got) → d ≡ slice_index_or es i d → Some d.1 ≡ get (files_in es) p
  got_first es i at d is = ap (λ (y : Segments × Got). Some y.1) (sym (there_is es i at.file d at.there is)) ∙ (sym (find_first es i at.file at.before at.there (ap is_eq at.tied)) ∙ sym (get-from_entries path_cmp_total es p))

  pub got_none : (es : Entries) → find path_cmp p es ≡ None → None ≡ get (files_in es) p
  got_none es none = sym (get-from_entries path_cmp_total es p ∙ none)

  -- a put in the place of a file

  find_set : (x : Got) (es : Entries) (i : ℕ) (e : Segments × Got) → find path_cmp p (take i es) ≡ None → slice_get es i ≡ Some e → same p e.0 ≡ true → (q : Segments) → find path_cmp q (slice_set es i (e.0, x)) ≡ cond (same q p) (Some x) (find path_cmp q es)
  find_set x [] i e before is tied q = cc
  find_set x (y ∷ es) zero e before is tied q =
      let own = same_Some y e is in
      let path : p ≡ y.0 = same_is p e.0 tied ∙ ap (λ (z : Segments × Got). z.0) (sym own) in
      ap (λ (z : Segments × Got). cond (same q z.0) (Some x) (find path_cmp q es)) (sym own) ∙ (shadowed (same q y.0) (Some x) (Some y.1) (find path_cmp q es) ∙ ap (λ (r : Segments). cond (same q r) (Some x) (find path_cmp q (y ∷ es))) (sym path))
  find_set x (y ∷ es) (suc i) e before is tied q =
      let apart = none_head (same p y.0) y.1 (find path_cmp p (take i es)) before in
      ap (λ (o : Option Got). cond (same q y.0) (Some y.1) o) (find_set x es i e (none_tail (same p y.0) y.1 (find path_cmp p (take i es)) before) is tied q) ∙ swapped p y.0 q apart (Some y.1) (Some x) (find path_cmp q es)

  none_set : (x : Got) (k : Segments) (es : Entries) (i : ℕ) (e : Segments × Got) → slice_get es i ≡ Some e → find path_cmp k es ≡ None → find path_cmp k (slice_set es i (e.0, x)) ≡ None
  none_set x k [] i e is none = cc
  none_set x k (y ∷ es) zero e is none =
      let here : same k e.0 ≡ false = ap (λ (z : Segments × Got). same k z.0) (sym (same_Some y e is)) ∙ none_head (same k y.0) y.1 (find path_cmp k es) none in
      rw here (none_tail (same k y.0) y.1 (find path_cmp k es) none)
  none_set x k (y ∷ es) (suc i) e is none = rw (none_head (same k y.0) y.1 (find path_cmp k es) none) (none_set x k es i e is (none_tail (same k y.0) y.1 (find path_cmp k es) none))

  once_set : (x : Got) (es : Entries) (i : ℕ) (e : Segments × Got) → slice_get es i ≡ Some e → NoneTwice es → NoneTwice (slice_set es i (e.0, x))
  once_set x [] i e is once = cc
  once_set x (y ∷ es) zero e is once = (ap (λ (z : Segments × Got). find path_cmp z.0 es) (sym (same_Some y e is)) ∙ once.0, once.1)
  once_set x (y ∷ es) (suc i) e is once = (none_set x y.0 es i e is once.0, once_set x es i e is once.1)

  leaves : (m : Files) (fs : Entries) → NoneTwice fs → ((q : Segments) → find path_cmp q fs ≡ get m q) → Leaves m fs
  leaves m fs once is = record { once = once; seen = same_map path_cmp_total path_cmp-IsAntisymmetric (files_in fs) m (λ q. get-from_entries path_cmp_total fs q ∙ is q) }

  pub put_first : (es : Entries) (i : ℕ) → NoneTwice es → IsFirst p es i → (d : Segments × Got) → d ≡ slice_index_or es i d → (x : Got) → Leaves (finmap.insert (files_in es) p x) (slice_set es i (d.0, x))
  put_first es i once at d is x =
      let own = there_is es i at.file d at.there is in
      let there' : slice_get es i ≡ Some d = at.there ∙ ap (λ (y : Segments × Got). Some y) own in
      let tied : same p d.0 ≡ true = ap (λ (y : Segments × Got). same p y.0) (sym own) ∙ ap is_eq at.tied in
      leaves (finmap.insert (files_in es) p x) (slice_set es i (d.0, x)) (once_set x es i d there' once)
      (λ q. find_set x es i d at.before there' tied q ∙ sym (get-insert path_cmp_total (files_in es) p x q ∙ ap (λ (o : Option Got). cond (same q p) (Some x) o) (get-from_entries path_cmp_total es q)))

  -- a put behind all files

  once_push : (x : Got) (es : Entries) → NoneTwice es → find path_cmp p es ≡ None → NoneTwice (es ++ (p, x) ∷ [])
  once_push x [] once none = (refl, tt)
  once_push x (y ∷ es) once none =
      let apart = turned p y.0 false (none_head (same p y.0) y.1 (find path_cmp p es) none) in
      let rest = none_tail (same p y.0) y.1 (find path_cmp p es) none in
      (find-append path_cmp path_cmp_total es p x y.0 rest ∙ (ap (λ b. cond b (Some x) (find path_cmp y.0 es)) apart ∙ once.0), once_push x es once.1 rest)

  pub put_last : (es : Entries) → NoneTwice es → find path_cmp p es ≡ None → (x : Got) (fs : Entries) → fs ≡ es ++ (p, x) ∷ [] → Leaves (finmap.insert (files_in es) p x) fs
  put_last es once none x fs is = subst (λ (gs : Entries). Leaves (finmap.insert (files_in es) p x) gs) (sym is) (record { once = once_push x es once none; seen = from_entries_push path_cmp_total path_cmp-IsAntisymmetric es p x none })

  -- a removal

  find_removed : (es : Entries) (i : ℕ) (e : Segments × Got) → NoneTwice es → find path_cmp p (take i es) ≡ None → slice_get es i ≡ Some e → same p e.0 ≡ true → (q : Segments) → find path_cmp q (remove es i) ≡ cond (same q p) None (find path_cmp q es)
  find_removed [] i e once before is tied q = cc
  find_removed (y ∷ es) zero e once before is tied q =
      let path : p ≡ y.0 = same_is p e.0 tied ∙ ap (λ (z : Segments × Got). z.0) (sym (same_Some y e is)) in
      by (same q y.0) refl ∙ ap (λ (r : Segments). cond (same q r) None (find path_cmp q (y ∷ es))) (sym path)
    where
      by : (b : Bool) → same q y.0 ≡ b → find path_cmp q es ≡ cond b None (cond b (Some y.1) (find path_cmp q es))
      by true here = ap (λ (r : Segments). find path_cmp r es) (same_is q y.0 here) ∙ once.0
      by false here = refl
  find_removed (y ∷ es) (suc i) e once before is tied q =
      let apart = none_head (same p y.0) y.1 (find path_cmp p (take i es)) before in
      ap (λ (o : Option Got). cond (same q y.0) (Some y.1) o) (find_removed es i e once.1 (none_tail (same p y.0) y.1 (find path_cmp p (take i es)) before) is tied q) ∙ swapped p y.0 q apart (Some y.1) None (find path_cmp q es)

  none_removed : (k : Segments) (es : Entries) (i : ℕ) → find path_cmp k es ≡ None → find path_cmp k (remove es i) ≡ None
  none_removed k [] zero none = refl
  none_removed k [] (suc i) none = refl
  none_removed k (y ∷ es) zero none = none_tail (same k y.0) y.1 (find path_cmp k es) none
  none_removed k (y ∷ es) (suc i) none = rw (none_head (same k y.0) y.1 (find path_cmp k es) none) (none_removed k es i (none_tail (same k y.0) y.1 (find path_cmp k es) none))

  once_removed : (es : Entries) (i : ℕ) → NoneTwice es → NoneTwice (remove es i)
  once_removed [] zero once = tt
  once_removed [] (suc i) once = tt
  once_removed (y ∷ es) zero once = once.1
  once_removed (y ∷ es) (suc i) once = (none_removed y.0 es i once.0, once_removed es i once.1)

  pub removed_first : (es : Entries) (i : ℕ) → NoneTwice es → IsFirst p es i → (fs : Entries) → fs ≡ remove es i → Leaves (finmap.remove (files_in es) p) fs
  removed_first es i once at fs gone =
      leaves (finmap.remove (files_in es) p) fs (subst NoneTwice (sym gone) (once_removed es i once))
      (λ q. ap (find path_cmp q) gone ∙ (find_removed es i at.file once at.before at.there (ap is_eq at.tied) q ∙ sym (get-remove path_cmp_total (files_in es) p q ∙ ap (λ (o : Option Got). cond (same q p) None o) (get-from_entries path_cmp_total es q))))

  pub removed_none : (es : Entries) → find path_cmp p es ≡ None → files_in es ≡ finmap.remove (files_in es) p
  removed_none es none = same_map path_cmp_total path_cmp-IsAntisymmetric (files_in es) (finmap.remove (files_in es) p) (λ q. by q (same q p) refl ∙ sym (get-remove path_cmp_total (files_in es) p q))
    where
      by : (q : Segments) (b : Bool) → same q p ≡ b → get (files_in es) q ≡ cond b None (get (files_in es) q)
      by q true here = get-from_entries path_cmp_total es q ∙ (ap (λ (r : Segments). find path_cmp r es) (same_is q p here) ∙ none)
      by q false here = refl
