-- What a listing tells of a list of files.
use Rattle.std.proofs.Common.{◌≡◌, ℕ, zero, suc, ◌+◌, ◌<◌, ◌≤◌, Bool, true, false, cond, ◌&&◌, T, List, [], ◌∷◌, ◌++◌, length, map, take, drop, slice_index_or, append-nil, Option, Some, None, refl, sym, ap, subst, ◌∙◌, arith}
use Rattle.std.specs.FinMap.{find, put, is_sorted, entries, entries_sorted, entries-insert, empty_of_len, len-entries, from_sorted, entries-from_sorted, get-entries, get-from_entries, from_entries, from_entries_push}
use Rattle.std.specs.FinMap.Entries.{by_order, where_key, below_all, is_sorted-where_key, find-where_key, same_entries}
use Rattle.std.specs.List.{insert, AllByRecursion}
use Rattle.std.specs.Ordering.{is_lt, is_eq, ordering_reverse}
use Rattle.std.specs.declared.cmp.Ordering.{Ordering}
use Rattle.std.specs.declared.cmp.Ordering.TheVariants.{Less, Equal, Greater}
use Rattle.std.proofs.lemmas.List.{take_more}
use Rattle.std.proofs.lemmas.List.Elements.{filter-append}
use Rattle.txn_store.specs.Paths.{Segments, path_cmp}
use Rattle.txn_store.specs.Store.{meta_of}
use Rattle.txn_store.specs.declared.store.Got.{Got}
use Rattle.txn_store.specs.declared.store.ObjectMeta.{ObjectMeta}
use Rattle.txn_store.proofs.FileLemmas.{path_cmp_total, path_cmp-IsAntisymmetric}
use Rattle.slatedb_txn_obj_uses.specs.Listed.{files_in, NoneTwice, keyed}
use Rattle.slatedb_txn_obj_uses.proofs.ListLemmas.{Entries, none_before}

abbrev Told : Type 0
Told = List (Segments × ObjectMeta)

-- files, and what is told of each under its path
abbrev told_of : Entries → Told
told_of es = keyed (map meta_of es)

told_at : Segments → Option Got → Option ObjectMeta
told_at q None = None
told_at q (Some g) = Some (meta_of (q, g))

find_told : (es : Entries) (q : Segments) → find path_cmp q (told_of es) ≡ told_at q (find path_cmp q es)
unfolding told_at
find_told [] q = refl
find_told (e ∷ es) q = by (find_told es q) (path_cmp q e.0) refl
  where
    by : find path_cmp q (told_of es) ≡ told_at q (find path_cmp q es) → (o : Ordering) → path_cmp q e.0 ≡ o → cond (is_eq o) (Some (meta_of e)) (find path_cmp q (told_of es)) ≡ told_at q (cond (is_eq o) (Some e.1) (find path_cmp q es))
    by rest Less is = rest
    by rest Equal is = ap (λ (p : Segments). Some (meta_of (p, e.1))) (sym (path_cmp-IsAntisymmetric q e.0 is))
    by rest Greater is = rest

both : (a b c d : Bool) → (T a → T c) → (T b → T d) → T (a && b) → T (c && d)
both true b true d f g h = g h
both true b false d f g h = f tt
both false b c d f g h = absurd h

below_told : (k : Segments) (es : Entries) → T (below_all path_cmp k es) → T (below_all path_cmp k (told_of es))
below_told k [] h = tt
below_told k (e ∷ es) h = both (is_lt (path_cmp k e.0)) (below_all path_cmp k es) (is_lt (path_cmp k e.0)) (below_all path_cmp k (told_of es)) (λ l. l) (below_told k es) h

sorted_told : (es : Entries) → T (is_sorted path_cmp es) → T (is_sorted path_cmp (told_of es))
sorted_told [] h = tt
sorted_told (e ∷ es) h = both (below_all path_cmp e.0 es) (is_sorted path_cmp es) (below_all path_cmp e.0 (told_of es)) (is_sorted path_cmp (told_of es)) (below_told e.0 es) (sorted_told es) h

unkeyed : (metas : List ObjectMeta) → map (λ (t : Segments × ObjectMeta). t.1) (keyed metas) ≡ metas
unkeyed [] = refl
unkeyed (m ∷ metas) = ap (λ (ms : List ObjectMeta). m ∷ ms) (unkeyed metas)

told_push : (es : Entries) (e : Segments × Got) → told_of (es ++ e ∷ []) ≡ told_of es ++ (e.0, meta_of e) ∷ []
told_push [] e = refl
told_push (x ∷ es) e = ap (λ (ts : Told). (x.0, meta_of x) ∷ ts) (told_push es e)

module _ (p : Segments → Bool) where
  -- what is told, in the order of the paths, of the files whose paths pass a test
  abbrev pub IsTold : Entries → List ObjectMeta → Type 0
  IsTold es told = keyed told ≡ entries (from_entries {R = path_cmp} (told_of (where_key path_cmp p es)))

  find_where : (es : Entries) (q : Segments) → find path_cmp q (told_of (where_key path_cmp p es)) ≡ told_at q (cond (p q) (find path_cmp q es) None)
  find_where es q = find_told (where_key path_cmp p es) q ∙ ap (told_at q) (find-where_key path_cmp p q (λ x t. ap p (sym (path_cmp-IsAntisymmetric q x t))) es)

  find_is_told : (es : Entries) (told : List ObjectMeta) → IsTold es told → (q : Segments) → find path_cmp q (keyed told) ≡ told_at q (cond (p q) (find path_cmp q es) None)
  find_is_told es told is q = ap (find path_cmp q) is ∙ (sym (get-entries (from_entries {R = path_cmp} (told_of (where_key path_cmp p es))) q) ∙ (get-from_entries path_cmp_total (told_of (where_key path_cmp p es)) q ∙ find_where es q))

  pub none_told : (told : List ObjectMeta) → keyed told ≡ [] → IsTold [] told
  none_told told is = is ∙ (sym (entries-from_sorted path_cmp [] tt) ∙ ap entries (empty_of_len (from_sorted {R = path_cmp} []) (len-entries (from_sorted {X = ObjectMeta} {R = path_cmp} []) ∙ ap length (entries-from_sorted path_cmp [] tt))))

  -- all files
  pub all_told : (es : Entries) (told : List ObjectMeta) → IsTold es told → told ≡ map meta_of (where_key path_cmp p (entries (files_in es)))
  all_told es told is =
      let m = files_in es in
      let fs = where_key path_cmp p (entries m) in
      let in_order : T (is_sorted path_cmp (keyed told)) = subst (λ (ts : Told). T (is_sorted path_cmp ts)) (sym is) (entries_sorted (from_entries {R = path_cmp} (told_of (where_key path_cmp p es)))) in
      let sorted : T (is_sorted path_cmp (told_of fs)) = sorted_told fs (is_sorted-where_key path_cmp p (entries m) (entries_sorted m)) in
      let found : (q : Segments) → find path_cmp q (entries m) ≡ find path_cmp q es = λ q. sym (get-entries m q) ∙ get-from_entries path_cmp_total es q in
      let equal : keyed told ≡ told_of fs = same_entries path_cmp path_cmp_total path_cmp-IsAntisymmetric (keyed told) (told_of fs) in_order sorted
      (λ q. find_is_told es told is q ∙ (ap (λ (o : Option Got). told_at q (cond (p q) o None)) (sym (found q)) ∙ sym (find_where (entries m) q))) in
      sym (unkeyed told) ∙ (ap (map (λ (t : Segments × ObjectMeta). t.1)) equal ∙ unkeyed (map meta_of fs))

  module _ (es : Entries) (once : NoneTwice es) (i : ℕ) (e : Segments × Got) (lt : i < length es) (is : e ≡ slice_index_or es i e) (told : List ObjectMeta) (so : IsTold (take i es) told) where
    nothing : (b : Bool) → told_at e.0 (cond b None None) ≡ None
    unfolding told_at
    nothing true = refl
    nothing false = refl

    -- a file whose path is new is told nothing of
    pub not_yet : find path_cmp e.0 (keyed told) ≡ None
    not_yet = find_is_told (take i es) told so e.0 ∙ (ap (λ (o : Option Got). told_at e.0 (cond (p e.0) o None)) (none_before es i e once lt is) ∙ nothing (p e.0))

    one_more : take (i + 1) es ≡ take i es ++ e ∷ []
    one_more = take_more es i e lt ∙ ap (λ (x : Segments × Got). take i es ++ x ∷ []) (sym is)

    where_more : where_key path_cmp p (take (i + 1) es) ≡ where_key path_cmp p (take i es) ++ where_key path_cmp p (e ∷ [])
    where_more = ap (where_key path_cmp p) one_more ∙ filter-append (λ (x : Segments × Got). p x.0) (take i es) (e ∷ [])

    pub one_passed_over : p e.0 ≡ false → IsTold (take (i + 1) es) told
    one_passed_over out =
        let rest : where_key path_cmp p (take (i + 1) es) ≡ where_key path_cmp p (take i es) ++ [] = where_more ∙ ap (λ b. where_key path_cmp p (take i es) ++ cond b (e ∷ []) []) out in
        so ∙ ap (λ (fs : Entries). entries (from_entries {R = path_cmp} (told_of fs))) (sym (rest ∙ append-nil (where_key path_cmp p (take i es))))

    pub one_told : p e.0 ≡ true → (more : List ObjectMeta) → keyed more ≡ put path_cmp e.0 (meta_of e) (keyed told) → IsTold (take (i + 1) es) more
    one_told in_it more puts =
        let before = told_of (where_key path_cmp p (take i es)) in
        let next : where_key path_cmp p (take (i + 1) es) ≡ where_key path_cmp p (take i es) ++ e ∷ [] = where_more ∙ ap (λ b. where_key path_cmp p (take i es) ++ cond b (e ∷ []) []) in_it in
        let absent : find path_cmp e.0 before ≡ None = find_where (take i es) e.0 ∙ (ap (λ (o : Option Got). told_at e.0 (cond (p e.0) o None)) (none_before es i e once lt is) ∙ nothing (p e.0)) in
        puts ∙ (ap (put path_cmp e.0 (meta_of e)) so ∙ (sym (entries-insert path_cmp_total (from_entries {R = path_cmp} before) e.0 (meta_of e)) ∙ (ap entries (sym (from_entries_push path_cmp_total path_cmp-IsAntisymmetric before e.0 (meta_of e) absent))
        ∙ ap (λ (ts : Told). entries (from_entries {R = path_cmp} ts)) (sym (ap told_of next ∙ told_push (where_key path_cmp p (take i es)) e)))))

-- where a put among what is told comes

reversed : (x y : Segments) (o : Ordering) → path_cmp x y ≡ o → path_cmp y x ≡ ordering_reverse o
reversed x y o is = path_cmp_total.antisymm y x ∙ ap ordering_reverse is

module _ (k : Segments) where
  -- each of these stands before the path
  abbrev pub Passed : List ObjectMeta → Type 0
  Passed metas = AllByRecursion (λ m. path_cmp m.location k ≡ Less) metas

  pub passed_more : (told : List ObjectMeta) (i : ℕ) (x : ObjectMeta) → i < length told → x ≡ slice_index_or told i x → path_cmp x.location k ≡ Less → Passed (take i told) → Passed (take (suc i) told)
  passed_more [] i x lt is less h = absurd (omega (arith, lt))
  passed_more (m ∷ told) zero x lt is less h = (ap (λ (n : ObjectMeta). path_cmp n.location k) (sym is) ∙ less, tt)
  passed_more (m ∷ told) (suc i) x lt is less h = (h.0, passed_more told i x (omega (arith, lt)) is less h.1)

  module _ (meta : ObjectMeta) where
    pub put_at_end : (told : List ObjectMeta) (i : ℕ) → length told ≤ i → Passed (take i told) → put path_cmp k meta (keyed told) ≡ keyed told ++ (k, meta) ∷ []
    put_at_end [] i far h = refl
    put_at_end (m ∷ told) zero far h = absurd (omega (arith, far))
    put_at_end (m ∷ told) (suc i) far h = rw (reversed m.location k Less h.0) (ap (λ (ts : Told). (m.location, m) ∷ ts) (put_at_end told i (omega (arith, far)) h.1))

    -- before the first that does not stand before it, where none stands at it
    put_before : (m : ObjectMeta) (rest : Told) (o : Ordering) → path_cmp k m.location ≡ o → is_lt (path_cmp m.location k) ≡ false → cond (is_eq o) (Some m) (find path_cmp k rest) ≡ None → by_order o ((k, meta) ∷ (m.location, m) ∷ rest) ((m.location, meta) ∷ rest) ((m.location, m) ∷ put path_cmp k meta rest) ≡ (k, meta) ∷ (m.location, m) ∷ rest
    put_before m rest Less is far none = refl
    put_before m rest Equal is far none = cc
    put_before m rest Greater is far none = let less = reversed k m.location Greater is in let clash = sym (ap is_lt less) ∙ far in cc

    none_behind : (m : ObjectMeta) (told : List ObjectMeta) → path_cmp m.location k ≡ Less → find path_cmp k (keyed (m ∷ told)) ≡ None → find path_cmp k (keyed told) ≡ None
    none_behind m told less none = ap (λ o. cond (is_eq o) (Some m) (find path_cmp k (keyed told))) (sym (reversed m.location k Less less)) ∙ none

    pub put_here : (told : List ObjectMeta) (i : ℕ) (x : ObjectMeta) → i < length told → x ≡ slice_index_or told i x → is_lt (path_cmp x.location k) ≡ false → Passed (take i told) → find path_cmp k (keyed told) ≡ None → put path_cmp k meta (keyed told) ≡ keyed (take i told) ++ (k, meta) ∷ keyed (drop i told)
    put_here [] i x lt is far h none = absurd (omega (arith, lt))
    put_here (m ∷ told) zero x lt is far h none = put_before m (keyed told) (path_cmp k m.location) refl (ap (λ (n : ObjectMeta). is_lt (path_cmp n.location k)) (sym is) ∙ far) none
    put_here (m ∷ told) (suc i) x lt is far h none = rw (reversed m.location k Less h.0) (ap (λ (ts : Told). (m.location, m) ∷ ts) (put_here told i x (omega (arith, lt)) is far h.1 (none_behind m told h.0 none)))

keyed_insert : (told : List ObjectMeta) (i : ℕ) (meta : ObjectMeta) → keyed (insert told i meta) ≡ keyed (take i told) ++ (meta.location, meta) ∷ keyed (drop i told)
keyed_insert told zero meta = refl
keyed_insert [] (suc i) meta = refl
keyed_insert (m ∷ told) (suc i) meta = ap (λ (ts : Told). (m.location, m) ∷ ts) (keyed_insert told i meta)

all_taken : (told : List ObjectMeta) (i : ℕ) → length told ≤ i → (rest : Told) → keyed (take i told) ++ rest ≡ keyed told ++ rest
all_taken [] zero far rest = refl
all_taken [] (suc i) far rest = refl
all_taken (m ∷ told) zero far rest = absurd (omega (arith, far))
all_taken (m ∷ told) (suc i) far rest = ap (λ (ts : Told). (m.location, m) ∷ ts) (all_taken told i (omega (arith, far)) rest)

none_left : (told : List ObjectMeta) (i : ℕ) → length told ≤ i → keyed (drop i told) ≡ []
none_left [] zero far = refl
none_left [] (suc i) far = refl
none_left (m ∷ told) zero far = absurd (omega (arith, far))
none_left (m ∷ told) (suc i) far = none_left told i (omega (arith, far))

pub inserted_last : (told : List ObjectMeta) (i : ℕ) (meta : ObjectMeta) → length told ≤ i → Passed meta.location (take i told) → keyed (insert told i meta) ≡ put path_cmp meta.location meta (keyed told)
inserted_last told i meta far h =
    keyed_insert told i meta ∙ (ap (λ (ts : Told). keyed (take i told) ++ (meta.location, meta) ∷ ts) (none_left told i far) ∙ (all_taken told i far ((meta.location, meta) ∷ []) ∙ sym (put_at_end meta.location meta told i far h)))

pub inserted_here : (told : List ObjectMeta) (i : ℕ) (meta x : ObjectMeta) → i < length told → x ≡ slice_index_or told i x → is_lt (path_cmp x.location meta.location) ≡ false → Passed meta.location (take i told) → find path_cmp meta.location (keyed told) ≡ None → keyed (insert told i meta) ≡ put path_cmp meta.location meta (keyed told)
inserted_here told i meta x lt is far h none = keyed_insert told i meta ∙ sym (put_here meta.location meta told i x lt is far h none)
