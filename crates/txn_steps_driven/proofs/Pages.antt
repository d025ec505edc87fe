-- A listing goes on, page by page, where the page before it ended.
use Rattle.std.proofs.Common.{◌≡◌, ℕ, zero, suc, ◌+◌, ◌-◌, ◌<◌, ◌≤◌, Bool, true, false, cond, T, nat_lt, List, [], ◌∷◌, ◌++◌, length, take, drop, slice_get, Option, Some, None, refl, sym, ap, subst, ◌∙◌, inl, inr, arith}
use Rattle.std.specs.Option.{option_map}
use Rattle.std.specs.FinMap.{entries, entries_sorted, is_sorted}
use Rattle.std.specs.FinMap.Entries.{below_all}
use Rattle.std.specs.Ordering.{is_lt}
use Rattle.std.specs.Cmp.{tied_itself}
use Rattle.std.specs.declared.cmp.Ordering.TheVariants.{Less, Equal, Greater}
use Rattle.std.proofs.lemmas.Bool.{cases_Bool, ltb-true, ltb-false}
use Rattle.std.proofs.lemmas.List.{take-append-drop, length-take-le, take_all, length-append}
use Rattle.txn_store.specs.Paths.{Segments, path_cmp, is_below}
use Rattle.txn_store.specs.Store.{Files, meta_of, is_above, listing, page_of}
use Rattle.txn_store.specs.declared.store.Got.{Got}
use Rattle.txn_store.specs.declared.store.ObjectMeta.{ObjectMeta}
use Rattle.txn_store.proofs.EntryLemmas.{first_behind, rest_behind, first_sorted, rest_sorted}
use Rattle.txn_store.proofs.FileLemmas.{path_cmp_total}
use Rattle.txn_store.proofs.SortedLemmas.{reversed}
use Rattle.txn_steps.specs.Requests.{last_location, next_after}

-- an entry and those after it: the paths of the others stand behind its own
module _ (prefix : Segments) where
  -- the entries after a path, where they all stand behind it, are those of the whole listing
  all_behind : (path : Segments) (es : List (Segments × Got)) → T (below_all path_cmp path es) → listing prefix (Some path) es ≡ listing prefix None es
  all_behind path [] below = refl
  all_behind path (e ∷ es) below =
      let less : path_cmp path e.0 ≡ Less = first_behind path e es below in
      let rest = all_behind path es (rest_behind path e es below) in
      let up : is_above (Some path) e.0 ≡ true = ap is_lt less in
      elim (cases_Bool (is_below prefix e.0)) [
        | inl in_it ↦ rw (in_it, up) (ap (λ metas. meta_of e ∷ metas) rest)
        | inr out ↦ rw out rest
      ]

  -- what is listed behind an entry stands behind its path
  behind_front : (path : Segments) (entry : Segments × Got) (ms xs : List ObjectMeta) (m : ObjectMeta) (ys : List ObjectMeta) → path_cmp path entry.0 ≡ Less → ((front : List ObjectMeta) → ms ≡ front ++ m ∷ ys → path_cmp path m.location ≡ Less) → meta_of entry ∷ ms ≡ xs ++ m ∷ ys → path_cmp path m.location ≡ Less
  behind_front path entry ms [] m ys less further same = let at : meta_of entry ≡ m = cc in sym (ap (λ (x : ObjectMeta). path_cmp path x.location) at) ∙ less
  behind_front path entry ms (x ∷ front) m ys less further same = further front (cc)

  behind : (path : Segments) (es : List (Segments × Got)) (xs : List ObjectMeta) (m : ObjectMeta) (ys : List ObjectMeta) → T (below_all path_cmp path es) → listing prefix None es ≡ xs ++ m ∷ ys → path_cmp path m.location ≡ Less
  behind path [] [] m ys below e = absurd (cc)
  behind path [] (x ∷ xs) m ys below e = absurd (cc)
  behind path (entry ∷ es) xs m ys below e =
      let less : path_cmp path entry.0 ≡ Less = first_behind path entry es below in
      let more : T (below_all path_cmp path es) = rest_behind path entry es below in
      elim (cases_Bool (is_below prefix entry.0)) [
        | inl is ↦ behind_front path entry (listing prefix None es) xs m ys less (λ front tail. behind path es front m ys more tail) (rw is at e)
        | inr is ↦ behind path es xs m ys more (rw is at e)
      ]

  -- an entry that is not above a path is not listed after it
  skipped : (path : Segments) (entry : Segments × Got) (es : List (Segments × Got)) → is_above (Some path) entry.0 ≡ false → is_below prefix entry.0 ≡ true → listing prefix (Some path) (entry ∷ es) ≡ listing prefix (Some path) es
  skipped path entry es up is = rw (is, up) refl

  after_itself : (entry : Segments × Got) (es : List (Segments × Got)) (m : ObjectMeta) (ys : List ObjectMeta) → T (below_all path_cmp entry.0 es) → is_below prefix entry.0 ≡ true → meta_of entry ≡ m → listing prefix None es ≡ ys → listing prefix (Some m.location) (entry ∷ es) ≡ ys
  after_itself entry es m ys below is same tail =
      let at : entry.0 ≡ m.location = ap (λ (x : ObjectMeta). x.location) same in
      let tied : path_cmp m.location entry.0 ≡ Equal = ap (path_cmp m.location) at ∙ tied_itself path_cmp_total m.location in
      let rest : listing prefix (Some m.location) es ≡ listing prefix None es = subst (λ (p : Segments). listing prefix (Some p) es ≡ listing prefix None es) at (all_behind entry.0 es below) in
      skipped m.location entry es (ap is_lt tied) is ∙ (rest ∙ tail)

  after_front : (entry : Segments × Got) (es : List (Segments × Got)) (xs : List ObjectMeta) (m : ObjectMeta) (ys : List ObjectMeta) → T (below_all path_cmp entry.0 es) → is_below prefix entry.0 ≡ true → ((front : List ObjectMeta) → listing prefix None es ≡ front ++ m ∷ ys → listing prefix (Some m.location) es ≡ ys) → meta_of entry ∷ listing prefix None es ≡ xs ++ m ∷ ys → listing prefix (Some m.location) (entry ∷ es) ≡ ys
  after_front entry es [] m ys below is further same = after_itself entry es m ys below is (cc) (cc)
  after_front entry es (x ∷ front) m ys below is further same =
      let tail : listing prefix None es ≡ front ++ m ∷ ys = cc in
      let far : path_cmp m.location entry.0 ≡ Greater = reversed entry.0 m.location Less (behind entry.0 es front m ys below tail) in
      skipped m.location entry es (ap is_lt far) is ∙ further front tail

  -- a listing after the path of a listed file is what follows that file
  pub listing_after : (es : List (Segments × Got)) (xs : List ObjectMeta) (m : ObjectMeta) (ys : List ObjectMeta) → T (is_sorted path_cmp es) → listing prefix None es ≡ xs ++ m ∷ ys → listing prefix (Some m.location) es ≡ ys
  listing_after [] [] m ys sorted e = absurd (cc)
  listing_after [] (x ∷ xs) m ys sorted e = absurd (cc)
  listing_after (entry ∷ es) xs m ys sorted e =
      let below : T (below_all path_cmp entry.0 es) = first_sorted entry es sorted in
      let more : T (is_sorted path_cmp es) = rest_sorted entry es sorted in
      elim (cases_Bool (is_below prefix entry.0)) [
        | inl is ↦ after_front entry es xs m ys below is (λ front tail. listing_after es front m ys more tail) (rw is at e)
        | inr is ↦ rw is (listing_after es xs m ys more (rw is at e))
      ]

-- the last of some files
pub last_of : (metas : List ObjectMeta) → 0 < length metas → (front : List ObjectMeta) × ((last : ObjectMeta) × (metas ≡ front ++ last ∷ []) × (last_location metas ≡ Some last.location))
last_of [] some = absurd (omega (arith, some))
last_of (m ∷ []) some = ([], (m, refl, refl))
last_of (m ∷ n ∷ metas) some =
    let rest = last_of (n ∷ metas) (omega arith) in
    let at : length (m ∷ n ∷ metas) - 1 ≡ suc (length (n ∷ metas) - 1) = omega arith in
    (m ∷ rest.0, (rest.1.0, ap (λ ms. m ∷ ms) rest.1.1, ap (λ k. option_map (λ (meta : ObjectMeta). meta.location) (slice_get (m ∷ n ∷ metas) k)) at ∙ rest.1.2))

append_assoc : (xs ys zs : List ObjectMeta) → (xs ++ ys) ++ zs ≡ xs ++ (ys ++ zs)
append_assoc [] ys zs = refl
append_assoc (x ∷ xs) ys zs = ap (λ ms. x ∷ ms) (append_assoc xs ys zs)

-- what a page leaves: it is the last, and tells all that is left; or it is full, and the next begins behind it
pub record NextPage (prefix : Segments) (files : Files) (limit : ℕ) (seen rest : List ObjectMeta) (after : Segments) : Type 0 where
  pub split : listing prefix None (entries files) ≡ (seen ++ take limit rest) ++ drop limit rest
  pub follows : listing prefix (Some after) (entries files) ≡ drop limit rest
  pub full : length (seen ++ take limit rest) ≡ length seen + limit
  pub more : 1 ≤ length (drop limit rest)

abbrev pub PageLeaves : Segments → Files → ℕ → List ObjectMeta → List ObjectMeta → Option Segments → Type 0
PageLeaves prefix files limit seen rest None = take limit rest ≡ rest
PageLeaves prefix files limit seen rest (Some after) = NextPage prefix files limit seen rest after

module _ (prefix : Segments) (files : Files) (limit : ℕ) (room : 1 ≤ limit) (seen rest : List ObjectMeta) (split : listing prefix None (entries files) ≡ seen ++ rest) where
  drop_more : (n : ℕ) (ms : List ObjectMeta) → n < length ms → 1 ≤ length (drop n ms)
  drop_more zero ms less = omega (arith, less)
  drop_more (suc n) [] less = absurd (omega (arith, less))
  drop_more (suc n) (m ∷ ms) less = drop_more n ms (omega (arith, less))

  leaves_more : limit < length rest → (next : Option Segments) → last_location (take limit rest) ≡ next → PageLeaves prefix files limit seen rest next
  leaves_more less next is =
      let long : length (take limit rest) ≡ limit = length-take-le limit rest (omega (arith, less)) in
      let last = last_of (take limit rest) (omega (arith, long, room)) in
      let parts : rest ≡ take limit rest ++ drop limit rest = sym (take-append-drop limit rest) in
      let whole : listing prefix None (entries files) ≡ (seen ++ take limit rest) ++ drop limit rest = split ∙ (ap (λ ms. seen ++ ms) parts ∙ sym (append_assoc seen (take limit rest) (drop limit rest))) in
      let at : listing prefix None (entries files) ≡ (seen ++ last.0) ++ last.1.0 ∷ drop limit rest = split ∙ (ap (λ ms. seen ++ ms) (parts ∙ (ap (λ ms. ms ++ drop limit rest) last.1.1 ∙ append_assoc last.0 (last.1.0 ∷ []) (drop limit rest))) ∙ sym (append_assoc seen last.0 (last.1.0 ∷ drop limit rest))) in
      subst (PageLeaves prefix files limit seen rest) (sym last.1.2 ∙ is) (record {
        split = whole;
        follows = listing_after prefix (entries files) (seen ++ last.0) last.1.0 (drop limit rest) (entries_sorted files) at;
        full = (let l = length-append seen (take limit rest) in omega (arith, l, long));
        more = drop_more limit rest less;
      })

  by_more : (more : Bool) → nat_lt limit (length rest) ≡ more → PageLeaves prefix files limit seen rest (cond more (last_location (take limit rest)) None)
  by_more true is = leaves_more (ltb-true limit (length rest) is) (last_location (take limit rest)) refl
  by_more false is = (let le = ltb-false limit (length rest) is in take_all limit rest (omega (arith, le)))

  -- what the page of the files that are left leaves
  pub page_leaves : PageLeaves prefix files limit seen rest (next_after (page_of limit rest))
  page_leaves = by_more (nat_lt limit (length rest)) refl
