-- What a whole listing tells of the versions that are stored.
use Rattle.std.proofs.Common.{◌≡◌, ◌⊎◌, ℕ, ◌<◌, ◌≤◌, ◌^◌, ◌&&◌, Bool, true, false, cond, List, [], ◌∷◌, ◌++◌, map, filter, max, Option, Some, None, refl, sym, ap, ◌∙◌, inl, inr, arith}
use Rattle.std.specs.FinMap.{get, entries, find, get-entries}
use Rattle.std.specs.Ordering.{eq_by_cmp, is_eq}
use Rattle.std.specs.declared.cmp.Ordering.{Ordering}
use Rattle.std.specs.declared.cmp.Ordering.TheVariants.{Less, Equal, Greater}
use Rattle.std.proofs.lemmas.Option.{same_Some}
use Rattle.std.specs.Cmp.{tied_itself}
use Rattle.txn_store.specs.Paths.{Segments, path_cmp, is_below}
use Rattle.txn_store.specs.VersionName.{Names, version_path}
use Rattle.txn_store.specs.VersionOf.{version_of}
use Rattle.txn_store.specs.Store.{Files, meta_of, is_above}
use Rattle.txn_store.specs.declared.store.Got.{Got}
use Rattle.txn_store.specs.declared.store.ObjectMeta.{ObjectMeta}
use Rattle.txn_store.proofs.FileLemmas.{path_cmp_total, path_cmp-IsAntisymmetric}
use Rattle.txn_store.proofs.VersionOfLemmas.{version_below, version_of_path, path_of_version}
use Rattle.txn_steps.specs.Latest.{greater_of, greatest_from}
use Rattle.txn_steps_driven.specs.PageCount.{files_below}

-- an element of a list
abbrev pub In : {X : Type 0} → List X → X → Type 0
In [] x = ⊥
In (y ∷ ys) x = (y ≡ x) ⊎ In ys x

In-map : {X Y : Type 0} (f : X → Y) (xs : List X) (x : X) → In xs x → In (map f xs) (f x)
In-map f [] x h = absurd h
In-map f (y ∷ ys) x (inl e) = inl (ap f e)
In-map f (y ∷ ys) x (inr r) = inr (In-map f ys x r)

from_In-map : {X Y : Type 0} (f : X → Y) (xs : List X) (y : Y) → In (map f xs) y → (x : X) × In xs x × (f x ≡ y)
from_In-map f [] y h = absurd h
from_In-map f (x ∷ xs) y (inl e) = (x, inl refl, e)
from_In-map f (x ∷ xs) y (inr r) = let c = from_In-map f xs y r in (c.0, inr c.1, c.2)

module _ {X : Type 0} (p : X → Bool) where
  In-filter : (xs : List X) (x : X) → p x ≡ true → In xs x → In (filter p xs) x
  In-filter [] x is h = absurd h
  In-filter (y ∷ ys) x is (inl e) = let same : p y ≡ true = ap p e ∙ is in rw same (inl e)
  In-filter (y ∷ ys) x is (inr r) = elim (p y) as (λ t. In (cond t (y ∷ filter p ys) (filter p ys)) x) [ true ↦ inr (In-filter ys x is r) | false ↦ In-filter ys x is r ]

  from_In-filter : (xs : List X) (x : X) → In (filter p xs) x → In xs x
  from_In-filter [] x h = absurd h
  from_In-filter (y ∷ ys) x h = one (p y) (from_In-filter ys x) h
    where
      one : (t : Bool) → (In (filter p ys) x → In ys x) → In (cond t (y ∷ filter p ys) (filter p ys)) x → In (y ∷ ys) x
      one true more (inl e) = inl e
      one true more (inr r) = inr (more r)
      one false more r = inr (more r)

-- what a map has is an entry, and a path of an entry has something
tie_same : (q p : Segments) (o : Ordering) → path_cmp q p ≡ o → is_eq o ≡ true → p ≡ q
tie_same q p Less e t = absurd (cc)
tie_same q p Equal e t = sym (path_cmp-IsAntisymmetric q p e)
tie_same q p Greater e t = absurd (cc)

find_entry : (q : Segments) (g : Got) (es : List (Segments × Got)) → find path_cmp q es ≡ Some g → In es (q, g)
find_entry q g [] e = absurd (cc)
find_entry q g (x ∷ es) e = one (eq_by_cmp path_cmp q x.0) (find_entry q g es) refl e
  where
    one : (t : Bool) → (find path_cmp q es ≡ Some g → In es (q, g)) → eq_by_cmp path_cmp q x.0 ≡ t → cond t (Some x.1) (find path_cmp q es) ≡ Some g → In (x ∷ es) (q, g)
    one true more is e = let key : x.0 ≡ q = tie_same q x.0 (path_cmp q x.0) refl is in let val : x.1 ≡ g = same_Some x.1 g e in inl (ap (λ k. (k, x.1)) key ∙ ap (λ v. (q, v)) val)
    one false more is e = inr (more e)

entry_found : (p : Segments) (g : Got) (es : List (Segments × Got)) → In es (p, g) → find path_cmp p es ≡ None → ⊥
entry_found p g [] h none = absurd h
entry_found p g (x ∷ es) h none = one (eq_by_cmp path_cmp p x.0) (entry_found p g es) refl h none
  where
    one : (t : Bool) → (In es (p, g) → find path_cmp p es ≡ None → ⊥) → eq_by_cmp path_cmp p x.0 ≡ t → In (x ∷ es) (p, g) → cond t (Some x.1) (find path_cmp p es) ≡ None → ⊥
    one true more is h none = cc
    one false more is (inl e) none =
        let key : x.0 ≡ p = ap (λ y. y.0) e in
        let tied : eq_by_cmp path_cmp p x.0 ≡ true = ap (eq_by_cmp path_cmp p) key ∙ ap is_eq (tied_itself path_cmp_total p) in absurd (cc)
    one false more is (inr r) none = more r none

-- the greatest so far stays or is passed
module _ (names : Names) where
  abbrev AtLeast : Option ℕ → ℕ → Type 0
  AtLeast None n = ⊥
  AtLeast (Some k) n = n ≤ k

  keeps_more : (g f : Option ℕ) (n : ℕ) → AtLeast g n → AtLeast (greater_of g f) n
  keeps_more None f n h = absurd h
  keeps_more (Some k) None n h = h
  keeps_more (Some k) (Some m) n h = omega (arith, h)

  takes_more : (g : Option ℕ) (m n : ℕ) → n ≤ m → AtLeast (greater_of g (Some m)) n
  takes_more None m n h = h
  takes_more (Some k) m n h = omega (arith, h)

  stays_most : (g : Option ℕ) (n : ℕ) (metas : List ObjectMeta) → AtLeast g n → AtLeast (greatest_from g names metas) n
  stays_most g n [] h = h
  stays_most g n (meta ∷ metas) h = stays_most (greater_of g (version_of names meta.location)) n metas (keeps_more g (version_of names meta.location) n h)

  -- a listed version is at most the greatest
  most : (g : Option ℕ) (n : ℕ) (metas : List ObjectMeta) (meta : ObjectMeta) → version_of names meta.location ≡ Some n → In metas meta → AtLeast (greatest_from g names metas) n
  most g n [] meta is h = absurd h
  most g n (m ∷ metas) meta is (inl e) =
      let named : version_of names m.location ≡ Some n = ap (λ x. version_of names x.location) e ∙ is in
      stays_most (greater_of g (version_of names m.location)) n metas (rw named (takes_more g n n (omega arith)))
  most g n (m ∷ metas) meta is (inr r) = most (greater_of g (version_of names m.location)) n metas meta is r

  -- the greatest is a listed version
  abbrev Told : Option ℕ → List ObjectMeta → ℕ → Type 0
  Told g metas k = (g ≡ Some k) ⊎ ((meta : ObjectMeta) × In metas meta × (version_of names meta.location ≡ Some k))

  one_told : (g f : Option ℕ) (k : ℕ) → greater_of g f ≡ Some k → (g ≡ Some k) ⊎ (f ≡ Some k)
  one_told None f k e = inr e
  one_told (Some n) None k e = inl e
  one_told (Some n) (Some m) k e = let is : max n m ≡ k = same_Some _ _ e in by_max (max_cases n m) is
    where
      max_cases : (n m : ℕ) → (max n m ≡ n) ⊎ (max n m ≡ m)
      max_cases n m = grind arith

      by_max : (max n m ≡ n) ⊎ (max n m ≡ m) → max n m ≡ k → (Some n ≡ Some k) ⊎ (Some m ≡ Some k)
      by_max (inl x) is = inl (cc)
      by_max (inr x) is = inr (cc)

  told : (g : Option ℕ) (k : ℕ) (metas : List ObjectMeta) → greatest_from g names metas ≡ Some k → Told g metas k
  told g k [] e = inl e
  told g k (m ∷ metas) e = elim (told (greater_of g (version_of names m.location)) k metas e) [
    | inl is ↦ elim (one_told g (version_of names m.location) k is) [ inl a ↦ inl a | inr b ↦ inr (m, inl refl, b) ]
    | inr (meta, h, is) ↦ inr (meta, inr h, is)
  ]

  -- the greatest of two lists, one after the other
  pub greatest_append : (g : Option ℕ) (xs ys : List ObjectMeta) → greatest_from g names (xs ++ ys) ≡ greatest_from (greatest_from g names xs) names ys
  greatest_append g [] ys = refl
  greatest_append g (x ∷ xs) ys = greatest_append (greater_of g (version_of names x.location)) xs ys

  module _ (files : Files) where
    abbrev is_told : Segments × Got → Bool
    is_told e = is_below names.dir e.0 && is_above None e.0

    -- a stored version is listed
    pub listed_most : (n : ℕ) (got : Got) → n < 2 ^ 64 → get files (version_path names n) ≡ Some got → (k : ℕ) × (greatest_from None names (files_below names files) ≡ Some k) × (n ≤ k)
    listed_most n got small is = given (greatest_from None names (files_below names files)) refl (most None n (files_below names files) (meta_of (version_path names n, got)) (version_of_path names n small) listed)
      where
        entry : In (entries files) (version_path names n, got)
        entry = find_entry (version_path names n) got (entries files) (sym (get-entries files (version_path names n)) ∙ is)

        listed : In (files_below names files) (meta_of (version_path names n, got))
        listed = In-map meta_of (filter is_told (entries files)) (version_path names n, got) (In-filter is_told (entries files) (version_path names n, got) (rw (version_below names n) refl) entry)

        given : (g : Option ℕ) → greatest_from None names (files_below names files) ≡ g → AtLeast g n → (k : ℕ) × (greatest_from None names (files_below names files) ≡ Some k) × (n ≤ k)
        given None e h = absurd h
        given (Some k) e h = (k, e, h)

    -- the greatest listed version is stored
    pub listed_stored : (k : ℕ) → greatest_from None names (files_below names files) ≡ Some k → (k < 2 ^ 64) × (get files (version_path names k) ≡ None → ⊥)
    listed_stored k e = elim (told None k (files_below names files) e) [
      | inl none ↦ absurd (cc)
      | inr (meta, h, is) ↦ found meta h is
    ]
      where
        found : (meta : ObjectMeta) → In (files_below names files) meta → version_of names meta.location ≡ Some k → (k < 2 ^ 64) × (get files (version_path names k) ≡ None → ⊥)
        found meta h is =
            let named = path_of_version names meta.location k is in
            let back = from_In-map meta_of (filter is_told (entries files)) meta h in
            let inside = from_In-filter is_told (entries files) back.0 back.1 in
            let key : back.0.0 ≡ version_path names k = ap (λ m. m.location) back.2 ∙ named.0 in
            (named.1, λ none. entry_found back.0.0 back.0.1 (entries files) inside (ap (λ p. find path_cmp p (entries files)) key ∙ sym (get-entries files (version_path names k)) ∙ none))
