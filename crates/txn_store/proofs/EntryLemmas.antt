-- Entries in the order of their paths: which paths stand there, and what stands behind one.
use Rattle.std.proofs.Common.{◌≡◌, ◌⊎◌, ◌&&◌, Bool, true, false, T, List, [], ◌∷◌, map, refl, ap, ◌∙◌, inl, inr}
use Rattle.std.specs.List.{list_any}
use Rattle.std.specs.FinMap.{is_sorted}
use Rattle.std.specs.FinMap.Entries.{below_all}
use Rattle.std.specs.Ordering.{eq_by_cmp, is_eq, is_lt}
use Rattle.std.specs.Cmp.{tied_itself}
use Rattle.std.specs.declared.cmp.Ordering.{Ordering}
use Rattle.std.specs.declared.cmp.Ordering.TheVariants.{Less, Equal, Greater}
use Rattle.std.proofs.lemmas.Bool.{or_cases, or_left, or_right}
use Rattle.txn_store.specs.Paths.{Segments, path_cmp}
use Rattle.txn_store.specs.declared.store.Got.{Got}
use Rattle.txn_store.proofs.FileLemmas.{path_cmp_total, path_cmp-IsAntisymmetric}

abbrev pub Entries : Type 0
Entries = List (Segments × Got)

pub is_less : (o : Ordering) → is_lt o ≡ true → o ≡ Less
is_less Less h = refl
is_less Equal h = cc
is_less Greater h = cc

tied : (o : Ordering) → is_eq o ≡ true → o ≡ Equal
tied Less h = cc
tied Equal h = refl
tied Greater h = cc

first_part : (a b : Bool) → T (a && b) → a ≡ true
first_part true b h = refl
first_part false b h = absurd h

rest_part : (a b : Bool) → T (a && b) → T b
rest_part true b h = h
rest_part false b h = absurd h

-- where all entries stand behind a path, so does the first, and so do the others
pub first_behind : (path : Segments) (e : Segments × Got) (es : Entries) → T (below_all path_cmp path (e ∷ es)) → path_cmp path e.0 ≡ Less
first_behind path e es h = is_less (path_cmp path e.0) (first_part (is_lt (path_cmp path e.0)) (below_all path_cmp path es) h)

pub rest_behind : (path : Segments) (e : Segments × Got) (es : Entries) → T (below_all path_cmp path (e ∷ es)) → T (below_all path_cmp path es)
rest_behind path e es h = rest_part (is_lt (path_cmp path e.0)) (below_all path_cmp path es) h

-- of sorted entries all others stand behind the first, and are sorted
pub first_sorted : (e : Segments × Got) (es : Entries) → T (is_sorted path_cmp (e ∷ es)) → T (below_all path_cmp e.0 es)
first_sorted e es h = rw (first_part (below_all path_cmp e.0 es) (is_sorted path_cmp es) h) tt

pub rest_sorted : (e : Segments × Got) (es : Entries) → T (is_sorted path_cmp (e ∷ es)) → T (is_sorted path_cmp es)
rest_sorted e es h = rest_part (below_all path_cmp e.0 es) (is_sorted path_cmp es) h

-- a path is among the entries
abbrev pub is_at : Segments → Entries → Bool
is_at path es = list_any (eq_by_cmp path_cmp path) (map (λ e. e.0) es)

pub at_first : (e : Segments × Got) (es : Entries) (path : Segments) → path ≡ e.0 → is_at path (e ∷ es) ≡ true
at_first e es path is = or_left (eq_by_cmp path_cmp path e.0) (is_at path es) (ap (λ p. eq_by_cmp path_cmp p e.0) is ∙ ap is_eq (tied_itself path_cmp_total e.0))

pub at_rest : (e : Segments × Got) (es : Entries) (path : Segments) → is_at path es ≡ true → is_at path (e ∷ es) ≡ true
at_rest e es path h = or_right (eq_by_cmp path_cmp path e.0) (is_at path es) h

pub at_cases : (e : Segments × Got) (es : Entries) (path : Segments) → is_at path (e ∷ es) ≡ true → (path ≡ e.0) ⊎ (is_at path es ≡ true)
at_cases e es path h = elim (or_cases (eq_by_cmp path_cmp path e.0) (is_at path es) h) [ inl here ↦ inl (path_cmp-IsAntisymmetric path e.0 (tied (path_cmp path e.0) here)) | inr rest ↦ inr rest ]

-- what comes after an entry stands behind its path
pub later : (path : Segments) (es : Entries) → T (below_all path_cmp path es) → (q : Segments) → is_at q es ≡ true → path_cmp path q ≡ Less
later path [] h q at = cc
later path (e ∷ es) h q at = elim (at_cases e es q at) [ inl here ↦ ap (path_cmp path) here ∙ first_behind path e es h | inr rest ↦ later path es (rest_behind path e es h) q rest ]
