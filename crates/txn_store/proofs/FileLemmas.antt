-- The files of a store as a finite map: the laws that a caller of a store needs.
use Rattle.std.specs.Prelude.{◌≡◌, false, cond, Some, None, refl}
use Rattle.std.proofs.Common.{◌∙◌, ap}
use Rattle.std.specs.FinMap.{FinMap, get, insert, remove, get-insert, get-remove, IsAntisymmetric, nat_cmp-IsAntisymmetric, slice_cmp-IsAntisymmetric}
use Rattle.std.specs.Cmp.{IsTotalOrder, tied_itself}
use Rattle.std.specs.Cmp.Lexicographic.{lists_total, nat_list_cmp_total}
use Rattle.std.specs.Ordering.{is_eq}
use Rattle.std.specs.declared.cmp.Ordering.{Ordering}
use Rattle.std.specs.declared.cmp.Ordering.TheVariants.{Less, Equal, Greater}
use Rattle.txn_store.specs.Paths.{Segments, path_cmp}

pub path_cmp_total : IsTotalOrder path_cmp
path_cmp_total = lists_total nat_list_cmp_total

pub path_cmp-IsAntisymmetric : IsAntisymmetric path_cmp
path_cmp-IsAntisymmetric = slice_cmp-IsAntisymmetric (slice_cmp-IsAntisymmetric nat_cmp-IsAntisymmetric)

-- two paths that differ are not tied in the order
untied : (q p : Segments) → (q ≡ p → ⊥) → (r : Ordering) → path_cmp q p ≡ r → is_eq r ≡ false
untied q p apart Less e = refl
untied q p apart Equal e = absurd (apart (path_cmp-IsAntisymmetric q p e))
untied q p apart Greater e = refl

module _ {X : Type 0} where
  -- what a put leaves under its path, and under each other path
  pub get-insert_same : (m : FinMap path_cmp X) (p : Segments) (x : X) → get (insert m p x) p ≡ Some x
  get-insert_same m p x = get-insert path_cmp_total m p x p ∙ ap (λ r. cond (is_eq r) (Some x) (get m p)) (tied_itself path_cmp_total p)

  pub get-insert_other : (m : FinMap path_cmp X) (p q : Segments) (x : X) → (q ≡ p → ⊥) → get (insert m p x) q ≡ get m q
  get-insert_other m p q x apart = get-insert path_cmp_total m p x q ∙ ap (λ t. cond t (Some x) (get m q)) (untied q p apart (path_cmp q p) refl)

  -- what a removal leaves under its path, and under each other path
  pub get-remove_same : (m : FinMap path_cmp X) (p : Segments) → get (remove m p) p ≡ None
  get-remove_same m p = get-remove path_cmp_total m p p ∙ ap (λ r. cond (is_eq r) None (get m p)) (tied_itself path_cmp_total p)

  pub get-remove_other : (m : FinMap path_cmp X) (p q : Segments) → (q ≡ p → ⊥) → get (remove m p) q ≡ get m q
  get-remove_other m p q apart = get-remove path_cmp_total m p q ∙ ap (λ t. cond t None (get m q)) (untied q p apart (path_cmp q p) refl)
