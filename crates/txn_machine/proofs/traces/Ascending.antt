-- A set's keys, put in order.
use Rattle.std.proofs.Common.{◌≡◌, ℕ, ◌||◌, nat_eq, List, [], ◌∷◌, Bool, true, false, refl, sym, ◌∙◌, ap}
use Rattle.std.specs.List.{list_any}
use Rattle.std.specs.Ordering.{nat_cmp, match_ordering}
use Rattle.std.specs.declared.cmp.Ordering.{Ordering}
use Rattle.std.specs.declared.cmp.Ordering.TheVariants.{Less, Equal, Greater}
use Rattle.std.specs.BTreeSet.{insert_key}
use Rattle.std.specs.FinMap.{nat_cmp-IsAntisymmetric}

or_swap : (a b c : Bool) → (b || (a || c)) ≡ (a || (b || c))
or_swap true true c = refl
or_swap true false c = refl
or_swap false b c = refl

or_twice : (a c : Bool) → (a || c) ≡ (a || (a || c))
or_twice true c = refl
or_twice false c = refl

pub or_move : (a b c : Bool) → ((b || a) || c) ≡ (a || (b || c))
or_move true true c = refl
or_move true false c = refl
or_move false true c = refl
or_move false false c = refl

insert_at : (o : Ordering) (x k n : ℕ) (xs : List ℕ) → nat_cmp k x ≡ o → list_any (nat_eq n) (insert_key nat_cmp xs k) ≡ (nat_eq n k || list_any (nat_eq n) xs) →
    list_any (nat_eq n) (match_ordering o (k ∷ x ∷ xs) (x ∷ xs) (x ∷ insert_key nat_cmp xs k)) ≡ (nat_eq n k || list_any (nat_eq n) (x ∷ xs))
insert_at Less x k n xs e h = refl
insert_at Equal x k n xs e h = ap (λ m. nat_eq n m || list_any (nat_eq n) xs) (sym same) ∙ (or_twice (nat_eq n k) (list_any (nat_eq n) xs) ∙ ap (λ m. nat_eq n k || (nat_eq n m || list_any (nat_eq n) xs)) same)
  where
    same : k ≡ x
    same = nat_cmp-IsAntisymmetric k x e
insert_at Greater x k n xs e h = ap (λ b. nat_eq n x || b) h ∙ or_swap (nat_eq n k) (nat_eq n x) (list_any (nat_eq n) xs)

pub insert_has : (xs : List ℕ) (k n : ℕ) → list_any (nat_eq n) (insert_key nat_cmp xs k) ≡ (nat_eq n k || list_any (nat_eq n) xs)
insert_has [] k n = refl
insert_has (x ∷ xs) k n = insert_at (nat_cmp k x) x k n xs refl (insert_has xs k n)
