-- What waits under a number is taken out from the first place that has it.
use Rattle.std.proofs.Common.{◌≡◌, ℕ, ◌==◌, ◌<◌, zero, suc, List, [], ◌∷◌, ◌++◌, length, get_or, take, drop, Bool, true, false, not, cond, nat_lt, Option, Some, None, refl, sym, ap, subst, arith}
use Rattle.std.specs.List.{remove, position, position_or_len, All}
use Rattle.std.proofs.lemmas.Bool.{ltb-false}
use Rattle.std.proofs.lemmas.List.Sums.{fails_before_first}
use Rattle.std.proofs.lemmas.List.Elements.{All-head, All-tail}
use Rattle.std.proofs.lemmas.Option.{none-some, same_Some}
use Rattle.txn_client_seat.specs.Numbered.{waits_at, without}

module _ {A : Type 0} where
  found_by : (P : A → Type 0) (value : A) (rest : Option A) (found : A) (b : Bool) → P value → (rest ≡ Some found → P found) → cond b (Some value) rest ≡ Some found → P found
  found_by P value rest found true holds then e = subst P (same_Some value found e) holds
  found_by P value rest found false holds then e = then e

module _ {A : Type 0} (number : ℕ) where
  pub first_found : (xs : List (ℕ × A)) (i : ℕ) (d : ℕ × A) → i < length xs → (get_or xs i d).0 == number ≡ true → ((k : ℕ) → k < i → (get_or xs k d).0 == number ≡ false) → waits_at number xs ≡ Some (get_or xs i d).1
  first_found [] i d within is before = absurd (omega (arith, within))
  first_found (x ∷ xs) zero d within is before = rw is refl
  first_found (x ∷ xs) (suc i) d within is before = rw (before zero (omega arith)) (first_found xs i d (omega (arith, within)) is (λ k h. before (suc k) (omega (arith, h))))

  pub rest_left : (xs : List (ℕ × A)) (i : ℕ) (d : ℕ × A) → i < length xs → (get_or xs i d).0 == number ≡ true → without number (remove xs i) ≡ without number xs
  rest_left [] i d within is = absurd (omega (arith, within))
  rest_left (x ∷ xs) zero d within is = rw is refl
  rest_left (x ∷ xs) (suc i) d within is = ap (λ rest. cond (not (x.0 == number)) (x ∷ rest) rest) (rest_left xs i d (omega (arith, within)) is)

  pub none_found : (xs : List (ℕ × A)) → ((k : ℕ) (d : ℕ × A) → k < length xs → (get_or xs k d).0 == number ≡ false) → waits_at number xs ≡ None
  none_found [] none = refl
  none_found (x ∷ xs) none = rw (none zero x (omega arith)) (none_found xs (λ k d h. none (suc k) d (omega (arith, h))))

  pub none_left : (xs : List (ℕ × A)) → ((k : ℕ) (d : ℕ × A) → k < length xs → (get_or xs k d).0 == number ≡ false) → without number xs ≡ xs
  none_left [] none = refl
  none_left (x ∷ xs) none = rw (none zero x (omega arith)) (ap (λ rest. x ∷ rest) (none_left xs (λ k d h. none (suc k) d (omega (arith, h)))))

  none_before : (xs : List (ℕ × A)) (b : Bool) → nat_lt (position_or_len (λ one. one.0 == number) xs) (length xs) ≡ b → cond b (Some (position_or_len (λ one. one.0 == number) xs)) None ≡ None → (k : ℕ) (d : ℕ × A) → k < length xs → (get_or xs k d).0 == number ≡ false
  none_before xs true e is k d h = absurd (none-some _ (sym is))
  none_before xs false e is k d h = fails_before_first (λ one. one.0 == number) xs k d (omega (arith, h, ltb-false (position_or_len (λ one. one.0 == number) xs) (length xs) e))

  -- no place has the number
  pub none_has : (xs : List (ℕ × A)) → position (λ one. one.0 == number) xs ≡ None → (k : ℕ) (d : ℕ × A) → k < length xs → (get_or xs k d).0 == number ≡ false
  none_has xs is = none_before xs (nat_lt (position_or_len (λ one. one.0 == number) xs) (length xs)) refl is

  pub holds_of_found : (P : A → Type 0) (xs : List (ℕ × A)) (found : A) → All (λ one. P one.1) xs → waits_at number xs ≡ Some found → P found
  holds_of_found P [] found all is = absurd (none-some found is)
  holds_of_found P (x ∷ xs) found all is = found_by P x.1 (waits_at number xs) found (x.0 == number) (All-head (λ one. P one.1) x xs all) (λ e. holds_of_found P xs found (All-tail (λ one. P one.1) x xs all) e) is
