-- Elements of a list that has one more at its end, or one in another's place.
use Rattle.std.proofs.Common.{◌≡◌, ◌≢◌, ℕ, zero, suc, ◌+◌, ◌-◌, ◌<◌, ◌≤◌, List, [], ◌∷◌, ◌++◌, length, set, slice_get, Bool, true, false, ◌||◌, Some, ◌⊎◌, inl, inr, refl, sym, ◌∙◌, ap, arith}
use Rattle.std.specs.List.{list_any}
use Rattle.std.proofs.lemmas.List.{append_assoc, length-append}
use Rattle.std.proofs.lemmas.List.Folds.{list_any-append}
use Rattle.txn_history.specs.Lists.{numbered}

pub get_more : {A : Type 0} (xs : List A) (x : A) (k : ℕ) (y : A) → slice_get (xs ++ x ∷ []) k ≡ Some y → (slice_get xs k ≡ Some y) ⊎ ((k ≡ length xs) × (x ≡ y))
get_more [] x zero y e = inr (refl, cc)
get_more [] x (suc k) y e = cc
get_more (z ∷ zs) x zero y e = inl e
get_more (z ∷ zs) x (suc k) y e = elim (get_more zs x k y e) [ inl h ↦ inl h | inr h ↦ inr (ap suc h.0, h.1) ]

pub get_kept : {A : Type 0} (xs ys : List A) (k : ℕ) (y : A) → slice_get xs k ≡ Some y → slice_get (xs ++ ys) k ≡ Some y
get_kept [] ys k y e = cc
get_kept (x ∷ xs) ys zero y e = e
get_kept (x ∷ xs) ys (suc k) y e = get_kept xs ys k y e

pub get_last : {A : Type 0} (xs : List A) (x : A) → slice_get (xs ++ x ∷ []) (length xs) ≡ Some x
get_last [] x = refl
get_last (z ∷ zs) x = get_last zs x

pub get_other : {A : Type 0} (xs : List A) (x : A) (k : ℕ) → k ≢ length xs → slice_get (xs ++ x ∷ []) k ≡ slice_get xs k
get_other [] x zero ne = absurd (ne refl)
get_other [] x (suc k) ne = refl
get_other (z ∷ zs) x zero ne = refl
get_other (z ∷ zs) x (suc k) ne = get_other zs x k (λ e. ne (ap suc e))

pub get_set : {A : Type 0} (xs : List A) (k : ℕ) (x : A) (m : ℕ) (y : A) → slice_get (set xs k x) m ≡ Some y → ((m ≡ k) × (x ≡ y)) ⊎ ((m ≢ k) × (slice_get xs m ≡ Some y))
get_set [] k x m y e = cc
get_set (z ∷ zs) zero x zero y e = inl (refl, cc)
get_set (z ∷ zs) zero x (suc m) y e = inr (λ h. absurd (omega arith), e)
get_set (z ∷ zs) (suc k) x zero y e = inr (λ h. absurd (omega arith), e)
get_set (z ∷ zs) (suc k) x (suc m) y e = elim (get_set zs k x m y e) [ inl h ↦ inl (ap suc h.0, h.1) | inr h ↦ inr (λ h'. h.0 (omega arith), h.1) ]

pub numbered_kept : {A : Type 0} (xs ys : List A) (n : ℕ) (y : A) → numbered xs n ≡ Some y → numbered (xs ++ ys) n ≡ Some y
numbered_kept xs ys zero y e = cc
numbered_kept xs ys (suc n) y e = get_kept xs ys n y e

pub numbered_more : {A : Type 0} (xs : List A) (x : A) (n : ℕ) (y : A) → numbered (xs ++ x ∷ []) n ≡ Some y → (numbered xs n ≡ Some y) ⊎ ((n ≡ length xs + 1) × (x ≡ y))
numbered_more xs x zero y e = cc
numbered_more xs x (suc n) y e = elim (get_more xs x n y e) [ inl h ↦ inl h | inr h ↦ inr (omega (arith, h.0), h.1) ]

pub numbered_last : {A : Type 0} (xs : List A) (x : A) → numbered (xs ++ x ∷ []) (suc (length xs)) ≡ Some x
numbered_last xs x = get_last xs x

pub numbered_set : {A : Type 0} (xs : List A) (n : ℕ) (x : A) (m : ℕ) (y : A) → 0 < n → numbered (set xs (n - 1) x) m ≡ Some y → ((m ≡ n) × (x ≡ y)) ⊎ ((m ≢ n) × (numbered xs m ≡ Some y))
numbered_set xs n x zero y p e = cc
numbered_set xs n x (suc m) y p e = elim (get_set xs (n - 1) x m y e) [ inl h ↦ inl (omega (arith, h.0), h.1) | inr h ↦ inr (λ h'. h.0 (omega (arith, h')), h.1) ]

pub any_false : {A : Type 0} (p : A → Bool) (xs : List A) (x : A) → list_any p xs ≡ false → p x ≡ false → list_any p (xs ++ x ∷ []) ≡ false
any_false p xs x e h = rw (list_any-append p xs (x ∷ []), e, h) refl

pub any_true : {A : Type 0} (p : A → Bool) (xs : List A) (x : A) → list_any p xs ≡ true → list_any p (xs ++ x ∷ []) ≡ true
any_true p xs x e = rw (list_any-append p xs (x ∷ []), e) refl

pub any_last : {A : Type 0} (p : A → Bool) (xs : List A) (x : A) → p x ≡ true → list_any p (xs ++ x ∷ []) ≡ true
any_last p [] x e = rw e refl
any_last p (z ∷ zs) x e = rw (any_last p zs x e) (elim (p z) as (λ b. (b || true) ≡ true) [ true ↦ refl | false ↦ refl ])

pub any_more : {A : Type 0} (p : A → Bool) (xs : List A) (x : A) → list_any p (xs ++ x ∷ []) ≡ true → (list_any p xs ≡ true) ⊎ (p x ≡ true)
any_more p [] x e = inr (elim (p x) as (λ b. (b || false) ≡ true → b ≡ true) [ true ↦ λ _. refl | false ↦ λ h. h ] e)
any_more p (z ∷ zs) x e =
    elim (p z) as (λ b. (b || list_any p (zs ++ x ∷ [])) ≡ true → ((b || list_any p zs) ≡ true) ⊎ (p x ≡ true))
    [ true ↦ λ _. inl refl | false ↦ λ h. any_more p zs x h ] e

-- an iterator over a list takes one more of it
pub one_taken : {A : Type 0} (taken : List A) (x : A) (now then all : List A) → now ≡ x ∷ then → taken ++ now ≡ all → (taken ++ x ∷ []) ++ then ≡ all
one_taken taken x now then all e is = append_assoc taken (x ∷ []) then ∙ (ap (λ rest. taken ++ rest) (sym e) ∙ is)

pub one_longer : {A : Type 0} (taken : List A) (x : A) (n : ℕ) → n ≤ length taken → n + 1 ≤ length (taken ++ x ∷ [])
one_longer taken x n h = omega (arith, h, length-append taken (x ∷ []))

pub taken_below : {A : Type 0} (taken : List A) (x : A) (now then all : List A) → now ≡ x ∷ then → taken ++ now ≡ all → length taken < length all
taken_below taken x now then all e is = let whole : length (taken ++ (x ∷ then)) ≡ length all = ap (λ rest. length (taken ++ rest)) (sym e) ∙ ap length is in omega (arith, whole, length-append taken (x ∷ then))
