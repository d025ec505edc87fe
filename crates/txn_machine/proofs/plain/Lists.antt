-- Elements of a list that has another in one place or at its end, and of a list of what a function gives.
use Rattle.std.proofs.Common.{◌≡◌, ◌≢◌, ℕ, zero, suc, ◌+◌, ◌-◌, ◌<◌, ◌≤◌, List, [], ◌∷◌, ◌++◌, length, map, set, slice_get, Some, ◌⊎◌, inl, inr, refl, sym, ap, subst, arith}
use Rattle.std.proofs.lemmas.Option.{slice_get_within}
use Rattle.txn_history.specs.Lists.{numbered}
use Rattle.txn_history.proofs.Lists.{numbered_last}

pub within : {A : Type 0} (xs : List A) (n : ℕ) (x : A) → numbered xs n ≡ Some x → (0 < n) × (n ≤ length xs)
within xs zero x e = cc
within xs (suc n) x e = (omega arith, omega (arith, slice_get_within xs n x e))

pub none_got : {A P : Type 0} (k : ℕ) (y : A) → slice_get [] k ≡ Some y → P
none_got k y e = cc

-- an element of one of two lists
pub get_split : {A : Type 0} (xs ys : List A) (k : ℕ) (y : A) → slice_get (xs ++ ys) k ≡ Some y → (slice_get xs k ≡ Some y) ⊎ ((j : ℕ) × (slice_get ys j ≡ Some y))
get_split [] ys k y e = inr (k, e)
get_split (x ∷ xs) ys zero y e = inl e
get_split (x ∷ xs) ys (suc k) y e = get_split xs ys k y e

get_set_same : {A : Type 0} (xs : List A) (k : ℕ) (x y : A) → slice_get xs k ≡ Some y → slice_get (set xs k x) k ≡ Some x
get_set_same [] k x y e = cc
get_set_same (z ∷ zs) zero x y e = refl
get_set_same (z ∷ zs) (suc k) x y e = get_set_same zs k x y e

get_set_other : {A : Type 0} (xs : List A) (k m : ℕ) (x : A) → m ≢ k → slice_get (set xs k x) m ≡ slice_get xs m
get_set_other [] k m x ne = refl
get_set_other (z ∷ zs) zero zero x ne = absurd (ne refl)
get_set_other (z ∷ zs) zero (suc m) x ne = refl
get_set_other (z ∷ zs) (suc k) zero x ne = refl
get_set_other (z ∷ zs) (suc k) (suc m) x ne = get_set_other zs k m x (λ e. ne (ap suc e))

-- the element that was added
pub numbered_new : {A : Type 0} (xs : List A) (x : A) → numbered (xs ++ x ∷ []) (length xs + 1) ≡ Some x
numbered_new xs x = let next : length xs + 1 ≡ suc (length xs) = omega arith in subst (λ (n : ℕ). numbered (xs ++ x ∷ []) n ≡ Some x) (sym next) (numbered_last xs x)

-- the element that was set
pub numbered_here : {A : Type 0} (xs : List A) (n : ℕ) (x y : A) → numbered xs n ≡ Some y → numbered (set xs (n - 1) x) n ≡ Some x
numbered_here xs zero x y e = cc
numbered_here xs (suc n) x y e = let same : suc n - 1 ≡ n = omega arith in subst (λ (k : ℕ). slice_get (set xs k x) n ≡ Some x) (sym same) (get_set_same xs n x y e)

-- an element in another place
pub numbered_other : {A : Type 0} (xs : List A) (n m : ℕ) (x : A) → 0 < n → m ≢ n → numbered (set xs (n - 1) x) m ≡ numbered xs m
numbered_other xs n zero x some ne = refl
numbered_other xs n (suc m) x some ne = get_set_other xs (n - 1) m x (λ e. ne (omega (arith, e, some)))

get_map : {A B : Type 0} (f : A → B) (xs : List A) (k : ℕ) (y : B) → slice_get (map f xs) k ≡ Some y → (x : A) × (slice_get xs k ≡ Some x) × (y ≡ f x)
get_map f [] k y e = cc
get_map f (x ∷ xs) zero y e = (x, refl, cc)
get_map f (x ∷ xs) (suc k) y e = get_map f xs k y e

pub numbered_map : {A B : Type 0} (f : A → B) (xs : List A) (n : ℕ) (y : B) → numbered (map f xs) n ≡ Some y → (x : A) × (numbered xs n ≡ Some x) × (y ≡ f x)
numbered_map f xs zero y e = cc
numbered_map f xs (suc n) y e = get_map f xs n y e

get_of_map : {A B : Type 0} (f : A → B) (xs : List A) (k : ℕ) (x : A) → slice_get xs k ≡ Some x → slice_get (map f xs) k ≡ Some (f x)
get_of_map f [] k x e = cc
get_of_map f (z ∷ zs) zero x e = let same : z ≡ x = cc in ap (λ y. Some (f y)) same
get_of_map f (z ∷ zs) (suc k) x e = get_of_map f zs k x e

-- an element as the function changes it
pub numbered_of_map : {A B : Type 0} (f : A → B) (xs : List A) (n : ℕ) (x : A) → numbered xs n ≡ Some x → numbered (map f xs) n ≡ Some (f x)
numbered_of_map f xs zero x e = cc
numbered_of_map f xs (suc n) x e = get_of_map f xs n x e

pub get_append : {A : Type 0} (xs ys : List A) (k : ℕ) (y : A) → slice_get (xs ++ ys) k ≡ Some y → (slice_get xs k ≡ Some y) ⊎ ((j : ℕ) × (slice_get ys j ≡ Some y))
get_append [] ys k y e = inr (k, e)
get_append (x ∷ xs) ys zero y e = inl e
get_append (x ∷ xs) ys (suc k) y e = get_append xs ys k y e

-- an element of two lists
pub numbered_append : {A : Type 0} (xs ys : List A) (n : ℕ) (y : A) → numbered (xs ++ ys) n ≡ Some y → (numbered xs n ≡ Some y) ⊎ ((j : ℕ) × (slice_get ys j ≡ Some y))
numbered_append xs ys zero y e = cc
numbered_append xs ys (suc n) y e = get_append xs ys n y e

get_there : {A : Type 0} (xs : List A) (k : ℕ) → k < length xs → (x : A) × (slice_get xs k ≡ Some x)
get_there [] k lt = absurd (omega (arith, lt))
get_there (x ∷ xs) zero lt = (x, refl)
get_there (x ∷ xs) (suc k) lt = get_there xs k (omega (arith, lt))

-- a number within the list
pub numbered_there : {A : Type 0} (xs : List A) (n : ℕ) → 0 < n → n ≤ length xs → (x : A) × (numbered xs n ≡ Some x)
numbered_there xs zero some le = absurd (omega (arith, some))
numbered_there xs (suc n) some le = get_there xs n (omega (arith, le))

pub get_first : {A : Type 0} (xs : List A) (x : A) (k : ℕ) (y : A) → slice_get (x ∷ xs) k ≡ Some y → (x ≡ y) ⊎ ((j : ℕ) × (slice_get xs j ≡ Some y))
get_first xs x zero y e = inl (cc)
get_first xs x (suc k) y e = inr (k, e)
