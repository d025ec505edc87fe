-- Lists that have another element in the place of the last, and elements that pass a test.
use Rattle.std.proofs.Common.{◌≡◌, ℕ, zero, suc, List, [], ◌∷◌, ◌++◌, length, set, slice_get, Bool, true, false, ◌||◌, Some, refl, ap}
use Rattle.std.specs.List.{list_any}

-- another one in place of the last
pub set_new : {A : Type 0} (xs : List A) (x y : A) → set (xs ++ x ∷ []) (length xs) y ≡ xs ++ y ∷ []
set_new [] x y = refl
set_new (z ∷ zs) x y = ap (λ (rest : List _). z ∷ rest) (set_new zs x y)

-- a test that some element passes

pub any_at : {A : Type 0} (p : A → Bool) (xs : List A) (k : ℕ) (x : A) → slice_get xs k ≡ Some x → p x ≡ true → list_any p xs ≡ true
any_at p [] k x e h = absurd (cc)
any_at p (z ∷ zs) zero x e h = let same : z ≡ x = cc in rw (same, h) refl
any_at p (z ∷ zs) (suc k) x e h = rest (p z) (any_at p zs k x e h)
  where
    rest : (b : Bool) → list_any p zs ≡ true → (b || list_any p zs) ≡ true
    rest true some = refl
    rest false some = some

pub place_of_any : {A : Type 0} (p : A → Bool) (xs : List A) → list_any p xs ≡ true → (k : ℕ) × (x : A) × (slice_get xs k ≡ Some x) × (p x ≡ true)
place_of_any p [] e = absurd (cc)
place_of_any {A} p (z ∷ zs) e = by (p z) refl e (λ some. place_of_any p zs some)
  where
    by : (b : Bool) → p z ≡ b → (b || list_any p zs) ≡ true → (list_any p zs ≡ true → (k : ℕ) × (x : A) × (slice_get zs k ≡ Some x) × (p x ≡ true)) → (k : ℕ) × (x : A) × (slice_get (z ∷ zs) k ≡ Some x) × (p x ≡ true)
    by true is some rest = (zero, z, refl, is)
    by false is some rest = let found = rest some in (suc found.0, found.1, found.2, found.3)
