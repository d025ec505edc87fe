-- What holds of one more element, and tests that say what they are asked.
use Rattle.std.proofs.Common.{◌≡◌, ◌↔◌, IsTrue, ℕ, zero, suc, ◌+◌, ◌<◌, ◌≤◌, Bool, true, false, ◌⊎◌, inl, inr, refl, sym, ap, subst, arith}

-- a number below the next one
pub near : (k n : ℕ) → k < n + 1 → (k < n) ⊎ (k ≡ n)
near zero zero small = inr refl
near zero (suc n) small = inl (omega arith)
near (suc k) zero small = absurd (omega (arith, small))
near (suc k) (suc n) small = elim (near k n (omega (arith, small))) [ inl below ↦ inl (omega (arith, below)) | inr at ↦ inr (ap suc at) ]

-- what holds of each number from 1 on, and of the next
pub one_further : (f : ℕ → ℕ) (n m : ℕ) → ((k : ℕ) → 1 ≤ k → k ≤ n → f k ≡ m) → f (n + 1) ≡ m → (k : ℕ) → 1 ≤ k → k ≤ n + 1 → f k ≡ m
one_further f n m h is k from to = elim (near k (n + 1) (omega (arith, to))) [
  | inl below ↦ h k from (omega (arith, below))
  | inr at ↦ subst (λ j. f j ≡ m) (sym at) is
]

not_both : (b : Bool) → b ≡ true → b ≡ false → ⊥
not_both b is not = cc

-- a test that says what it is asked
pub held : (b : Bool) (P Q : Type 0) → (IsTrue b ↔ P) → b ≡ true → (P → Q) → Q
held b P Q exact is same = same (exact.0 is)

pub not_held : (b : Bool) (P Q : Type 0) → (IsTrue b ↔ P) → b ≡ false → (Q → P) → Q → ⊥
not_held b P Q exact is same q = not_both b (exact.1 (same q)) is
