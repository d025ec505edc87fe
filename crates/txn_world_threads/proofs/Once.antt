-- Where each of so many workers has one share among as many shares, no share is anybody else's.
use Rattle.std.proofs.Common.{◌≡◌, ℕ, zero, suc, ◌+◌, ◌<◌, ◌≤◌, List, [], ◌∷◌, length, get_or, Bool, true, false, cond, nat_eq, nat_lt, nat_le, ◌&&◌, refl, sym, ◌∙◌, subst, arith}
use Rattle.std.specs.List.{sum_by, count_by}
use Rattle.std.proofs.lemmas.Bool.Decides.{nat_tests}
use Rattle.std.proofs.lemmas.List.Sums.{sum_by-cons, count_by-le-length}
use Rattle.txn_world_threads.specs.declared.kept.Share.{Share}
use Rattle.txn_world_threads.specs.Kept.{shares_of, CameOnce, AreAmong}

-- 1 where it is so
abbrev to_nat : Bool → ℕ
to_nat b = cond b 1 0

-- whether the number is one from 1 on to n
abbrev is_among : ℕ → ℕ → Bool
is_among n worker = nat_lt 0 worker && nat_le worker n

one_more_worker : (n worker : ℕ) → to_nat (is_among (n + 1) worker) ≡ to_nat (is_among n worker) + to_nat (nat_eq worker (n + 1))
one_more_worker n worker = grind (arith, nat_tests)

no_worker : (worker : ℕ) → to_nat (is_among 0 worker) ≡ 0
no_worker worker = grind (arith, nat_tests)

among : (n worker : ℕ) → is_among n worker ≡ true → (1 ≤ worker) × (worker ≤ n)
among n worker is = (grind (arith, nat_tests), grind (arith, nat_tests))

-- what each element adds in two parts
sum_of_both : {X : Type 0} (f g h : X → ℕ) → ((x : X) → f x ≡ g x + h x) → (xs : List X) → sum_by f xs ≡ sum_by g xs + sum_by h xs
sum_of_both f g h both [] = refl
sum_of_both f g h both (x ∷ xs) = omega (arith, sum_by-cons f x xs, sum_by-cons g x xs, sum_by-cons h x xs, both x, sum_of_both f g h both xs)

sum_of_none : {X : Type 0} (f : X → ℕ) → ((x : X) → f x ≡ 0) → (xs : List X) → sum_by f xs ≡ 0
sum_of_none f none [] = refl
sum_of_none f none (x ∷ xs) = omega (arith, sum_by-cons f x xs, none x, sum_of_none f none xs)

-- how many shares are of the workers from 1 on to n
abbrev among_count : ℕ → List Share → ℕ
among_count n shares = count_by (λ share. is_among n share.worker) shares

-- they are n, where each of them has one
first_workers : (workers n : ℕ) (shares : List Share) → ((worker : ℕ) → 1 ≤ worker → worker ≤ workers → shares_of shares worker ≡ 1) → n ≤ workers → among_count n shares ≡ n
first_workers workers zero shares once few = sum_of_none _ (λ share. no_worker share.worker) shares
first_workers workers (suc n) shares once few =
    subst (λ m. among_count m shares ≡ m) (let e : n + 1 ≡ suc n = omega arith in e)
    (let more : among_count (n + 1) shares ≡ among_count n shares + shares_of shares (n + 1) = sum_of_both _ _ _ (λ share. one_more_worker n share.worker) shares in
    omega (arith, more, first_workers workers n shares once (omega arith), once (n + 1) (omega arith) (omega arith)))

passes_or_not : (b : Bool) (n m : ℕ) → to_nat b + n ≡ suc m → n ≤ m → (b ≡ true) × (n ≡ m)
passes_or_not true n m e few = (refl, omega (arith, e))
passes_or_not false n m e few = absurd (omega (arith, e, few))

all_pass : {X : Type 0} (p : X → Bool) (x : X) (xs : List X) → count_by p (x ∷ xs) ≡ length (x ∷ xs) → (p x ≡ true) × (count_by p xs ≡ length xs)
all_pass p x xs all = passes_or_not (p x) (count_by p xs) (length xs) (sym (sum_by-cons (λ y. to_nat (p y)) x xs) ∙ all) (count_by-le-length p xs)

-- where as many pass as there are, each passes
each_passes : {X : Type 0} (p : X → Bool) (xs : List X) → count_by p xs ≡ length xs → (k : ℕ) (d : X) → k < length xs → p (get_or xs k d) ≡ true
each_passes p [] all k d below = absurd (omega (arith, below))
each_passes p (x ∷ xs) all zero d below = (all_pass p x xs all).0
each_passes p (x ∷ xs) all (suc k) d below = each_passes p xs (all_pass p x xs all).1 k d (omega (arith, below))

-- shares that are each worker's once, as they are lent, are of those workers
pub all_among : (workers n : ℕ) (shares lent : List Share) → CameOnce workers shares → n ≡ workers → lent ≡ shares → AreAmong n lent
all_among workers n shares lent once same is =
    subst (λ m. AreAmong m lent) (sym same) (subst (λ (xs : List Share). AreAmong workers xs) (sym is)
    (λ k d below. among workers _ (each_passes (λ share. is_among workers share.worker) shares (first_workers workers workers shares once.once (omega arith) ∙ sym once.all) k d below)))
