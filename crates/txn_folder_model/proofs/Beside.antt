-- A listing beside a create: its scans are as the file system may tell them, and they are settled.
use Rattle.std.proofs.Common.{◌≡◌, ℕ, zero, suc, ◌+◌, ◌<◌, ◌≤◌, ◌==◌, ◌^◌, if◌then◌else◌, Bool, true, false, [], ◌∷◌, Some, None, refl, sym, subst, arith, ◌⊎◌, inl, inr, is_some}
use Rattle.std.specs.Prelude.{Contains, nat_lt, slice_index}
use Rattle.std.specs.List.Sorted.{IsStrictlyIncreasing}
use Rattle.std.proofs.lemmas.Bool.{eqb-true, ltb-true, ltb-false}
use Rattle.txn_folder.specs.steps.Scans.{AreSettled}
use Rattle.txn_folder.specs.steps.Folders.{OfVersions}
use Rattle.txn_folder_model.specs.Worlds.{World, world}
use Rattle.txn_store.specs.VersionName.{Names}
use Rattle.txn_folder_model.specs.Listings.{stands, shows, IsShared, IsListing}
use Rattle.txn_folder_model.specs.Runs.{IsRun}
use Rattle.txn_folder_model.specs.Examples.{beside_run, beside_steps, beside_listing}

abbrev w : ℕ → World
w = world 10 beside_run

-- what holds of so many moments from one on holds of each
abbrev AllFrom : (ℕ → Type 0) → ℕ → ℕ → Type 0
AllFrom P from zero = Unit {0}
AllFrom P from (suc k) = P from × AllFrom P (suc from) k

first_or : (from s : ℕ) → from ≤ s → (b : Bool) → nat_lt from s ≡ b → (from ≡ s) ⊎ (suc from ≤ s)
first_or from s low true is = inr (ltb-true from s is)
first_or from s low false is = let most = ltb-false from s is in inl (omega (arith, low, most))

each : (P : ℕ → Type 0) (k from s : ℕ) → AllFrom P from k → from ≤ s → s < from + k → P s
each P zero from s all low high = absurd (omega (arith, low, high))
each P (suc k) from s all low high = elim (first_or from s low (nat_lt from s) refl) [
  | inl same ↦ subst P same all.0
  | inr more ↦ each P k (suc from) s all.1 more (omega (arith, high))
]

is_one : (id : ℕ) (b : Bool) → (id == 1) ≡ b → is_some {T = ℕ} (if b then Some 0 else None) ≡ true → id ≡ 1
is_one id true is h = eqb-true id 1 is
is_one id false is h = absurd (cc)

is_two : (id : ℕ) (b : Bool) → (id == 2) ≡ b → is_some {T = ℕ} (if b then Some 1 else if id == 1 then Some 0 else None) ≡ true → (id ≡ 2) ⊎ (id ≡ 1)
is_two id true is h = inl (eqb-true id 2 is)
is_two id false is h = inr (is_one id (id == 1) refl h)

has_one : (id : ℕ) → id ≡ 1 → Contains (1 ∷ []) id
has_one id is = (0, omega arith, sym is)

has_both : (id : ℕ) → (id ≡ 2) ⊎ (id ≡ 1) → Contains (1 ∷ 2 ∷ []) id
has_both id (inl is) = (1, omega arith, sym is)
has_both id (inr is) = (0, omega arith, sym is)

one_of : (id : ℕ) → Contains (1 ∷ []) id → id ≡ 1
one_of id (zero, low, is) = sym is
one_of id (suc k, low, is) = absurd (omega (arith, low))

of_both : (id : ℕ) → Contains (1 ∷ 2 ∷ []) id → (id ≡ 2) ⊎ (id ≡ 1)
of_both id (zero, low, is) = inr (sym is)
of_both id (suc zero, low, is) = inl (sym is)
of_both id (suc (suc k), low, is) = absurd (omega (arith, low))

came_two : (id : ℕ) (b : Bool) → (id + 1 == 2) ≡ b → is_some {T = ℕ} (if id + 1 == 1 then Some 0 else None) ≡ false → is_some {T = ℕ} (if b then Some 1 else if id + 1 == 1 then Some 0 else None) ≡ true → (id ≡ 0) ⊎ ((later : ℕ) × (id ≤ later) × (stands (w 13) later ≡ true))
came_two id true is was now = let e = eqb-true (id + 1) 2 is in inr (1, omega (arith, e), refl)
came_two id false is was now = absurd (cc)

abbrev InOrderAt : ℕ → Type 0
InOrderAt s = (id : ℕ) → stands (w s) (id + 1) ≡ false → stands (w (suc s)) (id + 1) ≡ true → (id ≡ 0) ⊎ ((later : ℕ) × (id ≤ later) × (stands (w s) later ≡ true))

same_both : (s id : ℕ) (x : Bool) → x ≡ false → x ≡ true → (id ≡ 0) ⊎ ((later : ℕ) × (id ≤ later) × (stands (w s) later ≡ true))
same_both s id x was now = absurd (cc)

-- version 1 alone stands
abbrev has_first : ℕ → Bool
has_first id = is_some {T = ℕ} (if id + 1 == 1 then Some 0 else None)

at_7 : InOrderAt 7
at_7 id was now = same_both 7 id (has_first id) was now

at_8 : InOrderAt 8
at_8 id was now = same_both 8 id (has_first id) was now

at_9 : InOrderAt 9
at_9 id was now = same_both 9 id (has_first id) was now

at_10 : InOrderAt 10
at_10 id was now = same_both 10 id (has_first id) was now

at_11 : InOrderAt 11
at_11 id was now = same_both 11 id (has_first id) was now

at_12 : InOrderAt 12
at_12 id was now = same_both 12 id (has_first id) was now

at_13 : InOrderAt 13
at_13 id was now = came_two id (id + 1 == 2) refl was now

at_14 : InOrderAt 14
at_14 id was now = same_both 14 id (stands (w 14) (id + 1)) was now

at_15 : InOrderAt 15
at_15 id was now = same_both 15 id (stands (w 15) (id + 1)) was now

in_order : AllFrom InOrderAt 7 9
in_order = (at_7, (at_8, (at_9, (at_10, (at_11, (at_12, (at_13, (at_14, (at_15, tt)))))))))

abbrev SharedAt : ℕ → Type 0
SharedAt s = (w s).folder.locks OfVersions ≡ None

pub is_listing : IsListing w None 1 7 9 11 15 15 16 (1 ∷ []) (1 ∷ 2 ∷ []) (1 ∷ 2 ∷ [])
is_listing = record {
  shared = λ s low high. each SharedAt 9 7 s (refl, (refl, (refl, (refl, (refl, (refl, (refl, (refl, (refl, tt))))))))) low (omega (arith, high));
  in_order = λ s id low high. each InOrderAt 9 7 s in_order low (omega (arith, high)) id;
  first_is = record {
    ascend = λ k low. absurd (omega (arith, low));
    all = λ id h. has_one id (is_one id (id == 1) refl (h 7 (omega arith) (omega arith)));
    only = λ id has. (7, omega arith, omega arith, subst (λ (x : ℕ). shows w None 7 x ≡ true) (sym (one_of id has)) refl);
  };
  second_is = record {
    ascend = both_ascend;
    all = λ id h. has_both id (is_two id (id == 2) refl (h 15 (omega arith) (omega arith)));
    only = λ id has. second id (of_both id has);
  };
  third_is = record {
    ascend = both_ascend;
    all = λ id h. has_both id (is_two id (id == 2) refl (h 15 (omega arith) (omega arith)));
    only = λ id has. third id (of_both id has);
  };
  up_to = λ id has. let e = one_of id has in omega (arith, e);
  over = λ id low. refl;
  first_takes = omega arith;
  second_after = omega arith;
  second_takes = omega arith;
  third_after = omega arith;
  third_takes = omega arith;
}
  where
    both_ascend : IsStrictlyIncreasing (1 ∷ 2 ∷ [])
    both_ascend zero low = omega arith
    both_ascend (suc k) low = absurd (omega (arith, low))

    second : (id : ℕ) → (id ≡ 2) ⊎ (id ≡ 1) → (s : ℕ) × (11 ≤ s) × (s ≤ 15) × (shows w None s id ≡ true)
    second id (inl is) = (15, omega arith, omega arith, subst (λ (x : ℕ). shows w None 15 x ≡ true) (sym is) refl)
    second id (inr is) = (11, omega arith, omega arith, subst (λ (x : ℕ). shows w None 11 x ≡ true) (sym is) refl)

    third : (id : ℕ) → (id ≡ 2) ⊎ (id ≡ 1) → (s : ℕ) × (15 ≤ s) × (s ≤ 16) × (shows w None s id ≡ true)
    third id (inl is) = (15, omega arith, omega arith, subst (λ (x : ℕ). shows w None 15 x ≡ true) (sym is) refl)
    third id (inr is) = (15, omega arith, omega arith, subst (λ (x : ℕ). shows w None 15 x ≡ true) (sym is) refl)

pub is_settled : AreSettled 1 (1 ∷ []) (1 ∷ 2 ∷ []) (1 ∷ 2 ∷ []) (2 ∷ [])
is_settled = record {
  rest = 2 ∷ [];
  second_is = refl;
  second_above = omega arith;
  third_same = (2 ∷ [], refl, omega arith);
  third_has = among;
  run_is = refl;
}
  where
    among : (k : ℕ) → k < 2 → Contains (1 ∷ 2 ∷ []) (slice_index (1 ∷ 2 ∷ []) k)
    among zero low = (0, omega arith, refl)
    among (suc zero) low = (1, omega arith, refl)
    among (suc (suc k)) low = absurd (omega (arith, low))

shared_within : (from to : ℕ) → 7 ≤ from → to ≤ 16 → IsShared w from to
shared_within from to low high s since until = is_listing.shared s (omega (arith, low, since)) (omega (arith, high, until))

small_one : (id : ℕ) → Contains (1 ∷ []) id → id < 2 ^ 64
small_one id has = let e = one_of id has in omega (arith, e)

small_both : (id : ℕ) → Contains (1 ∷ 2 ∷ []) id → id < 2 ^ 64
small_both id has = by (of_both id has)
  where
    by : (id ≡ 2) ⊎ (id ≡ 1) → id < 2 ^ 64
    by (inl is) = omega (arith, is)
    by (inr is) = omega (arith, is)

pub is_run : (names : Names) → IsRun names w (beside_listing names)
is_run names = record {
  steps = beside_steps;
  goes = (
    omega arith,
    omega arith,
    tt,
    tt,
    (
      omega arith,
      omega arith,
      tt,
      tt,
      (
        omega arith,
        omega arith,
        shared_within 7 9 (omega arith) (omega arith),
        (is_listing.first_is, small_one),
        (
          omega arith,
          omega arith,
          shared_within 9 15 (omega arith) (omega arith),
          (is_listing.second_is, small_both),
          (
            omega arith,
            omega arith,
            shared_within 15 16 (omega arith) (omega arith),
            (is_listing.third_is, small_both),
            (
              omega arith,
              omega arith,
              shared_within 16 16 (omega arith) (omega arith),
              (16, omega arith, omega arith, (0, refl, (refl, refl))),
              (
                omega arith,
                omega arith,
                shared_within 16 16 (omega arith) (omega arith),
                (16, omega arith, omega arith, (1, refl, (refl, refl))),
                (
                  omega arith,
                  omega arith,
                  tt,
                  tt,
                  (
                    omega arith,
                    omega arith,
                    tt,
                    tt,
                    (refl, omega arith),
                  ),
                ),
              ),
            ),
          ),
        ),
      ),
    ),
  );
  after_fits = λ id is. absurd (cc);
}
