-- Three scans that are settled tell what stood at one moment.
use Rattle.std.proofs.Common.{◌≡◌, ℕ, zero, suc, ◌<◌, ◌≤◌, ◌+◌, ◌-◌, ◌==◌, Bool, true, false, cond, List, [], ◌∷◌, ◌++◌, length, refl, sym, subst, ◌⊎◌, inl, inr, arith, ◌↔◌}
use Rattle.std.specs.Prelude.{nat_lt, Contains}
use Rattle.std.specs.List.Sorted.{IsStrictlyIncreasing}
use Rattle.std.proofs.lemmas.Bool.{ltb-true, ltb-false, eqb-true, eqb-false}
use Rattle.txn_folder.specs.steps.Scans.{BeginsAbove, followed, AreSettled}
use Rattle.txn_folder.specs.steps.Moments.{Grows, AreScans, StoodAtAMoment}

-- what a list has
contains_cons : (x : ℕ) (xs : List ℕ) (id : ℕ) → Contains (x ∷ xs) id → (x ≡ id) ⊎ Contains xs id
contains_cons x xs id (zero, l, e) = inl e
contains_cons x xs id (suc k, l, e) = inr (k, omega (arith, l), e)

contains_later : (x : ℕ) (xs : List ℕ) (id : ℕ) → Contains xs id → Contains (x ∷ xs) id
contains_later x xs id (k, l, e) = (suc k, omega (arith, l), e)

contains_first : (x : ℕ) (xs : List ℕ) (id : ℕ) → x ≡ id → Contains (x ∷ xs) id
contains_first x xs id e = (zero, omega arith, e)

also_later : (x : ℕ) (xs ys : List ℕ) (id : ℕ) → (Contains xs id → Contains ys id) → (x ≡ id) ⊎ Contains xs id → Contains (x ∷ ys) id
also_later x xs ys id more (inl e) = contains_first x ys id e
also_later x xs ys id more (inr h) = contains_later x ys id (more h)

contains_left : (xs ys : List ℕ) (id : ℕ) → Contains xs id → Contains (xs ++ ys) id
contains_left [] ys id (k, l, e) = absurd (omega (arith, l))
contains_left (x ∷ xs) ys id h = also_later x xs (xs ++ ys) id (contains_left xs ys id) (contains_cons x xs id h)

contains_right : (xs ys : List ℕ) (id : ℕ) → Contains ys id → Contains (xs ++ ys) id
contains_right [] ys id h = h
contains_right (x ∷ xs) ys id h = contains_later x (xs ++ ys) id (contains_right xs ys id h)

of_later : (x : ℕ) (xs ys : List ℕ) (id : ℕ) → Contains xs id ⊎ Contains ys id → Contains (x ∷ xs) id ⊎ Contains ys id
of_later x xs ys id (inl h) = inl (contains_later x xs id h)
of_later x xs ys id (inr h) = inr h

of_cons : (x : ℕ) (xs ys : List ℕ) (id : ℕ) → (Contains (xs ++ ys) id → Contains xs id ⊎ Contains ys id) → (x ≡ id) ⊎ Contains (xs ++ ys) id → Contains (x ∷ xs) id ⊎ Contains ys id
of_cons x xs ys id more (inl e) = inl (contains_first x xs id e)
of_cons x xs ys id more (inr h) = of_later x xs ys id (more h)

contains_either : (xs ys : List ℕ) (id : ℕ) → Contains (xs ++ ys) id → Contains xs id ⊎ Contains ys id
contains_either [] ys id h = inr h
contains_either (x ∷ xs) ys id h = of_cons x xs ys id (contains_either xs ys id) (contains_cons x (xs ++ ys) id h)

-- ids that ascend from above the last one
Up : ℕ → List ℕ → Type 0
Up last [] = Unit {0}
Up last (id ∷ ids) = (last < id) × Up id ids

increasing_tail : (x : ℕ) (xs : List ℕ) → IsStrictlyIncreasing (x ∷ xs) → IsStrictlyIncreasing xs
increasing_tail x xs up k l = let e : suc k + 1 ≡ suc (k + 1) = omega arith in rw e at (up (suc k) (omega (arith, l)))

up_of : (last : ℕ) (ids : List ℕ) → BeginsAbove last ids → IsStrictlyIncreasing ids → Up last ids
unfolding Up
up_of last [] above up = tt
up_of last (id ∷ []) above up = (above, tt)
up_of last (id ∷ next ∷ ids) above up = (above, up_of id (next ∷ ids) (up 0 (omega arith)) (increasing_tail id (next ∷ ids) up))

increasing_rest : (xs ys : List ℕ) → IsStrictlyIncreasing (xs ++ ys) → IsStrictlyIncreasing ys
increasing_rest [] ys up = up
increasing_rest (x ∷ xs) ys up = increasing_rest xs ys (increasing_tail x (xs ++ ys) up)

above_by : (last first id : ℕ) (ids : List ℕ) → last < first → (Contains ids id → first < id) → (first ≡ id) ⊎ Contains ids id → last < id
above_by last first id ids low more (inl e) = omega (arith, low, e)
above_by last first id ids low more (inr h) = let next = more h in omega (arith, low, next)

up_above : (last : ℕ) (ids : List ℕ) → Up last ids → (id : ℕ) → Contains ids id → last < id
unfolding Up
up_above last [] up id (k, l, e) = absurd (omega (arith, l))
up_above last (first ∷ ids) up id h = above_by last first id ids up.0 (up_above first ids up.1 id) (contains_cons first ids id h)

-- the end of a run
abbrev run_end : ℕ → List ℕ → ℕ
run_end last ids = last + length (followed last ids)

-- of a list and its first id: what the list that follows it has
run_has_next : (last first : ℕ) (ids : List ℕ) (id : ℕ) → last < id → (first < id → id ≤ run_end first ids → Contains (followed first ids) id) → (b : Bool) → (first == id) ≡ b → first ≡ last + 1 → id ≤ last + suc (length (followed first ids)) → Contains (first ∷ followed first ids) id
run_has_next last first ids id above more true is e small = contains_first first (followed first ids) id (eqb-true first id is)
run_has_next last first ids id above more false is e small =
    let other = eqb-false first id is in
    contains_later first (followed first ids) id (more (omega (arith, above, e, other)) (omega (arith, small, e)))

run_has_by : (last first : ℕ) (ids : List ℕ) (id : ℕ) → last < id → (first < id → id ≤ run_end first ids → Contains (followed first ids) id) → (b : Bool) → (first == last + 1) ≡ b → id ≤ last + length (cond b (first ∷ followed first ids) []) → Contains (cond b (first ∷ followed first ids) []) id
run_has_by last first ids id above more true is small = run_has_next last first ids id above more (first == id) refl (eqb-true first (last + 1) is) small
run_has_by last first ids id above more false is small = absurd (omega (arith, above, small))

run_has : (last : ℕ) (ids : List ℕ) (id : ℕ) → last < id → id ≤ run_end last ids → Contains (followed last ids) id
run_has last [] id above most = absurd (omega (arith, above, most))
run_has last (first ∷ ids) id above most = run_has_by last first ids id above (run_has first ids id) (first == last + 1) refl most

run_bounds_next : (last first : ℕ) (ids : List ℕ) (id : ℕ) → (Contains (followed first ids) id → (first < id) × (id ≤ run_end first ids)) → first ≡ last + 1 → (first ≡ id) ⊎ Contains (followed first ids) id → (last < id) × (id ≤ last + suc (length (followed first ids)))
run_bounds_next last first ids id more e (inl same) = (omega (arith, e, same), omega (arith, e, same))
run_bounds_next last first ids id more e (inr h) = let within = more h in let low = within.0 in let high = within.1 in (omega (arith, e, low), omega (arith, e, high))

run_bounds_by : (last first : ℕ) (ids : List ℕ) (id : ℕ) → (Contains (followed first ids) id → (first < id) × (id ≤ run_end first ids)) → (b : Bool) → (first == last + 1) ≡ b → Contains (cond b (first ∷ followed first ids) []) id → (last < id) × (id ≤ last + length (cond b (first ∷ followed first ids) []))
run_bounds_by last first ids id more true is has = run_bounds_next last first ids id more (eqb-true first (last + 1) is) (contains_cons first (followed first ids) id has)
run_bounds_by last first ids id more false is (k, l, e) = absurd (omega (arith, l))

run_bounds : (last : ℕ) (ids : List ℕ) (id : ℕ) → Contains (followed last ids) id → (last < id) × (id ≤ run_end last ids)
run_bounds last [] id (k, l, e) = absurd (omega (arith, l))
run_bounds last (first ∷ ids) id h = run_bounds_by last first ids id (run_bounds first ids id) (first == last + 1) refl h

stops_next : (last first : ℕ) (ids : List ℕ) → ¬ (Contains ids (run_end first ids + 1)) → first ≡ last + 1 → (first ≡ last + suc (length (followed first ids)) + 1) ⊎ Contains ids (last + suc (length (followed first ids)) + 1) → ⊥
stops_next last first ids more e (inl same) = omega (arith, e, same)
stops_next last first ids more e (inr h) = let place : last + suc (length (followed first ids)) + 1 ≡ run_end first ids + 1 = omega (arith, e) in more (subst (Contains ids) place h)

stops_at : (last first : ℕ) (ids : List ℕ) → last < first → ((id : ℕ) → Contains ids id → first < id) → (first ≡ last + 1 → ⊥) → (first ≡ last + 0 + 1) ⊎ Contains ids (last + 0 + 1) → ⊥
stops_at last first ids low above other (inl same) = other (omega (arith, same))
stops_at last first ids low above other (inr h) = let high = above (last + 0 + 1) h in omega (arith, low, high)

stops_by : (last first : ℕ) (ids : List ℕ) → last < first → ((id : ℕ) → Contains ids id → first < id) → ¬ (Contains ids (run_end first ids + 1)) → (b : Bool) → (first == last + 1) ≡ b → Contains (first ∷ ids) (last + length (cond b (first ∷ followed first ids) []) + 1) → ⊥
stops_by last first ids low above more true is h = stops_next last first ids more (eqb-true first (last + 1) is) (contains_cons first ids _ h)
stops_by last first ids low above more false is h = stops_at last first ids low above (eqb-false first (last + 1) is) (contains_cons first ids _ h)

run_stops : (last : ℕ) (ids : List ℕ) → Up last ids → ¬ (Contains ids (run_end last ids + 1))
unfolding Up
run_stops last [] up (k, l, e) = absurd (omega (arith, l))
run_stops last (first ∷ ids) up has = stops_by last first ids up.0 (up_above first ids up.1) (run_stops first ids up.1) (first == last + 1) refl has

in_rest_by : (last first : ℕ) (ids : List ℕ) (id : ℕ) → (Contains (followed first ids) id → Contains ids id) → (b : Bool) → Contains (cond b (first ∷ followed first ids) []) id → Contains (first ∷ ids) id
in_rest_by last first ids id more true h = also_later first (followed first ids) ids id more (contains_cons first (followed first ids) id h)
in_rest_by last first ids id more false (k, l, e) = absurd (omega (arith, l))

in_rest : (last : ℕ) (ids : List ℕ) (id : ℕ) → Contains (followed last ids) id → Contains ids id
in_rest last [] id h = h
in_rest last (first ∷ ids) id h = in_rest_by last first ids id (in_rest first ids id) (first == last + 1) h

module _ (last : ℕ) (stood : ℕ → ℕ → Bool) (g : Grows last stood) where
  later : (k s t id : ℕ) → t ≡ s + k → stood s id ≡ true → stood t id ≡ true
  later zero s t id e h = let same : t ≡ s = omega (arith, e) in rw same h
  later (suc k) s t id e h = let next : t ≡ (s + k) + 1 = omega (arith, e) in rw next (g.stays (s + k) id (later k s (s + k) id refl h))

  since : (s t id : ℕ) → s ≤ t → stood s id ≡ true → stood t id ≡ true
  since s t id most h = later (t - s) s t id (omega (arith, most)) h

  below_by : (d t id top : ℕ) → top ≡ id + d → last < id → stood t top ≡ true → stood t id ≡ true
  below_by zero t id top e low h = let same : id ≡ top = omega (arith, e) in rw same h
  below_by (suc d) t id top e low h = let next : top ≡ (id + d) + 1 = omega (arith, e) in below_by d t id (id + d) refl low (g.beside t (id + d) (omega (arith, low)) (rw next at h))

  below : (t id top : ℕ) → id ≤ top → last < id → stood t top ≡ true → stood t id ≡ true
  below t id top most low h = below_by (top - id) t id top (omega (arith, most)) low h

  -- a moment at which the end has come, and nothing after it
  pub record Comes (end from to : ℕ) : Type 0 where
    pub at : ℕ
    pub from_is : from ≤ at
    pub to_is : at ≤ to
    pub come : stood at end ≡ true
    pub alone : ¬ (stood at (end + 1) ≡ true)

  comes_by : (s t end : ℕ) → s < t → last < end → ¬ (stood s (end + 1) ≡ true) → (¬ (stood (s + 1) (end + 1) ≡ true) → Comes end (s + 1) t) → (b : Bool) → stood s end ≡ b → Comes end s t
  comes_by s t end most low alone more true is = record { at = s; from_is = omega arith; to_is = omega (arith, most); come = is; alone = alone }
  comes_by s t end most low alone more false is =
      let next = more (λ h. let yes = g.after s end low h in cc) in
      let start = next.from_is in
      record { at = next.at; from_is = omega (arith, start); to_is = next.to_is; come = next.come; alone = next.alone }

  comes : (d s t end : ℕ) → t ≡ s + d → last < end → stood t end ≡ true → ¬ (stood s (end + 1) ≡ true) → Comes end s t
  comes zero s t end e low there alone = let same : s ≡ t = omega (arith, e) in record { at = s; from_is = omega arith; to_is = omega (arith, e); come = rw same there; alone = alone }
  comes (suc d) s t end e low there alone = comes_by s t end (omega (arith, e)) low alone (comes d (s + 1) t end (omega (arith, e)) low there) (stood s end) refl

-- the moment at which the run's end has come, or before anything came
module _ (last : ℕ) (stood : ℕ → ℕ → Bool) (end next later third_from : ℕ) (first second third run : List ℕ) (a : AreScans last stood end next later third_from first second third) (s : AreSettled last first second third run) where
  rest_up : Up last s.rest
  rest_up = up_of last s.rest s.second_above (increasing_rest first s.rest (subst IsStrictlyIncreasing s.second_is a.second_is.ascend))

  not_after : (t : ℕ) → t ≤ next → ¬ (stood t (run_end last s.rest + 1) ≡ true)
  not_after t most h = by (contains_either first s.rest (run_end last s.rest + 1) (subst (λ (ids : List ℕ). Contains ids (run_end last s.rest + 1)) s.second_is (a.second_is.shows (run_end last s.rest + 1) (since last stood a.grows t next (run_end last s.rest + 1) most h))))
    where
      by : Contains first (run_end last s.rest + 1) ⊎ Contains s.rest (run_end last s.rest + 1) → ⊥
      by (inl below) = let most = a.first_up_to (run_end last s.rest + 1) below in omega (arith, most)
      by (inr more) = run_stops last s.rest rest_up more

  -- up to the last id nothing has come until the third scan
  old_ones : (t id : ℕ) → t ≤ third_from → id ≤ last → stood t id ≡ true → Contains first id
  old_ones t id most low h = by (contains_either first s.third_same.0 id (subst (λ (ids : List ℕ). Contains ids id) s.third_same.1 (a.third_shows id (since last stood a.grows t third_from id most h))))
    where
      by : Contains first id ⊎ Contains s.third_same.0 id → Contains first id
      by (inl old) = old
      by (inr more) = let above = up_above last s.third_same.0 (up_of last s.third_same.0 s.third_same.2 (increasing_rest first s.third_same.0 (subst IsStrictlyIncreasing s.third_same.1 a.third_ascends))) id more in absurd (omega (arith, above, low))

  -- a moment at which the run's end stands, where there is a run, and nothing after it
  told_then : (t : ℕ) → end ≤ t → t ≤ later → (last < run_end last s.rest → stood t (run_end last s.rest) ≡ true) → ¬ (stood t (run_end last s.rest + 1) ≡ true) → (id : ℕ) → (stood t id ≡ true) ↔ Contains (first ++ followed last s.rest) id
  told_then t low high come alone id = (to (nat_lt last id) refl, λ h. back (contains_either first (followed last s.rest) id h))
    where
      within : (b : Bool) → nat_lt (run_end last s.rest) id ≡ b → stood t id ≡ true → id ≤ run_end last s.rest
      within true is h = let above = ltb-true (run_end last s.rest) id is in absurd (alone (below last stood a.grows t (run_end last s.rest + 1) id (omega (arith, above)) (omega arith) h))
      within false is h = let most = ltb-false (run_end last s.rest) id is in omega (arith, most)

      to : (b : Bool) → nat_lt last id ≡ b → stood t id ≡ true → Contains (first ++ followed last s.rest) id
      to true is h = contains_right first (followed last s.rest) id (run_has last s.rest id (ltb-true last id is) (within (nat_lt (run_end last s.rest) id) refl h))
      to false is h = let most = ltb-false last id is in let until = a.third_after in contains_left first (followed last s.rest) id (old_ones t id (omega (arith, high, until)) (omega (arith, most)) h)

      back : Contains first id ⊎ Contains (followed last s.rest) id → stood t id ≡ true
      back (inl old) = since last stood a.grows end t id low (a.first_shown id old)
      back (inr new) =
          let bounds = run_bounds last s.rest id new in
          let above = bounds.0 in
          let most = bounds.1 in
          below last stood a.grows t id (run_end last s.rest) bounds.1 bounds.0 (come (omega (arith, above, most)))

  moment_by : (b : Bool) → nat_lt last (run_end last s.rest) ≡ b → StoodAtAMoment stood end later (first ++ followed last s.rest)
  moment_by true is =
      let above = ltb-true last (run_end last s.rest) is in
      let there : stood later (run_end last s.rest) ≡ true = a.second_is.shown (run_end last s.rest) (subst (λ (ids : List ℕ). Contains ids (run_end last s.rest)) (sym s.second_is) (contains_right first s.rest (run_end last s.rest) (in_rest last s.rest (run_end last s.rest) (run_has last s.rest (run_end last s.rest) above (omega arith))))) in
      let one = a.second_after in
      let two = a.second_takes in
      let found = comes last stood a.grows (later - end) end later (run_end last s.rest) (omega (arith, one, two)) above there (not_after end a.second_after) in
      record { moment = found.at; since = found.from_is; until = found.to_is; exactly = told_then found.at found.from_is found.to_is (λ _. found.come) found.alone }
  moment_by false is =
      let none = ltb-false last (run_end last s.rest) is in
      let one = a.second_after in
      let two = a.second_takes in
      record { moment = end; since = omega arith; until = omega (arith, one, two); exactly = told_then end (omega arith) (omega (arith, one, two)) (λ h. absurd (omega (arith, h, none))) (not_after end a.second_after) }

  pub moment : StoodAtAMoment stood end later (first ++ run)
  moment = subst (λ (ids : List ℕ). StoodAtAMoment stood end later (first ++ ids)) (sym s.run_is) (moment_by (nat_lt last (run_end last s.rest)) refl)
