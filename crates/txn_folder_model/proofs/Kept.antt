-- Some of many, numbered anew in their order.
use Rattle.std.proofs.Common.{◌≡◌, ℕ, zero, suc, ◌<◌, ◌≤◌, ◌==◌, ◌&&◌, if◌then◌else◌, Bool, true, false, refl, ap, ◌∙◌, arith, inl, inr}
use Rattle.std.proofs.lemmas.Bool.{cases_lt, eqb-true, eqb-false, eq-eqb, ne_eqb}

module _ (keep : ℕ → Bool) where
  -- how many are kept below a number, which is the new number of what is kept there
  abbrev pub rank : ℕ → ℕ
  rank zero = 0
  rank (suc j) = if keep j then suc (rank j) else rank j

  -- the one below a number whose new number this is
  abbrev pub pick : ℕ → ℕ → ℕ
  pick zero r = 0
  pick (suc j) r = if keep j && (rank j == r) then j else pick j r

  rank_next : (j : ℕ) → rank j ≤ rank (suc j)
  rank_next j = by (keep j)
    where
      by : (b : Bool) → rank j ≤ (if b then suc (rank j) else rank j)
      by true = omega arith
      by false = omega arith

  rank_up : (i j : ℕ) → i ≤ j → rank i ≤ rank j
  rank_up i zero most = let same : i ≡ 0 = omega (arith, most) in rw same (omega arith)
  rank_up i (suc j) most = elim (cases_lt i (suc j)) [
    | inl less ↦ (let before = rank_up i j (omega (arith, less)) in let next = rank_next j in omega (arith, before, next))
    | inr past ↦ (let same : i ≡ suc j = omega (arith, most, past) in rw same (omega arith))
  ]

  pub rank_less : (i j : ℕ) → i < j → keep i ≡ true → rank i < rank j
  rank_less i j less kept =
      let up = rank_up (suc i) j (omega (arith, less)) in
      let next : rank (suc i) ≡ suc (rank i) = rw kept refl in
      omega (arith, up, next)

  pub pick_rank : (many i : ℕ) → i < many → keep i ≡ true → pick many (rank i) ≡ i
  pick_rank zero i low kept = absurd (omega (arith, low))
  pick_rank (suc j) i low kept = elim (cases_lt i j) [
    | inl less ↦
        let apart : (rank j == rank i) ≡ false = ne_eqb (rank j) (rank i) (λ e. let up = rank_less i j less kept in omega (arith, e, up)) in
        other (keep j) (rank j == rank i) apart ∙ pick_rank j i less kept
    | inr past ↦
        let same : j ≡ i = omega (arith, low, past) in
        ap (λ (b : Bool). if b && (rank j == rank i) then j else pick j (rank i)) (ap keep same ∙ kept)
        ∙ ap (λ (b : Bool). if b then j else pick j (rank i)) (eq-eqb (rank j) (rank i) (ap rank same))
        ∙ same
  ]
    where
      other : (a b : Bool) → b ≡ false → (if a && b then j else pick j (rank i)) ≡ pick j (rank i)
      other true true is = absurd (cc)
      other true false is = refl
      other false b is = refl

  pub record IsPicked (many r i : ℕ) : Type 0 where
    pub below : i < many
    pub kept : keep i ≡ true
    pub is : rank i ≡ r

  pub picked : (many r : ℕ) → r < rank many → IsPicked many r (pick many r)
  picked zero r low = absurd (omega (arith, low))
  picked (suc j) r low = by (keep j) refl (rank j == r) refl (λ less. picked j r less) low
    where
      wider : (i : ℕ) → IsPicked j r i → IsPicked (suc j) r i
      wider i p = let below = p.below in record { below = omega (arith, below); kept = p.kept; is = p.is }

      by : (a : Bool) → keep j ≡ a → (b : Bool) → (rank j == r) ≡ b → (r < rank j → IsPicked j r (pick j r)) → r < (if a then suc (rank j) else rank j) → IsPicked (suc j) r (if a && b then j else pick j r)
      by true kept true at more low = record { below = omega arith; kept = kept; is = eqb-true (rank j) r at }
      by true kept false at more low = wider (pick j r) (more (let other = eqb-false (rank j) r at in less (rank j) r other low))
        where
          less : (a b : ℕ) → ¬ (a ≡ b) → b < suc a → b < a
          less a b other low = omega (arith, other, low)
      by false kept b at more low = wider (pick j r) (more low)
