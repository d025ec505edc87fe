-- What tokens become, one token more at a time.
use Rattle.std.proofs.Common.{◌≡◌, ◌⊎◌, inl, inr, ℕ, ◌+◌, Bool, true, false, cond, Some, None, refl, sym, ap, ◌∙◌, arith}
use Rattle.std.specs.declared.cmp.Ordering.{Ordering}
use Rattle.std.specs.declared.cmp.Ordering.TheVariants.{Less, Equal, Greater}
use Rattle.std.specs.Ordering.{nat_cmp, ordering_then, is_eq}
use Rattle.std.specs.BTreeMap.{BTreeMap, Updates}
use Rattle.std.proofs.lemmas.Option.{same_Some}
use Rattle.std.specs.FinMap.{nat_cmp-IsAntisymmetric}
use Rattle.txn_store.specs.Paths.{Segments, path_cmp}
use Rattle.txn_store.proofs.FileLemmas.{path_cmp-IsAntisymmetric}
use Rattle.txn_audit_recordings.specs.Tokens.{IsOneToOne}
use Rattle.txn_audit_recordings.specs.TokenTables.{key_cmp, renaming_in, IsUpTo, Extends}

-- Keys that tie are one.
one_key : (key other : ℕ × Segments) → is_eq (key_cmp key other) ≡ true → key ≡ other
one_key (token, path) (second, other) tie = by (nat_cmp token second) (path_cmp path other) refl refl tie
  where
    by : (o p : Ordering) → nat_cmp token second ≡ o → path_cmp path other ≡ p → is_eq (ordering_then o p) ≡ true → ◌≡◌ {A = ℕ × Segments} (token, path) (second, other)
    by Equal Equal same alike tie = ap {B = ℕ × Segments} (λ (t : ℕ). (t, path)) (nat_cmp-IsAntisymmetric token second same) ∙ ap {B = ℕ × Segments} (λ (p : Segments). (second, p)) (path_cmp-IsAntisymmetric path other alike)
    by Equal Less same alike tie = absurd (cc)
    by Equal Greater same alike tie = absurd (cc)
    by Less p same alike tie = absurd (cc)
    by Greater p same alike tie = absurd (cc)

module _ (old new : BTreeMap (ℕ × Segments) ℕ) (key : ℕ × Segments) (next : ℕ) (updates : Updates key_cmp old new key (Some next)) where
  -- What a token becomes afterwards is what was added, or what it became before.
  told : (path : Segments) (token after : ℕ) → renaming_in new path token ≡ Some after → (◌≡◌ {A = ℕ × Segments} key (token, path) × (after ≡ next)) ⊎ (renaming_in old path token ≡ Some after)
  told path token after is = by (is_eq (key_cmp key (token, path))) refl (sym (updates.0 (token, path)) ∙ is)
    where
      by : (b : Bool) → is_eq (key_cmp key (token, path)) ≡ b → cond b (Some next) (renaming_in old path token) ≡ Some after → (◌≡◌ {A = ℕ × Segments} key (token, path) × (after ≡ next)) ⊎ (renaming_in old path token ≡ Some after)
      by true tie is = inl (one_key key (token, path) tie, sym (same_Some next after is))
      by false tie is = inr is

  -- A token that was not met is added, and what became of the others stays.
  pub extended : renaming_in old key.1 key.0 ≡ None → Extends (renaming_in old) (renaming_in new)
  extended absent path token before is = by (is_eq (key_cmp key (token, path))) refl (updates.0 (token, path))
    where
      by : (b : Bool) → is_eq (key_cmp key (token, path)) ≡ b → renaming_in new path token ≡ cond b (Some next) (renaming_in old path token) → renaming_in new path token ≡ Some before
      by true tie there = let at = ap (λ (k : ℕ × Segments). renaming_in old k.1 k.0) (one_key key (token, path) tie) in let clash : None ≡ Some before = sym absent ∙ at ∙ is in absurd (cc)
      by false tie there = there ∙ is

  -- None becomes more than the one that was added.
  pub up_to_next : (last : ℕ) → next ≡ last + 1 → IsUpTo last (renaming_in old) → IsUpTo next (renaming_in new)
  up_to_next last follows up_to path token after is = elim (told path token after is) [
    | inl (at, same) ↦ omega (arith, same)
    | inr before ↦ omega (arith, follows, up_to path token after before)
  ]

  -- No two tokens become one.
  pub stays_one_to_one : (last : ℕ) → next ≡ last + 1 → IsUpTo last (renaming_in old) → IsOneToOne (renaming_in old) → IsOneToOne (renaming_in new)
  stays_one_to_one last follows up_to one_to_one path other token second after first then = by (told path token after first) (told other second after then)
    where
      by : (◌≡◌ {A = ℕ × Segments} key (token, path) × (after ≡ next)) ⊎ (renaming_in old path token ≡ Some after) → (◌≡◌ {A = ℕ × Segments} key (second, other) × (after ≡ next)) ⊎ (renaming_in old other second ≡ Some after) → (path ≡ other) × (token ≡ second)
      by (inl (at, same)) (inl (here, too)) = (ap (λ (k : ℕ × Segments). k.1) (sym at ∙ here), ap (λ (k : ℕ × Segments). k.0) (sym at ∙ here))
      by (inl (at, same)) (inr before) = absurd (omega (arith, same, follows, up_to other second after before))
      by (inr before) (inl (here, too)) = absurd (omega (arith, too, follows, up_to path token after before))
      by (inr before) (inr too) = one_to_one path other token second after before too
