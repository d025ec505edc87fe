-- What is held is carried, after each rule of a client's window.
use Rattle.std.proofs.Common.{◌≡◌, ℕ, zero, suc, ◌-◌, List, [], ◌∷◌, length, filter, slice_get, not, nat_lt, ◌==◌, Bool, Option, Some, None, inl, inr, subst}
use Rattle.std.proofs.lemmas.Bool.{cases_Bool, eqb-true}
use Rattle.std.proofs.lemmas.Option.{same_Some}
use Rattle.txn_steps.specs.declared.boundary.caches.Cached.{Cached}
use Rattle.txn_steps.specs.boundary.Windows.{held, greatest_held, placed, replaced, kept_beside, kept, without, above}
use Rattle.txn_history.specs.Trace.{PlainRow}
use Rattle.txn_machine.proofs.plain.Stands.{Carried, WindowFits}

module _ {T : Type 0} (decode : List ℕ → Option T) (rows : List (PlainRow T)) where
  placed_fits : (version : Cached) (versions : List Cached) → Carried decode rows version → WindowFits decode rows versions → WindowFits decode rows (placed version versions)
  placed_fits version [] c h = (c, tt)
  placed_fits version (first ∷ versions) c h = elim (cases_Bool (nat_lt first.id version.id)) [ inl lt ↦ rw lt (h.0, placed_fits version versions c h.1) | inr ge ↦ rw ge (c, h) ]

  replaced_fits : (version : Cached) (versions : List Cached) → Carried decode rows version → WindowFits decode rows versions → WindowFits decode rows (replaced version versions)
  replaced_fits version [] c h = tt
  replaced_fits version (smallest ∷ versions) c h = elim (cases_Bool (nat_lt smallest.id version.id)) [ inl lt ↦ rw lt (placed_fits version versions c h.1) | inr ge ↦ rw ge h ]

  beside_fits : (same : Option Cached) (version : Cached) (versions : List Cached) → Carried decode rows version → WindowFits decode rows versions → WindowFits decode rows (kept_beside same version versions)
  beside_fits (Some same) version versions c h = h
  beside_fits None version versions c h = elim (cases_Bool (nat_lt (length versions) 8)) [ inl lt ↦ rw lt (placed_fits version versions c h) | inr ge ↦ rw ge (replaced_fits version versions c h) ]

  -- caching a carried version
  pub kept_fits : (version : Cached) (versions : List Cached) → Carried decode rows version → WindowFits decode rows versions → WindowFits decode rows (kept version versions)
  kept_fits version versions c h = beside_fits (held version.id versions) version versions c h

  filter_fits : (p : Cached → Bool) (versions : List Cached) → WindowFits decode rows versions → WindowFits decode rows (filter p versions)
  filter_fits p [] h = tt
  filter_fits p (version ∷ versions) h = elim (cases_Bool (p version)) [ inl e ↦ rw e (h.0, filter_fits p versions h.1) | inr e ↦ rw e (filter_fits p versions h.1) ]

  -- dropping the version of an id
  pub without_fits : (id : ℕ) (versions : List Cached) → WindowFits decode rows versions → WindowFits decode rows (without id versions)
  without_fits id versions h = filter_fits (λ version. not (version.id == id)) versions h

  -- dropping the versions at or below an id
  pub above_fits : (id : ℕ) (versions : List Cached) → WindowFits decode rows versions → WindowFits decode rows (above id versions)
  above_fits id versions h = filter_fits (λ version. nat_lt id version.id) versions h

  -- the held version of an id
  pub held_fits : (id : ℕ) (versions : List Cached) (version : Cached) → WindowFits decode rows versions → held id versions ≡ Some version → Carried decode rows version × (version.id ≡ id)
  held_fits id [] version h e = cc
  held_fits id (first ∷ versions) version h e =
      elim (cases_Bool (first.id == id)) [
        | inl same ↦
            let is : Some first ≡ Some version = rw same at e in
            let at : first ≡ version = same_Some first version is in
            subst (λ (v : Cached). Carried decode rows v × (v.id ≡ id)) at (h.0, eqb-true first.id id same)
        | inr other ↦ held_fits id versions version h.1 (rw other at e)
      ]

  get_fits : (k : ℕ) (versions : List Cached) (version : Cached) → WindowFits decode rows versions → slice_get versions k ≡ Some version → Carried decode rows version
  get_fits k [] version h e = cc
  get_fits zero (first ∷ versions) version h e = subst (λ (v : Cached). Carried decode rows v) (same_Some first version e) h.0
  get_fits (suc k) (first ∷ versions) version h e = get_fits k versions version h.1 e

  -- the held version of the greatest id
  pub greatest_fits : (versions : List Cached) (version : Cached) → WindowFits decode rows versions → greatest_held versions ≡ Some version → Carried decode rows version
  greatest_fits versions version h e = get_fits (length versions - 1) versions version h e
