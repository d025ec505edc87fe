-- What a create, a removal and a raise of the boundary make of what the files stand for.
use Rattle.std.proofs.Common.{◌≡◌, ℕ, zero, suc, ◌+◌, ◌-◌, ◌^◌, ◌<◌, ◌≤◌, List, [], ◌∷◌, ◌++◌, length, Option, Some, None, IsSome, Contains, slice_get, refl, sym, ap, subst, ◌∙◌, inl, inr, arith, length-append}
use Rattle.std.specs.FinMap as map
use Rattle.std.proofs.lemmas.Bool.{cases_eq, cases_lt}
use Rattle.std.proofs.lemmas.List.Elements.{Contains-append_left}
use Rattle.txn_store.specs.Paths.{Segments}
use Rattle.txn_store.specs.VersionName.{Names, version_path}
use Rattle.txn_store.specs.Store.{Files, State, Placed, Removed}
use Rattle.txn_store.specs.declared.store.Got.{Got}
use Rattle.txn_store.proofs.FileLemmas.{get-insert_same, get-insert_other, get-remove_same, get-remove_other}
use Rattle.txn_store.proofs.VersionOfLemmas.{one_path}
use Rattle.txn_steps.specs.declared.boundary.caches.Cached.{Cached}
use Rattle.txn_steps_driven.specs.Calls.{SameBut}
use Rattle.txn_steps_driven.specs.Standing.{FilesStand, Carried, WindowFits}

-- the entries of a history with one more

slice_get-push : {T : Type 0} (h : List T) (v : T) → slice_get (h ++ v ∷ []) (length h) ≡ Some v
slice_get-push [] v = refl
slice_get-push (x ∷ h) v = slice_get-push h v

slice_get-push_below : {T : Type 0} (h : List T) (v : T) (i : ℕ) → i < length h → slice_get (h ++ v ∷ []) i ≡ slice_get h i
slice_get-push_below [] v i le = absurd (omega (arith, le))
slice_get-push_below (x ∷ h) v zero le = refl
slice_get-push_below (x ∷ h) v (suc i) le = slice_get-push_below h v i (omega (arith, le))

-- what is placed or removed under a path changes no other, and forgets no token

pub placed-others : (path : Segments) (bytes : List ℕ) (token : ℕ) (old new : State) → Placed path bytes token old new → SameBut path old new
placed-others path bytes token old new placed other apart = ap (λ (f : Files). map.get f other) placed.files ∙ get-insert_other old.files path other _ apart

pub placed-given : (path : Segments) (bytes : List ℕ) (token : ℕ) (old new : State) → Placed path bytes token old new → (t : ℕ) → Contains old.given t → Contains new.given t
placed-given path bytes token old new placed t there = subst (λ (given : List ℕ). Contains given t) (sym placed.given) (Contains-append_left old.given (token ∷ []) t there)

pub removed-others : (path : Segments) (old new : State) → Removed path old new → SameBut path old new
removed-others path old new removed other apart = ap (λ (f : Files). map.get f other) removed.files ∙ get-remove_other old.files path other apart

-- the removal of a version at or below the boundary
module _ {T : Type 0} (names : Names) (decode : List ℕ → Option T) (files : Files) (h : List T) (b n : ℕ) (stand : FilesStand names decode files h b) where
  fits_below : (m : ℕ) → m ≤ length h → m < 2 ^ 64
  fits_below m le = let f = stand.fits in omega (arith, f, le)

  pub removed_stands : n ≤ b → FilesStand names decode (map.remove files (version_path names n)) h b
  removed_stands fenced =
      let low : n ≤ length h = (let l = stand.below in omega (arith, l, fenced)) in
      let other : (m : ℕ) → m < 2 ^ 64 → (m ≡ n → ⊥) → map.get (map.remove files (version_path names n)) (version_path names m) ≡ map.get files (version_path names m)
      = (λ m small ne. get-remove_other files (version_path names n) (version_path names m) (λ e. ne (one_path names m n small (fits_below n low) e))) in
      record {
        known = λ m got small is. elim (cases_eq m n) [
          | inl e ↦ absurd (let gone : map.get (map.remove files (version_path names n)) (version_path names m) ≡ None = ap (λ k. map.get (map.remove files (version_path names n)) (version_path names k)) e ∙ get-remove_same files (version_path names n) in cc (gone, is))
          | inr ne ↦ stand.known m got small (sym (other m small ne) ∙ is)
        ];
        stored = λ m above le. let s = stand.stored m above le in (s.0, other m (fits_below m le) (λ e. omega (arith, e, above, fenced)) ∙ s.1, s.2);
        below = stand.below;
        newest = stand.newest;
        fits = stand.fits;
      }

-- a version that stands conflicts: its name is stored
pub stored_at : {T : Type 0} (names : Names) (decode : List ℕ → Option T) (files : Files) (h : List T) (b n : ℕ) → FilesStand names decode files h b → b < n → n ≤ length h → map.get files (version_path names n) ≡ None → ⊥
stored_at names decode files h b n stand above le free = let s = stand.stored n above le in let is = s.1 in cc (is, free)

-- the create of a version that is not stored
module _ {T : Type 0} (names : Names) (decode : List ℕ → Option T) (files : Files) (h : List T) (b : ℕ) (v : T) (n : ℕ) (got : Got) (free : map.get files (version_path names n) ≡ None) (reads : decode got.bytes ≡ Some v) (small : n < 2 ^ 64) (some : 1 ≤ n) (stand : FilesStand names decode files h b) where
  abbrev new : Files
  new = map.insert files (version_path names n) got

  at_new : (m : ℕ) → m ≡ n → map.get new (version_path names m) ≡ Some got
  at_new m e = ap (λ k. map.get new (version_path names k)) e ∙ get-insert_same files (version_path names n) got

  at_old : (m : ℕ) → m < 2 ^ 64 → (m ≡ n → ⊥) → map.get new (version_path names m) ≡ map.get files (version_path names m)
  at_old m fits ne = get-insert_other files (version_path names n) (version_path names m) got (λ e. ne (one_path names m n fits small e))

  decodes : IsSome (decode got.bytes)
  decodes = rw reads refl

  -- its id is above the newest, or at or below the boundary
  pub fenced_or_new : n ≤ length h → n ≤ b
  fenced_or_new le = elim (cases_lt b n) [ inl above ↦ absurd (stored_at names decode files h b n stand above le free) | inr fenced ↦ fenced ]

  known : (k : ℕ) → length h ≤ k → n ≤ k → (m : ℕ) (g : Got) → m < 2 ^ 64 → map.get new (version_path names m) ≡ Some g → (1 ≤ m) × (m ≤ k) × IsSome (decode g.bytes)
  known k le le' m g fits is = elim (cases_eq m n) [
    | inl e ↦ let same : g ≡ got = (let a = at_new m e in cc (a, is)) in (omega (arith, e, some), omega (arith, e, le'), subst (λ x. IsSome (decode x.bytes)) (sym same) decodes)
    | inr ne ↦ let s = stand.known m g fits (sym (at_old m fits ne) ∙ is) in (s.0, omega (arith, s.1, le), s.2)
  ]

  -- the newest version: the history grows by its value
  pub newest_stands : n ≡ length h + 1 → FilesStand names decode new (h ++ v ∷ []) b
  newest_stands last =
      let long : length (h ++ v ∷ []) ≡ length h + 1 = length-append h (v ∷ []) in
      record {
        known = known _ (omega (arith, long)) (omega (arith, long, last));
        stored = λ m above le. elim (cases_eq m n) [
          | inl e ↦ (got, at_new m e, reads ∙ sym (ap (slice_get (h ++ v ∷ [])) (omega (arith, e, last)) ∙ slice_get-push h v))
          | inr ne ↦ let le' : m ≤ length h = omega (arith, le, long, ne, last) in let s = stand.stored m above le' in (s.0, at_old m (omega (arith, le', small, last)) ne ∙ s.1, s.2 ∙ sym (slice_get-push_below h v (m - 1) (omega (arith, le', above))))
        ];
        below = let l = stand.below in omega (arith, l, long);
        newest = λ _. let l = stand.below in omega (arith, l, long);
        fits = omega (arith, long, last, small);
      }

  -- a version at or below the boundary, created again: nothing moves
  pub again_stands : n ≤ b → FilesStand names decode new h b
  again_stands fenced =
      let l = stand.below in
      record {
        known = known _ (omega arith) (omega (arith, fenced, l));
        stored = λ m above le'. let ne : m ≡ n → ⊥ = (λ e. omega (arith, e, above, fenced)) in let f = stand.fits in let s = stand.stored m above le' in (s.0, at_old m (omega (arith, le', f)) ne ∙ s.1, s.2);
        below = stand.below;
        newest = stand.newest;
        fits = stand.fits;
      }

-- what is held after a create

module _ {T : Type 0} (decode : List ℕ → Option T) (h : List T) (b : ℕ) where
  -- the entries of a longer history
  carried_grown : (v : T) (version : Cached) → Carried decode h b version → Carried decode (h ++ v ∷ []) b version
  carried_grown v version c =
      let long : length (h ++ v ∷ []) ≡ length h + 1 = length-append h (v ∷ []) in
      let low = c.positive in
      let within = c.within in
      record {
        positive = low;
        within = omega (arith, within, long);
        decodes = c.decodes;
        entry = λ above. c.entry above ∙ sym (slice_get-push_below h v (version.id - 1) (omega (arith, low, within)));
      }

  pub window_grown : (v : T) (versions : List Cached) → WindowFits decode h b versions → WindowFits decode (h ++ v ∷ []) b versions
  window_grown v [] fits = tt
  window_grown v (version ∷ versions) fits = (carried_grown v version fits.0, window_grown v versions fits.1)

  -- the newest version, as it was written
  pub carried_newest : (v : T) (id : ℕ) (bytes : List ℕ) → id ≡ length h + 1 → decode bytes ≡ Some v → Carried decode (h ++ v ∷ []) b (record { id = id; bytes = bytes })
  carried_newest v id bytes last reads =
      let long : length (h ++ v ∷ []) ≡ length h + 1 = length-append h (v ∷ []) in
      record {
        positive = omega (arith, last);
        within = omega (arith, last, long);
        decodes = rw reads refl;
        entry = λ above. reads ∙ sym (ap (slice_get (h ++ v ∷ [])) (omega (arith, last)) ∙ slice_get-push h v);
      }

  -- a version at or below the boundary, as it was written
  pub carried_again : (v : T) (id : ℕ) (bytes : List ℕ) → 1 ≤ id → id ≤ b → b ≤ length h → decode bytes ≡ Some v → Carried decode h b (record { id = id; bytes = bytes })
  carried_again v id bytes some fenced below reads = record {
    positive = some;
    within = omega (arith, fenced, below);
    decodes = rw reads refl;
    entry = λ above. absurd (omega (arith, above, fenced));
  }

-- a raise of the boundary to the greater of it and a number that is 0 or below the newest: what stood above the old one stands above the new one
module _ {T : Type 0} (names : Names) (decode : List ℕ → Option T) (h : List T) (b c : ℕ) where
  carried_raised : (top : ℕ) (version : Cached) → b ≤ top → Carried decode h b version → Carried decode h top version
  carried_raised top version up carried = record {
    positive = carried.positive;
    within = carried.within;
    decodes = carried.decodes;
    entry = λ above. carried.entry (omega (arith, above, up));
  }

  pub raised_window : (top : ℕ) (versions : List Cached) → b ≤ top → WindowFits decode h b versions → WindowFits decode h top versions
  raised_window top [] up fits = tt
  raised_window top (version ∷ versions) up fits = (carried_raised top version up fits.0, raised_window top versions up fits.1)
