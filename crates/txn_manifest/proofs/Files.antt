-- The files of versions, where one may have been created: the next one of a history, or one that is there again.
use Rattle.std.proofs.Common.{◌≡◌, ◌≢◌, ℕ, ◌+◌, ◌-◌, ◌<◌, ◌≤◌, ◌^◌, List, [], ◌∷◌, ◌++◌, length, slice_get, false, Option, Some, None, inl, inr, refl, sym, ◌∙◌, ap, arith}
use Rattle.std.specs.Option.{option_map}
use Rattle.std.specs.FinMap.{get}
use Rattle.std.proofs.lemmas.List.{length-append}
use Rattle.std.proofs.lemmas.Bool.{cases_eq}
use Rattle.std.proofs.lemmas.Option.{same_Some}
use Rattle.txn_store.specs.VersionName.{Names, version_path}
use Rattle.txn_store.specs.Store.{Files, State}
use Rattle.txn_store.specs.declared.store.Got.{Got}
use Rattle.txn_store.proofs.VersionOfLemmas.{one_path}
use Rattle.txn_store.proofs.FileLemmas.{get-insert_other}
use Rattle.txn_history.specs.History.{versions_of, was_erased}
use Rattle.txn_history.specs.Trace.{Row}
use Rattle.txn_history.proofs.Lists.{get_last}
use Rattle.slatedb_txn_obj.specs.Leaves.{KeepsFiles, MayCreate}
use Rattle.slatedb_txn_obj.proofs.Leaving.{keeps-create}
use Rattle.txn_manifest.specs.declared.manifest.Manifest.{Manifest}
use Rattle.txn_manifest.specs.Manifest.{epoch_of, with_epoch}
use Rattle.txn_manifest.specs.Stores.{StandsBy}
use Rattle.txn_manifest.specs.Text.{manifest_read}
use Rattle.txn_manifest.specs.Tells.{bytes_of, Tells, Versions, TellsStore}
use Rattle.txn_manifest.proofs.Once.{numbered_there}
use Rattle.txn_manifest.proofs.Keeping.{are_held}
use Rattle.txn_manifest.proofs.Growing.{told_length}

-- what a file of a version says of its bytes

pub bytes_there : (names : Names) (files : Files) (n : ℕ) (got : Got) → get files (version_path names n) ≡ Some got → bytes_of names files n ≡ Some got.bytes
bytes_there names files n got e = ap (option_map (λ (g : Got). g.bytes)) e

pub bytes_gone : (names : Names) (files : Files) (n : ℕ) → get files (version_path names n) ≡ None → bytes_of names files n ≡ None
bytes_gone names files n e = ap (option_map (λ (g : Got). g.bytes)) e

pub file_there : (names : Names) (files : Files) (n : ℕ) (bytes : List ℕ) → bytes_of names files n ≡ Some bytes → (got : Got) × (get files (version_path names n) ≡ Some got) × (got.bytes ≡ bytes)
file_there names files n bytes e = by (get files (version_path names n)) refl e
  where
    by : (found : Option Got) → get files (version_path names n) ≡ found → option_map (λ (g : Got). g.bytes) found ≡ Some bytes → (got : Got) × (get files (version_path names n) ≡ Some got) × (got.bytes ≡ bytes)
    by None is h = cc
    by (Some got) is h = (got, is, same_Some got.bytes bytes h)

-- a created file leaves the others

pub others_left : (names : Names) (id : ℕ) (s s' : State) → id < 2 ^ 64 → MayCreate (version_path names id) s s' → (n : ℕ) → n < 2 ^ 64 → n ≢ id → bytes_of names s'.files n ≡ bytes_of names s.files n
others_left names id s s' small (inl same) n fits other = ap (λ (files : Files). bytes_of names files n) same.files
others_left names id s s' small (inr made) n fits other =
    ap (λ (files : Files). bytes_of names files n) made.files
    ∙ ap (option_map (λ (g : Got). g.bytes)) (get-insert_other s.files (version_path names id) (version_path names n) made.file (λ e. other (one_path names n id fits small e)))

-- a version that is not erased is stored
pub told_there : (names : Names) (files : Files) (rows : List (Row Manifest)) (h : List Manifest) (b : ℕ) → Tells manifest_read names files rows h b → (n : ℕ) → n < 2 ^ 64 → 0 < n → n ≤ length h → was_erased rows n ≡ false → (bytes : List ℕ) × (bytes_of names files n ≡ Some bytes)
told_there names files rows h b t n fits some le spared =
    let len = told_length manifest_read names files rows h b t in
    let v = numbered_there (versions_of rows) n some (omega (arith, le, len)) in
    let held = (are_held manifest_read epoch_of with_epoch [] rows t.one n v.0 v.1).there spared in
    (v.0.1, t.versions n fits spared ∙ held)

-- where each file that stood stands, a version that is not erased has its bytes still, where it is one of the history
pub still_there : (names : Names) (s s' : State) (rows : List (Row Manifest)) (h : List Manifest) (b : ℕ) → Tells manifest_read names s.files rows h b → KeepsFiles s s' → (n : ℕ) → n < 2 ^ 64 → was_erased rows n ≡ false → ((got : Got) → get s'.files (version_path names n) ≡ Some got → (0 < n) × (n ≤ length h)) → bytes_of names s'.files n ≡ bytes_of names s.files n
still_there names s s' rows h b t keeps n fits spared known = by (get s.files (version_path names n)) (get s'.files (version_path names n)) refl refl
  where
    by : (was now : Option Got) → get s.files (version_path names n) ≡ was → get s'.files (version_path names n) ≡ now → bytes_of names s'.files n ≡ bytes_of names s.files n
    by (Some got) now is is' = bytes_there names s'.files n got (keeps.stays (version_path names n) got is) ∙ sym (bytes_there names s.files n got is)
    by None None is is' = bytes_gone names s'.files n is' ∙ sym (bytes_gone names s.files n is)
    by None (Some got) is is' =
        let k = known got is' in
        let there = told_there names s.files rows h b t n fits k.0 k.1 spared in
        absurd (let clash : None ≡ Some there.0 = sym (bytes_gone names s.files n is) ∙ there.1 in cc)

-- a write over a base, which may have created the file of the number above it
module _ (p p' : Versions) (s s' : State) (rows : List (Row Manifest)) (told : TellsStore p s rows) (base : ℕ) (made : Manifest) (placed : p'.layout ≡ p.layout) (creates : MayCreate (version_path p.layout.names (base + 1)) s s') (within : base ≤ length told.h) where
  abbrev names : Names
  names = p.layout.names

  same_names : p'.layout.names ≡ names
  same_names = ap (λ layout. layout.names) placed

  -- the value stands as the next entry
  module _ (stands : StandsBy p' s' (told.h ++ made ∷ []) told.b) where
    long : length (told.h ++ made ∷ []) ≡ length told.h + 1
    long = length-append told.h (made ∷ [])

    pub next_small : length told.h + 1 < 2 ^ 64
    next_small = (let fits = stands.versions.files_stand.fits in let len = long in omega (arith, fits, len))

    -- its file
    pub next_stored : (n : ℕ) → n ≡ length told.h + 1 → (got : Got) × (get s'.files (version_path names n) ≡ Some got) × (manifest_read got.bytes ≡ Some made)
    next_stored n at =
        let below = told.stands.versions.files_stand.below in
        let len = long in
        let r = stands.versions.files_stand.stored n (omega (arith, below, at)) (omega (arith, at, len)) in
        let place : n - 1 ≡ length told.h = omega (arith, at) in
        (r.0, ap (λ (nm : Names). get s'.files (version_path nm n)) (sym same_names) ∙ r.1, r.2 ∙ (ap (slice_get (told.h ++ made ∷ [])) place ∙ get_last told.h made))

    -- it was written on the newest version
    pub next_newest : base ≡ length told.h
    next_newest =
        let next = next_stored (length told.h + 1) refl in
        let sm = next_small in
        elim (cases_eq (length told.h + 1) (base + 1)) [
          | inl same ↦ omega (arith, same)
          | inr other ↦ absurd (
              let old = others_left names (base + 1) s s' (omega (arith, sm, within)) creates (length told.h + 1) sm other in
              let file = file_there names s.files (length told.h + 1) next.0.bytes (sym old ∙ bytes_there names s'.files (length told.h + 1) next.0 next.1) in
              let known = told.stands.versions.files_stand.known (length told.h + 1) file.0 sm file.1 in
              omega (arith, known.1)
              )
        ]

  -- nothing moved: each version that is not erased has its bytes
  pub still : StandsBy p' s' told.h told.b → (n : ℕ) → n < 2 ^ 64 → was_erased rows n ≡ false → bytes_of names s'.files n ≡ bytes_of names s.files n
  still stands n fits spared =
      still_there names s s' rows told.h told.b told.tells (keeps-create s s s' (version_path names (base + 1)) (record { stays = λ path got there. there }) creates) n fits spared
      (λ got there. (let known = stands.versions.files_stand.known n got fits (ap (λ (nm : Names). get s'.files (version_path nm n)) same_names ∙ there) in (omega (arith, known.0), known.1)))
