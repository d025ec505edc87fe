-- What a check and an advance make of what a protocol over an object store stands for.
use Rattle.std.specs.Prelude.{◌≡◌, ◌⊎◌, ℕ, ◌+◌, ◌^◌, ◌<◌, ◌≤◌, ◌==◌, Bool, true, false, not, List, [], length, Option, Result, Ok, Err}
use Rattle.std.proofs.Common.{refl, ◌∙◌, inl, inr, arith}
use Rattle.txn_store.specs.Paths.{Segments}
use Rattle.txn_store.specs.VersionName.{version_path}
use Rattle.txn_store.specs.Store.{Files, State}
use Rattle.txn_store.specs.declared.types.error.TransactionalObjectError.{TransactionalObjectError}
use Rattle.txn_store.specs.declared.types.error.TransactionalObjectError.TheVariants as kinds
use Rattle.txn_steps.specs.declared.boundary.caches.Cached.{Cached}
use Rattle.txn_steps_driven.specs.Calls.{one_if, SameAt, SameBut}
use Rattle.txn_steps_driven.specs.LatestReads.{UpTo}
use Rattle.txn_steps_driven.specs.PageCount.{pages_below}
use Rattle.txn_steps_driven.specs.Standing.{WindowFits}
use Rattle.txn_steps_driven.proofs.Effects.{raised_window}
use Rattle.txn_steps_driven.proofs.Frames.{FilesStand-frame}
use Rattle.txn_steps_driven.proofs.Standings.{files_same, files_raised, none_above}
use Rattle.txn_steps_driven.proofs.Windows.{above_fits}
use Rattle.slatedb_txn_obj.specs.Leaves.{SameOwn}
use Rattle.slatedb_txn_obj.specs.Whole.{Protocol, Owned, laid, Whole, probe_calls, after_check, after_advance, Checks, Advances}

module _ {T : Type 0} (decode : List ℕ → Option T) (h : List T) (b : ℕ) where
  checked_fits : (id : ℕ) (result : Result (Unit {0}) TransactionalObjectError) (latest : List Cached) → WindowFits decode h b latest → WindowFits decode h b (after_check id result latest)
  checked_fits id (Err kinds.ObjectVersionExists) latest fits = above_fits decode h b id latest fits
  checked_fits id result latest fits = fits

  advanced_fits : (id : ℕ) (result : Result (Unit {0}) TransactionalObjectError) (latest : List Cached) → WindowFits decode h b latest → WindowFits decode h b (after_advance id result latest)
  advanced_fits id (Ok done) latest fits = above_fits decode h b id latest fits
  advanced_fits id (Err error) latest fits = fits

module _ {T C B : Type 0} (decoded : C → List ℕ → Option T) (p q : Protocol C B) (old new : State) (h : List T) (b : ℕ) where
  -- a check leaves what stands
  pub whole-checked : (bounds bounds' : ℕ → Type 0) (file file' : Segments) (inner : Type 0) (id : ℕ) (result : Result (Unit {0}) TransactionalObjectError) → file' ≡ file → new.files ≡ old.files → (bounds b → bounds' b) → Checks inner id result p q
      → Whole bounds file p.layout.names (decoded p.layout.codec) p.latest old.files h b → Whole bounds' file' q.layout.names (decoded q.layout.codec) q.latest new.files h b
  whole-checked bounds bounds' file file' inner id result same_file same_files keeps checks whole =
      rw (checks.same_layout, checks.latest_is, same_file, same_files) (record {
        bounded = keeps whole.bounded;
        apart = whole.apart;
        versions = record { files_stand = whole.versions.files_stand; window_fits = checked_fits (decoded p.layout.codec) h b id result p.latest whole.versions.window_fits };
      })

  -- an advance leaves the history
  pub whole-advanced : (c : ℕ) (bounds bounds' : ℕ → Type 0) (file file' : Segments) (inner : Type 0) (id : ℕ) (result : Result (Unit {0}) TransactionalObjectError) → file' ≡ file → SameBut file old new → b ≤ c → (c ≡ b) ⊎ (c < length h) → bounds' c → Advances inner id result p q
      → Whole bounds file p.layout.names (decoded p.layout.codec) p.latest old.files h b → Whole bounds' file' q.layout.names (decoded q.layout.codec) q.latest new.files h c
  whole-advanced c bounds bounds' file file' inner id result same_file others le newest now advances whole =
      rw (advances.same_layout, advances.latest_is, same_file) (record {
        bounded = now;
        apart = whole.apart;
        versions = record {
          files_stand = files_same p.layout.names (decoded p.layout.codec) h c old.files new.files (λ n small. others (version_path p.layout.names n) (whole.apart n small)) (files_raised p.layout.names (decoded p.layout.codec) h b c old.files le newest whole.versions.files_stand);
          window_fits = advanced_fits (decoded p.layout.codec) h c id result p.latest (raised_window p.layout.names (decoded p.layout.codec) h b c c p.latest le whole.versions.window_fits);
        };
      })

-- whoever leaves its files leaves what a protocol stands for
pub whole-frame : {T C B : Type 0} (decoded : C → List ℕ → Option T) (p : Protocol C B) (old new : State) (h : List T) (b : ℕ) (bounds bounds' : ℕ → Type 0) (file : Segments) → (SameAt file old new → bounds b → bounds' b) → SameOwn (Owned (laid p file)) old new
    → Whole bounds file p.layout.names (decoded p.layout.codec) p.latest old.files h b → Whole bounds' file p.layout.names (decoded p.layout.codec) p.latest new.files h b
whole-frame decoded p old new h b bounds bounds' file keeps own whole = record {
  bounded = keeps (record { same = own.same file (inl refl); given = own.given }) whole.bounded;
  apart = whole.apart;
  versions = record { files_stand = FilesStand-frame p.layout.names (decoded p.layout.codec) h b old.files new.files (λ n. own.same (version_path p.layout.names n) (inr (n, refl))) whole.versions.files_stand; window_fits = whole.versions.window_fits };
}

-- the files lie where they lay
pub laid-same : {C B : Type 0} (p q : Protocol C B) (file file' : Segments) → q.layout ≡ p.layout → file' ≡ file → laid q file' ≡ laid p file
laid-same p q file file' same same_file = rw (same, same_file) refl

-- a check that refuses an id leaves nothing held that is not above it
pub refused-fresh : {C B : Type 0} (inner : Type 0) (id : ℕ) (p q : Protocol C B) → Checks inner id (Err kinds.ObjectVersionExists) p q → UpTo id p.latest → q.latest ≡ []
refused-fresh inner id p q checks up = checks.latest_is ∙ none_above id p.latest up

-- a check leaves the pages of a listing
pub pages-checked : {C B : Type 0} (inner : Type 0) (id : ℕ) (result : Result (Unit {0}) TransactionalObjectError) (p q : Protocol C B) (files files' : Files) → files' ≡ files → Checks inner id result p q → pages_below q.layout.names q.layout.page files' ≡ pages_below p.layout.names p.layout.page files
pages-checked inner id result p q files files' same checks = rw (checks.same_layout, same) refl

-- one call at most looks for a successor
one_if_few : (b : Bool) → one_if b ≤ 1
one_if_few true = omega arith
one_if_few false = omega arith

pub probe_few : (id : ℕ) → probe_calls id ≤ 1
probe_few id = one_if_few (not (id + 1 == 2 ^ 64))
