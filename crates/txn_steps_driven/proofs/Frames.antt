-- What leaves the files of versions, or the boundary's file, leaves what they stand for.
use Rattle.std.proofs.Common.{◌≡◌, ℕ, List, Contains, Option, Some, None, sym, subst, ap, ◌∙◌}
use Rattle.std.specs.FinMap as map
use Rattle.txn_store.specs.Paths.{Segments}
use Rattle.txn_store.specs.VersionName.{Names, version_path}
use Rattle.txn_store.specs.Store.{Files, State, Kept}
use Rattle.txn_store.specs.declared.store.Got.{Got}
use Rattle.txn_steps.specs.declared.boundary.caches.CachedBoundary.{CachedBoundary}
use Rattle.txn_steps_driven.specs.Calls.{SameAt, SameBut}
use Rattle.txn_steps_driven.specs.Standing.{FilesStand, FileSays, BoundaryFits, BoundaryStands}

-- only the paths of versions matter to what the files stand for
pub FilesStand-frame : {T : Type 0} (names : Names) (decode : List ℕ → Option T) (h : List T) (b : ℕ) (files files' : Files) → ((n : ℕ) → map.get files' (version_path names n) ≡ map.get files (version_path names n)) → FilesStand names decode files h b → FilesStand names decode files' h b
FilesStand-frame names decode h b files files' same stand = record {
  known = λ n got fits is. stand.known n got fits (sym (same n) ∙ is);
  stored = λ n above le. let s = stand.stored n above le in (s.0, same n ∙ s.1, s.2);
  below = stand.below;
  newest = stand.newest;
  fits = stand.fits;
}

-- only the boundary's path and the given tokens matter to the boundary

module _ (path : Segments) (old new : State) (b : ℕ) (at : SameAt path old new) where
  says-frame : (now : Option Got) → FileSays old.given now b → FileSays new.given now b
  says-frame None says = says
  says-frame (Some got) says = (says.0, at.given got.token says.1)

  fits-frame : (cached : Option CachedBoundary) → BoundaryFits path old.files old.given b cached → BoundaryFits path new.files new.given b cached
  fits-frame None fits = tt
  fits-frame (Some known) fits = record { file = fits.file; is_file = at.same ∙ fits.is_file; at_most = fits.at_most; given_once = at.given known.token fits.given_once; same = fits.same }

pub BoundaryStands-frame : (path : Segments) (cached : Option CachedBoundary) (old new : State) (b : ℕ) → SameAt path old new → BoundaryStands path cached old b → BoundaryStands path cached new b
BoundaryStands-frame path cached old new b at stands = record {
  says = subst (λ now. FileSays new.given now b) (sym at.same) (says-frame path old new b at (map.get old.files path) stands.says);
  fits = fits-frame path old new b at cached stands.fits;
}

-- what leaves the files and the tokens leaves each path
pub same_at-kept : (path : Segments) (old new : State) → Kept old new → SameAt path old new
same_at-kept path old new kept = record {
  same = ap (λ (f : Files). map.get f path) kept.files;
  given = λ token there. subst (λ (given : List ℕ). Contains given token) (sym kept.given) there;
}

pub same_but-kept : (path : Segments) (old new : State) → Kept old new → SameBut path old new
same_but-kept path old new kept other apart = ap (λ (f : Files). map.get f other) kept.files

pub BoundaryStands-kept : (path : Segments) (cached : Option CachedBoundary) (old new : State) (b : ℕ) → Kept old new → BoundaryStands path cached old b → BoundaryStands path cached new b
BoundaryStands-kept path cached old new b kept stands = BoundaryStands-frame path cached old new b (same_at-kept path old new kept) stands

pub FilesStand-kept : {T : Type 0} (names : Names) (decode : List ℕ → Option T) (h : List T) (b : ℕ) (old new : State) → Kept old new → FilesStand names decode old.files h b → FilesStand names decode new.files h b
FilesStand-kept names decode h b old new kept stand = FilesStand-frame names decode h b old.files new.files (λ n. ap (λ (f : Files). map.get f (version_path names n)) kept.files) stand

-- nothing changed at all

pub kept-refl : (old new : State) → new ≡ old → Kept old new
kept-refl old new same = record { files = ap (λ (s : State). s.files) same; given = ap (λ (s : State). s.given) same; left = ap (λ (s : State). s.left) same }

pub kept-trans : (a b c : State) → Kept a b → Kept b c → Kept a c
kept-trans a b c first second = record { files = second.files ∙ first.files; given = second.given ∙ first.given; left = second.left ∙ first.left }
