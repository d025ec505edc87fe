-- What stands under other files and another boundary, and what is left of a window.
use Rattle.std.proofs.Common.{◌≡◌, ◌⊎◌, ℕ, ◌^◌, ◌<◌, ◌≤◌, nat_lt, List, [], ◌∷◌, length, Option, refl, sym, subst, ◌∙◌, inl, inr, arith}
use Rattle.std.specs.FinMap as map
use Rattle.std.proofs.lemmas.Bool.{cases_Bool, ltb-true}
use Rattle.txn_store.specs.VersionName.{Names, version_path}
use Rattle.txn_store.specs.Store.{Files}
use Rattle.txn_steps.specs.declared.boundary.caches.Cached.{Cached}
use Rattle.txn_steps.specs.boundary.Windows.{above}
use Rattle.txn_steps_driven.specs.LatestReads.{UpTo}
use Rattle.txn_steps_driven.specs.PageCount.{pages_below}
use Rattle.txn_steps_driven.specs.Standing.{FilesStand}

-- files that are the same under the names of versions
pub files_same : {T : Type 0} (names : Names) (decode : List ℕ → Option T) (h : List T) (b : ℕ) (files files' : Files) → ((n : ℕ) → n < 2 ^ 64 → map.get files' (version_path names n) ≡ map.get files (version_path names n)) → FilesStand names decode files h b → FilesStand names decode files' h b
files_same names decode h b files files' same stand = record {
  known = λ n got small is. stand.known n got small (sym (same n small) ∙ is);
  stored = λ n up le. let s = stand.stored n up le in let fits = stand.fits in (s.0, same n (omega (arith, le, fits)) ∙ s.1, s.2);
  below = stand.below;
  newest = stand.newest;
  fits = stand.fits;
}

-- the same versions, under a boundary that stays below the newest
pub files_raised : {T : Type 0} (names : Names) (decode : List ℕ → Option T) (h : List T) (b c : ℕ) (files : Files) → b ≤ c → (c ≡ b) ⊎ (c < length h) → FilesStand names decode files h b → FilesStand names decode files h c
files_raised {T} names decode h b c files le (inl same) stand = subst (λ (c : ℕ). FilesStand {T = T} names decode files h c) (sym same) stand
files_raised names decode h b c files le (inr less) stand = record {
  known = stand.known;
  stored = λ n up most. stand.stored n (omega (arith, le, up)) most;
  below = omega (arith, less);
  newest = λ some. less;
  fits = stand.fits;
}

-- nothing above what is at or below an id
pub none_above : (id : ℕ) (latest : List Cached) → UpTo id latest → above id latest ≡ []
none_above id [] up = refl
none_above id (version ∷ versions) up =
    elim (cases_Bool (nat_lt id version.id)) [
      | inl lt ↦ absurd (let less = ltb-true id version.id lt in omega (arith, less, up.0))
      | inr ge ↦ rw ge (none_above id versions up.1)
    ]

-- a listing has one page at least
pub some_page : (names : Names) (page : ℕ) (files : Files) → 1 ≤ pages_below names page files
some_page names page files = omega arith
