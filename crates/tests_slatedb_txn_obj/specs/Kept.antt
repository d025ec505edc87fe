-- What is left of a holder's versions once it has pinned its own, gone on, and collected.
use Rattle.std.specs.Prelude.{◌≡◌, ℕ, ◌+◌, ◌<◌, ◌≤◌, true, false, Some, None}
use Rattle.std.specs.FinMap as map
use Rattle.txn_store.specs.VersionName.{Names, version_path}
use Rattle.txn_store.specs.Store.{Files}
use Rattle.txn_store.specs.declared.store.Got.{Got}
use Rattle.txn_manifest.specs.declared.manifest.Manifest.{Manifest}
use Rattle.txn_manifest.specs.Manifest.{with_pins, with_payload}
use Rattle.txn_manifest.specs.Pins.{pins_with}
use Rattle.txn_manifest.specs.Text.{manifest_read}
use Rattle.txn_manifest.specs.Collected.{IsSameFile, is_unpinned}

-- the version of this id is stored, and its bytes are those of this manifest
abbrev pub IsStored : Names → Files → ℕ → Manifest → Type 0
IsStored names files id manifest = (got : Got) × (map.get files (version_path names id) ≡ Some got) × (manifest_read got.bytes ≡ Some manifest)

-- The manifest of this id pinned itself, and a payload was entered: two versions were added.
pub record LeavesPinned (names : Names) (id : ℕ) (object : Manifest) (payload : ℕ) (old new : Files) : Type 0 where
  -- the pinned version is stored, and so is the newest
  pub kept : IsStored names new id object
  pub newest : IsStored names new (id + 2) (with_payload (with_pins object (pins_with id object.pins)) payload)
  -- what it pinned before has its file
  pub pinned : (n : ℕ) → n ≤ id → is_unpinned (pins_with id object.pins) n ≡ false → IsSameFile names old new n
  -- and no other version below the newest is stored
  pub gone : (n : ℕ) → n < id + 2 → is_unpinned (pins_with id object.pins) n ≡ true → map.get new (version_path names n) ≡ None
