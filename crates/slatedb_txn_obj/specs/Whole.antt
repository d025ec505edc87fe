-- When a protocol over an object store and its store stand for a history and a boundary.
use Rattle.std.specs.Prelude.{◌≡◌, ◌⊎◌, ℕ, ◌+◌, ◌^◌, ◌<◌, ◌==◌, not, List, Option, Some, None, Result, Ok, Err}
use Rattle.std.specs.FinMap as map
use Rattle.txn_store.specs.Paths.{Segments}
use Rattle.txn_store.specs.VersionName.{Names, version_path}
use Rattle.txn_store.specs.Store.{Files}
use Rattle.txn_store.specs.declared.types.layout.Layout.{Layout}
use Rattle.txn_store.specs.declared.types.error.TransactionalObjectError.{TransactionalObjectError}
use Rattle.txn_store.specs.declared.types.error.TransactionalObjectError.TheVariants.{ObjectVersionExists}
use Rattle.txn_steps.specs.declared.boundary.caches.Cached.{Cached}
use Rattle.txn_steps.specs.boundary.Windows.{greatest_held, above}
use Rattle.txn_steps_driven.specs.Calls.{one_if}
use Rattle.txn_steps_driven.specs.WriteRuns.{VersionsStand}

-- a protocol as a clause sees it: where its versions lie, which it holds, and its boundary
pub record Protocol (C B : Type 0) : Type 0 where
  pub layout : Layout C
  pub latest : List Cached
  pub boundary : B

-- where the files of a protocol lie: those of its versions, and the boundary's
pub record Laid (C : Type 0) : Type 0 where
  pub layout : Layout C
  pub boundary : Segments

abbrev pub laid : {C B : Type 0} → Protocol C B → Segments → Laid C
laid p file = record { layout = p.layout; boundary = file }

-- the boundary's file, or that of a version
abbrev pub Owned : {C : Type 0} → Laid C → Segments → Type 0
Owned at path = (path ≡ at.boundary) ⊎ ((n : ℕ) × (path ≡ version_path at.layout.names n))

-- The boundary stands, by a file that is no version's, and the files of the versions and the held versions stand.
pub record Whole {T : Type 0} (bounds : ℕ → Type 0) (file : Segments) (names : Names) (decode : List ℕ → Option T) (latest : List Cached) (files : Files) (h : List T) (b : ℕ) : Type 0 where
  pub bounded : bounds b
  pub apart : (n : ℕ) → n < 2 ^ 64 → version_path names n ≡ file → ⊥
  pub versions : VersionsStand names decode files latest h b

-- A protocol and the files of its store stand for a history and a boundary: `bounds` says which boundary stands, and `file` is its file.
abbrev pub StandsFor : {T C B : Type 0} → (bounds : ℕ → Type 0) → (file : Segments) → (decoded : C → List ℕ → Option T) → Protocol C B → Files → List T → ℕ → Type 0
StandsFor bounds file decoded protocol files h b = Whole bounds file protocol.layout.names (decoded protocol.layout.codec) protocol.latest files h b

-- the version of an id is held, and none above it
abbrev pub IsGreatestHeld : List Cached → ℕ → Type 0
IsGreatestHeld latest id = (version : Cached) × (greatest_held latest ≡ Some version) × (version.id ≡ id)

-- no file stands under the name of a version
abbrev pub IsMissing : Names → Files → ℕ → Type 0
IsMissing names files id = map.get files (version_path names id) ≡ None

-- how many calls look for a successor of an id: none where no id follows it
abbrev pub probe_calls : ℕ → ℕ
probe_calls id = one_if (not (id + 1 == 2 ^ 64))

-- what a check leaves of the held versions: those above an id that it refused
abbrev pub after_check : ℕ → Result (Unit {0}) TransactionalObjectError → List Cached → List Cached
after_check id (Err ObjectVersionExists) latest = above id latest
after_check id result latest = latest

-- what a check may leave: `inner` is what it leaves of the boundary
pub record Checks {C B : Type 0} (inner : Type 0) (id : ℕ) (result : Result (Unit {0}) TransactionalObjectError) (old new : Protocol C B) : Type 0 where
  pub boundary : inner
  pub same_layout : new.layout ≡ old.layout
  pub latest_is : new.latest ≡ after_check id result old.latest

-- what an advance leaves of the held versions: those above its target, where it is done
abbrev pub after_advance : ℕ → Result (Unit {0}) TransactionalObjectError → List Cached → List Cached
after_advance id (Ok done) latest = above id latest
after_advance id (Err error) latest = latest

-- what an advance may leave: `inner` is what it leaves of the boundary
pub record Advances {C B : Type 0} (inner : Type 0) (id : ℕ) (result : Result (Unit {0}) TransactionalObjectError) (old new : Protocol C B) : Type 0 where
  pub boundary : inner
  pub same_layout : new.layout ≡ old.layout
  pub latest_is : new.latest ≡ after_advance id result old.latest
