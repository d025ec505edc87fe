-- The step of each operation that runs alone, and when a store can serve what it asks.
use Rattle.std.specs.Prelude.{ℕ, ◌<◌, ◌≤◌, true, false, List, Option, Some, Result}
use Rattle.txn_store.specs.Paths.{Segments}
use Rattle.txn_store.specs.VersionName.{Names}
use Rattle.txn_store.specs.declared.request.Request.{Request}
use Rattle.txn_store.specs.declared.request.Request.TheVariants as requests
use Rattle.txn_store.specs.declared.types.error.TransactionalObjectError.{TransactionalObjectError}
use Rattle.txn_steps.specs.declared.boundary.advance.AdvanceOp.{AdvanceOp}
use Rattle.txn_steps.specs.declared.boundary.advance.AdvanceOp.TheVariants as advances
use Rattle.txn_steps.specs.declared.boundary.advance.BoundaryAdvance.{BoundaryAdvance}
use Rattle.txn_steps.specs.declared.boundary.advance.BoundaryAdvance.TheVariants as raises
use Rattle.txn_steps.specs.declared.boundary.boundary_read.BoundaryRead.{BoundaryRead}
use Rattle.txn_steps.specs.declared.boundary.boundary_read.BoundaryRead.TheVariants as boundary
use Rattle.txn_steps.specs.declared.boundary.caches.Cached.{Cached}
use Rattle.txn_steps.specs.declared.boundary.caches.Caches.{Caches}
use Rattle.txn_steps.specs.declared.boundary.check.CheckOp.{CheckOp}
use Rattle.txn_steps.specs.declared.boundary.check.CheckOp.TheVariants as checks
use Rattle.txn_steps.specs.declared.boundary.turned.Turned.{Turned}
use Rattle.txn_steps.specs.boundary.Advances.{advance_asked, advance_turned, advance_caches}
use Rattle.txn_steps.specs.boundary.Checks.{check_asked, check_turned, check_caches}
use Rattle.txn_steps.specs.declared.delete.DeleteOp.{DeleteOp}
use Rattle.txn_steps.specs.declared.delete.DeleteUncheckedOp.{DeleteUncheckedOp}
use Rattle.txn_steps.specs.declared.latest.LatestOp.{LatestOp}
use Rattle.txn_steps.specs.declared.latest.LatestOp.TheVariants as latest
use Rattle.txn_steps.specs.declared.listing.ListOp.{ListOp}
use Rattle.txn_steps.specs.declared.read.ReadOp.{ReadOp}
use Rattle.txn_steps.specs.declared.read.ReadOp.TheVariants as reads
use Rattle.txn_steps.specs.declared.seen.ReadSeenOp.{ReadSeenOp}
use Rattle.txn_steps.specs.declared.seen.ReadSeenOp.TheVariants as seen
use Rattle.txn_steps.specs.declared.write.WriteOp.{WriteOp}
use Rattle.txn_steps.specs.declared.write.WriteStep.{WriteStep}
use Rattle.txn_steps.specs.declared.write.WriteStep.TheVariants as writes
use Rattle.txn_steps.specs.declared.write.WriteUncheckedOp.{WriteUncheckedOp}
use Rattle.txn_steps.specs.Deletes.{removal_asked, removal_turned, removal_latest, delete_asked, delete_turned, delete_caches}
use Rattle.txn_steps.specs.Latest.{latest_asked, latest_turned, latest_window_after}
use Rattle.txn_steps.specs.Listed.{Listed}
use Rattle.txn_steps.specs.Listings.{listing_turned}
use Rattle.txn_steps.specs.Reads.{read_asked, read_turned, read_caches_after}
use Rattle.txn_steps.specs.SeenSteps as of_seen
use Rattle.txn_steps.specs.SeenSteps.{seen_asked, seen_turned, seen_latest}
use Rattle.txn_steps.specs.Writes.{unchecked_asked, unchecked_turned, unchecked_latest, write_asked, write_turned, write_caches}
use Rattle.txn_steps_driven.specs.declared.drive_version.ReadVersion.{ReadVersion}
use Rattle.txn_steps_driven.specs.DriveRuns.{Scene, Stepped}
use Rattle.txn_steps_driven.specs.ListRuns.{CanList}
use Rattle.txn_steps_driven.specs.RemovalRuns.{CanRemove}
use Rattle.txn_steps_driven.specs.WriteRuns.{CanWrite}

-- caches with these versions
abbrev pub with_latest : List Cached → Caches → Caches
with_latest versions caches = record { latest = versions; boundary = caches.boundary }

-- an unchecked write
abbrev pub WriteUncheckedSteps : Scene WriteUncheckedOp → Turned (Result ℕ TransactionalObjectError) → Scene WriteUncheckedOp → Type 0
WriteUncheckedSteps = Stepped false unchecked_asked (λ op caches reply. unchecked_turned op reply) (λ op caches told. with_latest (unchecked_latest op caches.latest) caches)

-- an unchecked delete
abbrev pub DeleteUncheckedSteps : Scene DeleteUncheckedOp → Turned (Result (Unit {0}) TransactionalObjectError) → Scene DeleteUncheckedOp → Type 0
DeleteUncheckedSteps = Stepped false removal_asked (λ op caches reply. removal_turned op reply) (λ op caches told. with_latest (removal_latest op caches.latest) caches)

-- a listing
abbrev pub ListSteps : Names → ℕ → Scene ListOp → Turned (Result (List Listed) TransactionalObjectError) → Scene ListOp → Type 0
ListSteps names page = Stepped true (λ op. Some op.request) (λ op caches reply. listing_turned names page op reply) (λ op caches told. caches)

-- a check
abbrev pub CheckSteps : Scene CheckOp → Turned (Result (Unit {0}) TransactionalObjectError) → Scene CheckOp → Type 0
CheckSteps = Stepped false check_asked check_turned (λ op caches told. check_caches op caches)

-- an advance of the boundary that this file says
abbrev pub AdvanceSteps : Segments → Scene AdvanceOp → Turned (Result (Unit {0}) TransactionalObjectError) → Scene AdvanceOp → Type 0
AdvanceSteps path = Stepped true advance_asked (advance_turned path) (λ op caches told. advance_caches op caches)

-- a write
abbrev pub WriteSteps : Scene WriteOp → Turned (Result ℕ TransactionalObjectError) → Scene WriteOp → Type 0
WriteSteps = Stepped false write_asked write_turned (λ op caches told. write_caches op caches)

-- a delete
abbrev pub DeleteSteps : Scene DeleteOp → Turned (Result (Unit {0}) TransactionalObjectError) → Scene DeleteOp → Type 0
DeleteSteps = Stepped false delete_asked delete_turned (λ op caches told. delete_caches op caches)

module _ {T : Type 0} where
  -- an unchecked read of one id
  abbrev pub ReadVersionSteps : (List ℕ → Option T) → Scene (ReadVersion T) → Turned (Result (Option T) TransactionalObjectError) → Scene (ReadVersion T) → Type 0
  ReadVersionSteps decode = Stepped true (λ (read : ReadVersion T). Some read.op.request) (λ op caches reply. (op, of_seen.unchecked_turned decode reply)) (λ op caches told. caches)

  -- a read of one id that was perhaps seen
  abbrev pub SeenSteps : Names → (List ℕ → Option T) → Scene (ReadSeenOp T) → Turned (Result (Option T) TransactionalObjectError) → Scene (ReadSeenOp T) → Type 0
  SeenSteps names decode = Stepped true seen_asked (λ op caches reply. seen_turned names decode op caches.latest reply) (λ op caches told. with_latest (seen_latest op caches.latest) caches)

  -- an unchecked read of the newest version
  abbrev pub LatestSteps : Names → ℕ → (List ℕ → Option T) → Scene (LatestOp T) → Turned (Result (Option (ℕ × T)) TransactionalObjectError) → Scene (LatestOp T) → Type 0
  LatestSteps names page decode = Stepped true latest_asked (λ op caches reply. latest_turned names page decode op caches.latest reply) (λ op caches told. with_latest (latest_window_after op caches.latest told) caches)

  -- a read of the newest version
  abbrev pub ReadSteps : Names → Segments → ℕ → (List ℕ → Option T) → Scene (ReadOp T) → Turned (Result (Option (ℕ × T)) TransactionalObjectError) → Scene (ReadOp T) → Type 0
  ReadSteps names path page decode = Stepped true read_asked (read_turned names path page decode) read_caches_after

-- what is asked is a get
abbrev pub CanGet : Request → Type 0
CanGet (requests.Get path known) = Unit {0}
CanGet request = ⊥

-- what is asked is a put
abbrev pub CanPut : Request → Type 0
CanPut (requests.Put path bytes mode) = Unit {0}
CanPut request = ⊥

-- a read of the boundary asks for a get
abbrev pub CanReadBoundary : BoundaryRead → Type 0
CanReadBoundary (boundary.Looks path) = Unit {0}
CanReadBoundary (boundary.Gets request) = CanGet request
CanReadBoundary (boundary.Holds known) = Unit {0}

-- a check asks for its read of the boundary
abbrev pub CanCheck : CheckOp → Type 0
CanCheck (checks.Checks check) = CanReadBoundary check.read
CanCheck (checks.Drops id) = Unit {0}

-- a raise asks for its read of the boundary, or for a put
abbrev pub CanRaise : BoundaryAdvance → Type 0
CanRaise (raises.Looks target) = Unit {0}
CanRaise (raises.Reads target again read) = CanReadBoundary read
CanRaise (raises.Puts target request) = CanPut request
CanRaise (raises.Keeps target token) = Unit {0}

abbrev pub CanAdvance : AdvanceOp → Type 0
CanAdvance (advances.Raises target raise) = CanRaise raise
CanAdvance (advances.Drops target) = Unit {0}

-- a write asks for its create, or for its check
abbrev pub CanWriteAt : WriteStep → WriteUncheckedOp → Type 0
CanWriteAt writes.Writes write = CanWrite write
CanWriteAt writes.Checks write = Unit {0}

abbrev pub CanWriteChecked : WriteOp → Type 0
CanWriteChecked op = CanWriteAt op.step op.write × CanCheck op.check

-- a delete asks for its check, or for its removal
abbrev pub CanDelete : DeleteOp → Type 0
CanDelete op = CanCheck op.check × CanRemove op.removal.step op.removal.request

module _ {T : Type 0} where
  -- a read of one id asks for a get, and has not ended
  abbrev pub CanReadSeen : ReadSeenOp T → Type 0
  CanReadSeen (seen.Looks id) = Unit {0}
  CanReadSeen (seen.Gets id request) = CanGet request
  CanReadSeen (seen.Keeps version value) = Unit {0}
  CanReadSeen seen.Ended = ⊥

  -- an unchecked read asks for a get or a page, has not ended, and has found at most four successors
  abbrev pub CanReadLatest : LatestOp T → Type 0
  CanReadLatest latest.Looks = Unit {0}
  CanReadLatest (latest.Probes hand found next request) = CanGet request × (found < 4)
  CanReadLatest (latest.Finds successor found) = found ≤ 4
  CanReadLatest (latest.Lists found request) = CanList request
  CanReadLatest (latest.Chooses greatest) = Unit {0}
  CanReadLatest (latest.Gets id request) = CanGet request
  CanReadLatest (latest.Keeps version value) = Unit {0}
  CanReadLatest (latest.Drops id) = Unit {0}
  CanReadLatest latest.Ended = ⊥

  -- a read asks for its unchecked read, or for its check
  abbrev pub CanRead : ReadOp T → Type 0
  CanRead (reads.Reads op boundary) = CanReadLatest op × CanReadBoundary boundary
  CanRead (reads.Checks id value check) = CanCheck check
  CanRead reads.Ended = ⊥
