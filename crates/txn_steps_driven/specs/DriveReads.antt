-- Reads that go on ask again for what a store can serve.
use Rattle.std.specs.Prelude.{◌≡◌, ℕ, ◌<◌, ◌≤◌, ◌==◌, List, Option, Some, None, Result, Ok, Err}
use Rattle.std.proofs.Common.{refl, inl, inr, arith}
use Rattle.std.proofs.lemmas.Bool.{cases_eq, ne_eqb}
use Rattle.txn_store.specs.Paths.{Segments}
use Rattle.txn_store.specs.VersionName.{Names}
use Rattle.txn_store.specs.declared.page.Page.{Page}
use Rattle.txn_store.specs.declared.store.Got.{Got}
use Rattle.txn_store.specs.declared.store.StoreError.{StoreError}
use Rattle.txn_store.specs.declared.store.StoreError.TheVariants as errors
use Rattle.txn_store.specs.declared.request.Reply.{Reply}
use Rattle.txn_store.specs.declared.request.Reply.TheVariants as replies
use Rattle.txn_steps.specs.boundary.Windows.{greatest_held, held}
use Rattle.txn_steps.specs.declared.boundary.boundary_read.BoundaryRead.{BoundaryRead}
use Rattle.txn_steps.specs.declared.boundary.caches.Cached.{Cached}
use Rattle.txn_steps.specs.declared.boundary.caches.Caches.{Caches}
use Rattle.txn_steps.specs.declared.boundary.check.CheckOp.{CheckOp}
use Rattle.txn_steps.specs.declared.boundary.turned.Turned.{Turned}
use Rattle.txn_steps.specs.declared.boundary.turned.Turned.TheVariants.{Goes, Done}
use Rattle.txn_steps.specs.boundary.Checks.{check_turned}
use Rattle.txn_steps.specs.declared.latest.LatestOp.{LatestOp}
use Rattle.txn_steps.specs.declared.latest.LatestOp.TheVariants as latest
use Rattle.txn_steps.specs.declared.read.ReadOp.{ReadOp}
use Rattle.txn_steps.specs.declared.read.ReadOp.TheVariants as reads
use Rattle.txn_steps.specs.declared.seen.ReadSeenOp.{ReadSeenOp}
use Rattle.txn_steps.specs.declared.seen.ReadSeenOp.TheVariants as seen
use Rattle.txn_steps.specs.Latest as of_latest
use Rattle.txn_steps.specs.Latest.{ReadAnswer}
use Rattle.txn_steps.specs.Reads as of_read
use Rattle.txn_steps.specs.Requests.{next_after}
use Rattle.txn_steps.specs.SeenSteps as of_seen
use Rattle.txn_steps_driven.specs.declared.drive_version.ReadVersion.{ReadVersion}
use Rattle.txn_steps_driven.specs.DriveRuns.{Scene}
use Rattle.txn_steps_driven.specs.DriveSteps.{CanGet, CanReadBoundary, CanCheck, CanReadSeen, CanReadLatest, CanRead, ReadVersionSteps, SeenSteps, LatestSteps, ReadSteps}
use Rattle.txn_steps_driven.specs.DriveChecked.{either_next, check_next}
use Rattle.txn_steps_driven.specs.DriveLaws.{asks_by}

-- an unchecked read of one id
pub version_asks : {T : Type 0} (decode : List ℕ → Option T) (a b : Scene (ReadVersion T)) → CanGet a.op.op.request → ReadVersionSteps decode a Goes b → CanGet b.op.op.request
version_asks {T} decode = asks_by _ _ _ _ (λ (read : ReadVersion T). CanGet read.op.request) (λ op caches reply can goes. can)

module _ {T : Type 0} (names : Names) (decode : List ℕ → Option T) where
  -- a read of one id

  seen_looked_next : (op : ReadSeenOp T) (id : ℕ) (cached : Option Cached) → CanReadSeen op → CanReadSeen (of_seen.seen_looked names decode op id cached).0
  seen_looked_next op id None can = tt
  seen_looked_next op id (Some cached) can = can

  seen_keeping_next : (op : ReadSeenOp T) (version : Cached) (value : Option T) → CanReadSeen op → CanReadSeen (of_seen.seen_keeping names decode op version value).0
  seen_keeping_next op version (Some value) can = tt
  seen_keeping_next op version None can = can

  seen_got_next : (op : ReadSeenOp T) (id : ℕ) (answer : Result Got StoreError) → CanReadSeen op → CanReadSeen (of_seen.seen_got names decode op id answer).0
  seen_got_next op id (Ok got) can = seen_keeping_next op (record { id = id; bytes = got.bytes }) (decode got.bytes) can
  seen_got_next op id (Err errors.NotFound) can = can
  seen_got_next op id (Err error) can = can

  pub seen_next : (op : ReadSeenOp T) (versions : List Cached) (reply : Option Reply) → CanReadSeen op → Goes ≡ (of_seen.seen_turned names decode op versions reply).1 → CanReadSeen (of_seen.seen_turned names decode op versions reply).0
  seen_next (seen.Looks id) versions reply can goes = seen_looked_next (seen.Looks id) id (held id versions) can
  seen_next (seen.Gets id request) versions (Some (replies.Get answer)) can goes = seen_got_next (seen.Gets id request) id answer can
  seen_next (seen.Gets id request) versions (Some reply) can goes = can
  seen_next (seen.Gets id request) versions None can goes = can
  seen_next (seen.Keeps version value) versions reply can goes = absurd (cc)
  seen_next seen.Ended versions reply can goes = absurd can

  pub seen_asks : (a b : Scene (ReadSeenOp T)) → CanReadSeen a.op → SeenSteps names decode a Goes b → CanReadSeen b.op
  seen_asks = asks_by _ _ _ _ CanReadSeen (λ op caches reply can goes. seen_next op caches.latest reply can goes)

module _ {T : Type 0} (names : Names) (page : ℕ) (room : 1 ≤ page) (decode : List ℕ → Option T) where
  -- an unchecked read

  hand_next : (op : LatestOp T) (id : ℕ) (value : Option T) → CanReadLatest op → CanReadLatest (of_latest.read_in_hand decode op id value).0
  hand_next op id (Some value) can = can
  hand_next op id None can = can

  probes_next : (op : LatestOp T) (hand : Cached) (found : ℕ) → found < 4 → CanReadLatest op → CanReadLatest (of_latest.in_hand names decode op hand found).0
  probes_next op hand found few can = either_next CanReadLatest (hand.id == 18446744073709551615) _ _ (hand_next op hand.id (decode hand.bytes) can) (tt, few)

  begins_next : (op : LatestOp T) (hand : Option Cached) → CanReadLatest op → CanReadLatest (of_latest.begins_with names page decode op hand).0
  begins_next op None can = room
  begins_next op (Some hand) can = probes_next op hand 0 (omega arith) can

  found_next : (op : LatestOp T) (successor : Cached) (found : ℕ) → found ≤ 4 → CanReadLatest op → CanReadLatest (of_latest.found_turned names page decode op successor found).0
  found_next op successor found few can = elim (cases_eq found 4) [
    | inl four ↦ rw four room
    | inr fewer ↦ rw (ne_eqb found 4 fewer) (probes_next op successor found (omega (arith, few, fewer)) can)
  ]

  keeping_next : (op : LatestOp T) (version : Cached) (value : Option T) → CanReadLatest op → CanReadLatest (of_latest.keeping decode op version value).0
  keeping_next op version (Some value) can = tt
  keeping_next op version None can = can

  held_next : (op : LatestOp T) (id : ℕ) (cached : Option Cached) → CanReadLatest op → CanReadLatest (of_latest.held_or_got names decode op id cached).0
  held_next op id None can = tt
  held_next op id (Some cached) can = keeping_next op cached (decode cached.bytes) can

  unlisted_next : (op : LatestOp T) (cached : Option Cached) → CanReadLatest op → CanReadLatest (of_latest.unlisted op cached).0
  unlisted_next op None can = can
  unlisted_next op (Some cached) can = tt

  chosen_next : (op : LatestOp T) (greatest : Option ℕ) (versions : List Cached) → CanReadLatest op → CanReadLatest (of_latest.chosen names decode op greatest versions).0
  chosen_next op None versions can = unlisted_next op (greatest_held versions) can
  chosen_next op (Some id) versions can = held_next op id (held id versions) can

  paged_next : (after : Option Segments) (found : Option ℕ) → CanReadLatest (of_latest.paged_turned {T = T} names page after found).0
  paged_next (Some after) found = room
  paged_next None found = tt

  listed_next : (op : LatestOp T) (found : Option ℕ) (answer : Result Page StoreError) → CanReadLatest op → CanReadLatest (of_latest.listed names page op found answer).0
  listed_next op found (Ok told) can = paged_next (next_after told) (of_latest.greatest_from found names told.metas)
  listed_next op found (Err error) can = can

  probed_next : (op : LatestOp T) (hand : Cached) (found next : ℕ) (answer : Result Got StoreError) → found < 4 → CanReadLatest op → CanReadLatest (of_latest.probed decode op hand found next answer).0
  probed_next op hand found next (Ok got) few can = omega (arith, few)
  probed_next op hand found next (Err errors.NotFound) few can = hand_next op hand.id (decode hand.bytes) can
  probed_next op hand found next (Err error) few can = can

  got_next : (op : LatestOp T) (id : ℕ) (answer : Result Got StoreError) → CanReadLatest op → CanReadLatest (of_latest.latest_got names page decode op id answer).0
  got_next op id (Ok got) can = keeping_next op (record { id = id; bytes = got.bytes }) (decode got.bytes) can
  got_next op id (Err errors.NotFound) can = room
  got_next op id (Err error) can = can

  latest_next : (op : LatestOp T) (versions : List Cached) (reply : Option Reply) → CanReadLatest op → Goes ≡ (of_latest.latest_turned names page decode op versions reply).1 → CanReadLatest (of_latest.latest_turned names page decode op versions reply).0
  latest_next latest.Looks versions reply can goes = begins_next latest.Looks (greatest_held versions) can
  latest_next (latest.Finds successor found) versions reply can goes = found_next (latest.Finds successor found) successor found can can
  latest_next (latest.Chooses greatest) versions reply can goes = chosen_next (latest.Chooses greatest) greatest versions can
  latest_next (latest.Keeps version value) versions reply can goes = absurd (cc)
  latest_next (latest.Drops id) versions reply can goes = tt
  latest_next (latest.Probes hand found next request) versions (Some (replies.Get answer)) can goes = probed_next (latest.Probes hand found next request) hand found next answer can.1 can
  latest_next (latest.Probes hand found next request) versions (Some reply) can goes = can
  latest_next (latest.Probes hand found next request) versions None can goes = can
  latest_next (latest.Lists found request) versions (Some (replies.List answer)) can goes = listed_next (latest.Lists found request) found answer can
  latest_next (latest.Lists found request) versions (Some reply) can goes = can
  latest_next (latest.Lists found request) versions None can goes = can
  latest_next (latest.Gets id request) versions (Some (replies.Get answer)) can goes = got_next (latest.Gets id request) id answer can
  latest_next (latest.Gets id request) versions (Some reply) can goes = can
  latest_next (latest.Gets id request) versions None can goes = can
  latest_next latest.Ended versions reply can goes = absurd can

  pub latest_asks : (a b : Scene (LatestOp T)) → CanReadLatest a.op → LatestSteps names page decode a Goes b → CanReadLatest b.op
  latest_asks = asks_by _ _ _ _ CanReadLatest (λ op caches reply can goes. latest_next op caches.latest reply can goes)

  -- a read

  reads_next : (boundary : BoundaryRead) (next : LatestOp T × Turned (ReadAnswer T)) → (Goes ≡ next.1 → CanReadLatest next.0) → CanReadBoundary boundary → Goes ≡ (of_read.reads_turned boundary next).1 → CanRead (of_read.reads_turned boundary next).0
  reads_next boundary (op, Goes) can read goes = (can refl, read)
  reads_next boundary (op, Done (Ok None)) can read goes = absurd (cc)
  reads_next boundary (op, Done (Ok (Some found))) can read goes = read
  reads_next boundary (op, Done (Err number)) can read goes = absurd (cc)

  checks_next : (path : Segments) (id : ℕ) (value : T) (next : CheckOp × Turned (Result (Unit {0}) ℕ)) → CanCheck next.0 → Goes ≡ (of_read.checks_turned path id value next).1 → CanRead (of_read.checks_turned path id value next).0
  checks_next path id value (check, Goes) can goes = can
  checks_next path id value (check, Done (Ok accepted)) can goes = absurd (cc)
  checks_next path id value (check, Done (Err number)) can goes = either_next CanRead (number == 5) _ _ (tt, tt) can

  pub read_next : (path : Segments) (op : ReadOp T) (caches : Caches) (reply : Option Reply) → CanRead op → Goes ≡ (of_read.read_turned names path page decode op caches reply).1 → CanRead (of_read.read_turned names path page decode op caches reply).0
  read_next path (reads.Reads op boundary) caches reply can goes = reads_next boundary (of_latest.latest_turned names page decode op caches.latest reply) (λ on. latest_next op caches.latest reply can.0 on) can.1 goes
  read_next path (reads.Checks id value check) caches reply can goes = checks_next path id value (check_turned check caches reply) (check_next check caches reply can) goes
  read_next path reads.Ended caches reply can goes = absurd can

  pub read_asks : (path : Segments) (a b : Scene (ReadOp T)) → CanRead a.op → ReadSteps names path page decode a Goes b → CanRead b.op
  read_asks path = asks_by _ _ _ _ CanRead (λ op caches reply can goes. read_next path op caches reply can goes)
