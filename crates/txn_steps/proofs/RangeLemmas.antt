-- A read finds at most four successors: each step leaves it in range.
use Rattle.std.proofs.Common.{◌≡◌, ℕ, ◌<◌, ◌≤◌, ◌==◌, Bool, true, false, List, if◌then◌else◌, Option, Some, None, Result, Ok, Err, refl, arith}
use Rattle.std.proofs.lemmas.Bool.{eqb-false}
use Rattle.txn_store.specs.Paths.{Segments}
use Rattle.txn_store.specs.VersionName.{Names}
use Rattle.txn_store.specs.declared.store.Got.{Got}
use Rattle.txn_store.specs.declared.store.StoreError.{StoreError}
use Rattle.txn_store.specs.declared.store.StoreError.TheVariants as errors
use Rattle.txn_store.specs.declared.page.Page.{Page}
use Rattle.txn_store.specs.declared.request.Reply.{Reply}
use Rattle.txn_store.specs.declared.request.Reply.TheVariants as replies
use Rattle.txn_steps.specs.declared.boundary.boundary_read.BoundaryRead.{BoundaryRead}
use Rattle.txn_steps.specs.declared.boundary.caches.Cached.{Cached}
use Rattle.txn_steps.specs.declared.boundary.caches.Caches.{Caches}
use Rattle.txn_steps.specs.declared.boundary.check.CheckOp.{CheckOp}
use Rattle.txn_steps.specs.declared.boundary.turned.Turned.{Turned}
use Rattle.txn_steps.specs.declared.boundary.turned.Turned.TheVariants.{Goes, Done}
use Rattle.txn_steps.specs.boundary.Windows.{held, greatest_held}
use Rattle.txn_steps.specs.boundary.Checks.{check_turned}
use Rattle.txn_steps.specs.declared.latest.LatestOp.{LatestOp}
use Rattle.txn_steps.specs.declared.latest.LatestOp.TheVariants.{Looks, Probes, Finds, Lists, Chooses, Gets, Keeps, Drops, Ended}
use Rattle.txn_steps.specs.declared.read.ReadOp.{ReadOp}
use Rattle.txn_steps.specs.declared.read.ReadOp.TheVariants as reads
use Rattle.txn_steps.specs.Requests.{next_after}
use Rattle.txn_steps.specs.Latest.{ReadAnswer, InRange, greatest_from, latest_listing, paged_turned, listed, unlisted, read_in_hand, answered, probed, keeping, in_hand, held_or_got, chosen, begins_with, latest_got, latest_turned}
use Rattle.txn_steps.specs.Reads.{IsInRange, read_started, reads_turned, checks_turned, read_turned}

module _ {T : Type 0} (names : Names) (page : ℕ) (decode : List ℕ → Option T) where
  abbrev Stays : LatestOp T × Turned (ReadAnswer T) → Type 0
  Stays x = InRange x.0

  abbrev ReadStays : ReadOp T × Turned (ReadAnswer T) → Type 0
  ReadStays x = IsInRange x.0

  hand_stays : (op : LatestOp T) (id : ℕ) (value : Option T) → InRange op → InRange (read_in_hand decode op id value).0
  hand_stays op id None h = h
  hand_stays op id (Some value) h = h

  if_stays : (b : Bool) (op : LatestOp T) (hand : Cached) (found : ℕ) (probe : LatestOp T) → InRange op → InRange probe → InRange (if b then answered decode op hand else (probe, Goes)).0
  if_stays true op hand found probe h p = hand_stays op hand.id (decode hand.bytes) h
  if_stays false op hand found probe h p = p

  in_hand_stays : (op : LatestOp T) (hand : Cached) (found : ℕ) → InRange op → found < 4 → InRange (in_hand names decode op hand found).0
  in_hand_stays op hand found h few = if_stays (hand.id == 18446744073709551615) op hand found _ h few

  begins_stay : (latest : Option Cached) → InRange (begins_with names page decode Looks latest).0
  begins_stay None = tt
  begins_stay (Some hand) = in_hand_stays Looks hand 0 tt (omega arith)

  found_stays_beside : (b : Bool) (successor : Cached) (found : ℕ) → (found == 4) ≡ b → found ≤ 4 → InRange (if b then (latest_listing names page, Goes) else in_hand names decode (Finds successor found) successor found).0
  found_stays_beside true successor found e h = tt
  found_stays_beside false successor found e h = in_hand_stays (Finds successor found) successor found h (omega (arith, h, eqb-false found 4 e))

  got_stays : (op : LatestOp T) (version : Cached) (value : Option T) → InRange op → InRange (keeping decode op version value).0
  got_stays op version None h = h
  got_stays op version (Some value) h = tt

  unlisted_stays : (greatest : Option ℕ) (latest : Option Cached) → Stays (unlisted (Chooses greatest) latest)
  unlisted_stays greatest None = tt
  unlisted_stays greatest (Some cached) = tt

  held_stays : (greatest : Option ℕ) (id : ℕ) (version : Option Cached) → InRange (held_or_got names decode (Chooses greatest) id version).0
  held_stays greatest id None = tt
  held_stays greatest id (Some cached) = got_stays (Chooses greatest) cached (decode cached.bytes) tt

  chosen_stays : (greatest : Option ℕ) (latest : List Cached) → InRange (chosen names decode (Chooses greatest) greatest latest).0
  chosen_stays None latest = unlisted_stays None (greatest_held latest)
  chosen_stays (Some id) latest = held_stays (Some id) id (held id latest)

  probed_stays : (hand : Cached) (found next : ℕ) (request : _) (answer : Result Got StoreError) → found < 4 → InRange (probed decode (Probes hand found next request) hand found next answer).0
  probed_stays hand found next request (Ok got) h = omega (arith, h)
  probed_stays hand found next request (Err errors.NotFound) h = hand_stays (Probes hand found next request) hand.id (decode hand.bytes) h
  probed_stays hand found next request (Err error) h = h

  paged_stays : (after : Option Segments) (found : Option ℕ) → Stays (paged_turned names page after found)
  paged_stays None found = tt
  paged_stays (Some after) found = tt

  listed_stays : (found : Option ℕ) (request : _) (answer : Result Page StoreError) → Stays (listed names page (Lists found request) found answer)
  listed_stays found request (Ok told) = paged_stays (next_after told) (greatest_from found names told.metas)
  listed_stays found request (Err error) = tt

  latest_got_stays : (id : ℕ) (request : _) (answer : Result Got StoreError) → InRange (latest_got names page decode (Gets id request) id answer).0
  latest_got_stays id request (Ok got) = got_stays (Gets id request) (record { id = id; bytes = got.bytes }) (decode got.bytes) tt
  latest_got_stays id request (Err errors.NotFound) = tt
  latest_got_stays id request (Err error) = tt

  pub latest_stays : (op : LatestOp T) (latest : List Cached) (reply : Option Reply) → InRange op → InRange (latest_turned names page decode op latest reply).0
  latest_stays Looks latest reply h = begins_stay (greatest_held latest)
  latest_stays (Finds successor found) latest reply h = found_stays_beside (found == 4) successor found refl h
  latest_stays (Chooses greatest) latest reply h = chosen_stays greatest latest
  latest_stays (Keeps version value) latest reply h = tt
  latest_stays (Drops id) latest reply h = tt
  latest_stays Ended latest reply h = tt
  latest_stays (Probes hand found next request) latest (Some (replies.Get answer)) h = probed_stays hand found next request answer h
  latest_stays (Probes hand found next request) latest (Some reply) h = h
  latest_stays (Probes hand found next request) latest None h = h
  latest_stays (Lists found request) latest (Some (replies.List answer)) h = listed_stays found request answer
  latest_stays (Lists found request) latest (Some reply) h = tt
  latest_stays (Lists found request) latest None h = tt
  latest_stays (Gets id request) latest (Some (replies.Get answer)) h = latest_got_stays id request answer
  latest_stays (Gets id request) latest (Some reply) h = tt
  latest_stays (Gets id request) latest None h = tt

  reads_stay : (boundary : BoundaryRead) (x : LatestOp T × Turned (ReadAnswer T)) → InRange x.0 → IsInRange (reads_turned boundary x).0
  reads_stay boundary (op, Goes) h = h
  reads_stay boundary (op, Done (Ok None)) h = h
  reads_stay boundary (op, Done (Ok (Some found))) h = tt
  reads_stay boundary (op, Done (Err number)) h = h

  refused_stays : (b : Bool) (path : Segments) (id : ℕ) (value : T) (check : CheckOp) (number : ℕ) → ReadStays (if b then (read_started path, Goes) else (reads.Checks id value check, Done (Err number)))
  refused_stays true path id value check number = tt
  refused_stays false path id value check number = tt

  checks_stay : (path : Segments) (id : ℕ) (value : T) (x : CheckOp × Turned (Result (Unit {0}) ℕ)) → ReadStays (checks_turned path id value x)
  checks_stay path id value (check, Goes) = tt
  checks_stay path id value (check, Done (Ok accepted)) = tt
  checks_stay path id value (check, Done (Err number)) = refused_stays (number == 5) path id value check number

  pub read_stays : (path : Segments) (op : ReadOp T) (caches : Caches) (reply : Option Reply) → IsInRange op → IsInRange (read_turned names path page decode op caches reply).0
  read_stays path (reads.Reads op boundary) caches reply h = reads_stay boundary (latest_turned names page decode op caches.latest reply) (latest_stays op caches.latest reply h)
  read_stays path (reads.Checks id value check) caches reply h = checks_stay path id value (check_turned check caches reply)
  read_stays path reads.Ended caches reply h = tt
