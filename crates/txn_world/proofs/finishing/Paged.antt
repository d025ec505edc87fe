-- Each listing that an operation is in asks for pages of the size of its world.
use Rattle.std.proofs.Common.{◌≡◌, ℕ, ◌==◌, List, Bool, true, false, Option, Some, None, Result, Ok, Err, ◌⊎◌, inl, inr, refl, sym, subst}
use Rattle.std.proofs.lemmas.Bool.{cases_Bool}
use Rattle.txn_store.specs.Paths.{Segments}
use Rattle.txn_store.specs.declared.page.Page.{Page}
use Rattle.txn_store.specs.declared.store.Got.{Got}
use Rattle.txn_store.specs.declared.store.StoreError.{StoreError}
use Rattle.txn_store.specs.declared.store.StoreError.TheVariants as errors
use Rattle.txn_store.specs.declared.request.Request.{Request}
use Rattle.txn_store.specs.declared.request.Reply.{Reply}
use Rattle.txn_store.specs.declared.request.Reply.TheVariants as replies
use Rattle.txn_steps.specs.declared.boundary.advance.AdvanceOp.{AdvanceOp}
use Rattle.txn_steps.specs.declared.boundary.boundary_read.BoundaryRead.{BoundaryRead}
use Rattle.txn_steps.specs.declared.boundary.caches.Cached.{Cached}
use Rattle.txn_steps.specs.declared.boundary.caches.Caches.{Caches}
use Rattle.txn_steps.specs.declared.boundary.check.CheckOp.{CheckOp}
use Rattle.txn_steps.specs.declared.boundary.turned.Turned.{Turned}
use Rattle.txn_steps.specs.declared.boundary.turned.Turned.TheVariants.{Goes, Done}
use Rattle.txn_steps.specs.boundary.Advances.{advance_turned}
use Rattle.txn_steps.specs.boundary.Asking.{unless_lacking}
use Rattle.txn_steps.specs.boundary.Checks.{check_turned}
use Rattle.txn_steps.specs.boundary.Counts.{Budget}
use Rattle.txn_steps.specs.boundary.Windows.{held, greatest_held}
use Rattle.txn_steps.specs.declared.latest.LatestOp.{LatestOp}
use Rattle.txn_steps.specs.declared.latest.LatestOp.TheVariants as latest
use Rattle.txn_steps.specs.declared.listing.ListOp.{ListOp}
use Rattle.txn_steps.specs.declared.read.ReadOp.{ReadOp}
use Rattle.txn_steps.specs.declared.read.ReadOp.TheVariants as reads
use Rattle.txn_steps.specs.Listed.{Listed}
use Rattle.txn_steps.specs.Listings.{listing_after, listing_turned}
use Rattle.txn_steps.specs.Requests.{version_page, next_after}
use Rattle.txn_steps.specs.Latest.{ReadAnswer, greatest_from, latest_turned, paged_turned, unlisted, read_in_hand, probed, keeping, in_hand, held_or_got, chosen, begins_with, found_turned, latest_got}
use Rattle.txn_steps.specs.Reads.{read_turned, reads_turned, checks_turned}
use Rattle.txn_history.specs.declared.event.PlainCall.TheVariants as calls
use Rattle.txn_history.specs.declared.event.ViewCall.TheVariants as view_calls
use Rattle.txn_history.specs.declared.event.Call.{Call}
use Rattle.txn_history.specs.declared.event.Call.TheVariants as any
use Rattle.txn_history.specs.declared.event.EventOf.TheVariants as events
use Rattle.txn_history.specs.declared.event.Failure.{Failure}
use Rattle.txn_history.specs.declared.event.Failure.TheVariants as failures
use Rattle.txn_history.specs.Lists.{numbered}
use Rattle.txn_history.specs.Names.{world_names, world_boundary}
use Rattle.txn_history.specs.Trace.{Event, Told}
use Rattle.txn_history.specs.Views.{View}
use Rattle.txn_machine.specs.declared.plain.doing.PlainDoing.{PlainDoing}
use Rattle.txn_machine.specs.declared.plain.doing.PlainDoing.TheVariants as doings
use Rattle.txn_machine.specs.plain.Doing as plain
use Rattle.txn_steps_views.specs.declared.claim.ClaimOp.{ClaimOp}
use Rattle.txn_steps_views.specs.declared.op.ViewOp.TheVariants as ops
use Rattle.txn_steps_views.specs.declared.outcome.Outcome.{Outcome}
use Rattle.txn_steps_views.specs.declared.view_read.Purpose.{Purpose}
use Rattle.txn_store.specs.declared.types.error.TransactionalObjectError.{TransactionalObjectError}
use Rattle.txn_store.specs.types.Epochs.{claimed_epoch}
use Rattle.txn_steps.specs.declared.write.WriteOp.{WriteOp}
use Rattle.txn_steps.specs.Writes.{write_turned}
use Rattle.txn_steps_views.specs.declared.claiming.Claiming.{Claiming}
use Rattle.txn_steps_views.specs.declared.claiming.Claiming.TheVariants as claiming
use Rattle.txn_steps_views.specs.Attempts.{followed, attempt_turned, entered_with, refreshed_turned, claiming_turned}
use Rattle.txn_steps_views.specs.Claims.{as_claim, claim_ended, claim_next}
use Rattle.txn_steps_views.specs.Lacking.{started_as}
use Rattle.txn_steps_views.specs.Readings.{seen}
use Rattle.txn_steps_views.specs.ViewOps.{held as held_by}
use Rattle.txn_steps_views.specs.ViewReads.{as_view_read, shown}
use Rattle.txn_machine.specs.declared.doing.Doing.{Doing}
use Rattle.txn_machine.specs.declared.doing.Doing.TheVariants as does
use Rattle.txn_machine.specs.declared.doing.Operation.{Operation}
use Rattle.txn_machine.specs.CallsLeft.{any_budget, most_of}
use Rattle.txn_machine.specs.Doing.{Next, ended, started, turned, plain_next, view_next, next_of, first_next, with_local, IsReply}
use Rattle.txn_machine.specs.Machine.{State, opening, with_doing, new_operation, view_now, TakesOrLacks, Fails, IsReached}
use Rattle.txn_machine.proofs.Reached.{reached_replies, reached_looks}
use Rattle.txn_machine.proofs.Runs.{runs_keep, taken_reached_or_lacking, opening_reached}
use Rattle.txn_machine.proofs.Spending.{Spent, turn_spends, call_starts}
use Rattle.txn_world.proofs.finishing.Everywhere.{Each, each_none, each_begun, each_set, each_crash}

-- a listing of the versions in pages of the world's size
abbrev pub IsPaged : ℕ → Request → Type 0
IsPaged page request = (after : Option Segments) × (request ≡ version_page world_names after page)

module _ {T : Type 0} (page : ℕ) where
  abbrev pub LatestPaged : LatestOp T → Type 0
  LatestPaged (latest.Lists found request) = IsPaged page request
  LatestPaged latest.Looks = Unit {0}
  LatestPaged (latest.Probes hand found next request) = Unit {0}
  LatestPaged (latest.Finds successor found) = Unit {0}
  LatestPaged (latest.Chooses greatest) = Unit {0}
  LatestPaged (latest.Gets id request) = Unit {0}
  LatestPaged (latest.Keeps version value) = Unit {0}
  LatestPaged (latest.Drops id) = Unit {0}
  LatestPaged latest.Ended = Unit {0}

  abbrev pub ReadPaged : ReadOp T → Type 0
  ReadPaged (reads.Reads op ahead) = LatestPaged op
  ReadPaged (reads.Checks id value check) = Unit {0}
  ReadPaged reads.Ended = Unit {0}

  abbrev pub PlainPaged : PlainDoing T → Type 0
  PlainPaged (doings.Read read) = ReadPaged read
  PlainPaged (doings.ListIds list) = IsPaged page list.request
  PlainPaged (doings.Write op) = Unit {0}
  PlainPaged (doings.WriteUnchecked op) = Unit {0}
  PlainPaged (doings.ReadUnchecked op) = Unit {0}
  PlainPaged (doings.ReadSeen op) = Unit {0}
  PlainPaged (doings.Delete op) = Unit {0}
  PlainPaged (doings.Check op) = Unit {0}
  PlainPaged (doings.Advance op) = Unit {0}
  PlainPaged doings.Ended = Unit {0}

  abbrev pub ClaimPaged : Claiming T → Type 0
  ClaimPaged (claiming.Reads read) = ReadPaged read
  ClaimPaged (claiming.Writes write value epoch) = Unit {0}
  ClaimPaged claiming.Ended = Unit {0}

  abbrev pub AnyPaged : Doing T → Type 0
  AnyPaged (does.Plain doing) = PlainPaged doing
  AnyPaged (does.View (ops.Reads op)) = ReadPaged op.read
  AnyPaged (does.View (ops.Enters op)) = Unit {0}
  AnyPaged (does.View (ops.Claims op)) = ClaimPaged op.claiming

  abbrev LatestTold : LatestOp T × Turned (ReadAnswer T) → Type 0
  LatestTold (op, Goes) = LatestPaged op
  LatestTold (op, Done answer) = Unit {0}

  abbrev ReadTold : ReadOp T × Turned (ReadAnswer T) → Type 0
  ReadTold (read, Goes) = ReadPaged read
  ReadTold (read, Done answer) = Unit {0}

  -- what has a bound whatever others do lists nothing
  bounded_paged : (doing : Doing T) (left : Budget) → any_budget doing ≡ Some left → AnyPaged doing
  bounded_paged (does.Plain (doings.Read read)) left e = cc
  bounded_paged (does.Plain (doings.ListIds list)) left e = cc
  bounded_paged (does.Plain (doings.Write op)) left e = tt
  bounded_paged (does.Plain (doings.WriteUnchecked op)) left e = tt
  bounded_paged (does.Plain (doings.ReadUnchecked op)) left e = tt
  bounded_paged (does.Plain (doings.ReadSeen op)) left e = tt
  bounded_paged (does.Plain (doings.Delete op)) left e = tt
  bounded_paged (does.Plain (doings.Check op)) left e = tt
  bounded_paged (does.Plain (doings.Advance op)) left e = tt
  bounded_paged (does.Plain doings.Ended) left e = tt
  bounded_paged (does.View (ops.Reads op)) left e = cc
  bounded_paged (does.View (ops.Enters op)) left e = tt
  bounded_paged (does.View (ops.Claims op)) left e = cc

  module _ (decode : List ℕ → Option T) where
    hand_paged : (op : LatestOp T) (id : ℕ) (value : Option T) → LatestTold (read_in_hand decode op id value)
    hand_paged op id (Some value) = tt
    hand_paged op id None = tt

    in_hand_paged : (op : LatestOp T) (hand : Cached) (found : ℕ) → LatestTold (in_hand world_names decode op hand found)
    in_hand_paged op hand found = elim (cases_Bool (hand.id == 18446744073709551615)) [ inl last ↦ rw last (hand_paged op hand.id (decode hand.bytes)) | inr next ↦ rw next tt ]

    begins_paged : (op : LatestOp T) (o : Option Cached) → LatestTold (begins_with world_names page decode op o)
    begins_paged op None = (None, refl)
    begins_paged op (Some hand) = in_hand_paged op hand 0

    found_paged : (op : LatestOp T) (successor : Cached) (found : ℕ) → LatestTold (found_turned world_names page decode op successor found)
    found_paged op successor found = elim (cases_Bool (found == 4)) [ inl last ↦ rw last (None, refl) | inr more ↦ rw more (in_hand_paged op successor found) ]

    probed_paged : (op : LatestOp T) (hand : Cached) (found next : ℕ) (answer : Result Got StoreError) → LatestTold (probed decode op hand found next answer)
    probed_paged op hand found next (Ok got) = tt
    probed_paged op hand found next (Err errors.NotFound) = hand_paged op hand.id (decode hand.bytes)
    probed_paged op hand found next (Err error) = tt

    pages_paged : (next : Option Segments) (found : Option ℕ) → LatestTold (paged_turned world_names page next found)
    pages_paged (Some after) found = (Some after, refl)
    pages_paged None found = tt

    unlisted_paged : (op : LatestOp T) (o : Option Cached) → LatestTold (unlisted op o)
    unlisted_paged op None = tt
    unlisted_paged op (Some version) = tt

    keeping_paged : (op : LatestOp T) (version : Cached) (value : Option T) → LatestTold (keeping decode op version value)
    keeping_paged op version (Some value) = tt
    keeping_paged op version None = tt

    held_paged : (op : LatestOp T) (id : ℕ) (o : Option Cached) → LatestTold (held_or_got world_names decode op id o)
    held_paged op id None = tt
    held_paged op id (Some version) = keeping_paged op version (decode version.bytes)

    chosen_paged : (op : LatestOp T) (greatest : Option ℕ) (versions : List Cached) → LatestTold (chosen world_names decode op greatest versions)
    chosen_paged op None versions = unlisted_paged op (greatest_held versions)
    chosen_paged op (Some id) versions = held_paged op id (held id versions)

    got_paged : (op : LatestOp T) (id : ℕ) (answer : Result Got StoreError) → LatestTold (latest_got world_names page decode op id answer)
    got_paged op id (Ok got) = keeping_paged op (record { id = id; bytes = got.bytes }) (decode got.bytes)
    got_paged op id (Err errors.NotFound) = (None, refl)
    got_paged op id (Err error) = tt

    latest_paged : (op : LatestOp T) (versions : List Cached) (reply : Option Reply) → LatestPaged op → LatestTold (latest_turned world_names page decode op versions reply)
    latest_paged latest.Looks versions reply h = begins_paged latest.Looks (greatest_held versions)
    latest_paged (latest.Probes hand found next request) versions (Some (replies.Get answer)) h = probed_paged (latest.Probes hand found next request) hand found next answer
    latest_paged (latest.Probes hand found next request) versions (Some (replies.Put answer)) h = tt
    latest_paged (latest.Probes hand found next request) versions (Some (replies.List answer)) h = tt
    latest_paged (latest.Probes hand found next request) versions (Some (replies.Delete answer)) h = tt
    latest_paged (latest.Probes hand found next request) versions None h = tt
    latest_paged (latest.Finds successor found) versions reply h = found_paged (latest.Finds successor found) successor found
    latest_paged (latest.Lists found request) versions (Some (replies.List (Ok told))) h = pages_paged (next_after told) (greatest_from found world_names told.metas)
    latest_paged (latest.Lists found request) versions (Some (replies.List (Err error))) h = tt
    latest_paged (latest.Lists found request) versions (Some (replies.Put answer)) h = h
    latest_paged (latest.Lists found request) versions (Some (replies.Get answer)) h = h
    latest_paged (latest.Lists found request) versions (Some (replies.Delete answer)) h = h
    latest_paged (latest.Lists found request) versions None h = h
    latest_paged (latest.Chooses greatest) versions reply h = chosen_paged (latest.Chooses greatest) greatest versions
    latest_paged (latest.Gets id request) versions (Some (replies.Get answer)) h = got_paged (latest.Gets id request) id answer
    latest_paged (latest.Gets id request) versions (Some (replies.Put answer)) h = tt
    latest_paged (latest.Gets id request) versions (Some (replies.List answer)) h = tt
    latest_paged (latest.Gets id request) versions (Some (replies.Delete answer)) h = tt
    latest_paged (latest.Gets id request) versions None h = tt
    latest_paged (latest.Keeps version value) versions reply h = tt
    latest_paged (latest.Drops id) versions reply h = tt
    latest_paged latest.Ended versions reply h = tt

    reads_paged : (ahead : BoundaryRead) (told : LatestOp T × Turned (ReadAnswer T)) → LatestTold told → ReadTold (reads_turned ahead told)
    reads_paged ahead (op, Goes) h = h
    reads_paged ahead (op, Done (Ok None)) h = tt
    reads_paged ahead (op, Done (Ok (Some found))) h = tt
    reads_paged ahead (op, Done (Err number)) h = tt

    checks_paged : (id : ℕ) (value : T) (x : CheckOp × Turned (Result (Unit {0}) ℕ)) → ReadTold (checks_turned world_boundary id value x)
    checks_paged id value (check, Goes) = tt
    checks_paged id value (check, Done (Ok accepted)) = tt
    checks_paged id value (check, Done (Err number)) = elim (cases_Bool (number == 5)) [ inl refused ↦ rw refused tt | inr other ↦ rw other tt ]

    read_paged : (read : ReadOp T) (caches : Caches) (reply : Option Reply) → ReadPaged read → ReadTold (read_turned world_names world_boundary page decode read caches reply)
    read_paged (reads.Reads op ahead) caches reply h = reads_paged ahead (latest_turned world_names page decode op caches.latest reply) (latest_paged op caches.latest reply h)
    read_paged (reads.Checks id value check) caches reply h = checks_paged id value (check_turned check caches reply)
    read_paged reads.Ended caches reply h = tt

  -- operations

  plain_read_paged : (lacking : Bool) (told : ReadOp T × Turned (ReadAnswer T)) → ReadTold told → AnyPaged (plain_next (plain.or_no_memory lacking (plain.read_next told))).0
  plain_read_paged true told h = tt
  plain_read_paged false (read, Goes) h = h
  plain_read_paged false (read, Done (Ok found)) h = tt
  plain_read_paged false (read, Done (Err number)) h = tt

  abbrev ClaimTold : Claiming T × Turned (Result (Outcome T) ℕ) → Type 0
  ClaimTold (claim, Goes) = ClaimPaged claim
  ClaimTold (claim, Done answer) = Unit {0}

  claim_paged : (lacking : Bool) (op : ClaimOp T) (x : Claiming T × Turned (Result (Outcome T) ℕ)) → ClaimTold x → AnyPaged (view_next (held_by ops.Claims (unless_lacking lacking (claim_ended op) (claim_next op.asked x)))).0
  claim_paged true op x h = tt
  claim_paged false op (next, Goes) h = h
  claim_paged false op (next, Done (Ok outcome)) h = tt
  claim_paged false op (next, Done (Err number)) h = tt

  attempt_paged : (value : T) (epoch : ℕ) (x : WriteOp × Turned (Result ℕ ℕ)) → ClaimTold (attempt_turned world_boundary value epoch x)
  attempt_paged value epoch (write, Goes) = tt
  attempt_paged value epoch (write, Done (Ok id)) = tt
  attempt_paged value epoch (write, Done (Err number)) = elim (cases_Bool (number == 5)) [ inl five ↦ rw five tt | inr other ↦ rw other tt ]

  done_paged : (op : Doing T) (answer : Result (Outcome T) ℕ) → AnyPaged (next_of op (Done answer)).0
  done_paged op (Ok outcome) = tt
  done_paged op (Err number) = tt

  view_read_paged : (purpose : Purpose) (see : Option (ℕ × T) → Result (Outcome T) ℕ) (lacking : Bool) (told : ReadOp T × Turned (ReadAnswer T)) → ReadTold told →
      AnyPaged (view_next (held_by ops.Reads (unless_lacking lacking (as_view_read purpose reads.Ended) (seen (as_view_read purpose) see told)))).0
  view_read_paged purpose see true told h = tt
  view_read_paged purpose see false (read, Goes) h = h
  view_read_paged purpose see false (read, Done (Ok found)) h = done_paged (does.View (ops.Reads (as_view_read purpose reads.Ended))) (see found)
  view_read_paged purpose see false (read, Done (Err number)) h = tt

-- a listing of ids, and an advance

listed_paged : (page : ℕ) (list : ListOp) (told : Page) (next : Option Segments) → IsPaged page (listing_after world_names page list told.metas next).0.request ⊎ ((answer : Result (List Listed) ℕ) × ((listing_after world_names page list told.metas next).1 ≡ Done answer))
listed_paged page list told (Some after) = inl (Some after, refl)
listed_paged page list told None = inr (_, refl)

turn_lists : (page : ℕ) (list : ListOp) (reply : Option Reply) → IsPaged page list.request → IsPaged page (listing_turned world_names page list reply).0.request ⊎ ((answer : Result (List Listed) ℕ) × ((listing_turned world_names page list reply).1 ≡ Done answer))
turn_lists page list (Some (replies.List (Ok told))) h = listed_paged page list told (next_after told)
turn_lists page list (Some (replies.List (Err error))) h = inl h
turn_lists page list (Some (replies.Get answer)) h = inl h
turn_lists page list (Some (replies.Put answer)) h = inl h
turn_lists page list (Some (replies.Delete answer)) h = inl h
turn_lists page list None h = inl h

module _ (T : Type 0) (page : ℕ) where
  list_paged : (lacking : Bool) (x : ListOp × Turned (Result (List Listed) ℕ)) → IsPaged page x.0.request ⊎ ((answer : Result (List Listed) ℕ) × (x.1 ≡ Done answer)) → AnyPaged page (plain_next {T = T} (plain.or_no_memory lacking (plain.ids_next x))).0
  list_paged true x h = tt
  list_paged false (list, Goes) (inl h) = h
  list_paged false (list, Goes) (inr h) = absurd (let clash = h.1 in cc)
  list_paged false (list, Done (Ok found)) h = tt
  list_paged false (list, Done (Err number)) h = tt

  advance_paged : (lacking : Bool) (x : AdvanceOp × Turned (Result (Unit {0}) ℕ)) → AnyPaged page (plain_next {T = T} (plain.or_no_memory lacking (plain.advance_next x))).0
  advance_paged true x = tt
  advance_paged false (op, Goes) = tt
  advance_paged false (op, Done (Ok done)) = tt
  advance_paged false (op, Done (Err number)) = tt

module _ {T : Type 0} (page : ℕ) (encode : T → List ℕ) (decode : List ℕ → Option T) (get_epoch : T → ℕ) (set_epoch : T → ℕ → T) where
  spent_paged : (reply : Option Reply) (left : Budget) (next : Next T) → Spent reply left next → AnyPaged page next.0
  spent_paged reply left next s = bounded_paged page next.0 s.0 s.1

  entered_paged : (epoch : Result ℕ TransactionalObjectError) (id : ℕ) (value : T) → ClaimTold page (followed (entered_with world_names world_boundary encode set_epoch epoch id value))
  entered_paged (Err error) id value = tt
  entered_paged (Ok epoch) id value = elim (cases_Bool (id == 18446744073709551615)) [ inl last ↦ rw last tt | inr next ↦ rw next tt ]

  refreshed_paged : (asked : Option ℕ) (told : ReadOp T × Turned (ReadAnswer T)) → ReadTold page told → ClaimTold page (refreshed_turned world_names world_boundary encode get_epoch set_epoch asked told)
  refreshed_paged asked (read, Goes) h = h
  refreshed_paged asked (read, Done (Ok None)) h = tt
  refreshed_paged asked (read, Done (Ok (Some found))) h = entered_paged (claimed_epoch asked (get_epoch found.1)) found.0 found.1
  refreshed_paged asked (read, Done (Err number)) h = tt

  claiming_paged : (asked : Option ℕ) (claim : Claiming T) (caches : Caches) (reply : Option Reply) → ClaimPaged page claim → ClaimTold page (claiming_turned world_names world_boundary page encode decode get_epoch set_epoch asked claim caches reply)
  claiming_paged asked (claiming.Writes write value epoch) caches reply h = attempt_paged page value epoch (write_turned write caches reply)
  claiming_paged asked (claiming.Reads read) caches reply h = refreshed_paged asked (read_turned world_names world_boundary page decode read caches reply) (read_paged page decode read caches reply h)
  claiming_paged asked claiming.Ended caches reply h = tt

  started_paged : (asked : Option ℕ) (epoch : Result ℕ TransactionalObjectError) (id : ℕ) (value : T) → AnyPaged page (first_next ops.Claims (started_as (as_claim asked) (entered_with world_names world_boundary encode set_epoch epoch id value))).0
  started_paged asked (Err error) id value = tt
  started_paged asked (Ok epoch) id value = elim (cases_Bool (id == 18446744073709551615)) [ inl last ↦ rw last tt | inr next ↦ rw next tt ]

  turn_paged : (lacking : Bool) (doing : Doing T) (caches : Caches) (reply : Option Reply) → IsReply doing reply → AnyPaged page doing → AnyPaged page (turned page encode decode get_epoch set_epoch lacking doing caches reply).0
  turn_paged lacking (does.Plain (doings.Read read)) caches reply is h = plain_read_paged page lacking (read_turned world_names world_boundary page decode read caches reply) (read_paged page decode read caches reply h)
  turn_paged lacking (does.Plain (doings.ListIds list)) caches reply is h = list_paged T page lacking (listing_turned world_names page list reply) (turn_lists page list reply h)
  turn_paged lacking (does.Plain (doings.Advance op)) caches reply is h = advance_paged T page lacking (advance_turned world_boundary op caches reply)
  turn_paged lacking (does.View (ops.Reads op)) caches reply is h = view_read_paged page op.purpose (shown get_epoch op.purpose) lacking (read_turned world_names world_boundary page decode op.read caches reply) (read_paged page decode op.read caches reply h)
  turn_paged lacking (does.View (ops.Claims op)) caches reply is h = claim_paged page lacking op (claiming_turned world_names world_boundary page encode decode get_epoch set_epoch op.asked op.claiming caches reply) (claiming_paged op.asked op.claiming caches reply h)
  turn_paged lacking (does.Plain (doings.Write op)) caches reply is h = spent_paged reply _ (turned page encode decode get_epoch set_epoch lacking (does.Plain (doings.Write op)) caches reply) (turn_spends page encode decode get_epoch set_epoch lacking caches (does.Plain (doings.Write op)) reply _ refl is)
  turn_paged lacking (does.Plain (doings.WriteUnchecked op)) caches reply is h = spent_paged reply _ (turned page encode decode get_epoch set_epoch lacking (does.Plain (doings.WriteUnchecked op)) caches reply) (turn_spends page encode decode get_epoch set_epoch lacking caches (does.Plain (doings.WriteUnchecked op)) reply _ refl is)
  turn_paged lacking (does.Plain (doings.ReadUnchecked op)) caches reply is h = spent_paged reply _ (turned page encode decode get_epoch set_epoch lacking (does.Plain (doings.ReadUnchecked op)) caches reply) (turn_spends page encode decode get_epoch set_epoch lacking caches (does.Plain (doings.ReadUnchecked op)) reply _ refl is)
  turn_paged lacking (does.Plain (doings.ReadSeen op)) caches reply is h = spent_paged reply _ (turned page encode decode get_epoch set_epoch lacking (does.Plain (doings.ReadSeen op)) caches reply) (turn_spends page encode decode get_epoch set_epoch lacking caches (does.Plain (doings.ReadSeen op)) reply _ refl is)
  turn_paged lacking (does.Plain (doings.Delete op)) caches reply is h = spent_paged reply _ (turned page encode decode get_epoch set_epoch lacking (does.Plain (doings.Delete op)) caches reply) (turn_spends page encode decode get_epoch set_epoch lacking caches (does.Plain (doings.Delete op)) reply _ refl is)
  turn_paged lacking (does.Plain (doings.Check op)) caches reply is h = spent_paged reply _ (turned page encode decode get_epoch set_epoch lacking (does.Plain (doings.Check op)) caches reply) (turn_spends page encode decode get_epoch set_epoch lacking caches (does.Plain (doings.Check op)) reply _ refl is)
  turn_paged lacking (does.Plain doings.Ended) caches reply is h = absurd is
  turn_paged lacking (does.View (ops.Enters op)) caches reply is h = spent_paged reply _ (turned page encode decode get_epoch set_epoch lacking (does.View (ops.Enters op)) caches reply) (turn_spends page encode decode get_epoch set_epoch lacking caches (does.View (ops.Enters op)) reply _ refl is)

  abbrev Start : Call T → Option (View T) → Next T
  Start call view = started page encode get_epoch set_epoch call view

  bounded_starts : (call : Call T) (view : Option (View T)) (most : Budget) → most_of call ≡ Some most → AnyPaged page (Start call view).0
  bounded_starts call view most e = elim (call_starts page encode get_epoch set_epoch call view most e) [ inl left ↦ bounded_paged page (Start call view).0 most left | inr gone ↦ subst (AnyPaged page) (sym gone) tt ]

  local_paged : (local : Option ℕ) (next : ℕ → Next T) → ((own : ℕ) → AnyPaged page (next own).0) → AnyPaged page (with_local local next).0
  local_paged None next h = tt
  local_paged (Some own) next h = h own

  start_paged : (call : Call T) (view : Option (View T)) → AnyPaged page (Start call view).0
  start_paged (any.Plain (calls.Write base value)) view = bounded_starts (any.Plain (calls.Write base value)) view _ refl
  start_paged (any.Plain (calls.WriteUnchecked base value)) view = bounded_starts (any.Plain (calls.WriteUnchecked base value)) view _ refl
  start_paged (any.Plain calls.Read) view = tt
  start_paged (any.Plain (calls.ReadUnchecked id)) view = tt
  start_paged (any.Plain (calls.ReadSeen id)) view = tt
  start_paged (any.Plain (calls.ListIds from to)) view = (None, refl)
  start_paged (any.Plain (calls.Delete id)) view = tt
  start_paged (any.Plain (calls.Check id)) view = tt
  start_paged (any.Plain (calls.Advance to)) view = tt
  start_paged (any.View (view_calls.Init value)) view = bounded_starts (any.View (view_calls.Init value)) view _ refl
  start_paged (any.View view_calls.Load) view = tt
  start_paged (any.View (view_calls.Refresh number)) view = tt
  start_paged (any.View (view_calls.Update number value)) view = bounded_starts (any.View (view_calls.Update number value)) view _ refl
  start_paged (any.View (view_calls.HolderUpdate number value)) view = bounded_starts (any.View (view_calls.HolderUpdate number value)) view _ refl
  start_paged (any.View (view_calls.Claim number)) (Some view) = started_paged None (claimed_epoch None (get_epoch view.object)) view.id view.object
  start_paged (any.View (view_calls.Claim number)) None = tt
  start_paged (any.View (view_calls.ClaimAt number epoch)) (Some view) = started_paged (Some epoch) (claimed_epoch (Some epoch) (get_epoch view.object)) view.id view.object
  start_paged (any.View (view_calls.ClaimAt number epoch)) None = tt
  start_paged (any.View (view_calls.HolderRefresh number)) (Some view) = local_paged view.epoch _ (λ own. tt)
  start_paged (any.View (view_calls.HolderRefresh number)) None = tt

-- in every state that is reached

module _ {T : Type 0} where
  abbrev AllPaged : ℕ → List (Operation T) → Type 0
  AllPaged page operations = Each (AnyPaged page) operations

  set_paged : (page : ℕ) (operations : List (Operation T)) (other : ℕ) (was : Operation T) (doing : Doing T) → numbered operations other ≡ Some was → AnyPaged page doing → AllPaged page operations → AllPaged page (with_doing operations other was doing)
  set_paged page = each_set (AnyPaged page)

module _ {T : Type 0} (encode : T → List ℕ) (decode : List ℕ → Option T) (get_epoch : T → ℕ) (set_epoch : T → ℕ → T) where
  abbrev Holds : State T → Type 0
  Holds s = IsReached encode decode get_epoch set_epoch s × AllPaged s.page s.operations

  fails_paged : (failure : Failure) (old : State T) (op : ℕ) (said : Told T) (new : State T) → Fails old op failure said new → AllPaged old.page old.operations → AllPaged new.page new.operations
  fails_paged failures.Before old op said new v h = subst (λ (s : State T). AllPaged s.page s.operations) (sym v.state) (set_paged old.page old.operations op v.operation ended v.acts.found tt h)
  fails_paged failures.After old op said new v h = subst (λ (s : State T). AllPaged s.page s.operations) (sym v.state) (set_paged old.page old.operations op v.call.operation ended v.call.acts.found tt h)
  fails_paged failures.Loose old op said new v h = subst (λ (s : State T). AllPaged s.page s.operations) (sym v.state) (set_paged old.page old.operations op v.operation ended v.acts.found tt h)

  takes_paged : (old : State T) (event : Event T) (said : Told T) (new : State T) → IsReached encode decode get_epoch set_epoch old → AllPaged old.page old.operations → TakesOrLacks encode decode get_epoch set_epoch old event said new → AllPaged new.page new.operations
  takes_paged old (events.Begin client call) said new r h t =
      let v = t.step in
      let starts : AnyPaged old.page v.next.0 = subst (λ (n : Next T). AnyPaged old.page n.0) (sym v.starts) (start_paged old.page encode decode get_epoch set_epoch call (view_now old call)) in
      subst (λ (s : State T). AllPaged s.page s.operations) (sym v.state) (each_begun (AnyPaged old.page) old.operations (new_operation client call v.next.0) starts h)
  takes_paged old (events.Look op) said new r h t =
      let v = t.step in
      let next : AnyPaged old.page v.next.0 = subst (λ (n : Next T). AnyPaged old.page n.0) (sym v.turns.turns) (turn_paged old.page encode decode get_epoch set_epoch v.turns.refused v.operation.doing v.caches None (reached_looks encode decode get_epoch set_epoch old r op v.operation v.acts.found v.acts.asks) (h op v.operation v.acts.found)) in
      subst (λ (s : State T). AllPaged s.page s.operations) (sym v.state) (set_paged old.page old.operations op v.operation v.next.0 v.acts.found next h)
  takes_paged old (events.Serve op) said new r h t = elim t.step [
    | inl v ↦
        let next : AnyPaged old.page v.next.0 = subst (λ (n : Next T). AnyPaged old.page n.0) (sym v.turns.turns) (turn_paged old.page encode decode get_epoch set_epoch v.turns.refused v.call.operation.doing v.call.caches (Some v.call.reply) (reached_replies encode decode get_epoch set_epoch old r op v.call.operation v.call.acts.found v.call.request v.call.reply v.call.store v.call.acts.asks v.call.reaches.serves) (h op v.call.operation v.call.acts.found)) in
        subst (λ (s : State T). AllPaged s.page s.operations) (sym v.state) (set_paged old.page old.operations op v.call.operation v.next.0 v.call.acts.found next h)
    | inr v ↦ subst (λ (s : State T). AllPaged s.page s.operations) (sym v.state) (set_paged old.page old.operations op v.operation ended v.acts.found tt h)
  ]
  takes_paged old (events.Fail op failure) said new r h t = fails_paged failure old op said new t.step h
  takes_paged old (events.GiveUp op) said new r h t = (let v = t.step in subst (λ (s : State T). AllPaged s.page s.operations) (sym v.state) (set_paged old.page old.operations op v.operation ended v.found tt h))
  takes_paged old (events.Land k) said new r h t = subst (λ (s : State T). AllPaged s.page s.operations) (sym t.step.state) h
  takes_paged old (events.Crash client) said new r h t = subst (λ (s : State T). AllPaged s.page s.operations) (sym t.step.state) (each_crash (AnyPaged old.page) client old.operations tt h)

  pub reached_paged : (s : State T) → IsReached encode decode get_epoch set_epoch s → AllPaged s.page s.operations
  reached_paged s r =
      (runs_keep encode decode get_epoch set_epoch Holds
      (λ old event said new h t. (taken_reached_or_lacking encode decode get_epoch set_epoch old event said new h.0 t, takes_paged old event said new h.0 h.1 t))
      (opening s.clients s.page) r.0 s r.1 (opening_reached encode decode get_epoch set_epoch s.clients s.page r.2, each_none (AnyPaged s.page))).1
