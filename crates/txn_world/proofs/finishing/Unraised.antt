-- Where no boundary stands, none is known: no client keeps one, and no operation has read one.
use Rattle.std.proofs.Common.{◌≡◌, ℕ, zero, suc, ◌-◌, ◌==◌, List, [], ◌∷◌, set, slice_get, replicate, Bool, true, false, Option, Some, None, Result, Ok, Err, is_some, inl, inr, refl, sym, ◌∙◌, ap, subst}
use Rattle.std.specs.FinMap.{get}
use Rattle.std.proofs.lemmas.Bool.{cases_Bool}
use Rattle.std.proofs.lemmas.Option.{same_Some}
use Rattle.txn_store.specs.Store.{State as StoreState}
use Rattle.txn_store.specs.Requests.{Serves}
use Rattle.txn_store.specs.declared.store.Got.{Got}
use Rattle.txn_store.specs.declared.request.Reply.{Reply}
use Rattle.txn_store.specs.types.Numbers.{number_of}
use Rattle.txn_store.specs.declared.types.error.TransactionalObjectError.{TransactionalObjectError}
use Rattle.txn_store.specs.types.Epochs.{claimed_epoch}
use Rattle.txn_steps.specs.declared.boundary.advance.AdvanceOp.{AdvanceOp}
use Rattle.txn_steps.specs.declared.boundary.boundary_read.BoundaryRead.{BoundaryRead}
use Rattle.txn_steps.specs.declared.boundary.caches.Caches.{Caches}
use Rattle.txn_steps.specs.declared.boundary.check.CheckOp.{CheckOp}
use Rattle.txn_steps.specs.declared.boundary.turned.Turned.{Turned}
use Rattle.txn_steps.specs.declared.boundary.turned.Turned.TheVariants.{Goes, Done}
use Rattle.txn_steps.specs.boundary.Advances.{advance_asked, advance_turned}
use Rattle.txn_steps.specs.boundary.Asking.{unless_lacking}
use Rattle.txn_steps.specs.boundary.Checks.{check_asked, check_turned}
use Rattle.txn_steps.specs.declared.delete.DeleteOp.{DeleteOp}
use Rattle.txn_steps.specs.declared.latest.LatestOp.{LatestOp}
use Rattle.txn_steps.specs.declared.listing.ListOp.{ListOp}
use Rattle.txn_steps.specs.declared.read.ReadOp.{ReadOp}
use Rattle.txn_steps.specs.declared.read.ReadOp.TheVariants as reads
use Rattle.txn_steps.specs.declared.seen.ReadSeenOp.{ReadSeenOp}
use Rattle.txn_steps.specs.declared.seen.ReadUncheckedOp.{ReadUncheckedOp}
use Rattle.txn_steps.specs.declared.write.WriteOp.{WriteOp}
use Rattle.txn_steps.specs.declared.write.WriteUncheckedOp.{WriteUncheckedOp}
use Rattle.txn_steps.specs.Deletes.{delete_asked, delete_turned}
use Rattle.txn_steps.specs.Latest.{ReadAnswer, latest_turned}
use Rattle.txn_steps.specs.Listed.{Listed}
use Rattle.txn_steps.specs.Listings.{listing_turned}
use Rattle.txn_steps.specs.Reads.{read_asked, read_turned, reads_turned, checks_turned}
use Rattle.txn_steps.specs.SeenSteps.{unchecked_turned as value_turned, seen_turned}
use Rattle.txn_steps.specs.Writes.{unchecked_turned, write_asked, write_turned}
use Rattle.txn_history.specs.declared.event.Call.{Call}
use Rattle.txn_history.specs.declared.event.Call.TheVariants as any
use Rattle.txn_history.specs.declared.event.EventOf.TheVariants as events
use Rattle.txn_history.specs.declared.event.Failure.{Failure}
use Rattle.txn_history.specs.declared.event.Failure.TheVariants as failures
use Rattle.txn_history.specs.declared.event.PlainCall.TheVariants as calls
use Rattle.txn_history.specs.declared.event.ViewCall.TheVariants as view_calls
use Rattle.txn_history.specs.Lists.{numbered}
use Rattle.txn_history.specs.Names.{world_names, world_boundary}
use Rattle.txn_history.specs.Trace.{Event, Told}
use Rattle.txn_history.specs.Views.{View}
use Rattle.txn_machine.specs.declared.plain.doing.PlainDoing.TheVariants as doings
use Rattle.txn_machine.specs.plain.Doing as plain
use Rattle.txn_machine.specs.plain.Machine.{no_caches}
use Rattle.txn_steps_views.specs.declared.claim.ClaimOp.{ClaimOp}
use Rattle.txn_steps_views.specs.declared.claiming.Claiming.{Claiming}
use Rattle.txn_steps_views.specs.declared.claiming.Claiming.TheVariants as claiming
use Rattle.txn_steps_views.specs.declared.entry.EntryOp.TheVariants as entries
use Rattle.txn_steps_views.specs.declared.op.ViewOp.TheVariants as ops
use Rattle.txn_steps_views.specs.declared.outcome.Outcome.{Outcome}
use Rattle.txn_steps_views.specs.declared.view_read.Purpose.{Purpose}
use Rattle.txn_steps_views.specs.Attempts.{followed, claiming_asked, attempt_turned, entered_with, refreshed_turned, claiming_turned}
use Rattle.txn_steps_views.specs.Claims.{as_claim, claim_ended, claim_next}
use Rattle.txn_steps_views.specs.Entries.{written_turned as entry_written, entry_started, entry_tested, own_epochs}
use Rattle.txn_steps_views.specs.Lacking.{started_as}
use Rattle.txn_steps_views.specs.Readings.{seen}
use Rattle.txn_steps_views.specs.ViewOps.{held as held_by}
use Rattle.txn_steps_views.specs.ViewReads.{as_view_read, shown}
use Rattle.txn_machine.specs.declared.doing.Doing.{Doing}
use Rattle.txn_machine.specs.declared.doing.Doing.TheVariants as does
use Rattle.txn_machine.specs.declared.doing.Operation.{Operation}
use Rattle.txn_machine.specs.Doing.{Next, ended, started, turned, caches_after, plain_next, view_next, next_of, first_next, with_local}
use Rattle.txn_machine.specs.Machine.{State, opening, new_operation, with_doing, view_now, TakesOrLacks, Fails, IsReached}
use Rattle.txn_machine.proofs.Runs.{runs_keep, taken_reached_or_lacking, opening_reached}
use Rattle.txn_world.proofs.finishing.Everywhere.{Each, each_none, each_begun, each_set, each_crash}
use Rattle.txn_world.proofs.finishing.Moves.{Offer, IsServed, served_part}
use Rattle.txn_world.proofs.finishing.Standing.{raised_stays}
use Rattle.txn_world.proofs.finishing.Unheld.{UnheldRead, UnheldReads, UnheldClaim, Unheld, any_keeps, CheckTold, AdvanceTold, WriteTold, DeleteTold, check_turns, advance_turns, write_turns, delete_turns}

-- operations of any call

module _ {T : Type 0} where
  abbrev ReadsTold : ReadOp T × Turned (ReadAnswer T) → Type 0
  ReadsTold (read, Goes) = UnheldReads read
  ReadsTold (read, Done answer) = Unit {0}

  abbrev ClaimTold : Claiming T × Turned (Result (Outcome T) ℕ) → Type 0
  ClaimTold (claim, Goes) = UnheldClaim claim
  ClaimTold (claim, Done answer) = Unit {0}

  latest_told : (ahead : BoundaryRead) (told : LatestOp T × Turned (ReadAnswer T)) → UnheldRead ahead → ReadsTold (reads_turned ahead told)
  latest_told ahead (op, Goes) h = h
  latest_told ahead (op, Done (Ok None)) h = tt
  latest_told ahead (op, Done (Ok (Some found))) h = h
  latest_told ahead (op, Done (Err number)) h = tt

  checks_told : (id : ℕ) (value : T) (told : CheckOp × Turned (Result (Unit {0}) ℕ)) → CheckTold told → ReadsTold (checks_turned world_boundary id value told)
  checks_told id value (check, Goes) h = h
  checks_told id value (check, Done (Ok accepted)) h = tt
  checks_told id value (check, Done (Err number)) h = elim (cases_Bool (number == 5)) [ inl five ↦ rw five refl | inr other ↦ rw other tt ]

  attempt_told : (value : T) (epoch : ℕ) (told : WriteOp × Turned (Result ℕ ℕ)) → WriteTold told → ClaimTold (attempt_turned world_boundary value epoch told)
  attempt_told value epoch (write, Goes) h = h
  attempt_told value epoch (write, Done (Ok id)) h = tt
  attempt_told value epoch (write, Done (Err number)) h = elim (cases_Bool (number == 5)) [ inl five ↦ rw five refl | inr other ↦ rw other tt ]

  entered_told : (encode : T → List ℕ) (set_epoch : T → ℕ → T) (epoch : Result ℕ TransactionalObjectError) (id : ℕ) (value : T) → ClaimTold (followed (entered_with world_names world_boundary encode set_epoch epoch id value))
  entered_told encode set_epoch (Err error) id value = tt
  entered_told encode set_epoch (Ok epoch) id value = elim (cases_Bool (id == 18446744073709551615)) [ inl last ↦ rw last tt | inr next ↦ rw next refl ]

  refreshed_told : (encode : T → List ℕ) (get_epoch : T → ℕ) (set_epoch : T → ℕ → T) (asks : Option ℕ) (told : ReadOp T × Turned (ReadAnswer T)) → ReadsTold told → ClaimTold (refreshed_turned world_names world_boundary encode get_epoch set_epoch asks told)
  refreshed_told encode get_epoch set_epoch asks (read, Goes) h = h
  refreshed_told encode get_epoch set_epoch asks (read, Done (Ok None)) h = tt
  refreshed_told encode get_epoch set_epoch asks (read, Done (Ok (Some found))) h = entered_told encode set_epoch (claimed_epoch asks (get_epoch found.1)) found.0 found.1
  refreshed_told encode get_epoch set_epoch asks (read, Done (Err number)) h = tt

  done_next : (op : Doing T) (answer : Result (Outcome T) ℕ) → Unheld (next_of op (Done answer)).0
  done_next op (Ok outcome) = tt
  done_next op (Err number) = tt

  read_next : (lacking : Bool) (told : ReadOp T × Turned (ReadAnswer T)) → ReadsTold told → Unheld (plain_next (plain.or_no_memory lacking (plain.read_next told))).0
  read_next true told h = tt
  read_next false (read, Goes) h = h
  read_next false (read, Done (Ok found)) h = tt
  read_next false (read, Done (Err number)) h = tt

  seen_next : (lacking : Bool) (told : ReadSeenOp T × Turned (Result (Option T) ℕ)) → Unheld (plain_next (plain.or_no_memory lacking (plain.seen_next told))).0
  seen_next true told = tt
  seen_next false (op, Goes) = tt
  seen_next false (op, Done (Ok found)) = tt
  seen_next false (op, Done (Err number)) = tt

  value_next : (lacking : Bool) (op : ReadUncheckedOp) (told : Turned (Result (Option T) ℕ)) → Unheld (plain_next (plain.or_no_memory lacking (plain.value_next op told))).0
  value_next true op told = tt
  value_next false op Goes = tt
  value_next false op (Done (Ok found)) = tt
  value_next false op (Done (Err number)) = tt

  view_read_next : (purpose : Purpose) (see : Option (ℕ × T) → Result (Outcome T) ℕ) (lacking : Bool) (told : ReadOp T × Turned (ReadAnswer T)) → ReadsTold told →
      Unheld (view_next (held_by ops.Reads (unless_lacking lacking (as_view_read purpose reads.Ended) (seen (as_view_read purpose) see told)))).0
  view_read_next purpose see true told h = tt
  view_read_next purpose see false (read, Goes) h = h
  view_read_next purpose see false (read, Done (Ok found)) h = done_next (does.View (ops.Reads (as_view_read purpose reads.Ended))) (see found)
  view_read_next purpose see false (read, Done (Err number)) h = tt

  entry_next : (value : T) (told : WriteOp × Turned (Result ℕ ℕ)) → WriteTold told → Unheld (view_next (held_by ops.Enters (entry_written value told))).0
  entry_next value (write, Goes) h = h
  entry_next value (write, Done (Ok id)) h = tt
  entry_next value (write, Done (Err number)) h = tt

  claim_told_next : (lacking : Bool) (op : ClaimOp T) (told : Claiming T × Turned (Result (Outcome T) ℕ)) → ClaimTold told → Unheld (view_next (held_by ops.Claims (unless_lacking lacking (claim_ended op) (claim_next op.asked told)))).0
  claim_told_next true op told h = tt
  claim_told_next false op (claim, Goes) h = h
  claim_told_next false op (claim, Done (Ok outcome)) h = tt
  claim_told_next false op (claim, Done (Err number)) h = tt

module _ (T : Type 0) where
  write_next : (told : WriteOp × Turned (Result ℕ ℕ)) → WriteTold told → Unheld (plain_next {T = T} (plain.write_next told)).0
  write_next (op, Goes) h = h
  write_next (op, Done (Ok id)) h = tt
  write_next (op, Done (Err number)) h = tt

  unchecked_next : (told : WriteUncheckedOp × Turned (Result ℕ ℕ)) → Unheld (plain_next {T = T} (plain.unchecked_next told)).0
  unchecked_next (op, Goes) = tt
  unchecked_next (op, Done (Ok id)) = tt
  unchecked_next (op, Done (Err number)) = tt

  ids_next : (lacking : Bool) (told : ListOp × Turned (Result (List Listed) ℕ)) → Unheld (plain_next {T = T} (plain.or_no_memory lacking (plain.ids_next told))).0
  ids_next true told = tt
  ids_next false (op, Goes) = tt
  ids_next false (op, Done (Ok found)) = tt
  ids_next false (op, Done (Err number)) = tt

  delete_next : (told : DeleteOp × Turned (Result (Unit {0}) ℕ)) → DeleteTold told → Unheld (plain_next {T = T} (plain.delete_next told)).0
  delete_next (op, Goes) h = h
  delete_next (op, Done (Ok done)) h = tt
  delete_next (op, Done (Err number)) h = tt

  check_next : (told : CheckOp × Turned (Result (Unit {0}) ℕ)) → CheckTold told → Unheld (plain_next {T = T} (plain.check_next told)).0
  check_next (op, Goes) h = h
  check_next (op, Done (Ok done)) h = tt
  check_next (op, Done (Err number)) h = tt

  advance_next : (lacking : Bool) (told : AdvanceOp × Turned (Result (Unit {0}) ℕ)) → AdvanceTold told → Unheld (plain_next {T = T} (plain.or_no_memory lacking (plain.advance_next told))).0
  advance_next true told h = tt
  advance_next false (op, Goes) h = h
  advance_next false (op, Done (Ok done)) h = tt
  advance_next false (op, Done (Err number)) h = tt

module _ {T : Type 0} (page : ℕ) (encode : T → List ℕ) (decode : List ℕ → Option T) (get_epoch : T → ℕ) (set_epoch : T → ℕ → T) where
  module _ (store new : StoreState) (none : get store.files world_boundary ≡ None) (still : get new.files world_boundary ≡ None) (lacking : Bool) (caches : Caches) (e : caches.boundary ≡ None) (reply : Option Reply) where
    reads_turn : (read : ReadOp T) → UnheldReads read → IsServed (read_asked read) reply store new → ReadsTold (read_turned world_names world_boundary page decode read caches reply)
    reads_turn (reads.Reads op ahead) h serves = latest_told ahead (latest_turned world_names page decode op caches.latest reply) h
    reads_turn (reads.Checks id value check) h serves = checks_told id value (check_turned check caches reply) (check_turns store new none still reply check caches e h serves)
    reads_turn reads.Ended h serves = tt

    claim_turn : (asks : Option ℕ) (op : Claiming T) → UnheldClaim op → IsServed (claiming_asked op) reply store new → ClaimTold (claiming_turned world_names world_boundary page encode decode get_epoch set_epoch asks op caches reply)
    claim_turn asks (claiming.Writes write value epoch) h serves = attempt_told value epoch (write_turned write caches reply) (write_turns store new none still reply write.step write caches e h serves)
    claim_turn asks (claiming.Reads read) h serves = refreshed_told encode get_epoch set_epoch asks (read_turned world_names world_boundary page decode read caches reply) (reads_turn read h serves)
    claim_turn asks claiming.Ended h serves = tt

    any_turn : (doing : Doing T) → Offer doing store reply new → Unheld doing → Unheld (turned page encode decode get_epoch set_epoch lacking doing caches reply).0
    any_turn (does.Plain (doings.Write op)) offer h = write_next T (write_turned op caches reply) (write_turns store new none still reply op.step op caches e h (served_part {T = T} (write_asked op) (does.Plain (doings.Write op)) store reply new refl offer))
    any_turn (does.Plain (doings.WriteUnchecked op)) offer h = unchecked_next T (unchecked_turned op reply)
    any_turn (does.Plain (doings.Read read)) offer h = read_next lacking (read_turned world_names world_boundary page decode read caches reply) (reads_turn read h (served_part {T = T} (read_asked read) (does.Plain (doings.Read read)) store reply new refl offer))
    any_turn (does.Plain (doings.ReadUnchecked op)) offer h = value_next lacking op (value_turned decode reply)
    any_turn (does.Plain (doings.ReadSeen op)) offer h = seen_next lacking (seen_turned world_names decode op caches.latest reply)
    any_turn (does.Plain (doings.ListIds op)) offer h = ids_next T lacking (listing_turned world_names page op reply)
    any_turn (does.Plain (doings.Delete op)) offer h = delete_next T (delete_turned op caches reply) (delete_turns store new none still reply op.step op caches refl e h (served_part {T = T} (delete_asked op) (does.Plain (doings.Delete op)) store reply new refl offer))
    any_turn (does.Plain (doings.Check check)) offer h = check_next T (check_turned check caches reply) (check_turns store new none still reply check caches e h (served_part {T = T} (check_asked check) (does.Plain (doings.Check check)) store reply new refl offer))
    any_turn (does.Plain (doings.Advance op)) offer h = advance_next T lacking (advance_turned world_boundary op caches reply) (advance_turns store new none still reply op caches e h (served_part {T = T} (advance_asked op) (does.Plain (doings.Advance op)) store reply new refl offer))
    any_turn (does.Plain doings.Ended) offer h = tt
    any_turn (does.View (ops.Reads op)) offer h = view_read_next op.purpose (shown get_epoch op.purpose) lacking (read_turned world_names world_boundary page decode op.read caches reply) (reads_turn op.read h (served_part {T = T} (read_asked op.read) (does.View (ops.Reads op)) store reply new refl offer))
    any_turn (does.View (ops.Enters (entries.Writes write value))) offer h = entry_next value (write_turned write caches reply) (write_turns store new none still reply write.step write caches e h (served_part {T = T} (write_asked write) (does.View (ops.Enters (entries.Writes write value))) store reply new refl offer))
    any_turn (does.View (ops.Enters entries.Ended)) offer h = tt
    any_turn (does.View (ops.Claims op)) offer h = claim_told_next lacking op (claiming_turned world_names world_boundary page encode decode get_epoch set_epoch op.asked op.claiming caches reply) (claim_turn op.asked op.claiming h (served_part {T = T} (claiming_asked op.claiming) (does.View (ops.Claims op)) store reply new refl offer))

  -- as a call begins

  abbrev Start : Call T → Option (View T) → Next T
  Start call view = started page encode get_epoch set_epoch call view

  entry_starts : (id : ℕ) (value : T) → Unheld (first_next ops.Enters (entry_started world_names world_boundary encode (Some id) value)).0
  entry_starts id value = elim (cases_Bool (id == 18446744073709551615)) [ inl last ↦ rw last tt | inr next ↦ rw next refl ]

  holder_starts : (id : ℕ) (value : T) (own : Result (Unit {0}) ℕ) → Unheld (first_next ops.Enters (entry_tested world_names world_boundary encode id value own)).0
  holder_starts id value (Ok fits) = entry_starts id value
  holder_starts id value (Err number) = tt

  claim_starts : (asks : Option ℕ) (epoch : Result ℕ TransactionalObjectError) (id : ℕ) (value : T) → Unheld (first_next ops.Claims (started_as (as_claim asks) (entered_with world_names world_boundary encode set_epoch epoch id value))).0
  claim_starts asks (Err error) id value = tt
  claim_starts asks (Ok epoch) id value = elim (cases_Bool (id == 18446744073709551615)) [ inl last ↦ rw last tt | inr next ↦ rw next refl ]

  local_starts : (local : Option ℕ) (next : ℕ → Next T) → ((own : ℕ) → Unheld (next own).0) → Unheld (with_local local next).0
  local_starts None next h = tt
  local_starts (Some own) next h = h own

  any_start : (call : Call T) (view : Option (View T)) → Unheld (Start call view).0
  any_start (any.Plain (calls.Write base value)) view = elim (cases_Bool (number_of base == 18446744073709551615)) [ inl last ↦ rw last tt | inr next ↦ rw next refl ]
  any_start (any.Plain (calls.WriteUnchecked base value)) view = elim (cases_Bool (number_of base == 18446744073709551615)) [ inl last ↦ rw last tt | inr next ↦ rw next tt ]
  any_start (any.Plain calls.Read) view = refl
  any_start (any.Plain (calls.ReadUnchecked id)) view = tt
  any_start (any.Plain (calls.ReadSeen id)) view = tt
  any_start (any.Plain (calls.ListIds from to)) view = tt
  any_start (any.Plain (calls.Delete id)) view = refl
  any_start (any.Plain (calls.Check id)) view = refl
  any_start (any.Plain (calls.Advance to)) view = tt
  any_start (any.View (view_calls.Init value)) view = refl
  any_start (any.View view_calls.Load) view = refl
  any_start (any.View (view_calls.Refresh number)) view = refl
  any_start (any.View (view_calls.Update number value)) (Some view) = entry_starts view.id value
  any_start (any.View (view_calls.Update number value)) None = tt
  any_start (any.View (view_calls.HolderUpdate number value)) (Some view) = local_starts view.epoch _ (λ own. holder_starts view.id value (own_epochs own (get_epoch view.object) (get_epoch value)))
  any_start (any.View (view_calls.HolderUpdate number value)) None = tt
  any_start (any.View (view_calls.Claim number)) (Some view) = claim_starts None (claimed_epoch None (get_epoch view.object)) view.id view.object
  any_start (any.View (view_calls.Claim number)) None = tt
  any_start (any.View (view_calls.ClaimAt number epoch)) (Some view) = claim_starts (Some epoch) (claimed_epoch (Some epoch) (get_epoch view.object)) view.id view.object
  any_start (any.View (view_calls.ClaimAt number epoch)) None = tt
  any_start (any.View (view_calls.HolderRefresh number)) (Some view) = local_starts view.epoch _ (λ own. refl)
  any_start (any.View (view_calls.HolderRefresh number)) None = tt

-- what clients keep

abbrev KeepNone : List Caches → Type 0
KeepNone [] = Unit {0}
KeepNone (caches ∷ rest) = (caches.boundary ≡ None) × KeepNone rest

set_none : (all : List Caches) (k : ℕ) (caches : Caches) → KeepNone all → caches.boundary ≡ None → KeepNone (set all k caches)
set_none [] k caches h e = h
set_none (first ∷ rest) zero caches h e = (e, h.1)
set_none (first ∷ rest) (suc k) caches h e = (h.0, set_none rest k caches h.1 e)

get_none : (all : List Caches) (k : ℕ) (caches : Caches) → slice_get all k ≡ Some caches → KeepNone all → caches.boundary ≡ None
get_none [] k caches is h = cc
get_none (first ∷ rest) zero caches is h = ap (λ (c : Caches). c.boundary) (sym (same_Some first caches is)) ∙ h.0
get_none (first ∷ rest) (suc k) caches is h = get_none rest k caches is h.1

numbered_none : (all : List Caches) (client : ℕ) (caches : Caches) → numbered all client ≡ Some caches → KeepNone all → caches.boundary ≡ None
numbered_none all zero caches is h = cc
numbered_none all (suc client) caches is h = get_none all client caches is h

opening_none : (clients : ℕ) → KeepNone (replicate clients no_caches)
opening_none zero = tt
opening_none (suc clients) = (refl, opening_none clients)

-- in every state that is reached

module _ {T : Type 0} where
  abbrev NoneKnown : State T → Type 0
  NoneKnown s = KeepNone s.caches × Each Unheld s.operations

  -- where no boundary stands, none is known
  abbrev Unraised : State T → Type 0
  Unraised s = get s.store.files world_boundary ≡ None → NoneKnown s

was_none : (old new : StoreState) → (is_some (get old.files world_boundary) ≡ true → is_some (get new.files world_boundary) ≡ true) → get new.files world_boundary ≡ None → get old.files world_boundary ≡ None
was_none old new stays none = by (get old.files world_boundary) refl
  where
    by : (file : Option Got) → get old.files world_boundary ≡ file → get old.files world_boundary ≡ None
    by None e = e
    by (Some got) e = absurd (let clash : true ≡ false = sym (stays (ap is_some e)) ∙ ap is_some none in cc)

module _ {T : Type 0} (encode : T → List ℕ) (decode : List ℕ → Option T) (get_epoch : T → ℕ) (set_epoch : T → ℕ → T) where
  abbrev Holds : State T → Type 0
  Holds s = IsReached encode decode get_epoch set_epoch s × Unraised s

  -- an operation ends, and its client keeps what it kept
  ends_unheld : (operations : List (Operation T)) (all : List Caches) (op client : ℕ) (o : Operation T) (caches : Caches) → numbered operations op ≡ Some o → numbered all client ≡ Some caches → KeepNone all × Each Unheld operations → KeepNone (set all (client - 1) caches) × Each Unheld (with_doing operations op o ended)
  ends_unheld operations all op client o caches found kept h = (set_none all (client - 1) caches h.0 (numbered_none all client caches kept h.0), each_set Unheld operations op o ended found tt h.1)

  fails_unheld : (failure : Failure) (old : State T) (op : ℕ) (said : Told T) (new : State T) → Fails old op failure said new → NoneKnown old → NoneKnown new
  fails_unheld failures.Before old op said new v h = subst (λ (s : State T). NoneKnown s) (sym v.state) (ends_unheld old.operations old.caches op v.operation.client v.operation v.caches v.acts.found v.acts.kept h)
  fails_unheld failures.After old op said new v h = subst (λ (s : State T). NoneKnown s) (sym v.state) (ends_unheld old.operations old.caches op v.call.operation.client v.call.operation v.call.caches v.call.acts.found v.call.acts.kept h)
  fails_unheld failures.Loose old op said new v h = subst (λ (s : State T). NoneKnown s) (sym v.state) (ends_unheld old.operations old.caches op v.operation.client v.operation v.caches v.acts.found v.acts.kept h)

  -- its turn
  turns_unheld : (old new : State T) (op : ℕ) (o : Operation T) (caches : Caches) (reply : Option Reply) (next : Next T) (lacking : Bool) → get old.store.files world_boundary ≡ None → get new.store.files world_boundary ≡ None → numbered old.operations op ≡ Some o → numbered old.caches o.client ≡ Some caches →
      Offer o.doing old.store reply new.store → next ≡ turned old.page encode decode get_epoch set_epoch lacking o.doing caches reply → NoneKnown old → KeepNone (set old.caches (o.client - 1) (caches_after o.doing caches next.1)) × Each Unheld (with_doing old.operations op o next.0)
  turns_unheld old new op o caches reply next lacking none still found kept offer turns h =
      let e = numbered_none old.caches o.client caches kept h.0 in
      let unheld = h.1 op o found in (
        set_none old.caches (o.client - 1) (caches_after o.doing caches next.1) h.0 (any_keeps o.doing caches next.1 e unheld),
        each_set Unheld old.operations op o next.0 found (subst (λ (n : Next T). Unheld n.0) (sym turns) (any_turn old.page encode decode get_epoch set_epoch old.store new.store none still lacking caches e reply o.doing offer unheld)) h.1,
      )

  event_unheld : (old : State T) (event : Event T) (said : Told T) (new : State T) → TakesOrLacks encode decode get_epoch set_epoch old event said new → get old.store.files world_boundary ≡ None → get new.store.files world_boundary ≡ None → NoneKnown old → NoneKnown new
  event_unheld old (events.Begin client call) said new t none still h =
      let v = t.step in
      let starts : Unheld v.next.0 = subst (λ (n : Next T). Unheld n.0) (sym v.starts) (any_start old.page encode decode get_epoch set_epoch call (view_now old call)) in
      subst (λ (s : State T). NoneKnown s) (sym v.state) (h.0, each_begun Unheld old.operations (new_operation client call v.next.0) starts h.1)
  event_unheld old (events.Look op) said new t none still h =
      let v = t.step in
      subst (λ (s : State T). NoneKnown s) (sym v.state) (turns_unheld old new op v.operation v.caches None v.next v.turns.refused none still v.acts.found v.acts.kept (v.acts.asks, ap (λ (s : State T). s.store) v.state) v.turns.turns h)
  event_unheld old (events.Serve op) said new t none still h = elim t.step [
    | inl v ↦
        let store : new.store ≡ v.call.store = ap (λ (s : State T). s.store) v.state in
        subst (λ (s : State T). NoneKnown s) (sym v.state) (turns_unheld old new op v.call.operation v.call.caches (Some v.call.reply) v.next v.turns.refused none still v.call.acts.found v.call.acts.kept
        (v.call.request, v.call.acts.asks, subst (λ (st : StoreState). Serves v.call.request old.store v.call.reply st) (sym store) v.call.reaches.serves, ap (λ (st : StoreState). st.failures) store ∙ v.call.reaches.honest) v.turns.turns h)
    | inr v ↦ subst (λ (s : State T). NoneKnown s) (sym v.state) (ends_unheld old.operations old.caches op v.operation.client v.operation v.caches v.acts.found v.acts.kept h)
  ]
  event_unheld old (events.Fail op failure) said new t none still h = fails_unheld failure old op said new t.step h
  event_unheld old (events.GiveUp op) said new t none still h = (let v = t.step in subst (λ (s : State T). NoneKnown s) (sym v.state) (h.0, each_set Unheld old.operations op v.operation ended v.found tt h.1))
  event_unheld old (events.Land k) said new t none still h = subst (λ (s : State T). NoneKnown s) (sym t.step.state) h
  event_unheld old (events.Crash client) said new t none still h = subst (λ (s : State T). NoneKnown s) (sym t.step.state) (set_none old.caches (client - 1) no_caches h.0 refl, each_crash Unheld client old.operations tt h.1)

  takes_unraised : (old : State T) (event : Event T) (said : Told T) (new : State T) → Holds old → TakesOrLacks encode decode get_epoch set_epoch old event said new → Holds new
  takes_unraised old event said new h t = (
    taken_reached_or_lacking encode decode get_epoch set_epoch old event said new h.0 t,
    λ still. (let none = was_none old.store new.store (raised_stays encode decode get_epoch set_epoch old event said new h.0 t) still in event_unheld old event said new t none still (h.1 none)),
  )

  pub reached_unraised : (s : State T) → IsReached encode decode get_epoch set_epoch s → Unraised s
  reached_unraised s r = (runs_keep encode decode get_epoch set_epoch Holds takes_unraised (opening s.clients s.page) r.0 s r.1 (opening_reached encode decode get_epoch set_epoch s.clients s.page r.2, λ none. (opening_none s.clients, each_none Unheld))).1

  -- no client keeps one
  pub reached_keeps_none : (s : State T) (client : ℕ) (caches : Caches) → IsReached encode decode get_epoch set_epoch s → numbered s.caches client ≡ Some caches → get s.store.files world_boundary ≡ None → caches.boundary ≡ None
  reached_keeps_none s client caches r kept none = numbered_none s.caches client caches kept (reached_unraised s r none).0

  -- and an operation reads anew only where one stands
  pub reached_unheld : (s : State T) (op : ℕ) (o : Operation T) → IsReached encode decode get_epoch set_epoch s → numbered s.operations op ≡ Some o → get s.store.files world_boundary ≡ None → Unheld o.doing
  reached_unheld s op o r found none = (reached_unraised s r none).1 op o found
