-- An operation that can take what it asks for can do so after each look and each reply, whatever that is.
use Rattle.std.proofs.Common.{◌≡◌, ℕ, ◌≤◌, ◌==◌, List, Bool, true, false, if◌then◌else◌, Option, Some, None, Result, Ok, Err, refl}
use Rattle.txn_store.specs.declared.request.Reply.{Reply}
use Rattle.txn_steps.specs.declared.boundary.caches.Caches.{Caches}
use Rattle.txn_steps.specs.declared.boundary.check.CheckOp.{CheckOp}
use Rattle.txn_steps.specs.declared.boundary.advance.AdvanceOp.{AdvanceOp}
use Rattle.txn_steps.specs.declared.boundary.turned.Turned.{Turned}
use Rattle.txn_steps.specs.declared.boundary.turned.Turned.TheVariants.{Goes, Done}
use Rattle.txn_steps.specs.boundary.Checks.{check_turned}
use Rattle.txn_steps.specs.boundary.Advances.{advance_turned}
use Rattle.txn_steps.specs.boundary.Asking.{unless_lacking}
use Rattle.txn_steps.specs.declared.write.WriteUncheckedOp.{WriteUncheckedOp}
use Rattle.txn_steps.specs.declared.write.WriteOp.{WriteOp}
use Rattle.txn_steps.specs.declared.read.ReadOp.{ReadOp}
use Rattle.txn_steps.specs.declared.seen.ReadUncheckedOp.{ReadUncheckedOp}
use Rattle.txn_steps.specs.declared.seen.ReadSeenOp.{ReadSeenOp}
use Rattle.txn_steps.specs.declared.listing.ListOp.{ListOp}
use Rattle.txn_steps.specs.declared.delete.DeleteOp.{DeleteOp}
use Rattle.txn_steps.specs.Latest.{ReadAnswer}
use Rattle.txn_steps.specs.Listed.{Listed}
use Rattle.txn_steps.specs.Writes.{unchecked_turned, write_turned, write_started}
use Rattle.txn_steps.specs.Reads.{read_turned, read_started}
use Rattle.txn_steps.specs.SeenSteps.{seen_turned}
use Rattle.txn_steps.specs.Listings.{listing_turned}
use Rattle.txn_steps.specs.Deletes.{delete_turned}
use Rattle.txn_steps.specs.SeenSteps as seens
use Rattle.txn_steps_driven.specs.DriveSteps.{CanGet, CanCheck, CanAdvance, CanWriteChecked, CanDelete, CanReadSeen, CanRead}
use Rattle.txn_steps_driven.specs.DriveChecked.{check_next, advance_next, write_at_next, delete_at_next}
use Rattle.txn_steps_driven.specs.DriveLaws.{write_next, list_next}
use Rattle.txn_steps_driven.specs.ListRuns.{CanList}
use Rattle.txn_steps_driven.specs.WriteRuns.{CanWrite}
use Rattle.txn_history.specs.Names.{world_names, world_boundary}
use Rattle.txn_store.specs.declared.types.error.TransactionalObjectError.{TransactionalObjectError}
use Rattle.txn_store.specs.types.Epochs.{claimed_epoch}
use Rattle.txn_machine.specs.declared.plain.doing.PlainDoing.{PlainDoing}
use Rattle.txn_machine.specs.declared.plain.doing.PlainDoing.TheVariants as doings
use Rattle.txn_machine.specs.plain.Doing as plain
use Rattle.txn_steps_views.specs.declared.outcome.Outcome.{Outcome}
use Rattle.txn_steps_views.specs.declared.entry.EntryOp.{EntryOp}
use Rattle.txn_steps_views.specs.declared.entry.EntryOp.TheVariants as entries
use Rattle.txn_steps_views.specs.declared.claiming.Claiming.{Claiming}
use Rattle.txn_steps_views.specs.declared.claiming.Claiming.TheVariants as claimings
use Rattle.txn_steps_views.specs.declared.op.ViewOp.{ViewOp}
use Rattle.txn_steps_views.specs.declared.op.ViewOp.TheVariants as views
use Rattle.txn_steps_views.specs.Entries.{written_turned, entry_turned}
use Rattle.txn_steps_views.specs.Readings.{seen}
use Rattle.txn_steps_views.specs.Attempts.{followed, attempt_turned, entered, entered_with, attempted_again, refreshed_turned, claiming_turned}
use Rattle.txn_steps_views.specs.ViewReads.{as_view_read, shown}
use Rattle.txn_steps_views.specs.ViewOps.{view_turned, held}
use Rattle.txn_machine.specs.declared.doing.Doing.{Doing}
use Rattle.txn_machine.specs.declared.doing.Doing.TheVariants as does
use Rattle.txn_machine.specs.Doing.{plain_next, view_next, turned}
use Rattle.txn_diary.specs.Taking.{CanDo, CanEnter, CanClaim, CanView, CanTake}
use Rattle.txn_steps_driven.specs.DriveReads as of_reads

-- where it goes on
abbrev Goes_on : {O A : Type 0} (Can : O → Type 0) → O × Turned A → Type 0
Goes_on Can next = Goes ≡ next.1 → Can next.0

write_goes : (op : WriteOp) (caches : Caches) (reply : Option Reply) → CanWriteChecked op → Goes_on CanWriteChecked (write_turned op caches reply)
write_goes op caches reply can goes = write_at_next op.step op caches reply refl can.0 can.0 can.1 goes

module _ (T : Type 0) where
  -- a plain operation goes on, or ends

  writes_on : (next : WriteOp × Turned (Result ℕ ℕ)) → Goes_on CanWriteChecked next → CanDo {T = T} (plain.write_next next).0
  writes_on (op, Goes) h = h refl
  writes_on (op, Done (Ok id)) h = tt
  writes_on (op, Done (Err number)) h = tt

  unchecked_on : (next : WriteUncheckedOp × Turned (Result ℕ ℕ)) → Goes_on CanWrite next → CanDo {T = T} (plain.unchecked_next next).0
  unchecked_on (op, Goes) h = h refl
  unchecked_on (op, Done (Ok id)) h = tt
  unchecked_on (op, Done (Err number)) h = tt

  read_on : (next : ReadOp T × Turned (ReadAnswer T)) → Goes_on CanRead next → CanDo (plain.read_next next).0
  read_on (op, Goes) h = h refl
  read_on (op, Done (Ok found)) h = tt
  read_on (op, Done (Err number)) h = tt

  value_on : (op : ReadUncheckedOp) (turn : Turned (Result (Option T) ℕ)) → CanGet op.request → CanDo (plain.value_next op turn).0
  value_on op Goes can = can
  value_on op (Done (Ok found)) can = tt
  value_on op (Done (Err number)) can = tt

  seen_on : (next : ReadSeenOp T × Turned (Result (Option T) ℕ)) → Goes_on CanReadSeen next → CanDo (plain.seen_next next).0
  seen_on (op, Goes) h = h refl
  seen_on (op, Done (Ok found)) h = tt
  seen_on (op, Done (Err number)) h = tt

  list_on : (next : ListOp × Turned (Result (List Listed) ℕ)) → CanList next.0.request → CanDo {T = T} (plain.ids_next next).0
  list_on (op, Goes) h = h
  list_on (op, Done (Ok found)) h = tt
  list_on (op, Done (Err number)) h = tt

  delete_on : (next : DeleteOp × Turned (Result (Unit {0}) ℕ)) → Goes_on CanDelete next → CanDo {T = T} (plain.delete_next next).0
  delete_on (op, Goes) h = h refl
  delete_on (op, Done (Ok done)) h = tt
  delete_on (op, Done (Err number)) h = tt

  check_on : (next : CheckOp × Turned (Result (Unit {0}) ℕ)) → CanCheck next.0 → CanDo {T = T} (plain.check_next next).0
  check_on (op, Goes) h = h
  check_on (op, Done (Ok done)) h = tt
  check_on (op, Done (Err number)) h = tt

  advance_on : (next : AdvanceOp × Turned (Result (Unit {0}) ℕ)) → CanAdvance next.0 → CanDo {T = T} (plain.advance_next next).0
  advance_on (op, Goes) h = h
  advance_on (op, Done (Ok done)) h = tt
  advance_on (op, Done (Err number)) h = tt

  lacking_on : (refused : Bool) (next : plain.Next T) → CanDo next.0 → CanDo (plain.or_no_memory refused next).0
  lacking_on true next h = tt
  lacking_on false next h = h

module _ {T : Type 0} (page : ℕ) (room : 1 ≤ page) (decode : List ℕ → Option T) where
  pub plain_turned : (refused : Bool) (doing : PlainDoing T) (caches : Caches) (reply : Option Reply) → CanDo doing → CanDo (plain.turned page decode refused doing caches reply).0
  plain_turned refused (doings.Write op) caches reply can = writes_on T (write_turned op caches reply) (write_goes op caches reply can)
  plain_turned refused (doings.WriteUnchecked op) caches reply can = unchecked_on T (unchecked_turned op reply) (write_next op reply can)
  plain_turned refused (doings.Read op) caches reply can = lacking_on T refused (plain.read_next (read_turned world_names world_boundary page decode op caches reply)) (read_on T (read_turned world_names world_boundary page decode op caches reply) (of_reads.read_next world_names page room decode world_boundary op caches reply can))
  plain_turned refused (doings.ReadUnchecked op) caches reply can = lacking_on T refused (plain.value_next op (seens.unchecked_turned decode reply)) (value_on T op (seens.unchecked_turned decode reply) can)
  plain_turned refused (doings.ReadSeen op) caches reply can = lacking_on T refused (plain.seen_next (seen_turned world_names decode op caches.latest reply)) (seen_on T (seen_turned world_names decode op caches.latest reply) (of_reads.seen_next world_names decode op caches.latest reply can))
  plain_turned refused (doings.ListIds op) caches reply can = lacking_on T refused (plain.ids_next (listing_turned world_names page op reply)) (list_on T (listing_turned world_names page op reply) (list_next world_names page room op reply can))
  plain_turned refused (doings.Delete op) caches reply can = delete_on T (delete_turned op caches reply) (delete_at_next op.step op caches reply can)
  plain_turned refused (doings.Check op) caches reply can = check_on T (check_turned op caches reply) (check_next op caches reply can)
  plain_turned refused (doings.Advance op) caches reply can = lacking_on T refused (plain.advance_next (advance_turned world_boundary op caches reply)) (advance_on T (advance_turned world_boundary op caches reply) (advance_next world_boundary op caches reply can))
  plain_turned refused doings.Ended caches reply can = tt

module _ {T : Type 0} where
  -- a call on a view goes on, or ends
  view_on : (next : ViewOp T × Turned (Result (Outcome T) ℕ)) → Goes_on CanView next → CanTake (view_next next).0
  view_on (op, Goes) h = h refl
  view_on (op, Done (Ok outcome)) h = tt
  view_on (op, Done (Err number)) h = tt

  held_on : {O : Type 0} (Can : O → Type 0) (whole : O → ViewOp T) (next : O × Turned (Result (Outcome T) ℕ)) → ((op : O) → Can op → CanView (whole op)) → Goes_on Can next → Goes_on CanView (held whole next)
  held_on Can whole next same h goes = same next.0 (h goes)

  lack_on : {O : Type 0} (Can : O → Type 0) (refused : Bool) (old : O) (next : O × Turned (Result (Outcome T) ℕ)) → Goes_on Can next → Goes_on Can (unless_lacking refused old next)
  lack_on Can true old next h goes = absurd (cc)
  lack_on Can false old next h goes = h goes

  entry_on : (value : T) (next : WriteOp × Turned (Result ℕ ℕ)) → Goes_on CanWriteChecked next → Goes_on CanEnter (written_turned value next)
  entry_on value (op, Goes) h goes = h refl
  entry_on value (op, Done answer) h goes = absurd (cc)

  entry_goes : (op : EntryOp T) (caches : Caches) (reply : Option Reply) → CanEnter op → Goes_on CanEnter (entry_turned op caches reply)
  entry_goes (entries.Writes write value) caches reply can = entry_on value (write_turned write caches reply) (write_goes write caches reply can)
  entry_goes entries.Ended caches reply can = absurd can

  reads_on : {O : Type 0} (Can : O → Type 0) (whole : ReadOp T → O) (see : Option (ℕ × T) → Result (Outcome T) ℕ) (next : ReadOp T × Turned (ReadAnswer T)) → ((read : ReadOp T) → CanRead read → Can (whole read)) → Goes_on CanRead next → Goes_on Can (seen whole see next)
  reads_on Can whole see (read, Goes) same h goes = same read (h refl)
  reads_on Can whole see (read, Done (Ok found)) same h goes = absurd (cc)
  reads_on Can whole see (read, Done (Err number)) same h goes = absurd (cc)

  attempt_on : (value : T) (epoch : ℕ) (next : WriteOp × Turned (Result ℕ ℕ)) → Goes_on CanWriteChecked next → Goes_on CanClaim (attempt_turned world_boundary value epoch next)
  attempt_on value epoch (op, Goes) h goes = h refl
  attempt_on value epoch (op, Done (Ok id)) h goes = absurd (cc)
  attempt_on value epoch (op, Done (Err number)) h goes = by (number == 5) goes
    where
      by : (conflict : Bool) → Goes_on CanClaim (if◌then◌else◌ {A = Claiming T × Turned (Result (Outcome T) ℕ)} conflict (claimings.Reads (read_started world_boundary), Goes) (claimings.Ended, Done (Err number)))
      by true goes = (tt, tt)
      by false goes = absurd (cc)

module _ {T : Type 0} (page : ℕ) (room : 1 ≤ page) (encode : T → List ℕ) (decode : List ℕ → Option T) (get_epoch : T → ℕ) (set_epoch : T → ℕ → T) where
  entered_can : (epoch id : ℕ) (value : T) → Goes_on CanClaim (followed (entered world_names world_boundary encode set_epoch epoch id value))
  entered_can epoch id value = by (id == 18446744073709551615)
    where
      by : (last : Bool) → Goes_on CanClaim (followed (if last then Err 10 else Ok (claimings.Writes (write_started world_names world_boundary (Some id) (encode (set_epoch value epoch))) (set_epoch value epoch) epoch)))
      by true goes = absurd (cc)
      by false goes = (tt, tt)

  with_can : (asked : Result ℕ TransactionalObjectError) (id : ℕ) (value : T) → Goes_on CanClaim (followed (entered_with world_names world_boundary encode set_epoch asked id value))
  with_can (Ok epoch) id value goes = entered_can epoch id value goes
  with_can (Err error) id value goes = absurd (cc)

  again_can : (asked : Option ℕ) (found : Option (ℕ × T)) → Goes_on CanClaim (followed (attempted_again world_names world_boundary encode get_epoch set_epoch asked found))
  again_can asked (Some found) goes = with_can (claimed_epoch asked (get_epoch found.1)) found.0 found.1 goes
  again_can asked None goes = absurd (cc)

  refreshed_on : (asked : Option ℕ) (next : ReadOp T × Turned (ReadAnswer T)) → Goes_on CanRead next → Goes_on CanClaim (refreshed_turned world_names world_boundary encode get_epoch set_epoch asked next)
  refreshed_on asked (read, Goes) h goes = h refl
  refreshed_on asked (read, Done (Ok found)) h goes = again_can asked found goes
  refreshed_on asked (read, Done (Err number)) h goes = absurd (cc)

  read_goes : (op : ReadOp T) (caches : Caches) (reply : Option Reply) → CanRead op → Goes_on CanRead (read_turned world_names world_boundary page decode op caches reply)
  read_goes op caches reply can = of_reads.read_next world_names page room decode world_boundary op caches reply can

  claim_goes : (asked : Option ℕ) (op : Claiming T) (caches : Caches) (reply : Option Reply) → CanClaim op → Goes_on CanClaim (claiming_turned world_names world_boundary page encode decode get_epoch set_epoch asked op caches reply)
  claim_goes asked (claimings.Writes write value epoch) caches reply can = attempt_on value epoch (write_turned write caches reply) (write_goes write caches reply can)
  claim_goes asked (claimings.Reads read) caches reply can = refreshed_on asked (read_turned world_names world_boundary page decode read caches reply) (read_goes read caches reply can)
  claim_goes asked claimings.Ended caches reply can = absurd can

  pub view_goes : (refused : Bool) (op : ViewOp T) (caches : Caches) (reply : Option Reply) → CanView op → Goes_on CanView (view_turned world_names world_boundary page encode decode get_epoch set_epoch refused op caches reply)
  view_goes refused (views.Enters op) caches reply can goes = entry_goes op caches reply can goes
  view_goes refused (views.Reads op) caches reply can goes =
      lack_on (λ o. CanRead o.read) refused _ _ (reads_on (λ o. CanRead o.read) (as_view_read op.purpose) (shown get_epoch op.purpose) (read_turned world_names world_boundary page decode op.read caches reply) (λ read h. h) (read_goes op.read caches reply can)) goes
  view_goes refused (views.Claims op) caches reply can goes = lack_on (λ o. CanClaim o.claiming) refused _ _ (claim_goes op.asked op.claiming caches reply can) goes

  plain_next_can : (next : plain.Next T) → CanDo next.0 → CanTake (plain_next next).0
  plain_next_can (doing, None) can = can
  plain_next_can (doing, Some answer) can = can

  pub turned_can : (refused : Bool) (doing : Doing T) (caches : Caches) (reply : Option Reply) → CanTake doing → CanTake (turned page encode decode get_epoch set_epoch refused doing caches reply).0
  turned_can refused (does.Plain doing) caches reply can = plain_next_can (plain.turned page decode refused doing caches reply) (plain_turned page room decode refused doing caches reply can)
  turned_can refused (does.View op) caches reply can = view_on (view_turned world_names world_boundary page encode decode get_epoch set_epoch refused op caches reply) (view_goes refused op caches reply can)
