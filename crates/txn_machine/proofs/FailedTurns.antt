-- What an operation makes of a store call that failed: it ends with the refusal 2, and leaves its client's caches.
use Rattle.std.proofs.Common.{◌≡◌, ℕ, List, Bool, false, Option, Some, None, Result, Ok, Err, refl, ◌∙◌, ap}
use Rattle.std.proofs.lemmas.Option.{same_Some}
use Rattle.txn_store.specs.Paths.{Segments}
use Rattle.txn_store.specs.VersionName.{Names}
use Rattle.txn_store.specs.declared.store.StoreError.{StoreError}
use Rattle.txn_store.specs.declared.store.StoreError.TheVariants as errors
use Rattle.txn_store.specs.declared.request.Reply.{Reply}
use Rattle.txn_store.specs.declared.request.Reply.TheVariants as replies
use Rattle.txn_steps.specs.declared.boundary.caches.Cached.{Cached}
use Rattle.txn_steps.specs.declared.boundary.caches.CachedBoundary.{CachedBoundary}
use Rattle.txn_steps.specs.declared.boundary.caches.Caches.{Caches}
use Rattle.txn_steps.specs.declared.boundary.boundary_read.BoundaryRead.{BoundaryRead}
use Rattle.txn_steps.specs.declared.boundary.boundary_read.BoundaryRead.TheVariants as reading
use Rattle.txn_steps.specs.declared.boundary.check.BoundaryStep.{BoundaryStep}
use Rattle.txn_steps.specs.declared.boundary.check.BoundaryStep.TheVariants as boundary_step
use Rattle.txn_steps.specs.declared.boundary.check.BoundaryCheck.{BoundaryCheck}
use Rattle.txn_steps.specs.declared.boundary.check.CheckOp.{CheckOp}
use Rattle.txn_steps.specs.declared.boundary.check.CheckOp.TheVariants as checks
use Rattle.txn_steps.specs.declared.boundary.advance.BoundaryAdvance.{BoundaryAdvance}
use Rattle.txn_steps.specs.declared.boundary.advance.BoundaryAdvance.TheVariants as raising
use Rattle.txn_steps.specs.declared.boundary.advance.AdvanceOp.{AdvanceOp}
use Rattle.txn_steps.specs.declared.boundary.advance.AdvanceOp.TheVariants as advances
use Rattle.txn_steps.specs.declared.boundary.turned.Turned.{Turned}
use Rattle.txn_steps.specs.declared.boundary.turned.Turned.TheVariants.{Goes, Done}
use Rattle.txn_steps.specs.boundary.Boundaries.{Known}
use Rattle.txn_steps.specs.boundary.Asking.{IsGot, IsListed}
use Rattle.txn_steps.specs.boundary.Steps.{error_in, reply_error}
use Rattle.txn_steps.specs.boundary.BoundaryReads.{boundary_got, boundary_turned, boundary_cached, IsBoundaryReply}
use Rattle.txn_steps.specs.boundary.BoundaryChecks as check_steps
use Rattle.txn_steps.specs.boundary.BoundaryChecks.{turned_at, cached_at, boundary_check_turned, boundary_check_cached, IsReplyAt, IsBoundaryCheckReply}
use Rattle.txn_steps.specs.boundary.Checks.{checks_turned, check_turned, check_caches, IsCheckReply}
use Rattle.txn_steps.specs.boundary.BoundaryAdvances.{advance_read, put_answered, boundary_advance_turned, boundary_advance_cached, IsBoundaryAdvanceReply}
use Rattle.txn_steps.specs.boundary.Advances.{raises_turned, advance_turned, advance_caches, IsAdvanceReply}
use Rattle.txn_steps.specs.declared.write.WriteUncheckedOp.{WriteUncheckedOp}
use Rattle.txn_steps.specs.declared.write.WriteUncheckedOp.TheVariants as unchecked
use Rattle.txn_steps.specs.declared.write.WriteStep.{WriteStep}
use Rattle.txn_steps.specs.declared.write.WriteStep.TheVariants as writes
use Rattle.txn_steps.specs.declared.write.WriteOp.{WriteOp}
use Rattle.txn_steps.specs.declared.latest.LatestOp.{LatestOp}
use Rattle.txn_steps.specs.declared.latest.LatestOp.TheVariants as latest
use Rattle.txn_steps.specs.declared.read.ReadOp.{ReadOp}
use Rattle.txn_steps.specs.declared.read.ReadOp.TheVariants as reads
use Rattle.txn_steps.specs.declared.seen.ReadSeenOp.{ReadSeenOp}
use Rattle.txn_steps.specs.declared.seen.ReadSeenOp.TheVariants as seen
use Rattle.txn_steps.specs.declared.seen.ReadUncheckedOp.{ReadUncheckedOp}
use Rattle.txn_steps.specs.declared.listing.ListOp.{ListOp}
use Rattle.txn_steps.specs.declared.delete.RemovalStep.{RemovalStep}
use Rattle.txn_steps.specs.declared.delete.RemovalStep.TheVariants as removals
use Rattle.txn_steps.specs.declared.delete.DeleteStep.{DeleteStep}
use Rattle.txn_steps.specs.declared.delete.DeleteStep.TheVariants as deletes
use Rattle.txn_steps.specs.declared.delete.DeleteUncheckedOp.{DeleteUncheckedOp}
use Rattle.txn_steps.specs.declared.delete.DeleteOp.{DeleteOp}
use Rattle.txn_steps.specs.Writes as write_steps
use Rattle.txn_steps.specs.Writes.{unchecked_turned, unchecked_latest, IsUncheckedReply, write_turned_at, write_caches_at, IsWriteReplyAt, write_turned, write_caches, IsWriteReply}
use Rattle.txn_steps.specs.Latest.{ReadAnswer, probed, listed, latest_got, latest_turned, latest_window_after, IsLatestReply}
use Rattle.txn_steps.specs.Reads as read_steps
use Rattle.txn_steps.specs.Reads.{reads_turned, read_turned, read_caches_after, IsReadReply}
use Rattle.txn_steps.specs.SeenSteps.{value_got, seen_got, unchecked_turned as value_turned, seen_turned, seen_latest, IsSeenReply}
use Rattle.txn_steps.specs.Listed.{Listed}
use Rattle.txn_steps.specs.Listings.{listing_answered, listing_turned}
use Rattle.txn_steps.specs.Deletes as delete_steps
use Rattle.txn_steps.specs.Deletes.{removed, removal_turned_at, removal_latest_at, IsRemovalReplyAt, delete_turned_at, delete_caches_at, IsDeleteReplyAt, delete_turned, delete_caches, IsDeleteReply}
use Rattle.txn_history.specs.Names.{world_names, world_boundary}
use Rattle.txn_machine.specs.declared.plain.doing.PlainDoing.TheVariants as doings
use Rattle.txn_machine.specs.plain.Doing as plain
use Rattle.txn_steps_views.specs.declared.claiming.Claiming.{Claiming}
use Rattle.txn_steps_views.specs.declared.claiming.Claiming.TheVariants as claims
use Rattle.txn_steps_views.specs.declared.entry.EntryOp.{EntryOp}
use Rattle.txn_steps_views.specs.declared.entry.EntryOp.TheVariants as entries
use Rattle.txn_steps_views.specs.declared.op.ViewOp.TheVariants as ops
use Rattle.txn_steps_views.specs.declared.outcome.Outcome.{Outcome}
use Rattle.txn_steps_views.specs.Attempts.{attempt_turned, refreshed_turned, claiming_turned, claiming_caches_after, IsClaimingReply}
use Rattle.txn_steps_views.specs.Entries.{written_turned, entry_turned, entry_caches, IsEntryReply}
use Rattle.txn_steps_views.specs.Readings.{seen as seen_as}
use Rattle.txn_steps_views.specs.ViewReads.{as_view_read, shown}
use Rattle.txn_machine.specs.declared.doing.Doing.{Doing}
use Rattle.txn_machine.specs.declared.doing.Doing.TheVariants as does
use Rattle.txn_machine.specs.Doing.{Next, refused, plain_next, next_of, turned, caches_after, IsReply}

-- it says the refusal 2
abbrev EndsInFailure : {A : Type 0} → Turned (Result A ℕ) → Type 0
EndsInFailure told = told ≡ Done (Err 2)

-- the store's answer is that the call failed
failed_answer : {A : Type 0} (answer : Result A StoreError) → error_in answer ≡ Some errors.Failed → answer ≡ Err errors.Failed
failed_answer (Ok x) e = absurd (cc)
failed_answer (Err error) e = ap Err (same_Some error errors.Failed e)

-- the boundary

module _ (cached : Option CachedBoundary) (reply : Reply) (failed : reply_error reply ≡ Some errors.Failed) where
  read_fails : (read : BoundaryRead) → IsBoundaryReply read (Some reply) → EndsInFailure (boundary_turned read cached (Some reply)).1 × (boundary_cached read cached ≡ cached)
  read_fails read is = by read reply failed is
    where
      by : (read : BoundaryRead) (r : Reply) → reply_error r ≡ Some errors.Failed → IsBoundaryReply read (Some r) → EndsInFailure (boundary_turned read cached (Some r)).1 × (boundary_cached read cached ≡ cached)
      by (reading.Gets request) (replies.Get answer) f i = (ap (λ (a : Result _ StoreError). (boundary_got (reading.Gets request) a).1) (failed_answer answer f), refl)
      by (reading.Gets request) (replies.Put answer) f i = absurd i
      by (reading.Gets request) (replies.List answer) f i = absurd i
      by (reading.Gets request) (replies.Delete answer) f i = absurd i
      by (reading.Looks path) r f i = absurd i
      by (reading.Holds known) r f i = absurd i

  bound_reads : (op : BoundaryCheck) (x : BoundaryRead × Turned (Result Known ℕ)) → EndsInFailure x.1 → EndsInFailure (check_steps.reads_turned op x).1
  bound_reads op x e = ap (λ (t : Turned (Result Known ℕ)). (check_steps.reads_turned op (x.0, t)).1) e

  bound_at : (step : BoundaryStep) (op : BoundaryCheck) → IsReplyAt step op.read (Some reply) → EndsInFailure (turned_at step op cached (Some reply)).1 × (cached_at step op.read cached ≡ cached)
  bound_at boundary_step.Looks op is = absurd is
  bound_at boundary_step.Reads op is = (let r = read_fails op.read is in (bound_reads op (boundary_turned op.read cached (Some reply)) r.0, r.1))

  bound_fails : (op : BoundaryCheck) → IsBoundaryCheckReply op (Some reply) → EndsInFailure (boundary_check_turned op cached (Some reply)).1 × (boundary_check_cached op cached ≡ cached)
  bound_fails op is = bound_at op.step op is

  raise_read : (path : Segments) (target : ℕ) (again : Bool) (x : BoundaryRead × Turned (Result Known ℕ)) → EndsInFailure x.1 → EndsInFailure (advance_read path target again x).1
  raise_read path target again x e = ap (λ (t : Turned (Result Known ℕ)). (advance_read path target again (x.0, t)).1) e

  raise_fails : (path : Segments) (op : BoundaryAdvance) → IsBoundaryAdvanceReply op (Some reply) → EndsInFailure (boundary_advance_turned path op cached (Some reply)).1 × (boundary_advance_cached op cached ≡ cached)
  raise_fails path (raising.Looks target) is = absurd is
  raise_fails path (raising.Keeps target token) is = absurd is
  raise_fails path (raising.Reads target again read) is = (let r = read_fails read is in (raise_read path target again (boundary_turned read cached (Some reply)) r.0, r.1))
  raise_fails path (raising.Puts target request) is = (by reply failed is, refl)
    where
      by : (r : Reply) → reply_error r ≡ Some errors.Failed → IsBoundaryAdvanceReply (raising.Puts target request) (Some r) → EndsInFailure (boundary_advance_turned path (raising.Puts target request) cached (Some r)).1
      by (replies.Put answer) f i = ap (λ (a : Result ℕ StoreError). (put_answered path (raising.Puts target request) target a).1) (failed_answer answer f)
      by (replies.Get answer) f i = absurd i
      by (replies.List answer) f i = absurd i
      by (replies.Delete answer) f i = absurd i

-- caches of the same parts
same_caches : (caches : Caches) (versions : List Cached) (bound : Option CachedBoundary) → versions ≡ caches.latest → bound ≡ caches.boundary → ◌≡◌ {A = Caches} (record { latest = versions; boundary = bound }) caches
same_caches caches versions bound e f = ap (λ (vs : List Cached). record { latest = vs; boundary = bound }) e ∙ ap (λ (b : Option CachedBoundary). record { latest = caches.latest; boundary = b }) f

module _ (caches : Caches) (reply : Reply) (failed : reply_error reply ≡ Some errors.Failed) where
  check_told : (id : ℕ) (x : BoundaryCheck × Turned (Result (Unit {0}) ℕ)) → EndsInFailure x.1 → EndsInFailure (checks_turned id x).1
  check_told id x e = ap (λ (t : Turned (Result (Unit {0}) ℕ)). (checks_turned id (x.0, t)).1) e

  check_fails : (op : CheckOp) → IsCheckReply op (Some reply) → EndsInFailure (check_turned op caches (Some reply)).1 × (check_caches op caches ≡ caches)
  check_fails (checks.Checks check) is =
      let b = bound_fails caches.boundary reply failed check is in
      (check_told check.id (boundary_check_turned check caches.boundary (Some reply)) b.0, same_caches caches caches.latest (boundary_check_cached check caches.boundary) refl b.1)
  check_fails (checks.Drops id) is = absurd is

  raises_told : (target : ℕ) (x : BoundaryAdvance × Turned (Result (Unit {0}) ℕ)) → EndsInFailure x.1 → EndsInFailure (raises_turned target x).1
  raises_told target x e = ap (λ (t : Turned (Result (Unit {0}) ℕ)). (raises_turned target (x.0, t)).1) e

  advance_fails : (path : Segments) (op : AdvanceOp) → IsAdvanceReply op (Some reply) → EndsInFailure (advance_turned path op caches (Some reply)).1 × (advance_caches op caches ≡ caches)
  advance_fails path (advances.Raises target raise) is =
      let r = raise_fails caches.boundary reply failed path raise is in
      (raises_told target (boundary_advance_turned path raise caches.boundary (Some reply)) r.0, same_caches caches caches.latest (boundary_advance_cached raise caches.boundary) refl r.1)
  advance_fails path (advances.Drops target) is = absurd is

  -- writes and deletes

  unchecked_fails : (op : WriteUncheckedOp) → IsUncheckedReply op (Some reply) → EndsInFailure (unchecked_turned op (Some reply)).1 × (unchecked_latest op caches.latest ≡ caches.latest)
  unchecked_fails op is = by op reply failed is
    where
      by : (op : WriteUncheckedOp) (r : Reply) → reply_error r ≡ Some errors.Failed → IsUncheckedReply op (Some r) → EndsInFailure (unchecked_turned op (Some r)).1 × (unchecked_latest op caches.latest ≡ caches.latest)
      by (unchecked.Puts version request) (replies.Put answer) f i = (ap (λ (a : Result ℕ StoreError). (write_steps.put_answered (unchecked.Puts version request) a).1) (failed_answer answer f), refl)
      by (unchecked.Puts version request) (replies.Get answer) f i = absurd i
      by (unchecked.Puts version request) (replies.List answer) f i = absurd i
      by (unchecked.Puts version request) (replies.Delete answer) f i = absurd i
      by (unchecked.Keeps version) r f i = absurd i
      by unchecked.Ended r f i = absurd i

  written_told : (op : WriteOp) (x : WriteUncheckedOp × Turned (Result ℕ ℕ)) → EndsInFailure x.1 → EndsInFailure (write_steps.written_turned op x).1
  written_told op x e = ap (λ (t : Turned (Result ℕ ℕ)). (write_steps.written_turned op (x.0, t)).1) e

  checked_told : (op : WriteOp) (x : CheckOp × Turned (Result (Unit {0}) ℕ)) → EndsInFailure x.1 → EndsInFailure (write_steps.checked_turned op x).1
  checked_told op x e = ap (λ (t : Turned (Result (Unit {0}) ℕ)). (write_steps.checked_turned op (x.0, t)).1) e

  write_at : (step : WriteStep) (op : WriteOp) → IsWriteReplyAt step op (Some reply) → EndsInFailure (write_turned_at step op caches (Some reply)).1 × (write_caches_at step op caches ≡ caches)
  write_at writes.Writes op is =
      let w = unchecked_fails op.write is in
      (written_told op (unchecked_turned op.write (Some reply)) w.0, same_caches caches (unchecked_latest op.write caches.latest) caches.boundary w.1 refl)
  write_at writes.Checks op is = (let c = check_fails op.check is in (checked_told op (check_turned op.check caches (Some reply)) c.0, c.1))

  write_fails : (op : WriteOp) → IsWriteReply op (Some reply) → EndsInFailure (write_turned op caches (Some reply)).1 × (write_caches op caches ≡ caches)
  write_fails op is = write_at op.step op is

  removal_at : (step : RemovalStep) (op : DeleteUncheckedOp) → IsRemovalReplyAt step (Some reply) → EndsInFailure (removal_turned_at step op (Some reply)).1 × (removal_latest_at step op.id caches.latest ≡ caches.latest)
  removal_at step op is = by step reply failed is
    where
      by : (step : RemovalStep) (r : Reply) → reply_error r ≡ Some errors.Failed → IsRemovalReplyAt step (Some r) → EndsInFailure (removal_turned_at step op (Some r)).1 × (removal_latest_at step op.id caches.latest ≡ caches.latest)
      by removals.Removes (replies.Delete answer) f i = (ap (λ (a : Result (Unit {0}) StoreError). (removed op a).1) (failed_answer answer f), refl)
      by removals.Removes (replies.Put answer) f i = absurd i
      by removals.Removes (replies.Get answer) f i = absurd i
      by removals.Removes (replies.List answer) f i = absurd i
      by removals.Drops r f i = absurd i

  delete_told : (op : DeleteOp) (x : CheckOp × Turned (Result (Unit {0}) ℕ)) → EndsInFailure x.1 → EndsInFailure (delete_steps.checks_turned op x).1
  delete_told op x e = ap (λ (t : Turned (Result (Unit {0}) ℕ)). (delete_steps.checks_turned op (x.0, t)).1) e

  delete_at : (step : DeleteStep) (op : DeleteOp) → IsDeleteReplyAt step op (Some reply) → EndsInFailure (delete_turned_at step op caches (Some reply)).1 × (delete_caches_at step op caches ≡ caches)
  delete_at deletes.Checks op is = (let c = check_fails op.check is in (delete_told op (check_turned op.check caches (Some reply)) c.0, c.1))
  delete_at deletes.Removes op is =
      let r = removal_at op.removal.step op.removal is in
      (r.0, same_caches caches (removal_latest_at op.removal.step op.removal.id caches.latest) caches.boundary r.1 refl)

  delete_fails : (op : DeleteOp) → IsDeleteReply op (Some reply) → EndsInFailure (delete_turned op caches (Some reply)).1 × (delete_caches op caches ≡ caches)
  delete_fails op is = delete_at op.step op is

  -- reads

  module _ {T : Type 0} (names : Names) (page : ℕ) (decode : List ℕ → Option T) where
    latest_fails : (op : LatestOp T) → IsLatestReply op (Some reply) → EndsInFailure (latest_turned names page decode op caches.latest (Some reply)).1 × ((told : Turned (ReadAnswer T)) → latest_window_after op caches.latest told ≡ caches.latest)
    latest_fails op is = by op reply failed is
      where
        by : (op : LatestOp T) (r : Reply) → reply_error r ≡ Some errors.Failed → IsLatestReply op (Some r) → EndsInFailure (latest_turned names page decode op caches.latest (Some r)).1 × ((told : Turned (ReadAnswer T)) → latest_window_after op caches.latest told ≡ caches.latest)
        by (latest.Probes hand found next request) (replies.Get answer) f i = (ap (λ (a : Result _ StoreError). (probed decode (latest.Probes hand found next request) hand found next a).1) (failed_answer answer f), λ told. refl)
        by (latest.Probes hand found next request) (replies.Put answer) f i = absurd i
        by (latest.Probes hand found next request) (replies.List answer) f i = absurd i
        by (latest.Probes hand found next request) (replies.Delete answer) f i = absurd i
        by (latest.Lists found request) (replies.List answer) f i = (ap (λ (a : Result _ StoreError). (listed names page (latest.Lists found request) found a).1) (failed_answer answer f), λ told. refl)
        by (latest.Lists found request) (replies.Put answer) f i = absurd i
        by (latest.Lists found request) (replies.Get answer) f i = absurd i
        by (latest.Lists found request) (replies.Delete answer) f i = absurd i
        by (latest.Gets id request) (replies.Get answer) f i = (ap (λ (a : Result _ StoreError). (latest_got names page decode (latest.Gets id request) id a).1) (failed_answer answer f), λ told. refl)
        by (latest.Gets id request) (replies.Put answer) f i = absurd i
        by (latest.Gets id request) (replies.List answer) f i = absurd i
        by (latest.Gets id request) (replies.Delete answer) f i = absurd i
        by latest.Looks r f i = absurd i
        by (latest.Finds successor found) r f i = absurd i
        by (latest.Chooses greatest) r f i = absurd i
        by (latest.Keeps version value) r f i = absurd i
        by (latest.Drops id) r f i = absurd i
        by latest.Ended r f i = absurd i

    reads_told : (boundary : BoundaryRead) (x : LatestOp T × Turned (ReadAnswer T)) → EndsInFailure x.1 → EndsInFailure (reads_turned boundary x).1
    reads_told boundary (op, Goes) e = absurd (cc)
    reads_told boundary (op, Done (Ok None)) e = absurd (cc)
    reads_told boundary (op, Done (Ok (Some found))) e = absurd (cc)
    reads_told boundary (op, Done (Err number)) e = e

    found_told : (path : Segments) (id : ℕ) (value : T) (x : CheckOp × Turned (Result (Unit {0}) ℕ)) → EndsInFailure x.1 → EndsInFailure (read_steps.checks_turned path id value x).1
    found_told path id value x e = ap (λ (t : Turned (Result (Unit {0}) ℕ)). (read_steps.checks_turned path id value (x.0, t)).1) e

    read_op_fails : (path : Segments) (op : ReadOp T) → IsReadReply op (Some reply) → EndsInFailure (read_turned names path page decode op caches (Some reply)).1 × ((told : Turned (ReadAnswer T)) → read_caches_after op caches told ≡ caches)
    read_op_fails path (reads.Reads op boundary) is =
        let l = latest_fails op is in
        (reads_told boundary (latest_turned names page decode op caches.latest (Some reply)) l.0, λ told. same_caches caches (latest_window_after op caches.latest told) caches.boundary (l.1 told) refl)
    read_op_fails path (reads.Checks id value check) is = (let c = check_fails check is in (found_told path id value (check_turned check caches (Some reply)) c.0, λ told. c.1))
    read_op_fails path reads.Ended is = absurd is

    value_fails : IsGot (Some reply) → EndsInFailure (value_turned decode (Some reply))
    value_fails is = by reply failed is
      where
        by : (r : Reply) → reply_error r ≡ Some errors.Failed → IsGot (Some r) → EndsInFailure (value_turned decode (Some r))
        by (replies.Get answer) f i = ap (λ (a : Result _ StoreError). Done (value_got decode a)) (failed_answer answer f)
        by (replies.Put answer) f i = absurd i
        by (replies.List answer) f i = absurd i
        by (replies.Delete answer) f i = absurd i

    seen_fails : (op : ReadSeenOp T) → IsSeenReply op (Some reply) → EndsInFailure (seen_turned names decode op caches.latest (Some reply)).1 × (seen_latest op caches.latest ≡ caches.latest)
    seen_fails op is = by op reply failed is
      where
        by : (op : ReadSeenOp T) (r : Reply) → reply_error r ≡ Some errors.Failed → IsSeenReply op (Some r) → EndsInFailure (seen_turned names decode op caches.latest (Some r)).1 × (seen_latest op caches.latest ≡ caches.latest)
        by (seen.Gets id request) (replies.Get answer) f i = (ap (λ (a : Result _ StoreError). (seen_got names decode (seen.Gets id request) id a).1) (failed_answer answer f), refl)
        by (seen.Gets id request) (replies.Put answer) f i = absurd i
        by (seen.Gets id request) (replies.List answer) f i = absurd i
        by (seen.Gets id request) (replies.Delete answer) f i = absurd i
        by (seen.Looks id) r f i = absurd i
        by (seen.Keeps version value) r f i = absurd i
        by seen.Ended r f i = absurd i

  list_fails : (names : Names) (page : ℕ) (op : ListOp) → IsListed (Some reply) → EndsInFailure (listing_turned names page op (Some reply)).1
  list_fails names page op is = by reply failed is
    where
      by : (r : Reply) → reply_error r ≡ Some errors.Failed → IsListed (Some r) → EndsInFailure (listing_turned names page op (Some r)).1
      by (replies.List answer) f i = ap (λ (a : Result _ StoreError). (listing_answered names page op a).1) (failed_answer answer f)
      by (replies.Put answer) f i = absurd i
      by (replies.Get answer) f i = absurd i
      by (replies.Delete answer) f i = absurd i

  -- calls on views

  module _ {T : Type 0} where
    entry_told : (value : T) (x : WriteOp × Turned (Result ℕ ℕ)) → EndsInFailure x.1 → EndsInFailure (written_turned value x).1
    entry_told value x e = ap (λ (t : Turned (Result ℕ ℕ)). (written_turned value (x.0, t)).1) e

    entry_fails : (op : EntryOp T) → IsEntryReply op (Some reply) → EndsInFailure (entry_turned op caches (Some reply)).1 × (entry_caches op caches ≡ caches)
    entry_fails (entries.Writes write value) is = (let w = write_fails write is in (entry_told value (write_turned write caches (Some reply)) w.0, w.1))
    entry_fails entries.Ended is = absurd is

    seen_told : {O : Type 0} (as_read : ReadOp T → O) (see : Option (ℕ × T) → Result (Outcome T) ℕ) (x : ReadOp T × Turned (ReadAnswer T)) → EndsInFailure x.1 → EndsInFailure (seen_as as_read see x).1
    seen_told as_read see x e = ap (λ (t : Turned (ReadAnswer T)). (seen_as as_read see (x.0, t)).1) e

  module _ {T : Type 0} (names : Names) (path : Segments) (page : ℕ) (encode : T → List ℕ) (decode : List ℕ → Option T) (epoch_of : T → ℕ) (with_epoch : T → ℕ → T) (asked : Option ℕ) where
    attempt_told : (value : T) (epoch : ℕ) (x : WriteOp × Turned (Result ℕ ℕ)) → EndsInFailure x.1 → EndsInFailure (attempt_turned path value epoch x).1
    attempt_told value epoch x e = ap (λ (t : Turned (Result ℕ ℕ)). (attempt_turned path value epoch (x.0, t)).1) e

    refresh_told : (x : ReadOp T × Turned (ReadAnswer T)) → EndsInFailure x.1 → EndsInFailure (refreshed_turned names path encode epoch_of with_epoch asked x).1
    refresh_told x e = ap (λ (t : Turned (ReadAnswer T)). (refreshed_turned names path encode epoch_of with_epoch asked (x.0, t)).1) e

    claiming_fails : (op : Claiming T) → IsClaimingReply op (Some reply) → EndsInFailure (claiming_turned names path page encode decode epoch_of with_epoch asked op caches (Some reply)).1 × ((told : Turned (Result (Outcome T) ℕ)) → claiming_caches_after op caches told ≡ caches)
    claiming_fails (claims.Writes write value epoch) is = (let w = write_fails write is in (attempt_told value epoch (write_turned write caches (Some reply)) w.0, λ told. w.1))
    claiming_fails (claims.Reads read) is = (let r = read_op_fails names page decode path read is in (refresh_told (read_turned names path page decode read caches (Some reply)) r.0, λ told. r.1 _))
    claiming_fails claims.Ended is = absurd is

module _ {T : Type 0} where
  -- an operation that says the refusal 2 ends with it

  plain_write : (x : WriteOp × Turned (Result ℕ ℕ)) → EndsInFailure x.1 → plain_next (plain.write_next x) ≡ refused {T = T} 2
  plain_write x e = ap (λ (t : Turned (Result ℕ ℕ)). plain_next (plain.write_next (x.0, t))) e

  plain_unchecked : (x : WriteUncheckedOp × Turned (Result ℕ ℕ)) → EndsInFailure x.1 → plain_next (plain.unchecked_next x) ≡ refused {T = T} 2
  plain_unchecked x e = ap (λ (t : Turned (Result ℕ ℕ)). plain_next (plain.unchecked_next (x.0, t))) e

  plain_read : (x : ReadOp T × Turned (ReadAnswer T)) → EndsInFailure x.1 → plain_next (plain.read_next x) ≡ refused {T = T} 2
  plain_read x e = ap (λ (t : Turned (ReadAnswer T)). plain_next (plain.read_next (x.0, t))) e

  plain_value : (op : ReadUncheckedOp) (told : Turned (Result (Option T) ℕ)) → EndsInFailure told → plain_next (plain.value_next op told) ≡ refused {T = T} 2
  plain_value op told e = ap (λ (t : Turned (Result (Option T) ℕ)). plain_next (plain.value_next op t)) e

  plain_seen : (x : ReadSeenOp T × Turned (Result (Option T) ℕ)) → EndsInFailure x.1 → plain_next (plain.seen_next x) ≡ refused {T = T} 2
  plain_seen x e = ap (λ (t : Turned (Result (Option T) ℕ)). plain_next (plain.seen_next (x.0, t))) e

  plain_ids : (x : ListOp × Turned (Result (List Listed) ℕ)) → EndsInFailure x.1 → plain_next (plain.ids_next x) ≡ refused {T = T} 2
  plain_ids x e = ap (λ (t : Turned (Result (List Listed) ℕ)). plain_next (plain.ids_next (x.0, t))) e

  plain_delete : (x : DeleteOp × Turned (Result (Unit {0}) ℕ)) → EndsInFailure x.1 → plain_next (plain.delete_next x) ≡ refused {T = T} 2
  plain_delete x e = ap (λ (t : Turned (Result (Unit {0}) ℕ)). plain_next (plain.delete_next (x.0, t))) e

  plain_check : (x : CheckOp × Turned (Result (Unit {0}) ℕ)) → EndsInFailure x.1 → plain_next (plain.check_next x) ≡ refused {T = T} 2
  plain_check x e = ap (λ (t : Turned (Result (Unit {0}) ℕ)). plain_next (plain.check_next (x.0, t))) e

  plain_advance : (x : AdvanceOp × Turned (Result (Unit {0}) ℕ)) → EndsInFailure x.1 → plain_next (plain.advance_next x) ≡ refused {T = T} 2
  plain_advance x e = ap (λ (t : Turned (Result (Unit {0}) ℕ)). plain_next (plain.advance_next (x.0, t))) e

  view_ends : (op : Doing T) (told : Turned (Result (Outcome T) ℕ)) → EndsInFailure told → next_of op told ≡ refused 2
  view_ends op told e = ap (λ (t : Turned (Result (Outcome T) ℕ)). next_of op t) e

module _ {T : Type 0} (page : ℕ) (encode : T → List ℕ) (decode : List ℕ → Option T) (get_epoch : T → ℕ) (set_epoch : T → ℕ → T) (caches : Caches) (reply : Reply) (failed : reply_error reply ≡ Some errors.Failed) where
  abbrev After : Doing T → Next T
  After doing = turned page encode decode get_epoch set_epoch false doing caches (Some reply)

  pub failed_turn : (doing : Doing T) → IsReply doing (Some reply) → (After doing ≡ refused 2) × (caches_after doing caches (refused {T = T} 2).1 ≡ caches)
  failed_turn (does.Plain (doings.Write op)) is = (let w = write_fails caches reply failed op is in (plain_write (write_turned op caches (Some reply)) w.0, w.1))
  failed_turn (does.Plain (doings.WriteUnchecked op)) is = (let w = unchecked_fails caches reply failed op is in (plain_unchecked (unchecked_turned op (Some reply)) w.0, same_caches caches (unchecked_latest op caches.latest) caches.boundary w.1 refl))
  failed_turn (does.Plain (doings.Read op)) is =
      (let r = read_op_fails caches reply failed world_names page decode world_boundary op is in (plain_read (read_turned world_names world_boundary page decode op caches (Some reply)) r.0, r.1 _))
  failed_turn (does.Plain (doings.ReadUnchecked op)) is = (plain_value op (value_turned decode (Some reply)) (value_fails caches reply failed world_names page decode is), refl)
  failed_turn (does.Plain (doings.ReadSeen op)) is =
      (let s = seen_fails caches reply failed world_names page decode op is in (plain_seen (seen_turned world_names decode op caches.latest (Some reply)) s.0, same_caches caches (seen_latest op caches.latest) caches.boundary s.1 refl))
  failed_turn (does.Plain (doings.ListIds op)) is = (plain_ids (listing_turned world_names page op (Some reply)) (list_fails caches reply failed world_names page op is), refl)
  failed_turn (does.Plain (doings.Delete op)) is = (let d = delete_fails caches reply failed op is in (plain_delete (delete_turned op caches (Some reply)) d.0, d.1))
  failed_turn (does.Plain (doings.Check op)) is = (let c = check_fails caches reply failed op is in (plain_check (check_turned op caches (Some reply)) c.0, c.1))
  failed_turn (does.Plain (doings.Advance op)) is = (let a = advance_fails caches reply failed world_boundary op is in (plain_advance (advance_turned world_boundary op caches (Some reply)) a.0, a.1))
  failed_turn (does.Plain doings.Ended) is = absurd is
  failed_turn (does.View (ops.Enters op)) is = (let e = entry_fails caches reply failed op is in (view_ends _ (entry_turned op caches (Some reply)).1 e.0, e.1))
  failed_turn (does.View (ops.Reads op)) is =
      let r = read_op_fails caches reply failed world_names page decode world_boundary op.read is in
      let turn = read_turned world_names world_boundary page decode op.read caches (Some reply) in
      let next = seen_as (as_view_read op.purpose) (shown get_epoch op.purpose) turn in
      (view_ends (does.View (ops.Reads next.0)) next.1 (seen_told caches reply failed (as_view_read op.purpose) (shown get_epoch op.purpose) turn r.0), r.1 _)
  failed_turn (does.View (ops.Claims op)) is =
      (let c = claiming_fails caches reply failed world_names world_boundary page encode decode get_epoch set_epoch op.asked op.claiming is in (view_ends _ _ c.0, c.1 _))
