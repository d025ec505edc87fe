-- The looks and calls of the writes of these calls, and the range of their reads.
use Rattle.std.proofs.Common.{◌≡◌, ℕ, ◌==◌, Bool, true, false, List, if◌then◌else◌, Option, Some, None, Result, Ok, Err}
use Rattle.txn_store.specs.Paths.{Segments}
use Rattle.txn_store.specs.VersionName.{Names}
use Rattle.txn_store.specs.declared.request.Reply.{Reply}
use Rattle.txn_store.specs.types.Numbers.{number_of}
use Rattle.txn_store.specs.types.Epochs.{claimed_epoch}
use Rattle.txn_store.specs.declared.types.error.TransactionalObjectError.{TransactionalObjectError}
use Rattle.txn_steps.specs.declared.boundary.caches.Caches.{Caches}
use Rattle.txn_steps.specs.declared.boundary.turned.Turned.{Turned}
use Rattle.txn_steps.specs.declared.boundary.turned.Turned.TheVariants.{Goes, Done}
use Rattle.txn_steps.specs.boundary.Counts.{Budget, budget_after, SpendsOne}
use Rattle.txn_steps.specs.declared.read.ReadOp.{ReadOp}
use Rattle.txn_steps.specs.declared.write.WriteOp.{WriteOp}
use Rattle.txn_steps.specs.CallsLeft.{write_budget}
use Rattle.txn_steps.specs.Latest.{ReadAnswer}
use Rattle.txn_steps.specs.Reads.{read_started, read_turned, IsInRange}
use Rattle.txn_steps.specs.Writes.{write_started, write_turned}
use Rattle.txn_steps.proofs.CallLemmas.{write_spends}
use Rattle.txn_steps.proofs.RangeLemmas.{read_stays}
use Rattle.txn_steps_views.specs.declared.outcome.Outcome.{Outcome}
use Rattle.txn_steps_views.specs.declared.claiming.Claiming.{Claiming}
use Rattle.txn_steps_views.specs.declared.claiming.Claiming.TheVariants as claims
use Rattle.txn_steps_views.specs.declared.entry.EntryOp.{EntryOp}
use Rattle.txn_steps_views.specs.declared.entry.EntryOp.TheVariants.{Writes, Ended}
use Rattle.txn_steps_views.specs.declared.view_read.ViewReadOp.{ViewReadOp}
use Rattle.txn_steps_views.specs.Attempts.{attempt_turned, entered_with, attempted_again, refreshed_turned, followed, claiming_turned, IsClaimingInRange}
use Rattle.txn_steps_views.specs.CallsLeft.{entry_budget}
use Rattle.txn_steps_views.specs.Entries.{entry_started, entry_turned, written_turned, IsEntryReply}
use Rattle.txn_steps_views.specs.Readings.{seen}
use Rattle.txn_steps_views.specs.ViewReads.{as_view_read, shown, view_read_turned, IsViewReadInRange}

abbrev after_write : WriteOp × Turned (Result ℕ ℕ) → Budget
after_write next = budget_after next.1 (write_budget next.0)

module _ {T : Type 0} where
  abbrev after_entry : EntryOp T × Turned (Result (Outcome T) ℕ) → Budget
  after_entry next = budget_after next.1 (entry_budget next.0)

  written_spends : (reply : Option Reply) (before : Budget) (value : T) (next : WriteOp × Turned (Result ℕ ℕ)) → SpendsOne reply before (after_write next) → SpendsOne reply before (after_entry (written_turned value next))
  written_spends reply before value (write, Goes) h = h
  written_spends reply before value (write, Done answer) h = h

  pub entry_spends : (op : EntryOp T) (caches : Caches) (reply : Option Reply) → IsEntryReply op reply → SpendsOne reply (entry_budget op) (after_entry (entry_turned op caches reply))
  entry_spends (Writes write value) caches reply is = written_spends reply (write_budget write) value (write_turned write caches reply) (write_spends write caches reply is)
  entry_spends Ended caches reply is = absurd is

  started_left : (b : Bool) (names : Names) (boundary : Segments) (bytes : List ℕ) (base : Option ℕ) (value : T) (op : EntryOp T) → if◌then◌else◌ {A = Result (EntryOp T) ℕ} b (Err 10) (Ok (Writes (write_started names boundary base bytes) value)) ≡ Ok op → entry_budget op ≡ record { looks = 5; calls = 2 }
  started_left true names boundary bytes base value op e = cc
  started_left false names boundary bytes base value (Writes write other) e = cc
  started_left false names boundary bytes base value Ended e = cc

  pub entry_starts : (names : Names) (boundary : Segments) (encode : T → List ℕ) (base : Option ℕ) (value : T) (op : EntryOp T) → entry_started names boundary encode base value ≡ Ok op → entry_budget op ≡ record { looks = 5; calls = 2 }
  entry_starts names boundary encode base value op e = started_left (number_of base == 18446744073709551615) names boundary (encode value) base value op e

  seen_in_range : {O : Type 0} (as_read : ReadOp T → O) (see : Option (ℕ × T) → Result (Outcome T) ℕ) (InRange : O → Type 0) → ((read : ReadOp T) → IsInRange read → InRange (as_read read)) → (x : ReadOp T × Turned (ReadAnswer T)) → IsInRange x.0 → InRange (seen as_read see x).0
  seen_in_range as_read see InRange into (read, Goes) h = into read h
  seen_in_range as_read see InRange into (read, Done (Ok found)) h = into _ tt
  seen_in_range as_read see InRange into (read, Done (Err number)) h = into _ tt

  pub view_read_stays : (names : Names) (path : Segments) (page : ℕ) (decode : List ℕ → Option T) (epoch_of : T → ℕ) (op : ViewReadOp T) (caches : Caches) (reply : Option Reply) → IsViewReadInRange op → IsViewReadInRange (view_read_turned names path page decode epoch_of op caches reply).0
  view_read_stays names path page decode epoch_of op caches reply h = seen_in_range (as_view_read op.purpose) (shown epoch_of op.purpose) IsViewReadInRange (λ read in_range. in_range) (read_turned names path page decode op.read caches reply) (read_stays names page decode path op.read caches reply h)

  abbrev ClaimStays : Claiming T × Turned (Result (Outcome T) ℕ) → Type 0
  ClaimStays next = IsClaimingInRange next.0

  either_stays : (b : Bool) (x y : Claiming T × Turned (Result (Outcome T) ℕ)) → ClaimStays x → ClaimStays y → ClaimStays (if b then x else y)
  either_stays true x y h g = h
  either_stays false x y h g = g

  attempt_stays : (path : Segments) (value : T) (epoch : ℕ) (next : WriteOp × Turned (Result ℕ ℕ)) → ClaimStays (attempt_turned path value epoch next)
  attempt_stays path value epoch (write, Goes) = tt
  attempt_stays path value epoch (write, Done (Ok id)) = tt
  attempt_stays path value epoch (write, Done (Err number)) = either_stays (number == 5) (claims.Reads (read_started path), Goes) (claims.Ended, Done (Err number)) tt tt

  entered_stays : (b : Bool) (write : WriteOp) (value : T) (epoch : ℕ) → ClaimStays (followed (if b then Err 10 else Ok (claims.Writes write value epoch)))
  entered_stays true write value epoch = tt
  entered_stays false write value epoch = tt

module _ {T : Type 0} (names : Names) (path : Segments) (page : ℕ) (encode : T → List ℕ) (decode : List ℕ → Option T) (epoch_of : T → ℕ) (with_epoch : T → ℕ → T) (asked : Option ℕ) where
  with_stays : (epoch : Result ℕ TransactionalObjectError) (id : ℕ) (value : T) → ClaimStays (followed (entered_with names path encode with_epoch epoch id value))
  with_stays (Ok epoch) id value = entered_stays (id == 18446744073709551615) _ _ _
  with_stays (Err error) id value = tt

  again_stays : (found : Option (ℕ × T)) → ClaimStays (followed (attempted_again names path encode epoch_of with_epoch asked found))
  again_stays (Some found) = with_stays (claimed_epoch asked (epoch_of found.1)) found.0 found.1
  again_stays None = tt

  refreshed_stays : (x : ReadOp T × Turned (ReadAnswer T)) → IsInRange x.0 → ClaimStays (refreshed_turned names path encode epoch_of with_epoch asked x)
  refreshed_stays (read, Goes) h = h
  refreshed_stays (read, Done (Ok found)) h = again_stays found
  refreshed_stays (read, Done (Err number)) h = tt

  pub claiming_stays : (op : Claiming T) (caches : Caches) (reply : Option Reply) → IsClaimingInRange op → IsClaimingInRange (claiming_turned names path page encode decode epoch_of with_epoch asked op caches reply).0
  claiming_stays (claims.Writes write value epoch) caches reply h = attempt_stays path value epoch (write_turned write caches reply)
  claiming_stays (claims.Reads read) caches reply h = refreshed_stays (read_turned names path page decode read caches reply) (read_stays names page decode path read caches reply h)
  claiming_stays claims.Ended caches reply h = tt
