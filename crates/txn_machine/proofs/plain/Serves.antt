-- What a serve leaves its own operation with, and what its request owes.
use Rattle.std.proofs.Common.{◌≡◌, ℕ, ◌<◌, ◌≤◌, ◌^◌, List, Option, Some, sym, ◌∙◌, subst}
use Rattle.std.proofs.lemmas.Option.{same_Some}
use Rattle.txn_store.specs.Store.{State as StoreState}
use Rattle.txn_store.specs.Requests.{Serves}
use Rattle.txn_store.specs.declared.request.Request.{Request}
use Rattle.txn_store.specs.declared.request.Reply.{Reply}
use Rattle.txn_steps.specs.declared.boundary.caches.Caches.{Caches}
use Rattle.txn_steps.specs.boundary.Checks.{check_turned}
use Rattle.txn_steps.specs.declared.write.WriteUncheckedOp.{WriteUncheckedOp}
use Rattle.txn_steps.specs.declared.write.WriteUncheckedOp.TheVariants as unchecked
use Rattle.txn_steps.specs.declared.write.WriteStep.{WriteStep}
use Rattle.txn_steps.specs.declared.write.WriteStep.TheVariants as writes
use Rattle.txn_steps.specs.declared.write.WriteOp.{WriteOp}
use Rattle.txn_steps.specs.declared.latest.LatestOp.{LatestOp}
use Rattle.txn_steps.specs.declared.latest.LatestOp.TheVariants as latest
use Rattle.txn_steps.specs.declared.read.ReadOp.{ReadOp}
use Rattle.txn_steps.specs.declared.read.ReadOp.TheVariants as reads
use Rattle.txn_steps.specs.declared.seen.ReadUncheckedOp.{ReadUncheckedOp}
use Rattle.txn_steps.specs.declared.seen.ReadSeenOp.{ReadSeenOp}
use Rattle.txn_steps.specs.declared.seen.ReadSeenOp.TheVariants as seen
use Rattle.txn_steps.specs.Requests.{version_got}
use Rattle.txn_steps.specs.Writes.{unchecked_asked, unchecked_turned, write_asked_at, write_turned_at}
use Rattle.txn_steps.specs.Latest.{latest_asked, latest_turned}
use Rattle.txn_steps.specs.Reads.{read_asked, read_turned, IsInRange}
use Rattle.txn_steps.specs.SeenSteps.{unchecked_turned as value_turned, seen_asked, seen_turned}
use Rattle.txn_steps.proofs.RangeLemmas.{read_stays}
use Rattle.txn_history.specs.declared.event.PlainCall.{PlainCall}
use Rattle.txn_history.specs.declared.event.PlainCall.TheVariants as calls
use Rattle.txn_history.specs.Trace.{PlainRow}
use Rattle.txn_history.specs.Names.{world_names, world_boundary}
use Rattle.txn_history.specs.Facts.{Entered, WasNewest}
use Rattle.txn_machine.specs.plain.Doing.{Next, write_next, read_next, value_next, seen_next}
use Rattle.txn_machine.specs.plain.Machine.{effect_of}
use Rattle.txn_machine.proofs.plain.Stands.{IsQuiet, KnowStands, LatestStands, PuttingStands, UncheckedStands, WriteStands, ReadStands, SeenStands, Runs, TurnStands}
use Rattle.txn_machine.proofs.plain.Turns.{UncheckedTells}
use Rattle.txn_machine.proofs.plain.Parts.{quiet_rows, check_asks, check_serves}
use Rattle.txn_machine.proofs.plain.BoundServes.{rows_after}
use Rattle.txn_machine.proofs.plain.WriteServes.{put_serves, runs_kept}
use Rattle.txn_machine.proofs.plain.LatestServes.{latest_serves}
use Rattle.txn_machine.proofs.plain.WriteTurns.{written_of, written_told, checked_told}
use Rattle.txn_machine.proofs.plain.ReadTurns.{latest_told, read_checked}
use Rattle.txn_machine.proofs.plain.SeenTurns.{value_serves, seen_serves}

module _ {T : Type 0} (decode : List ℕ → Option T) (rows : List (PlainRow T)) (op : ℕ) (request : Request) where
  -- a read of the newest version asks for a get or a page
  pub latest_quiet : (read : LatestOp T) → LatestStands decode rows op read → latest_asked read ≡ Some request → IsQuiet request
  latest_quiet latest.Looks h e = cc
  latest_quiet (latest.Probes hand found next own) h e = subst IsQuiet (sym h.3 ∙ same_Some own request e) tt
  latest_quiet (latest.Finds successor found) h e = cc
  latest_quiet (latest.Lists found own) h e = subst IsQuiet (sym h.asks ∙ same_Some own request e) tt
  latest_quiet (latest.Chooses greatest) h e = cc
  latest_quiet (latest.Gets id own) h e = subst IsQuiet (sym h.1 ∙ same_Some own request e) tt
  latest_quiet (latest.Keeps version value) h e = cc
  latest_quiet (latest.Drops id) h e = cc
  latest_quiet latest.Ended h e = cc

module _ {T : Type 0} (decode : List ℕ → Option T) (get_epoch : T → ℕ) where
  -- a serve of a request that changes nothing
  pub quiet_serve : (failed : List ℕ) (rows : List (PlainRow T)) (old new : StoreState) (caches : Caches) (op : ℕ) (call : PlainCall T) (request : Request) (reply : Reply) (next : Next T) → IsQuiet request → TurnStands decode get_epoch failed rows new caches.boundary op call next →
      TurnStands decode get_epoch failed (rows_after rows op old request reply) new caches.boundary op call next
  quiet_serve failed rows old new caches op call request reply next q h = subst (λ (rs : List (PlainRow T)). TurnStands decode get_epoch failed rs new caches.boundary op call next) (sym (quiet_rows rows op old.files request reply q)) h

  module _ (failed : List ℕ) (rows : List (PlainRow T)) (old new : StoreState) (caches : Caches) (op : ℕ) (call : PlainCall T) (request : Request) (reply : Reply) (k : KnowStands decode get_epoch failed rows old) (r : Runs decode get_epoch rows op call) (s : Serves request old reply new) (honest : new.failures ≡ 0) where
    -- a write without its check
    pub unchecked_serves : (id : ℕ) (write : WriteUncheckedOp) → UncheckedStands decode get_epoch rows op call id write → unchecked_asked write ≡ Some request → UncheckedTells decode get_epoch failed (rows_after rows op old request reply) op call id (unchecked_turned write (Some reply))
    unchecked_serves id (unchecked.Puts version own) h e =
        let is : own ≡ request = same_Some own request e in
        subst (λ (q : Request). UncheckedTells decode get_epoch failed (rows_after rows op old request reply) op call id (unchecked_turned (unchecked.Puts version q) (Some reply))) (sym is)
        (put_serves decode get_epoch failed rows old new op call id version request reply k r (subst (λ (q : Request). PuttingStands decode get_epoch rows op call id version q) is h) s honest)
    unchecked_serves id (unchecked.Keeps version) h e = cc
    unchecked_serves id unchecked.Ended h e = cc

    pub write_serves_at : (step : WriteStep) (write : WriteOp) → write.step ≡ step → WriteStands decode get_epoch rows old caches.boundary op call step write → write_asked_at step write ≡ Some request →
        TurnStands decode get_epoch failed (rows_after rows op old request reply) new caches.boundary op call (write_next (write_turned_at step write caches (Some reply)))
    write_serves_at writes.Writes write is h e =
        written_told decode get_epoch failed (rows_after rows op old request reply) new caches.boundary op call (runs_kept decode get_epoch rows op call (effect_of old.files request reply) r) write (unchecked_turned write.write (Some reply)) h.2 h.3 is h.1 h.4 (unchecked_serves write.id write.write h.0 e)
    write_serves_at writes.Checks write is h e =
        quiet_serve failed rows old new caches op call request reply (write_next (write_turned_at writes.Checks write caches (Some reply))) (check_asks rows old caches.boundary write.id (Entered decode rows op write.id h.value) write.check request h.checks e)
        (checked_told decode get_epoch failed rows new caches.boundary op call r write (check_turned write.check caches (Some reply)) is
        (written_of decode get_epoch rows old caches.boundary op call write h) (check_serves decode get_epoch failed rows old new caches write.id (Entered decode rows op write.id h.value) write.check request reply k h.checks e s honest))

    -- a read of the newest version
    pub read_serves : (page : ℕ) → 1 ≤ page → (read : ReadOp T) → IsInRange read → call ≡ calls.Read → ReadStands decode rows old caches.boundary op read → read_asked read ≡ Some request →
        TurnStands decode get_epoch failed (rows_after rows op old request reply) new caches.boundary op call (read_next (read_turned world_names world_boundary page decode read caches (Some reply)))
    read_serves page room (reads.Reads latest boundary) range is h e =
        quiet_serve failed rows old new caches op call request reply (read_next (read_turned world_names world_boundary page decode (reads.Reads latest boundary) caches (Some reply))) (latest_quiet decode rows op request latest h.0 e)
        (latest_told decode get_epoch failed rows new caches.boundary op call r (latest_turned world_names page decode latest caches.latest (Some reply)) boundary h.1 is
        (read_stays world_names page decode world_boundary (reads.Reads latest boundary) caches (Some reply) range)
        (latest_serves decode get_epoch failed rows old new op latest caches.latest page request reply room k r.begun h.0 e s honest))
    read_serves page room (reads.Checks id value check) range is h e =
        quiet_serve failed rows old new caches op call request reply (read_next (read_turned world_names world_boundary page decode (reads.Checks id value check) caches (Some reply))) (check_asks rows old caches.boundary id (WasNewest decode rows op id value) check request h.1 e)
        (read_checked decode get_epoch failed rows new caches.boundary op call r (check_turned check caches (Some reply)) id value is h.0
        (check_serves decode get_epoch failed rows old new caches id (WasNewest decode rows op id value) check request reply k h.1 e s honest))
    read_serves page room reads.Ended range is h e = cc

    -- reads of one id

    got_quiet : (id : ℕ) → request ≡ version_got world_names id → IsQuiet request
    got_quiet id is = subst IsQuiet (sym is) tt

    pub value_serves_at : (read : ReadUncheckedOp) (id : ℕ) → call ≡ calls.ReadUnchecked id → id < 2 ^ 64 → read.request ≡ version_got world_names id → read.request ≡ request →
        TurnStands decode get_epoch failed (rows_after rows op old request reply) new caches.boundary op call (value_next read (value_turned decode (Some reply)))
    value_serves_at read id is fits asks e =
        let own : request ≡ version_got world_names id = sym e ∙ asks in
        quiet_serve failed rows old new caches op call request reply (value_next read (value_turned decode (Some reply))) (got_quiet id own)
        (value_serves decode get_epoch failed rows new caches.boundary op call r old k honest id fits reply is (subst (λ (q : Request). Serves q old reply new) own s) read)

    pub seen_serves_at : (read : ReadSeenOp T) → SeenStands decode rows call read → seen_asked read ≡ Some request →
        TurnStands decode get_epoch failed (rows_after rows op old request reply) new caches.boundary op call (seen_next (seen_turned world_names decode read caches.latest (Some reply)))
    seen_serves_at (seen.Gets id asked') h e =
        let own : request ≡ version_got world_names id = sym (same_Some asked' request e) ∙ h.2 in
        quiet_serve failed rows old new caches op call request reply (seen_next (seen_turned world_names decode (seen.Gets id asked') caches.latest (Some reply))) (got_quiet id own)
        (seen_serves decode get_epoch failed rows new caches.boundary op call r old k honest id h.1 asked' reply h.0 (subst (λ (q : Request). Serves q old reply new) own s) caches.latest)
    seen_serves_at (seen.Looks id) h e = cc
    seen_serves_at (seen.Keeps version value) h e = cc
    seen_serves_at seen.Ended h e = cc
