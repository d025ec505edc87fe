-- What a look leaves its own operation and its client's caches with.
use Rattle.std.proofs.Common.{◌≡◌, ℕ, ◌≤◌, List, Bool, Option, None, refl}
use Rattle.txn_store.specs.Store.{State as StoreState}
use Rattle.txn_steps.specs.declared.boundary.caches.Cached.{Cached}
use Rattle.txn_steps.specs.declared.boundary.caches.Caches.{Caches}
use Rattle.txn_steps.specs.declared.boundary.turned.Turned.{Turned}
use Rattle.txn_steps.specs.boundary.Windows.{held, kept}
use Rattle.txn_steps.specs.boundary.Checks.{check_turned, check_caches}
use Rattle.txn_steps.specs.declared.write.WriteUncheckedOp.{WriteUncheckedOp}
use Rattle.txn_steps.specs.declared.write.WriteUncheckedOp.TheVariants as unchecked
use Rattle.txn_steps.specs.declared.write.WriteStep.{WriteStep}
use Rattle.txn_steps.specs.declared.write.WriteStep.TheVariants as writes
use Rattle.txn_steps.specs.declared.write.WriteOp.{WriteOp}
use Rattle.txn_steps.specs.declared.read.ReadOp.{ReadOp}
use Rattle.txn_steps.specs.declared.read.ReadOp.TheVariants as reads
use Rattle.txn_steps.specs.declared.seen.ReadSeenOp.{ReadSeenOp}
use Rattle.txn_steps.specs.declared.seen.ReadSeenOp.TheVariants as seen
use Rattle.txn_steps.specs.Writes.{unchecked_asked, unchecked_turned, unchecked_latest, write_asked_at, write_turned_at, write_caches_at}
use Rattle.txn_steps.specs.Latest.{ReadAnswer, latest_turned, latest_window_after}
use Rattle.txn_steps.specs.Reads.{read_asked, read_turned, read_caches_after, IsInRange}
use Rattle.txn_steps.specs.SeenSteps.{seen_asked, seen_turned, seen_latest}
use Rattle.txn_steps.proofs.RangeLemmas.{read_stays}
use Rattle.txn_history.specs.declared.event.PlainCall.{PlainCall}
use Rattle.txn_history.specs.declared.event.PlainCall.TheVariants as calls
use Rattle.txn_history.specs.Trace.{PlainRow}
use Rattle.txn_history.specs.Names.{world_names, world_boundary}
use Rattle.txn_history.specs.Facts.{Entered, WasNewest}
use Rattle.txn_machine.specs.plain.Doing.{Next, or_no_memory, write_next, unchecked_next, read_next, seen_next}
use Rattle.txn_machine.proofs.plain.Stands.{KnowStands, WindowFits, CachesStand, UncheckedStands, WriteStands, ReadStands, SeenStands, Runs, TurnStands}
use Rattle.txn_machine.proofs.plain.Turns.{stays, LooksTo, UncheckedTells, may_lack}
use Rattle.txn_machine.proofs.plain.Windows.{kept_fits}
use Rattle.txn_machine.proofs.plain.Parts.{check_looks}
use Rattle.txn_machine.proofs.plain.LatestServes.{latest_looks, latest_fits}
use Rattle.txn_machine.proofs.plain.WriteTurns.{written_of, written_told, checked_told, unchecked_told}
use Rattle.txn_machine.proofs.plain.ReadTurns.{latest_told, read_checked}
use Rattle.txn_machine.proofs.plain.SeenTurns.{seen_looks, seen_keeps}

module _ {T : Type 0} (decode : List ℕ → Option T) (get_epoch : T → ℕ) (failed : List ℕ) (rows : List (PlainRow T)) (store : StoreState) (caches : Caches) (op : ℕ) (call : PlainCall T) (k : KnowStands decode get_epoch failed rows store) (r : Runs decode get_epoch rows op call) (c : CachesStand decode rows store caches) where
  abbrev Leaves : Caches → Next T → Type 0
  Leaves after next = LooksTo decode get_epoch failed rows store caches after op call next

  -- a look that leaves the boundary's cache
  latest_left_as : (versions : List Cached) (next : Next T) → WindowFits decode rows versions → TurnStands decode get_epoch failed rows store caches.boundary op call next → Leaves (record { latest = versions; boundary = caches.boundary }) next
  latest_left_as versions next w turn = record { fits = record { latest = w; boundary = c.boundary }; more = stays caches.boundary; turn = turn }

  -- a write without its check looks to cache what it created
  unchecked_looks : (id : ℕ) (write : WriteUncheckedOp) → UncheckedStands decode get_epoch rows op call id write → unchecked_asked write ≡ None →
      UncheckedTells decode get_epoch failed rows op call id (unchecked_turned write None) × WindowFits decode rows (unchecked_latest write caches.latest)
  unchecked_looks id (unchecked.Puts version request) h e = cc
  unchecked_looks id (unchecked.Keeps version) h e = ((h.id_is, version, h), kept_fits decode rows version caches.latest h.carried c.latest)
  unchecked_looks id unchecked.Ended h e = absurd h

  write_looks_at : (step : WriteStep) (write : WriteOp) → write.step ≡ step → WriteStands decode get_epoch rows store caches.boundary op call step write → write_asked_at step write ≡ None → Leaves (write_caches_at step write caches) (write_next (write_turned_at step write caches None))
  write_looks_at writes.Writes write is h e =
      let told = unchecked_looks write.id write.write h.0 e in
      latest_left_as (unchecked_latest write.write caches.latest) (write_next (write_turned_at writes.Writes write caches None)) told.1
      (written_told decode get_epoch failed rows store caches.boundary op call r write (unchecked_turned write.write None) h.2 h.3 is h.1 h.4 told.0)
  write_looks_at writes.Checks write is h e =
      let w = written_of decode get_epoch rows store caches.boundary op call write h in
      let l = check_looks decode rows store caches write.id (Entered decode rows op write.id h.value) write.check c h.checks e in
      record { fits = l.fits; more = l.more; turn = checked_told decode get_epoch failed rows store (check_caches write.check caches).boundary op call r write (check_turned write.check caches None) is w l.told }

  pub write_looks : (write : WriteOp) → WriteStands decode get_epoch rows store caches.boundary op call write.step write → write_asked_at write.step write ≡ None → Leaves (write_caches_at write.step write caches) (write_next (write_turned_at write.step write caches None))
  write_looks write h e = write_looks_at write.step write refl h e

  pub unchecked_write_looks : (write : WriteUncheckedOp) (id : ℕ) (base : Option ℕ) (value : T) → call ≡ calls.WriteUnchecked base value → UncheckedStands decode get_epoch rows op call id write → unchecked_asked write ≡ None →
      Leaves (record { latest = unchecked_latest write caches.latest; boundary = caches.boundary }) (unchecked_next (unchecked_turned write None))
  unchecked_write_looks write id base value is h e =
      let told = unchecked_looks id write h e in
      latest_left_as (unchecked_latest write caches.latest) (unchecked_next (unchecked_turned write None)) told.1 (unchecked_told decode get_epoch failed rows store caches.boundary op call r (unchecked_turned write None) id base value is told.0)

  -- a read of the newest version: what it leaves of the window fits, whatever it says
  pub read_looks : (refused : Bool) (page : ℕ) → 1 ≤ page → (read : ReadOp T) → IsInRange read → call ≡ calls.Read → ReadStands decode rows store caches.boundary op read → read_asked read ≡ None → (said : Turned (ReadAnswer T)) →
      Leaves (read_caches_after read caches said) (or_no_memory refused (read_next (read_turned world_names world_boundary page decode read caches None)))
  read_looks refused page room (reads.Reads latest boundary) range is h e said =
      let next = read_next (read_turned world_names world_boundary page decode (reads.Reads latest boundary) caches None) in
      latest_left_as (latest_window_after latest caches.latest said) (or_no_memory refused next) (latest_fits decode rows op latest caches.latest said h.0 c.latest)
      (may_lack decode get_epoch refused failed rows store caches.boundary op call next r
      (latest_told decode get_epoch failed rows store caches.boundary op call r (latest_turned world_names page decode latest caches.latest None) boundary h.1 is
      (read_stays world_names page decode world_boundary (reads.Reads latest boundary) caches None range)
      (latest_looks decode rows store op latest caches page room k.history.small r.begun c h.0 e)))
  read_looks refused page room (reads.Checks id value check) range is h e said =
      let next = read_next (read_turned world_names world_boundary page decode (reads.Checks id value check) caches None) in
      let l = check_looks decode rows store caches id (WasNewest decode rows op id value) check c h.1 e in
      record {
        fits = l.fits;
        more = l.more;
        turn = may_lack decode get_epoch refused failed rows store (check_caches check caches).boundary op call next r (read_checked decode get_epoch failed rows store (check_caches check caches).boundary op call r (check_turned check caches None) id value is h.0 l.told);
      }
  read_looks refused page room reads.Ended range is h e said = absurd h

  -- a read of one id that was perhaps seen
  pub seen_read_looks : (refused : Bool) (read : ReadSeenOp T) → SeenStands decode rows call read → seen_asked read ≡ None →
      Leaves (record { latest = seen_latest read caches.latest; boundary = caches.boundary }) (or_no_memory refused (seen_next (seen_turned world_names decode read caches.latest None)))
  seen_read_looks refused (seen.Looks id) h e =
      let next = seen_next (seen_turned world_names decode (seen.Looks id) caches.latest None) in
      latest_left_as caches.latest (or_no_memory refused next) c.latest
      (may_lack decode get_epoch refused failed rows store caches.boundary op call next r (seen_looks decode get_epoch failed rows store caches.boundary op call r id caches.latest h.0 h.1 c.latest (held id caches.latest) refl))
  seen_read_looks refused (seen.Keeps version value) h e =
      let next = seen_next (seen_turned world_names decode (seen.Keeps version value) caches.latest None) in
      latest_left_as (kept version caches.latest) (or_no_memory refused next) (kept_fits decode rows version caches.latest h.1.0 c.latest)
      (may_lack decode get_epoch refused failed rows store caches.boundary op call next r (seen_keeps decode get_epoch failed rows store caches.boundary op call r version value caches.latest h.0 h.1))
  seen_read_looks refused (seen.Gets id request) h e = cc
  seen_read_looks refused seen.Ended h e = absurd h
