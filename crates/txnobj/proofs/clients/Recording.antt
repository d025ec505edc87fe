-- What a call leaves of a client.
use Rattle.std.proofs.Common.{◌≡◌, ℕ, Option, Some, None, true, false, IfOk, IfErr, refl, subst}
use Rattle.txn_store.specs.declared.request.Request.{Request}
use Rattle.txn_store.specs.declared.request.Reply.{Reply}
use Rattle.txn_history.specs.declared.event.EventFault.{EventFault}
use Rattle.txn_history.specs.declared.event.Call.{Call}
use Rattle.txn_history.specs.declared.event.Answer.{Answer}
use Rattle.txn_client_journals.specs.declared.rows.Step.{Step}
use Rattle.txn_diary.specs.Keepers.{KeeperState}
use Rattle.txnobj.specs.declared.clients.stop.Stop.{Stop}
use Rattle.txnobj.specs.declared.clients.stop.Stop.TheVariants as stops
use Rattle.txnobj.specs.declared.clients.work.Done.{Done}
use Rattle.txnobj.specs.declared.clients.work.Done.TheVariants as dones
use Rattle.txnobj.specs.clients.Noted.{Noted}
use Rattle.txnobj.specs.clients.Happenings.{happens_from, HappensAll}
use Rattle.txnobj.specs.clients.Calling.{ClientState, begun_in, IsCall, CutsOff, Ends, MakesCall, Stops}
use Rattle.txnobj.specs.clients.Working.{Calls, IsDone, settled}

module _ {T C E R S : Type 0} (hands : R → Noted T → R → Type 0) (serves : S → Request → Reply → S → Type 0) (does : KeeperState T C E → Step T → Option (Answer T) → KeeperState T C E → Type 0) where
  made : (limit : ℕ) (call : Call T) (answer : Option (Answer T)) (old new : KeeperState T C E) (recorder recorder' : R) (store store' : S) (begun begun' : ℕ) → begun ≡ begun_in old → Calls hands serves does limit call answer old recorder store begun new recorder' store' begun'
      → MakesCall hands serves does limit call answer (record { keeper = old; recorder = recorder; store = store; goes_on = true }) (record { keeper = new; recorder = recorder'; store = store'; goes_on = true })
  made limit call answer old new recorder recorder' store store' begun begun' b c = record {
    went_on = refl;
    op = c.op;
    rows = c.rows;
    is_call = subst (λ at. IsCall at c.op limit call answer c.rows) b c.is_call;
    did = c.advances.did;
    happened = subst (λ at. HappensAll hands serves recorder store (happens_from at c.rows) recorder' store') b c.advances.happened;
    goes_on = refl;
  }

  pub done_ok : (refusal : Option EventFault) (limit : ℕ) (call : Call T) (old new : KeeperState T C E) (recorder recorder' : R) (store store' : S) (begun begun' : ℕ) (done : Done T) → begun ≡ begun_in old → IsDone hands serves does refusal limit call old recorder store begun done new recorder' store' begun'
      → IfOk (settled done) (λ answer. MakesCall hands serves does limit call (Some answer) (record { keeper = old; recorder = recorder; store = store; goes_on = true }) (record { keeper = new; recorder = recorder'; store = store'; goes_on = true }))
  done_ok refusal limit call old new recorder recorder' store store' begun begun' (dones.Answered answer) b d = made limit call (Some answer) old new recorder recorder' store store' begun begun' b d
  done_ok refusal limit call old new recorder recorder' store store' begun begun' dones.Spent b d = tt
  done_ok refusal limit call old new recorder recorder' store store' begun begun' (dones.Refused fault) b d = tt

  same_client : (old new : KeeperState T C E) (recorder recorder' : R) (store store' : S) → new ≡ old → recorder' ≡ recorder → store' ≡ store → ◌≡◌ {A = ClientState T C E R S} (record { keeper = new; recorder = recorder'; store = store'; goes_on = true }) (record { keeper = old; recorder = recorder; store = store; goes_on = true })
  same_client old new recorder recorder' store store' d n s = cc

  pub done_err : (refusal : Option EventFault) (limit : ℕ) (call : Call T) (old new : KeeperState T C E) (recorder recorder' : R) (store store' : S) (begun begun' : ℕ) (done : Done T) → begun ≡ begun_in old → IsDone hands serves does refusal limit call old recorder store begun done new recorder' store' begun'
      → IfErr (settled done) (Stops hands serves does refusal limit call (record { keeper = old; recorder = recorder; store = store; goes_on = true }) (record { keeper = new; recorder = recorder'; store = store'; goes_on = true }))
  done_err refusal limit call old new recorder recorder' store store' begun begun' (dones.Answered answer) b d = tt
  done_err refusal limit call old new recorder recorder' store store' begun begun' dones.Spent b d = made limit call None old new recorder recorder' store store' begun begun' b d
  done_err refusal limit call old new recorder recorder' store store' begun begun' (dones.Refused fault) b d = (same_client old new recorder recorder' store store' d.same d.recorder_is d.store_is, refl, d.reason)

  ends : (limit : ℕ) (call : Call T) (old new : KeeperState T C E) (recorder recorder' : R) (store store' : S) (begun : ℕ) (stop : Stop) → begun ≡ begun_in old → CutsOff hands serves does begun limit call stop old recorder store new recorder' store'
      → Ends hands serves does limit call stop (record { keeper = old; recorder = recorder; store = store; goes_on = true }) (record { keeper = new; recorder = recorder'; store = store'; goes_on = false })
  ends limit call old new recorder recorder' store store' begun stop b d = record {
    went_on = refl;
    cuts_off = subst (λ at. CutsOff hands serves does at limit call stop old recorder store new recorder' store') b d;
    ended = refl;
  }

  -- what a call leaves that was cut off
  pub done_cut : (refusal : Option EventFault) (limit : ℕ) (call : Call T) (old new : KeeperState T C E) (recorder recorder' : R) (store store' : S) (begun : ℕ) (stop : Stop) → begun ≡ begun_in old → CutsOff hands serves does begun limit call stop old recorder store new recorder' store'
      → Stops hands serves does refusal limit call (record { keeper = old; recorder = recorder; store = store; goes_on = true }) (record { keeper = new; recorder = recorder'; store = store'; goes_on = false }) stop
  done_cut refusal limit call old new recorder recorder' store store' begun (stops.Refused fault) b d = absurd d.until.stopped
  done_cut refusal limit call old new recorder recorder' store store' begun stops.StepsSpent b d = absurd d.until.stopped
  done_cut refusal limit call old new recorder recorder' store store' begun (stops.Unrecorded error) b d = ends limit call old new recorder recorder' store store' begun (stops.Unrecorded error) b d
  done_cut refusal limit call old new recorder recorder' store store' begun stops.NoMemory b d = ends limit call old new recorder recorder' store store' begun stops.NoMemory b d
  done_cut refusal limit call old new recorder recorder' store store' begun stops.Ended b d = absurd d.until.stopped
