-- An operation that starts can take what it asks for.
use Rattle.std.proofs.Common.{ℕ, ◌≤◌, ◌==◌, List, Bool, true, false, if◌then◌else◌, Option, Some, None, Result, Ok, Err}
use Rattle.txn_store.specs.types.Numbers.{number_of}
use Rattle.txn_store.specs.declared.types.error.TransactionalObjectError.{TransactionalObjectError}
use Rattle.txn_store.specs.types.Epochs.{claimed_epoch}
use Rattle.txn_history.specs.declared.event.PlainCall.{PlainCall}
use Rattle.txn_history.specs.declared.event.PlainCall.TheVariants as calls
use Rattle.txn_history.specs.declared.event.PlainAnswer.TheVariants as answers
use Rattle.txn_history.specs.Names.{world_names, world_boundary}
use Rattle.txn_machine.specs.declared.plain.doing.PlainDoing.TheVariants as doings
use Rattle.txn_machine.specs.plain.Doing as plain
use Rattle.txn_steps.specs.Writes.{write_started, unchecked_started}
use Rattle.txn_steps_views.specs.declared.entry.EntryOp.TheVariants as entries
use Rattle.txn_steps_views.specs.declared.claiming.Claiming.TheVariants as claimings
use Rattle.txn_steps_views.specs.declared.op.ViewOp.TheVariants as views
use Rattle.txn_steps_views.specs.Lacking.{started_as}
use Rattle.txn_steps_views.specs.Claims.{as_claim}
use Rattle.txn_steps_views.specs.Attempts.{entered, entered_with}
use Rattle.txn_steps_views.specs.Entries.{entry_started, entry_tested, own_epochs}
use Rattle.txn_history.specs.declared.event.ViewCall.TheVariants as view_calls
use Rattle.txn_history.specs.declared.event.Call.{Call}
use Rattle.txn_history.specs.declared.event.Call.TheVariants as any
use Rattle.txn_history.specs.Views.{View}
use Rattle.txn_machine.specs.Doing.{plain_next, first_next, with_local, started}
use Rattle.txn_diary.specs.Taking.{CanDo, CanTake}

module _ {T : Type 0} (page : ℕ) (room : 1 ≤ page) (encode : T → List ℕ) (get_epoch : T → ℕ) (set_epoch : T → ℕ → T) where
  plain_can : (call : PlainCall T) → CanDo (plain.started page encode call).0
  plain_can (calls.Write base value) = by (number_of base == 18446744073709551615)
    where
      by : (last : Bool) → CanDo {T = T} (if◌then◌else◌ {A = plain.Next T} last (doings.Ended, Some (answers.Refused 10)) (doings.Write (write_started world_names world_boundary base (encode value)), None)).0
      by true = tt
      by false = (tt, tt)
  plain_can (calls.WriteUnchecked base value) = by (number_of base == 18446744073709551615)
    where
      by : (last : Bool) → CanDo {T = T} (if◌then◌else◌ {A = plain.Next T} last (doings.Ended, Some (answers.Refused 10)) (doings.WriteUnchecked (unchecked_started world_names base (encode value)), None)).0
      by true = tt
      by false = tt
  plain_can calls.Read = (tt, tt)
  plain_can (calls.ReadUnchecked id) = tt
  plain_can (calls.ReadSeen id) = tt
  plain_can (calls.ListIds from to) = room
  plain_can (calls.Delete id) = (tt, tt)
  plain_can (calls.Check id) = tt
  plain_can (calls.Advance to) = tt

  next_can : (next : plain.Next T) → CanDo next.0 → CanTake (plain_next next).0
  next_can (doing, None) can = can
  next_can (doing, Some answer) can = can

  entered_can : (epoch id : ℕ) (value : T) (asked : Option ℕ) → CanTake (first_next views.Claims (started_as (as_claim asked) (entered world_names world_boundary encode set_epoch epoch id value))).0
  entered_can epoch id value asked = by (id == 18446744073709551615)
    where
      by : (last : Bool) → CanTake (first_next views.Claims (started_as (as_claim asked) (if last then Err 10 else Ok (claimings.Writes (write_started world_names world_boundary (Some id) (encode (set_epoch value epoch))) (set_epoch value epoch) epoch)))).0
      by true = tt
      by false = (tt, tt)

  with_can : (epoch : Result ℕ TransactionalObjectError) (id : ℕ) (value : T) (asked : Option ℕ) → CanTake (first_next views.Claims (started_as (as_claim asked) (entered_with world_names world_boundary encode set_epoch epoch id value))).0
  with_can (Ok epoch) id value asked = entered_can epoch id value asked
  with_can (Err error) id value asked = tt

  update_can : (id : ℕ) (value : T) → CanTake (first_next views.Enters (entry_started world_names world_boundary encode (Some id) value)).0
  update_can id value = by (id == 18446744073709551615)
    where
      by : (last : Bool) → CanTake (first_next views.Enters (if last then Err 10 else Ok (entries.Writes (write_started world_names world_boundary (Some id) (encode value)) value))).0
      by true = tt
      by false = (tt, tt)

  writes_can : (id : ℕ) (value : T) (own : Result (Unit {0}) ℕ) → CanTake (first_next views.Enters (entry_tested world_names world_boundary encode id value own)).0
  writes_can id value (Ok own) = update_can id value
  writes_can id value (Err number) = tt

  pub started_can : (call : Call T) (view : Option (View T)) → CanTake (started page encode get_epoch set_epoch call view).0
  started_can (any.Plain call) view = next_can (plain.started page encode call) (plain_can call)
  started_can (any.View (view_calls.Init value)) view = (tt, tt)
  started_can (any.View view_calls.Load) view = (tt, tt)
  started_can (any.View (view_calls.Refresh number)) view = (tt, tt)
  started_can (any.View (view_calls.Update number value)) (Some view) = update_can view.id value
  started_can (any.View (view_calls.Claim number)) (Some view) = with_can (claimed_epoch None (get_epoch view.object)) view.id view.object None
  started_can (any.View (view_calls.ClaimAt number epoch)) (Some view) = with_can (claimed_epoch (Some epoch) (get_epoch view.object)) view.id view.object (Some epoch)
  started_can (any.View (view_calls.HolderRefresh number)) (Some view) = by view.epoch
    where
      by : (local : Option ℕ) → CanTake (with_local {T = T} local (λ own. started page encode get_epoch set_epoch (any.View (view_calls.HolderRefresh number)) (Some (record view { epoch = Some own })))).0
      by None = tt
      by (Some local) = (tt, tt)
  started_can (any.View (view_calls.HolderUpdate number value)) (Some view) = by view.epoch
    where
      by : (local : Option ℕ) → CanTake (with_local {T = T} local (λ own. first_next views.Enters (entry_tested world_names world_boundary encode view.id value (own_epochs own (get_epoch view.object) (get_epoch value))))).0
      by None = tt
      by (Some local) = writes_can view.id value (own_epochs local (get_epoch view.object) (get_epoch value))
  started_can (any.View (view_calls.Update number value)) None = tt
  started_can (any.View (view_calls.Claim number)) None = tt
  started_can (any.View (view_calls.ClaimAt number epoch)) None = tt
  started_can (any.View (view_calls.HolderRefresh number)) None = tt
  started_can (any.View (view_calls.HolderUpdate number value)) None = tt
