-- Every begin of a call on a view starts as the layer says.
use Rattle.std.proofs.Common.{◌≡◌, ℕ, ◌==◌, List, Bool, true, false, if◌then◌else◌, Option, Some, None, is_some, Result, Ok, Err, refl, sym, ◌∙◌, subst}
use Rattle.txn_store.specs.types.Epochs.{claimed_epoch}
use Rattle.txn_steps.specs.Reads.{read_started}
use Rattle.txn_steps.specs.Writes.{write_started}
use Rattle.txn_history.specs.Names.{world_names, world_boundary}
use Rattle.txn_machine.specs.declared.plain.doing.PlainDoing.TheVariants as doings
use Rattle.txn_steps_views.specs.declared.claiming.Claiming.{Claiming}
use Rattle.txn_steps_views.specs.declared.entry.EntryOp.{EntryOp}
use Rattle.txn_steps_views.specs.declared.entry.EntryOp.TheVariants as entries
use Rattle.txn_steps_views.specs.declared.op.ViewOp.TheVariants as ops
use Rattle.txn_steps_views.specs.declared.view_read.Purpose.{Purpose}
use Rattle.txn_steps_views.specs.declared.view_read.Purpose.TheVariants as purposes
use Rattle.txn_steps_views.specs.Attempts.{attempted, followed}
use Rattle.txn_steps_views.specs.Claims.{as_claim}
use Rattle.txn_steps_views.specs.Entries.{entry_tested, own_epochs}
use Rattle.txn_steps_views.specs.Lacking.{started_as}
use Rattle.txn_history.specs.declared.event.ViewCall.{ViewCall}
use Rattle.txn_history.specs.declared.event.ViewCall.TheVariants as view_calls
use Rattle.txn_history.specs.declared.event.Call.TheVariants as any
use Rattle.txn_history.specs.Views.{View}
use Rattle.txn_machine.specs.views.Layer as layer
use Rattle.txn_machine.specs.views.Layer.{Used, Writes, Reads, Keeps, Goes, Ends, local_of}
use Rattle.txn_machine.specs.views.Parts.{HasEpoch, refusing, tested, written}
use Rattle.txn_machine.specs.views.Parts as parts
use Rattle.txn_machine.specs.declared.doing.Doing.TheVariants as does
use Rattle.txn_machine.specs.Doing.{Next, refused, first_next, view_next, with_local, reads_for, IsMadeSo}
use Rattle.txn_machine.proofs.Matched.{enters, purpose_of, StartsAs, EveryStart}
use Rattle.txn_machine.proofs.EntryTurns.{Tells, refusal_keeps}
use Rattle.txn_machine.proofs.ReadTurns.{at_read}
use Rattle.txn_machine.proofs.ClaimTurns.{wrapped, at_claim, IsClaimCall, claim_call, follows_claim}
use Rattle.txn_machine.proofs.Nexts.{write_goes, read_goes}

module _ {T : Type 0} where
  -- a claim starts, or is refused at once, as one that goes on
  claim_first : (asked : Option ℕ) (r : Result (Claiming T) ℕ) → first_next ops.Claims (started_as (as_claim asked) r) ≡ view_next (wrapped (at_claim asked) (followed r))
  claim_first asked (Ok op) = refl
  claim_first asked (Err number) = refl

module _ {T : Type 0} (page : ℕ) (encode : T → List ℕ) (decode : List ℕ → Option T) (get_epoch : T → ℕ) (set_epoch : T → ℕ → T) where
  -- a claim begins its first attempt
  claim_starts : (call : ViewCall T) (local asked : Option ℕ) → IsClaimCall page encode decode get_epoch set_epoch call local asked → (view : View T) (next : Next T) →
      next ≡ first_next ops.Claims (started_as (as_claim asked) (attempted world_names world_boundary encode get_epoch set_epoch asked view.id view.object)) → IsMadeSo encode decode get_epoch next.0 →
      Tells page encode decode get_epoch call local (parts.attempted get_epoch set_epoch (any.View call) asked view.id view.object) next
  claim_starts call local asked facts view next starts made =
      let e = starts ∙ claim_first asked (attempted world_names world_boundary encode get_epoch set_epoch asked view.id view.object) in
      subst (λ (n : Next T). Tells page encode decode get_epoch call local (parts.attempted get_epoch set_epoch (any.View call) asked view.id view.object) n) (sym e)
      (follows_claim page encode decode get_epoch set_epoch call local asked facts (claimed_epoch asked (get_epoch view.object)) view.id view.object (subst (λ (n : Next T). IsMadeSo encode decode get_epoch n.0) e made))

  -- a call writes on its view's version, which has a next id
  entry_starts : (call : ViewCall T) (local : Option ℕ) → enters (any.View call) ≡ true → ((number : ℕ) → Tells page encode decode get_epoch call local (refusing (any.View call) number) (refused number)) → (v : T) (id : ℕ) (full : Bool) → (id == 18446744073709551615) ≡ full → (next : Next T) →
      next ≡ first_next ops.Enters (if◌then◌else◌ {A = Result (EntryOp T) ℕ} full (Err 10) (Ok (entries.Writes (write_started world_names world_boundary (Some id) (encode v)) v))) → IsMadeSo encode decode get_epoch next.0 →
      Tells page encode decode get_epoch call local (if◌then◌else◌ {A = layer.Next T} full (refusing (any.View call) 10) (Goes (Writes id v (get_epoch v)))) next
  entry_starts call local so refuses v id true is next e made = subst (λ (n : Next T). Tells page encode decode get_epoch call local (refusing (any.View call) 10) n) (sym e) (refuses 10)
  entry_starts call local so refuses v id false is next e made =
      let write = write_started world_names world_boundary (Some id) (encode v) in
      subst (λ (n : Next T). Tells page encode decode get_epoch call local (Goes (Writes id v (get_epoch v))) n) (sym e)
      (refl, write_goes page encode decode get_epoch call local id v (get_epoch v) (ops.Enters (entries.Writes write v)) is (subst (λ (n : Next T). IsMadeSo encode decode get_epoch n.0) e made) (so, record { write = write; entry_is = refl; fine_is = refl }))

  -- a holder's update, by the test of its epochs
  holder_update_starts : (number : ℕ) (v : T) (local : Option ℕ) (id : ℕ) (test : Result (Unit {0}) ℕ) (next : Next T) → next ≡ first_next ops.Enters (entry_tested world_names world_boundary encode id v test) → IsMadeSo encode decode get_epoch next.0 →
      Tells page encode decode get_epoch (view_calls.HolderUpdate number v) local (tested (any.View (view_calls.HolderUpdate number v)) id v (get_epoch v) test) next
  holder_update_starts number v local id (Ok own) next e made =
      entry_starts (view_calls.HolderUpdate number v) local refl (λ n. (tt, refusal_keeps (any.View (view_calls.HolderUpdate number v)) n refl)) v id (id == 18446744073709551615) refl next e made
  holder_update_starts number v local id (Err n) next e made =
      subst (λ (m : Next T). Tells page encode decode get_epoch (view_calls.HolderUpdate number v) local (Ends (layer.refused n) Keeps) m) (sym e) (tt, refusal_keeps (any.View (view_calls.HolderUpdate number v)) n refl)

  -- the epoch of a holder is there
  holder_update_on : (number : ℕ) (v : T) (local epoch : Option ℕ) (id : ℕ) (object : T) (next : Next T) →
      next ≡ with_local epoch (λ own. first_next ops.Enters (entry_tested world_names world_boundary encode id v (own_epochs own (get_epoch object) (get_epoch v)))) → IsMadeSo encode decode get_epoch next.0 →
      Tells page encode decode get_epoch (view_calls.HolderUpdate number v) local
      (parts.with_local (any.View (view_calls.HolderUpdate number v)) epoch (λ own. tested (any.View (view_calls.HolderUpdate number v)) id v (get_epoch v) (own_epochs own (get_epoch object) (get_epoch v)))) next
  holder_update_on number v local None id object next e made =
      subst (λ (m : Next T). Tells page encode decode get_epoch (view_calls.HolderUpdate number v) local (Ends (layer.refused 7) Keeps) m) (sym e) (tt, refusal_keeps (any.View (view_calls.HolderUpdate number v)) 7 refl)
  holder_update_on number v local (Some own) id object next e made = holder_update_starts number v local id (own_epochs own (get_epoch object) (get_epoch v)) next e made

  -- a call that makes a view begins
  init_starts : (v : T) (local : Option ℕ) (next : Next T) → next ≡ (does.View (ops.Enters (entries.Writes (write_started world_names world_boundary None (encode v)) v)), None) → IsMadeSo encode decode get_epoch next.0 →
      Tells page encode decode get_epoch (view_calls.Init v) local (Goes (Writes 0 v (get_epoch v))) next
  init_starts v local next e made =
      let write = write_started world_names world_boundary None (encode v) in
      let reads_back : decode (encode v) ≡ Some v = subst (λ (n : Next T). IsMadeSo encode decode get_epoch n.0) e made in
      subst (λ (n : Next T). Tells page encode decode get_epoch (view_calls.Init v) local (Goes (Writes 0 v (get_epoch v))) n) (sym e)
      (refl, record { doing = does.View (ops.Enters (entries.Writes write v)); goes = refl; fine = doings.Write write; begins = refl; matched = (refl, record { write = write; entry_is = refl; fine_is = refl }); reads_back = λ full. reads_back; word = tt })

  -- a call reads the newest version
  read_starts : (call : ViewCall T) (local : Option ℕ) (purpose : Purpose) → purpose_of (any.View call) local ≡ Some purpose → (next : Next T) → next ≡ reads_for purpose → Tells page encode decode get_epoch call local (Goes Reads) next
  read_starts call local purpose so next e =
      subst (λ (n : Next T). Tells page encode decode get_epoch call local (Goes Reads) n) (sym e)
      (tt, read_goes page encode decode get_epoch call local (at_read purpose (read_started world_boundary)) (so, refl))

  holder_refresh_on : (number : ℕ) (epoch : Option ℕ) (next : Next T) → is_some epoch ≡ true → next ≡ with_local epoch (λ own. reads_for (purposes.HolderRefresh own)) → Tells page encode decode get_epoch (view_calls.HolderRefresh number) epoch (Goes Reads) next
  holder_refresh_on number None next holder e = absurd (cc)
  holder_refresh_on number (Some own) next holder e = read_starts (view_calls.HolderRefresh number) (Some own) (purposes.HolderRefresh own) refl next e

  -- what the layer says is what the call does
  starts_as : (call : ViewCall T) (used : Option (Used T)) (next : Next T) → Tells page encode decode get_epoch call (local_of used) (parts.started get_epoch set_epoch (any.View call) used) next → StartsAs page encode decode get_epoch set_epoch (any.View call) used next
  starts_as call used next h = record { due = parts.started get_epoch set_epoch (any.View call) used; first = refl; has = h.0; starts = h.1 }

  pub every_start : EveryStart page encode decode get_epoch set_epoch
  every_start (view_calls.Init v) used next has e made = starts_as (view_calls.Init v) used next (init_starts v (local_of used) next e made)
  every_start view_calls.Load used next has e made = starts_as view_calls.Load used next (read_starts view_calls.Load (local_of used) purposes.Load refl next e)
  every_start (view_calls.Refresh number) None next has e made = absurd (cc)
  every_start (view_calls.Update number v) None next has e made = absurd (cc)
  every_start (view_calls.Claim number) None next has e made = absurd (cc)
  every_start (view_calls.ClaimAt number epoch) None next has e made = absurd (cc)
  every_start (view_calls.HolderRefresh number) None next has e made = absurd (cc)
  every_start (view_calls.HolderUpdate number v) None next has e made = absurd (cc)
  every_start (view_calls.Refresh number) (Some used) next has e made = starts_as (view_calls.Refresh number) (Some used) next (read_starts (view_calls.Refresh number) used.view.epoch purposes.Refresh refl next e)
  every_start (view_calls.Update number v) (Some used) next has e made = starts_as (view_calls.Update number v) (Some used) next
      (entry_starts (view_calls.Update number v) used.view.epoch refl (λ n. (tt, refusal_keeps (any.View (view_calls.Update number v)) n refl)) v used.view.id (used.view.id == 18446744073709551615) refl next e made)
  every_start (view_calls.Claim number) (Some used) next has e made =
      starts_as (view_calls.Claim number) (Some used) next
      (claim_starts (view_calls.Claim number) used.view.epoch None (claim_call page encode decode get_epoch set_epoch (view_calls.Claim number) used.view.epoch None refl) used.view next e made)
  every_start (view_calls.ClaimAt number epoch) (Some used) next has e made =
      starts_as (view_calls.ClaimAt number epoch) (Some used) next
      (claim_starts (view_calls.ClaimAt number epoch) used.view.epoch (Some epoch) (claim_call page encode decode get_epoch set_epoch (view_calls.ClaimAt number epoch) used.view.epoch (Some epoch) refl) used.view next e made)
  every_start (view_calls.HolderRefresh number) (Some used) next has e made = starts_as (view_calls.HolderRefresh number) (Some used) next (holder_refresh_on number used.view.epoch next has.2 e)
  every_start (view_calls.HolderUpdate number v) (Some used) next has e made = starts_as (view_calls.HolderUpdate number v) (Some used) next (holder_update_on number v used.view.epoch used.view.epoch used.view.id used.view.object next e made)
