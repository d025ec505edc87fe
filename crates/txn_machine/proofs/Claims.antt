-- A claim alone makes a holder, and makes no view that is none.
use Rattle.std.proofs.Common.{◌≡◌, ℕ, ◌==◌, List, Bool, true, false, if◌then◌else◌, Option, Some, None, Result, Ok, Err, refl, sym, ◌∙◌, ap, subst}
use Rattle.txn_store.specs.Paths.{Segments}
use Rattle.txn_store.specs.declared.request.Reply.{Reply}
use Rattle.txn_store.specs.declared.types.error.TransactionalObjectError.{TransactionalObjectError}
use Rattle.txn_store.specs.types.Epochs.{epoch_tested}
use Rattle.txn_steps.specs.declared.boundary.caches.Caches.{Caches}
use Rattle.txn_steps.specs.declared.boundary.turned.Turned.{Turned}
use Rattle.txn_steps.specs.declared.boundary.turned.Turned.TheVariants as turns
use Rattle.txn_steps.specs.boundary.Asking.{unless_lacking}
use Rattle.txn_steps.specs.declared.read.ReadOp.{ReadOp}
use Rattle.txn_steps.specs.declared.write.WriteOp.{WriteOp}
use Rattle.txn_steps.specs.Latest.{ReadAnswer}
use Rattle.txn_steps.specs.Reads.{read_started, read_turned}
use Rattle.txn_steps.specs.Writes.{write_turned}
use Rattle.txn_history.specs.Names.{world_names, world_boundary}
use Rattle.txn_history.specs.Seen.{Ask}
use Rattle.txn_machine.specs.declared.plain.doing.PlainDoing.{PlainDoing}
use Rattle.txn_machine.specs.declared.plain.doing.PlainDoing.TheVariants as doings
use Rattle.txn_machine.specs.plain.Doing as plain
use Rattle.txn_steps_views.specs.declared.claiming.Claiming.{Claiming}
use Rattle.txn_steps_views.specs.declared.claiming.Claiming.TheVariants as claiming
use Rattle.txn_steps_views.specs.declared.entry.EntryOp.{EntryOp}
use Rattle.txn_steps_views.specs.declared.entry.EntryOp.TheVariants as entries
use Rattle.txn_steps_views.specs.declared.op.ViewOp.{ViewOp}
use Rattle.txn_steps_views.specs.declared.op.ViewOp.TheVariants.{Enters, Reads, Claims}
use Rattle.txn_steps_views.specs.declared.outcome.Outcome.{Outcome}
use Rattle.txn_steps_views.specs.declared.outcome.Outcome.TheVariants as outcomes
use Rattle.txn_steps_views.specs.Attempts.{attempt_turned, attempted_again, claiming_turned, followed, refreshed_turned}
use Rattle.txn_steps_views.specs.declared.view_read.Purpose.{Purpose}
use Rattle.txn_steps_views.specs.declared.view_read.Purpose.TheVariants as purposes
use Rattle.txn_steps_views.specs.Claims.{claim_started}
use Rattle.txn_steps_views.specs.Entries.{entry_started, holder_entry_started, entry_turned, written_turned}
use Rattle.txn_steps_views.specs.Readings.{seen}
use Rattle.txn_steps_views.specs.ViewReads.{as_view_read, holder_viewed, shown}
use Rattle.txn_steps_views.specs.ViewOps.{view_turned}
use Rattle.txn_history.specs.declared.event.ViewCall.TheVariants as view_calls
use Rattle.txn_history.specs.declared.event.Call.{Call}
use Rattle.txn_history.specs.declared.event.Call.TheVariants as any
use Rattle.txn_history.specs.Views.{View}
use Rattle.txn_machine.specs.declared.doing.Doing.{Doing}
use Rattle.txn_machine.specs.declared.doing.Doing.TheVariants as does
use Rattle.txn_machine.specs.declared.doing.Ending.{Ending}
use Rattle.txn_machine.specs.declared.doing.Ending.TheVariants as endings
use Rattle.txn_machine.specs.Doing.{Next, asked, plain_next, next_of, first_next, with_local, started, turned}
use Rattle.txn_machine.specs.views.Parts.{is_claim_call}

module _ {T : Type 0} where
  -- a claim is held, and another call is not
  abbrev pub EndsFit : Bool → Ending T → Type 0
  EndsFit claims (endings.Answers answer) = Unit {0}
  EndsFit claims (endings.Comes (outcomes.Viewed id value)) = claims ≡ false
  EndsFit claims (endings.Comes (outcomes.Held id value epoch)) = claims ≡ true
  EndsFit claims (endings.Comes (outcomes.Shut id value error)) = claims ≡ false

  -- an operation of a claim
  abbrev pub is_claim : ViewOp T → Bool
  is_claim (Claims op) = true
  is_claim (Enters op) = false
  is_claim (Reads op) = false

  -- it is a claim just where it does what a claim does
  abbrev pub ClaimFits : Bool → Doing T → Type 0
  ClaimFits claims (does.Plain doing) = claims ≡ true → doing ≡ doings.Ended
  ClaimFits claims (does.View op) = claims ≡ is_claim op

  abbrev pub EndingFits : Bool → Option (Ending T) → Type 0
  EndingFits claims None = Unit {0}
  EndingFits claims (Some ending) = EndsFit claims ending

  abbrev pub NextFits : Bool → Next T → Type 0
  NextFits claims next = ClaimFits claims next.0 × EndingFits claims next.1

  abbrev OutcomeFits : Bool → Turned (Result (Outcome T) ℕ) → Type 0
  OutcomeFits claims turns.Goes = Unit {0}
  OutcomeFits claims (turns.Done (Ok outcome)) = EndsFit claims (endings.Comes outcome)
  OutcomeFits claims (turns.Done (Err number)) = Unit {0}

  lacking_fits : {O : Type 0} (claims lacks : Bool) (op : O) (next : O × Turned (Result (Outcome T) ℕ)) → OutcomeFits claims next.1 → OutcomeFits claims (unless_lacking lacks op next).1
  lacking_fits {O} claims true op next h = tt
  lacking_fits {O} claims false op next h = h

  -- a call over a write

  written_fits : (value : T) (x : WriteOp × Turned (Result ℕ ℕ)) → OutcomeFits false (written_turned value x).1
  written_fits value (write, turns.Goes) = tt
  written_fits value (write, turns.Done (Ok id)) = refl
  written_fits value (write, turns.Done (Err number)) = tt

  entry_fits : (entry : EntryOp T) (caches : Caches) (reply : Option Reply) → OutcomeFits false (entry_turned entry caches reply).1
  entry_fits (entries.Writes write value) caches reply = written_fits value (write_turned write caches reply)
  entry_fits entries.Ended caches reply = tt

  -- a call over a read

  seen_fits : {O : Type 0} (as_read : ReadOp T → O) (see : Option (ℕ × T) → Result (Outcome T) ℕ) → ((found : Option (ℕ × T)) → OutcomeFits false (turns.Done (see found))) → (x : ReadOp T × Turned (ReadAnswer T)) → OutcomeFits false (seen as_read see x).1
  seen_fits {O} as_read see h (read, turns.Goes) = tt
  seen_fits {O} as_read see h (read, turns.Done (Ok found)) = h found
  seen_fits {O} as_read see h (read, turns.Done (Err number)) = tt

  viewed_fits : (found : ℕ × T) (test : Result (Unit {0}) TransactionalObjectError) → EndsFit false (endings.Comes (holder_viewed found test))
  viewed_fits found (Ok own) = refl
  viewed_fits found (Err error) = refl

  shown_fits : (get_epoch : T → ℕ) (purpose : Purpose) (found : Option (ℕ × T)) → OutcomeFits false (turns.Done (shown get_epoch purpose found))
  shown_fits get_epoch purposes.Load (Some found) = refl
  shown_fits get_epoch purposes.Load None = tt
  shown_fits get_epoch purposes.Refresh (Some found) = refl
  shown_fits get_epoch purposes.Refresh None = tt
  shown_fits get_epoch (purposes.HolderRefresh local) (Some found) = viewed_fits found (epoch_tested local (get_epoch found.1))
  shown_fits get_epoch (purposes.HolderRefresh local) None = tt

  -- claims

  either_fits : (value : T) (five : Bool) (path : Segments) (number : ℕ) → OutcomeFits true (if◌then◌else◌ {A = Claiming T × Turned (Result (Outcome T) ℕ)} five (claiming.Reads (read_started path), turns.Goes) (claiming.Ended, turns.Done (Err number))).1
  either_fits value true path number = tt
  either_fits value false path number = tt

  attempt_fits : (path : Segments) (value : T) (epoch : ℕ) (x : WriteOp × Turned (Result ℕ ℕ)) → OutcomeFits true (attempt_turned path value epoch x).1
  attempt_fits path value epoch (write, turns.Goes) = tt
  attempt_fits path value epoch (write, turns.Done (Ok id)) = refl
  attempt_fits path value epoch (write, turns.Done (Err number)) = either_fits value (number == 5) path number

  followed_fits : (next : Result (Claiming T) ℕ) → OutcomeFits true (followed next).1
  followed_fits (Ok op) = tt
  followed_fits (Err number) = tt

module _ {T : Type 0} (page : ℕ) (encode : T → List ℕ) (decode : List ℕ → Option T) (get_epoch : T → ℕ) (set_epoch : T → ℕ → T) where
  refresh_fits : (asked : Option ℕ) (x : ReadOp T × Turned (ReadAnswer T)) → OutcomeFits true (refreshed_turned world_names world_boundary encode get_epoch set_epoch asked x).1
  refresh_fits asked (read, turns.Goes) = tt
  refresh_fits asked (read, turns.Done (Ok found)) = followed_fits (attempted_again world_names world_boundary encode get_epoch set_epoch asked found)
  refresh_fits asked (read, turns.Done (Err number)) = tt

  claiming_fits : (asked : Option ℕ) (op : Claiming T) (caches : Caches) (reply : Option Reply) → OutcomeFits true (claiming_turned world_names world_boundary page encode decode get_epoch set_epoch asked op caches reply).1
  claiming_fits asked (claiming.Writes write value epoch) caches reply = attempt_fits world_boundary value epoch (write_turned write caches reply)
  claiming_fits asked (claiming.Reads read) caches reply = refresh_fits asked (read_turned world_names world_boundary page decode read caches reply)
  claiming_fits asked claiming.Ended caches reply = tt

  -- a step keeps whether it is a claim
  view_fits : (lacks : Bool) (op : ViewOp T) (caches : Caches) (reply : Option Reply) →
      (is_claim op ≡ is_claim (view_turned world_names world_boundary page encode decode get_epoch set_epoch lacks op caches reply).0) × OutcomeFits (is_claim op) (view_turned world_names world_boundary page encode decode get_epoch set_epoch lacks op caches reply).1
  view_fits lacks (Enters op) caches reply = (refl, entry_fits op caches reply)
  view_fits lacks (Reads op) caches reply =
      (refl, lacking_fits false lacks _ _ (seen_fits (as_view_read op.purpose) (shown get_epoch op.purpose) (shown_fits get_epoch op.purpose) (read_turned world_names world_boundary page decode op.read caches reply)))
  view_fits lacks (Claims op) caches reply = (refl, lacking_fits true lacks _ _ (claiming_fits op.asked op.claiming caches reply))

module _ {T : Type 0} where
  next_of_fits : (claims : Bool) (op : ViewOp T) (told : Turned (Result (Outcome T) ℕ)) → claims ≡ is_claim op → OutcomeFits claims told → NextFits claims (next_of (does.View op) told)
  next_of_fits claims op turns.Goes is fits = (is, tt)
  next_of_fits claims op (turns.Done (Ok outcome)) is fits = (λ e. refl, fits)
  next_of_fits claims op (turns.Done (Err number)) is fits = (λ e. refl, tt)

  plain_next_fits : (next : plain.Next T) → NextFits false (plain_next next)
  plain_next_fits (doing, None) = (λ e. absurd (cc), tt)
  plain_next_fits (doing, Some answer) = (λ e. absurd (cc), tt)

  -- a call without a view that runs is no claim
  plain_no_claim : (claims : Bool) (doing : PlainDoing T) (ask : Ask) → (claims ≡ true → doing ≡ doings.Ended) → plain.asked doing ≡ Some ask → claims ≡ false
  plain_no_claim false doing ask h asks = refl
  plain_no_claim true doing ask h asks = (let none : None ≡ Some ask = ap plain.asked (sym (h refl)) ∙ asks in absurd (cc none))

  first_next_fits : {O : Type 0} (claims : Bool) (whole : O → ViewOp T) (r : Result O ℕ) → ((op : O) → claims ≡ is_claim (whole op)) → NextFits claims (first_next whole r)
  first_next_fits {O} claims whole (Ok op) is = (is op, tt)
  first_next_fits {O} claims whole (Err number) is = (λ e. refl, tt)

  with_local_fits : (claims : Bool) (local : Option ℕ) (next : ℕ → Next T) → ((own : ℕ) → NextFits claims (next own)) → NextFits claims (with_local local next)
  with_local_fits claims None next h = (λ e. refl, tt)
  with_local_fits claims (Some own) next h = h own

module _ {T : Type 0} (page : ℕ) (encode : T → List ℕ) (decode : List ℕ → Option T) (get_epoch : T → ℕ) (set_epoch : T → ℕ → T) where
  pub turned_claims : (claims refused : Bool) (doing : Doing T) (caches : Caches) (reply : Option Reply) (ask : Ask) → asked doing ≡ Some ask → ClaimFits claims doing → NextFits claims (turned page encode decode get_epoch set_epoch refused doing caches reply)
  turned_claims claims refused (does.Plain doing) caches reply ask asks h =
      let next = plain.turned page decode refused doing caches reply in
      subst (λ (b : Bool). NextFits b (plain_next next)) (sym (plain_no_claim claims doing ask h asks)) (plain_next_fits next)
  turned_claims claims refused (does.View op) caches reply ask asks h =
      let x = view_turned world_names world_boundary page encode decode get_epoch set_epoch refused op caches reply in
      let fits = view_fits page encode decode get_epoch set_epoch refused op caches reply in
      next_of_fits claims x.0 x.1 (h ∙ fits.0) (subst (λ (b : Bool). OutcomeFits b x.1) (sym h) fits.1)

module _ {T : Type 0} (page : ℕ) (encode : T → List ℕ) (get_epoch : T → ℕ) (set_epoch : T → ℕ → T) where
  pub started_claims : (call : Call T) (view : Option (View T)) → NextFits (is_claim_call call) (started page encode get_epoch set_epoch call view)
  started_claims (any.Plain call) view = plain_next_fits (plain.started page encode call)
  started_claims (any.View (view_calls.Init value)) view = first_next_fits false Enters (entry_started world_names world_boundary encode None value) (λ op. refl)
  started_claims (any.View view_calls.Load) view = (refl, tt)
  started_claims (any.View (view_calls.Refresh number)) view = (refl, tt)
  started_claims (any.View (view_calls.Update number value)) (Some view) = first_next_fits false Enters (entry_started world_names world_boundary encode (Some view.id) value) (λ op. refl)
  started_claims (any.View (view_calls.Claim number)) (Some view) = first_next_fits true Claims (claim_started world_names world_boundary encode get_epoch set_epoch None view.id view.object) (λ op. refl)
  started_claims (any.View (view_calls.ClaimAt number epoch)) (Some view) = first_next_fits true Claims (claim_started world_names world_boundary encode get_epoch set_epoch (Some epoch) view.id view.object) (λ op. refl)
  started_claims (any.View (view_calls.HolderRefresh number)) (Some view) = with_local_fits false view.epoch _ (λ own. (refl, tt))
  started_claims (any.View (view_calls.HolderUpdate number value)) (Some view) =
      with_local_fits false view.epoch _ (λ own. first_next_fits false Enters (holder_entry_started world_names world_boundary encode get_epoch own view.id view.object value) (λ op. refl))
  started_claims (any.View (view_calls.Update number value)) None = (λ e. refl, tt)
  started_claims (any.View (view_calls.Claim number)) None = (λ e. refl, tt)
  started_claims (any.View (view_calls.ClaimAt number epoch)) None = (λ e. refl, tt)
  started_claims (any.View (view_calls.HolderRefresh number)) None = (λ e. refl, tt)
  started_claims (any.View (view_calls.HolderUpdate number value)) None = (λ e. refl, tt)
