-- What an operation does next asks for something just where it does not end.
use Rattle.std.proofs.Common.{◌≡◌, ℕ, ◌==◌, List, Bool, true, false, not, if◌then◌else◌, is_some, Option, Some, None, Result, Ok, Err, refl}
use Rattle.txn_store.specs.declared.request.Reply.{Reply}
use Rattle.txn_store.specs.types.Numbers.{number_of}
use Rattle.txn_steps.specs.declared.boundary.caches.Caches.{Caches}
use Rattle.txn_steps.specs.declared.boundary.turned.Turned.{Turned}
use Rattle.txn_steps.specs.declared.boundary.turned.Turned.TheVariants as turns
use Rattle.txn_steps.specs.boundary.Advances.{advance_turned}
use Rattle.txn_steps.specs.boundary.Checks.{check_turned}
use Rattle.txn_steps.specs.Deletes.{delete_turned}
use Rattle.txn_steps.specs.Listings.{listing_turned}
use Rattle.txn_steps.specs.Reads.{read_turned}
use Rattle.txn_steps.specs.SeenSteps.{unchecked_turned as value_turned, seen_turned}
use Rattle.txn_steps.specs.Writes.{unchecked_started, unchecked_turned, write_started, write_turned}
use Rattle.txn_history.specs.declared.event.PlainCall.{PlainCall}
use Rattle.txn_history.specs.declared.event.PlainCall.TheVariants as calls
use Rattle.txn_history.specs.declared.event.PlainAnswer.{PlainAnswer}
use Rattle.txn_history.specs.declared.event.PlainAnswer.TheVariants as plain_answers
use Rattle.txn_history.specs.Names.{world_names, world_boundary}
use Rattle.txn_history.specs.Seen.{Ask}
use Rattle.txn_machine.specs.declared.plain.doing.PlainDoing.{PlainDoing}
use Rattle.txn_machine.specs.declared.plain.doing.PlainDoing.TheVariants as doings
use Rattle.txn_machine.specs.plain.Doing as plain
use Rattle.txn_steps_views.specs.declared.op.ViewOp.{ViewOp}
use Rattle.txn_steps_views.specs.declared.op.ViewOp.TheVariants as ops
use Rattle.txn_steps_views.specs.declared.view_read.Purpose.TheVariants as purposes
use Rattle.txn_steps_views.specs.declared.outcome.Outcome.{Outcome}
use Rattle.txn_steps_views.specs.Claims.{claim_started}
use Rattle.txn_steps_views.specs.Entries.{entry_started, holder_entry_started}
use Rattle.txn_steps_views.specs.ViewOps.{view_turned}
use Rattle.txn_history.specs.declared.event.ViewCall.TheVariants as view_calls
use Rattle.txn_history.specs.declared.event.Call.{Call}
use Rattle.txn_history.specs.declared.event.Call.TheVariants as any
use Rattle.txn_history.specs.Views.{View}
use Rattle.txn_machine.specs.declared.doing.Doing.{Doing}
use Rattle.txn_machine.specs.declared.doing.Doing.TheVariants as does
use Rattle.txn_machine.specs.Doing.{Next, asked, plain_next, next_of, first_next, with_local, reads_for, started, turned}

module _ {T : Type 0} where
  abbrev pub Fits : Next T → Type 0
  Fits next = is_some (asked next.0) ≡ not (is_some next.1)

  abbrev PlainFits : plain.Next T → Type 0
  PlainFits next = is_some (plain.asked next.0) ≡ not (is_some next.1)

  fits_of_plain : (next : plain.Next T) → PlainFits next → Fits (plain_next next)
  fits_of_plain (doing, None) h = h
  fits_of_plain (doing, Some answer) h = h

  next_fits : (doing : PlainDoing T) (answer : Option (PlainAnswer T)) → is_some (plain.asked doing) ≡ true → PlainFits (plain.next_of doing answer)
  next_fits doing None runs = runs
  next_fits doing (Some answer) runs = refl

  lacking_fits : (refused : Bool) (next : plain.Next T) → PlainFits next → PlainFits (plain.or_no_memory refused next)
  lacking_fits true next fits = refl
  lacking_fits false next fits = fits

  write_fits : (last : Bool) (doing : PlainDoing T) → is_some (plain.asked doing) ≡ true → PlainFits (if◌then◌else◌ {A = plain.Next T} last (doings.Ended, Some (plain_answers.Refused 10)) (doing, None))
  write_fits true doing runs = refl
  write_fits false doing runs = runs

  view_fits : (op : ViewOp T) (told : Turned (Result (Outcome T) ℕ)) → Fits (next_of (does.View op) told)
  view_fits op turns.Goes = refl
  view_fits op (turns.Done (Ok outcome)) = refl
  view_fits op (turns.Done (Err number)) = refl

  first_fits : {O : Type 0} (whole : O → ViewOp T) (r : Result O ℕ) → Fits (first_next whole r)
  first_fits {O} whole (Ok op) = refl
  first_fits {O} whole (Err number) = refl

  local_fits : (local : Option ℕ) (next : ℕ → Next T) → ((own : ℕ) → Fits (next own)) → Fits (with_local local next)
  local_fits None next h = refl
  local_fits (Some own) next h = h own

module _ {T : Type 0} (page : ℕ) (decode : List ℕ → Option T) where
  plain_fits : (refused : Bool) (doing : PlainDoing T) (caches : Caches) (reply : Option Reply) (ask : Ask) → plain.asked doing ≡ Some ask → PlainFits (plain.turned page decode refused doing caches reply)
  plain_fits refused (doings.Write op) caches reply ask e = let t = write_turned op caches reply in next_fits (doings.Write t.0) (plain.write_answer t.1) refl
  plain_fits refused (doings.WriteUnchecked op) caches reply ask e = let t = unchecked_turned op reply in next_fits (doings.WriteUnchecked t.0) (plain.write_answer t.1) refl
  plain_fits refused (doings.Read op) caches reply ask e =
      let t = read_turned world_names world_boundary page decode op caches reply in
      lacking_fits refused (plain.read_next t) (next_fits (doings.Read t.0) (plain.read_answer t.1) refl)
  plain_fits refused (doings.ReadUnchecked op) caches reply ask e =
      let t = value_turned decode reply in
      lacking_fits refused (plain.value_next op t) (next_fits (doings.ReadUnchecked op) (plain.value_answer t) refl)
  plain_fits refused (doings.ReadSeen op) caches reply ask e =
      let t = seen_turned world_names decode op caches.latest reply in
      lacking_fits refused (plain.seen_next t) (next_fits (doings.ReadSeen t.0) (plain.value_answer t.1) refl)
  plain_fits refused (doings.ListIds op) caches reply ask e =
      let t = listing_turned world_names page op reply in
      lacking_fits refused (plain.ids_next t) (next_fits (doings.ListIds t.0) (plain.ids_answer t.1) refl)
  plain_fits refused (doings.Delete op) caches reply ask e = let t = delete_turned op caches reply in next_fits (doings.Delete t.0) (plain.done_answer t.1) refl
  plain_fits refused (doings.Check op) caches reply ask e = let t = check_turned op caches reply in next_fits (doings.Check t.0) (plain.done_answer t.1) refl
  plain_fits refused (doings.Advance op) caches reply ask e =
      let t = advance_turned world_boundary op caches reply in
      lacking_fits refused (plain.advance_next t) (next_fits (doings.Advance t.0) (plain.done_answer t.1) refl)
  plain_fits refused doings.Ended caches reply ask e = absurd (cc)

module _ {T : Type 0} (page : ℕ) (encode : T → List ℕ) where
  plain_started_fits : (call : PlainCall T) → PlainFits (plain.started page encode call)
  plain_started_fits (calls.Write base value) = write_fits (number_of base == 18446744073709551615) (doings.Write (write_started world_names world_boundary base (encode value))) refl
  plain_started_fits (calls.WriteUnchecked base value) = write_fits (number_of base == 18446744073709551615) (doings.WriteUnchecked (unchecked_started world_names base (encode value))) refl
  plain_started_fits calls.Read = refl
  plain_started_fits (calls.ReadUnchecked id) = refl
  plain_started_fits (calls.ReadSeen id) = refl
  plain_started_fits (calls.ListIds from to) = refl
  plain_started_fits (calls.Delete id) = refl
  plain_started_fits (calls.Check id) = refl
  plain_started_fits (calls.Advance to) = refl

module _ {T : Type 0} (page : ℕ) (encode : T → List ℕ) (decode : List ℕ → Option T) (get_epoch : T → ℕ) (set_epoch : T → ℕ → T) where
  pub turned_fits : (refused : Bool) (doing : Doing T) (caches : Caches) (reply : Option Reply) (ask : Ask) → asked doing ≡ Some ask → Fits (turned page encode decode get_epoch set_epoch refused doing caches reply)
  turned_fits refused (does.Plain doing) caches reply ask e = fits_of_plain (plain.turned page decode refused doing caches reply) (plain_fits page decode refused doing caches reply ask e)
  turned_fits refused (does.View op) caches reply ask e = let t = view_turned world_names world_boundary page encode decode get_epoch set_epoch refused op caches reply in view_fits t.0 t.1

module _ {T : Type 0} (page : ℕ) (encode : T → List ℕ) (get_epoch : T → ℕ) (set_epoch : T → ℕ → T) where
  pub started_fits : (call : Call T) (view : Option (View T)) → Fits (started page encode get_epoch set_epoch call view)
  started_fits (any.Plain call) view = fits_of_plain (plain.started page encode call) (plain_started_fits page encode call)
  started_fits (any.View (view_calls.Init value)) view = first_fits ops.Enters (entry_started world_names world_boundary encode None value)
  started_fits (any.View view_calls.Load) view = refl
  started_fits (any.View (view_calls.Refresh number)) view = refl
  started_fits (any.View (view_calls.Update number value)) (Some view) = first_fits ops.Enters (entry_started world_names world_boundary encode (Some view.id) value)
  started_fits (any.View (view_calls.Claim number)) (Some view) = first_fits ops.Claims (claim_started world_names world_boundary encode get_epoch set_epoch None view.id view.object)
  started_fits (any.View (view_calls.ClaimAt number epoch)) (Some view) = first_fits ops.Claims (claim_started world_names world_boundary encode get_epoch set_epoch (Some epoch) view.id view.object)
  started_fits (any.View (view_calls.HolderRefresh number)) (Some view) = local_fits view.epoch (λ own. reads_for (purposes.HolderRefresh own)) (λ own. refl)
  started_fits (any.View (view_calls.HolderUpdate number value)) (Some view) =
      local_fits view.epoch (λ own. first_next ops.Enters (holder_entry_started world_names world_boundary encode get_epoch own view.id view.object value)) (λ own. first_fits ops.Enters (holder_entry_started world_names world_boundary encode get_epoch own view.id view.object value))
  started_fits (any.View (view_calls.Update number value)) None = refl
  started_fits (any.View (view_calls.Claim number)) None = refl
  started_fits (any.View (view_calls.ClaimAt number epoch)) None = refl
  started_fits (any.View (view_calls.HolderRefresh number)) None = refl
  started_fits (any.View (view_calls.HolderUpdate number value)) None = refl
