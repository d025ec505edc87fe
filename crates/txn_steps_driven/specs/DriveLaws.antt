-- An operation that goes on after a step asks again for what a store can serve.
use Rattle.std.specs.Prelude.{◌≡◌, ℕ, ◌≤◌, ◌&&◌, Bool, true, false, List, Option, Some, None, Result, Ok, Err}
use Rattle.std.proofs.Common.{refl, sym, ap, subst}
use Rattle.txn_store.specs.Paths.{Segments}
use Rattle.txn_store.specs.VersionName.{Names}
use Rattle.txn_store.specs.declared.store.ObjectMeta.{ObjectMeta}
use Rattle.txn_store.specs.declared.store.StoreError.TheVariants as errors
use Rattle.txn_store.specs.declared.request.Request.{Request}
use Rattle.txn_store.specs.declared.request.Reply.{Reply}
use Rattle.txn_store.specs.declared.request.Reply.TheVariants as replies
use Rattle.txn_steps.specs.declared.boundary.caches.Caches.{Caches}
use Rattle.txn_steps.specs.declared.boundary.turned.Turned.{Turned}
use Rattle.txn_steps.specs.declared.boundary.turned.Turned.TheVariants.{Goes}
use Rattle.txn_steps.specs.boundary.Asking.{unless_lacking}
use Rattle.txn_steps.specs.declared.delete.DeleteUncheckedOp.{DeleteUncheckedOp}
use Rattle.txn_steps.specs.declared.delete.RemovalStep.{RemovalStep}
use Rattle.txn_steps.specs.declared.delete.RemovalStep.TheVariants.{Removes, Drops}
use Rattle.txn_steps.specs.declared.listing.ListOp.{ListOp}
use Rattle.txn_steps.specs.declared.write.WriteUncheckedOp.{WriteUncheckedOp}
use Rattle.txn_steps.specs.declared.write.WriteUncheckedOp.TheVariants.{Puts, Keeps, Ended}
use Rattle.txn_steps.specs.Deletes.{removal_turned_at}
use Rattle.txn_steps.specs.Listings.{listing_turned, listing_after}
use Rattle.txn_steps.specs.Requests.{next_after}
use Rattle.txn_steps.specs.Writes.{unchecked_turned}
use Rattle.txn_steps_driven.specs.DriveRuns.{Scene, Stepped}
use Rattle.txn_steps_driven.specs.DriveSteps.{WriteUncheckedSteps, DeleteUncheckedSteps, ListSteps}
use Rattle.txn_steps_driven.specs.ListRuns.{CanList}
use Rattle.txn_steps_driven.specs.RemovalRuns.{CanRemove}
use Rattle.txn_steps_driven.specs.WriteRuns.{CanWrite}

-- what holds of each operation that is turned to, where it goes on, holds after a step
module _ {O A : Type 0} (may_grow : Bool) (asked : O → Option Request) (turned : O → Caches → Option Reply → O × Turned (Result A ℕ)) (left : O → Caches → Turned (Result A ℕ) → Caches) (Can : O → Type 0) where
  pub goes_on : (grows : Bool) (op op' : O) (next : O × Turned (Result A ℕ)) → (op', Goes) ≡ unless_lacking (grows && false) op next → (op', Goes) ≡ next
  goes_on true op op' next is = is
  goes_on false op op' next is = is

  pub asks_by : ((op : O) (caches : Caches) (reply : Option Reply) → Can op → Goes ≡ (turned op caches reply).1 → Can (turned op caches reply).0) → (a b : Scene O) → Can a.op → Stepped may_grow asked turned left a Goes b → Can b.op
  asks_by kept a b can step =
      let is = goes_on may_grow a.op b.op (turned a.op a.caches step.reply) step.takes in
      subst Can (sym (ap (λ p. p.0) is)) (kept a.op a.caches step.reply can (ap (λ p. p.1) is))

pub write_next : (op : WriteUncheckedOp) (reply : Option Reply) → CanWrite op → Goes ≡ (unchecked_turned op reply).1 → CanWrite (unchecked_turned op reply).0
write_next (Puts version request) (Some (replies.Put (Ok token))) can goes = tt
write_next (Puts version request) (Some (replies.Put (Err errors.NotFound))) can goes = can
write_next (Puts version request) (Some (replies.Put (Err error))) can goes = can
write_next (Puts version request) (Some reply) can goes = can
write_next (Puts version request) None can goes = can
write_next (Keeps version) (Some (replies.Put (Ok token))) can goes = tt
write_next (Keeps version) (Some (replies.Put (Err errors.NotFound))) can goes = can
write_next (Keeps version) (Some (replies.Put (Err error))) can goes = can
write_next (Keeps version) (Some reply) can goes = can
write_next (Keeps version) None can goes = absurd (cc)
write_next Ended reply can goes = absurd can

pub write_unchecked_asks : (a b : Scene WriteUncheckedOp) → CanWrite a.op → WriteUncheckedSteps a Goes b → CanWrite b.op
write_unchecked_asks = asks_by _ _ _ _ CanWrite (λ op caches reply can goes. write_next op reply can goes)

pub removal_next : (step : RemovalStep) (op : DeleteUncheckedOp) (reply : Option Reply) → op.step ≡ step → CanRemove op.step op.request → Goes ≡ (removal_turned_at step op reply).1 → CanRemove (removal_turned_at step op reply).0.step (removal_turned_at step op reply).0.request
removal_next Removes op (Some (replies.Delete (Ok done))) is can goes = tt
removal_next Removes op (Some (replies.Delete (Err e))) is can goes = can
removal_next Removes op (Some reply) is can goes = can
removal_next Removes op None is can goes = can
removal_next Drops op reply is can goes = can

pub delete_unchecked_asks : (a b : Scene DeleteUncheckedOp) → CanRemove a.op.step a.op.request → DeleteUncheckedSteps a Goes b → CanRemove b.op.step b.op.request
delete_unchecked_asks = asks_by _ _ _ _ (λ (op : DeleteUncheckedOp). CanRemove op.step op.request) (λ op caches reply can goes. removal_next op.step op reply refl can goes)

module _ (names : Names) (page : ℕ) (room : 1 ≤ page) where
  after_next : (op : ListOp) (metas : List ObjectMeta) (after : Option Segments) → CanList op.request → CanList (listing_after names page op metas after).0.request
  after_next op metas (Some after) can = room
  after_next op metas None can = can

  pub list_next : (op : ListOp) (reply : Option Reply) → CanList op.request → CanList (listing_turned names page op reply).0.request
  list_next op (Some (replies.List (Ok told))) can = after_next op told.metas (next_after told) can
  list_next op (Some (replies.List (Err e))) can = can
  list_next op (Some reply) can = can
  list_next op None can = can

  pub list_asks : (a b : Scene ListOp) → CanList a.op.request → ListSteps names page a Goes b → CanList b.op.request
  list_asks = asks_by _ _ _ _ (λ (op : ListOp). CanList op.request) (λ op caches reply can goes. list_next op reply can)
