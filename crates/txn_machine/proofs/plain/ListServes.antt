-- What a serve leaves a listing of ids with.
use Rattle.std.proofs.Common.{◌≡◌, ℕ, ◌≤◌, List, ◌++◌, true, Option, Some, None, Ok, Err, Result, refl, sym, subst}
use Rattle.txn_store.specs.Paths.{Segments}
use Rattle.txn_store.specs.Store.{State as StoreState, Lists as StoreLists}
use Rattle.txn_store.specs.Requests.{Serves}
use Rattle.txn_store.specs.declared.page.Page.{Page}
use Rattle.txn_store.specs.declared.store.ObjectMeta.{ObjectMeta}
use Rattle.txn_store.specs.declared.store.StoreError.{StoreError}
use Rattle.txn_store.specs.declared.store.StoreError.TheVariants as errors
use Rattle.txn_store.specs.declared.request.Request.{Request}
use Rattle.txn_store.specs.declared.request.Reply.{Reply}
use Rattle.txn_store.specs.declared.request.Reply.TheVariants as replies
use Rattle.txn_steps.specs.declared.listing.ListOp.{ListOp}
use Rattle.txn_steps.specs.Picked.{picked}
use Rattle.txn_steps.specs.Listings.{listing_after, listing_answered, listing_turned}
use Rattle.txn_history.specs.Trace.{PlainRow}
use Rattle.txn_history.specs.Names.{world_names}
use Rattle.txn_history.specs.Calls.{was_begun}
use Rattle.txn_history.specs.Facts.{IsListing}
use Rattle.txn_machine.specs.plain.Doing.{ids_of}
use Rattle.txn_machine.proofs.plain.Stands.{KnowStands, CollectingStands, list_versions}
use Rattle.txn_history.proofs.More.{AtRow-now}
use Rattle.txn_machine.proofs.plain.Faults.{ruled_out}
use Rattle.txn_machine.proofs.plain.Pages.{ListLeaves, list_leaves}
use Rattle.txn_machine.proofs.plain.Turns.{ListTells}

module _ {T : Type 0} (decode : List ℕ → Option T) (get_epoch : T → ℕ) (failed : List ℕ) (rows : List (PlainRow T)) (op : ℕ) (page : ℕ) (room : 1 ≤ page) (begun : was_begun rows op ≡ true) where
  -- after a page: the listing ends here, or its next page is asked for
  paged : (list : ListOp) (metas : List ObjectMeta) (next : Option Segments) → ListLeaves rows list.from list.to next (ids_of (list.found ++ picked world_names list.from list.to metas)) → ListTells decode rows op (listing_after world_names page list metas next)
  paged list metas None h = (AtRow-now rows op (λ front. IsListing front list.from list.to (ids_of (list.found ++ picked world_names list.from list.to metas))) begun h.0, h.1)
  paged list metas (Some path) h = h page room

  answered : (old new : StoreState) (list : ListOp) (answer : Result Page StoreError) → KnowStands decode get_epoch failed rows old → (c : CollectingStands rows list.from list.to (ids_of list.found) list.request) →
      StoreLists world_names.dir c.after c.limit old answer new → new.failures ≡ 0 → ListTells decode rows op (listing_answered world_names page list answer)
  answered old new list (Ok told) k c s honest =
      subst (λ (p : Page). ListTells decode rows op (listing_answered world_names page list (Ok p))) (sym s.listed)
      (paged list _ _ (list_leaves decode get_epoch failed rows old k list.from list.to list.found list.request c))
  answered old new list (Err errors.NoMemory) k c s honest = refl
  answered old new list (Err errors.Failed) k c s honest = ruled_out old new honest s.err.0
  answered old new list (Err errors.TokensExhausted) k c s honest = absurd s.err
  answered old new list (Err errors.NotFound) k c s honest = let none = s.err.0 in absurd (cc)
  answered old new list (Err errors.AlreadyExists) k c s honest = let none = s.err.0 in absurd (cc)
  answered old new list (Err errors.Precondition) k c s honest = let none = s.err.0 in absurd (cc)
  answered old new list (Err errors.NotModified) k c s honest = let none = s.err.0 in absurd (cc)

  replied : (old new : StoreState) (list : ListOp) (reply : Reply) → KnowStands decode get_epoch failed rows old → (c : CollectingStands rows list.from list.to (ids_of list.found) list.request) →
      Serves (list_versions c.after c.limit) old reply new → new.failures ≡ 0 → ListTells decode rows op (listing_turned world_names page list (Some reply))
  replied old new list (replies.List answer) k c s honest = answered old new list answer k c s honest
  replied old new list (replies.Put answer) k c s honest = absurd s
  replied old new list (replies.Get answer) k c s honest = absurd s
  replied old new list (replies.Delete answer) k c s honest = absurd s

module _ {T : Type 0} (decode : List ℕ → Option T) (get_epoch : T → ℕ) where
  pub list_serves : (failed : List ℕ) (rows : List (PlainRow T)) (old new : StoreState) (op : ℕ) (list : ListOp) (page : ℕ) (reply : Reply) → 1 ≤ page → KnowStands decode get_epoch failed rows old → was_begun rows op ≡ true → CollectingStands rows list.from list.to (ids_of list.found) list.request →
      Serves list.request old reply new → new.failures ≡ 0 → ListTells decode rows op (listing_turned world_names page list (Some reply))
  list_serves failed rows old new op list page reply room k begun c s honest =
      replied decode get_epoch failed rows op page room begun old new list reply k c (subst (λ (request : Request). Serves request old reply new) c.asks s) honest
