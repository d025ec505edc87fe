-- What holds of each state that a world reaches, as its public calls say it.
use Rattle.std.proofs.Common.{◌≡◌, ℕ, ◌≤◌, List, length, Option, Some, None, inl, inr, sym, ◌∙◌, ap, subst}
use Rattle.txn_store.specs.Store.{State as StoreState}
use Rattle.txn_store.specs.Requests.{Serves}
use Rattle.txn_store.specs.declared.request.Request.{Request}
use Rattle.txn_store.specs.declared.request.Reply.{Reply}
use Rattle.txn_steps.specs.declared.boundary.caches.Caches.{Caches}
use Rattle.txn_history.specs.Lists.{numbered}
use Rattle.txn_history.specs.History.{Contents, stored, HasContents}
use Rattle.txn_history.specs.Seen.{Store, Look}
use Rattle.txn_machine.proofs.plain.Replies.{stood_replies, stood_looks, stood_range}
use Rattle.txn_history.specs.Trace.{Row, Event, Told}
use Rattle.txn_history.specs.Calls.{view_used}
use Rattle.txn_history.specs.OneHistory.{IsOneHistory}
use Rattle.txn_history.specs.Views.{ViewsFit, ViewGoesOn}
use Rattle.txn_history.specs.Laws.{HasOneClaimer}
use Rattle.txn_history.specs.GoesOn.{GoesOn as AllGoOn}
use Rattle.txn_history.proofs.Claimers.{one_claimer}
use Rattle.txn_machine.specs.views.Layer.{Used, look_up, local_of}
use Rattle.txn_machine.specs.views.Steps.{GoesOn}
use Rattle.txn_machine.proofs.views.Tied.{same_stored}
use Rattle.txn_machine.proofs.views.Tables as layer_tables
use Rattle.txn_machine.specs.declared.doing.Operation.{Operation}
use Rattle.txn_machine.specs.Doing.{asked, IsReply, InRange}
use Rattle.txn_machine.specs.Machine.{State, opening, used_in, seen_views, seen_of, Takes, TakesOrLacks, Runs, RunsOrLacks, IsReached}
use Rattle.txn_machine.specs.Laws.{HasOneHistory, EventGoesOn}
use Rattle.txn_machine.proofs.AddedRows.{added_rows_or_lacking}
use Rattle.txn_machine.proofs.Joined.{as_fine, At, Joined}
use Rattle.txn_machine.proofs.Alike.{matched_same}
use Rattle.txn_machine.proofs.Serving.{held_of}
use Rattle.txn_machine.proofs.Beginning.{views_fit}
use Rattle.txn_machine.proofs.Runs.{opening_reached, taken_reached_or_lacking, runs_keep, or_lacking, runs_or_lacking}
use Rattle.txn_machine.proofs.ViewsGoOn.{goes_on_with}
use Rattle.txn_machine.proofs.Joining.{nothing, takes_joins, reached_joins, from_here, begins_again}

module _ {T : Type 0} (encode : T → List ℕ) (decode : List ℕ → Option T) (get_epoch : T → ℕ) (set_epoch : T → ℕ → T) where
  -- the trace is one history

  pub joined_history : (s : State T) → Joined decode get_epoch set_epoch nothing s → IsOneHistory decode get_epoch set_epoch s.failed s.trace
  joined_history s j = subst (λ (failed : List ℕ). IsOneHistory decode get_epoch set_epoch failed s.trace) j.tie.failed (subst (λ (rows : List (Row T)). IsOneHistory decode get_epoch set_epoch j.l.failed rows) j.tie.rows j.over.good)

  pub reached_history : (s : State T) → IsReached encode decode get_epoch set_epoch s → IsOneHistory decode get_epoch set_epoch s.failed s.trace
  reached_history s r = joined_history s (reached_joins encode decode get_epoch set_epoch s r)

  -- the views fit it
  pub reached_views : (s : State T) → IsReached encode decode get_epoch set_epoch s → ViewsFit decode get_epoch s.trace (seen_views s.views)
  reached_views s r =
      let j = reached_joins encode decode get_epoch set_epoch s r in
      subst (λ (rows : List (Row T)). ViewsFit decode get_epoch rows (seen_views s.views)) j.tie.rows (views_fit decode get_epoch set_epoch j.l j.over s.views j.tie.views j.tie.count)

  -- no two claims are held with one epoch
  pub reached_claims : (s : State T) → IsReached encode decode get_epoch set_epoch s → HasOneClaimer s.trace
  reached_claims s r = one_claimer decode get_epoch set_epoch s.failed s.trace (reached_history s r)

  pub reached_fits : (s : State T) → IsReached encode decode get_epoch set_epoch s → HasOneHistory decode get_epoch set_epoch s
  reached_fits s r = record { rows = reached_history s r; views = reached_views s r; claims = reached_claims s r }

  -- the store has the contents that the effects say
  pub reached_stored : (s : State T) → IsReached encode decode get_epoch set_epoch s → HasContents s.store.files (stored s.trace)
  reached_stored s r =
      let j = reached_joins encode decode get_epoch set_epoch s r in
      let same : stored j.l.rows ≡ stored j.fine.trace = same_stored j.owner j.fine.trace j.l.rows j.core.tied.top in
      subst (λ (rows : List (Row T)). HasContents s.store.files (stored rows)) j.tie.rows
      (subst (λ (contents : Contents). HasContents s.store.files contents) (sym same)
      (subst (λ (store : StoreState). HasContents store.files (stored j.fine.trace)) j.tie.store j.stands.know.files.kept))

  -- each client keeps something

  pub reached_wide : (s : State T) → IsReached encode decode get_epoch set_epoch s → length s.caches ≡ s.clients
  reached_wide s r = (let j = reached_joins encode decode get_epoch set_epoch s r in sym (ap (λ (cs : List Caches). length cs) j.caches) ∙ (j.stands.wide ∙ j.tie.clients))

  module _ (s : State T) (r : IsReached encode decode get_epoch set_epoch s) (op : ℕ) (o : Operation T) (found : numbered s.operations op ≡ Some o) where
    joined : Joined decode get_epoch set_epoch nothing s
    joined = reached_joins encode decode get_epoch set_epoch s r

    -- a reply of the kind that it asks for
    pub reached_replies : (request : Request) (reply : Reply) (new : StoreState) → asked o.doing ≡ Some (Store request) → Serves request s.store reply new → IsReply o.doing (Some reply)
    reached_replies request reply new asks serves =
        let held = held_of encode decode get_epoch set_epoch nothing s joined op o (Store request) found asks in
        let same = matched_same get_epoch held.call (local_of (look_up joined.l.views (view_used held.call))) held.inner o.doing held.doing held.matched in
        same.replies (Some reply) (stood_replies decode get_epoch joined.fine joined.stands (joined.now op) (as_fine o.client held.doing) held.there request reply new (sym same.asks ∙ asks) (subst (λ (store : StoreState). Serves request store reply new) (sym joined.tie.store) serves))

    pub reached_looks : asked o.doing ≡ Some Look → IsReply o.doing None
    reached_looks asks =
        let held = held_of encode decode get_epoch set_epoch nothing s joined op o Look found asks in
        let same = matched_same get_epoch held.call (local_of (look_up joined.l.views (view_used held.call))) held.inner o.doing held.doing held.matched in
        same.replies None (stood_looks decode get_epoch joined.fine joined.stands (joined.now op) (as_fine o.client held.doing) held.there (sym same.asks ∙ asks))

    pub reached_range : InRange o.doing
    reached_range = by (subst (λ (x : Option (Operation T)). At decode get_epoch joined.fine.operations joined.fine.trace joined.l.rows joined.owner joined.now joined.l.ops joined.l.views joined.l.asked op x) found (joined.rest.each op))
      where
        by : At decode get_epoch joined.fine.operations joined.fine.trace joined.l.rows joined.owner joined.now joined.l.ops joined.l.views joined.l.asked op (Some o) → InRange o.doing
        by (inl h) = subst InRange (sym h.0) tt
        by (inr h) = (matched_same get_epoch h.call (local_of (look_up joined.l.views (view_used h.call))) h.inner o.doing h.doing h.matched).range (stood_range decode get_epoch joined.fine joined.stands (joined.now op) (as_fine o.client h.doing) h.there)

  -- from event to event each view goes on

  both_go : (was is : Used T) → GoesOn (Some was) (Some is) → ViewGoesOn was.view is.view
  both_go was is h = h

  pub next_views_or_lacking : (old : State T) (event : Event T) (said : Told T) (new : State T) → IsReached encode decode get_epoch set_epoch old → TakesOrLacks encode decode get_epoch set_epoch old event said new →
      (number : ℕ) (was is : Used T) → numbered old.views number ≡ Some (Some was) → numbered new.views number ≡ Some (Some is) → ViewGoesOn was.view is.view
  next_views_or_lacking old event said new r t number was is before after =
      let j = reached_joins encode decode get_epoch set_epoch old r in
      let k = takes_joins encode decode get_epoch set_epoch (from_here encode decode get_epoch set_epoch nothing old j) old event said new r t (begins_again encode decode get_epoch set_epoch nothing old j) in
      let there : j.l.views number ≡ Some was = j.tie.views number ∙ ap used_in before in
      let now : k.l.views number ≡ Some is = k.tie.views number ∙ ap used_in after in
      let known = (layer_tables.view_of decode get_epoch set_epoch j.l j.over number was there).0 in
      both_go was is (subst (GoesOn (Some was)) now (subst (λ (x : Option (Used T)). GoesOn x (k.l.views number)) there (k.goes number known)))

module _ {T : Type 0} (encode : T → List ℕ) (decode : List ℕ → Option T) (get_epoch : T → ℕ) (set_epoch : T → ℕ → T) where
  -- a run from the opening reaches its state
  pub run_reaches_or_lacking : (clients page : ℕ) (taken : List (Event T × Told T)) (s : State T) → 1 ≤ page → RunsOrLacks encode decode get_epoch set_epoch (opening clients page) taken s → IsReached encode decode get_epoch set_epoch s
  run_reaches_or_lacking clients page taken s room runs =
      runs_keep encode decode get_epoch set_epoch (IsReached encode decode get_epoch set_epoch) (λ old event said new r t. taken_reached_or_lacking encode decode get_epoch set_epoch old event said new r t)
      (opening clients page) taken s runs (opening_reached encode decode get_epoch set_epoch clients page room)

  -- what stands beside the rows goes on
  pub reached_goes_on_or_lacking : (old : State T) (event : Event T) (said : Told T) (new : State T) → IsReached encode decode get_epoch set_epoch old → TakesOrLacks encode decode get_epoch set_epoch old event said new → AllGoOn (seen_of old) event said new.trace (seen_of new)
  reached_goes_on_or_lacking old event said new r t = goes_on_with encode decode get_epoch set_epoch old event said new r t (next_views_or_lacking encode decode get_epoch set_epoch old event said new r t)

  -- with the rows that are added
  pub reached_event : (old : State T) (event : Event T) (said : Told T) (new : State T) → IsReached encode decode get_epoch set_epoch old → TakesOrLacks encode decode get_epoch set_epoch old event said new → EventGoesOn old event said new
  reached_event old event said new r t = record { added = added_rows_or_lacking encode decode get_epoch set_epoch old event said new r t; beside = reached_goes_on_or_lacking old event said new r t }

  -- the same of a world, of which no serve lacks memory

  pub next_views : (old : State T) (event : Event T) (said : Told T) (new : State T) → IsReached encode decode get_epoch set_epoch old → Takes encode decode get_epoch set_epoch old event said new →
      (number : ℕ) (was is : Used T) → numbered old.views number ≡ Some (Some was) → numbered new.views number ≡ Some (Some is) → ViewGoesOn was.view is.view
  next_views old event said new r t = next_views_or_lacking encode decode get_epoch set_epoch old event said new r (or_lacking encode decode get_epoch set_epoch old event said new t)

  pub run_reaches : (clients page : ℕ) (taken : List (Event T × Told T)) (s : State T) → 1 ≤ page → Runs encode decode get_epoch set_epoch (opening clients page) taken s → IsReached encode decode get_epoch set_epoch s
  run_reaches clients page taken s room runs = run_reaches_or_lacking clients page taken s room (runs_or_lacking encode decode get_epoch set_epoch (opening clients page) taken s runs)

  pub reached_goes_on : (old : State T) (event : Event T) (said : Told T) (new : State T) → IsReached encode decode get_epoch set_epoch old → Takes encode decode get_epoch set_epoch old event said new → AllGoOn (seen_of old) event said new.trace (seen_of new)
  reached_goes_on old event said new r t = reached_goes_on_or_lacking old event said new r (or_lacking encode decode get_epoch set_epoch old event said new t)
