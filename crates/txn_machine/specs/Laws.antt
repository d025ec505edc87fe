-- What the laws say of the states that runs lead to, and of each event of a run.
use Rattle.std.specs.Prelude.{◌≡◌, ◌≤◌, ℕ, List, Option, Some}
use Rattle.txn_history.specs.Added.{AddsRows}
use Rattle.txn_history.specs.GoesOn.{GoesOn}
use Rattle.txn_history.specs.Laws.{HasOneClaimer}
use Rattle.txn_history.specs.Lists.{numbered}
use Rattle.txn_history.specs.OneHistory.{IsOneHistory}
use Rattle.txn_history.specs.Trace.{Event, Told}
use Rattle.txn_history.specs.Views.{ViewsFit}
use Rattle.txn_machine.specs.views.Layer.{Used}
use Rattle.txn_machine.specs.Machine.{State, seen_calls, seen_views, seen_of}

module _ {T : Type 0} (decode : List ℕ → Option T) (get_epoch : T → ℕ) (set_epoch : T → ℕ → T) where
  -- The trace is one history of all calls, each view fits it, and no two claims are held with one epoch.
  pub record HasOneHistory (s : State T) : Type 0 where
    pub rows : IsOneHistory decode get_epoch set_epoch s.failed s.trace
    pub views : ViewsFit decode get_epoch s.trace (seen_views s.views)
    pub claims : HasOneClaimer s.trace

module _ {T : Type 0} where
  -- There are so many clients, a page has so many files, and each view is of one of the clients, which are numbered from 1.
  pub record KeepsClients (clients page : ℕ) (s : State T) : Type 0 where
    pub clients_are : s.clients ≡ clients
    pub page_is : s.page ≡ page
    pub owners : (number : ℕ) (used : Used T) → numbered s.views number ≡ Some (Some used) → (1 ≤ used.view.client) × (used.view.client ≤ clients)

  -- An event adds the rows of what it did, and what stands beside the rows goes on as it says.
  pub record EventGoesOn (old : State T) (event : Event T) (said : Told T) (new : State T) : Type 0 where
    pub added : AddsRows (seen_calls old) old.trace old.store.files event said new.trace new.store.files
    pub beside : GoesOn (seen_of old) event said new.trace (seen_of new)
