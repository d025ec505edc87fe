-- What a merged list is, whatever happened: one history.
use Rattle.std.specs.Prelude.{◌≡◌, ℕ, List, Option, Some, length}
use Rattle.std.specs.Option.{option_map}
use Rattle.txn_history.specs.Lists.{numbered}
use Rattle.txn_history.specs.OneHistory.{IsOneHistory}
use Rattle.txn_history.specs.Views.{View, ViewsFit}
use Rattle.txn_history.specs.Laws.{HasOneClaimer}
use Rattle.txn_machine.specs.views.Layer.{Used}
use Rattle.txn_client_journals.specs.Parts.{Part}
use Rattle.txn_client_journals.specs.Numbers.{number}
use Rattle.txn_client_journals.specs.Merged.{Merged, views_of}
use Rattle.txn_client_journals.specs.Traces.{trace_of, failed_of}

module _ {T : Type 0} (decode : List ℕ → Option T) (get_epoch : T → ℕ) (set_epoch : T → ℕ → T) where
  -- The list's trace is one history. The clients' views, each by its number among all, are all views, and fit the trace. No two claims are held with one epoch.
  pub record OneHistoryOfMerged (m : Merged T) (parts : ℕ → Part T) : Type 0 where
    pub one_history : IsOneHistory decode get_epoch set_epoch (failed_of m) (trace_of m)
    pub views : List (Option (View T))
    pub all_views : length views ≡ length (views_of m)
    pub its_views : (client k : ℕ) (used : Option (Used T)) → numbered (parts client).views k ≡ Some used → numbered views (number (views_of m) client k) ≡ Some (option_map (λ used. used.view) used)
    pub views_fit : ViewsFit decode get_epoch (trace_of m) views
    pub one_claimer : HasOneClaimer (trace_of m)
