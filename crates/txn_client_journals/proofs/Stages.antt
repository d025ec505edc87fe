-- A merged list leads a world where its journals and its log lead.
use Rattle.std.proofs.Common.{◌≡◌, ◌≢◌, ℕ, ◌≤◌, List, length, Option, inl, inr, subst}
use Rattle.std.proofs.lemmas.Bool.{cases_eq}
use Rattle.txn_store.specs.Store.{State as StoreState}
use Rattle.txn_history.specs.declared.event.Answer.{Answer}
use Rattle.txn_history.specs.Trace.{Event, Told}
use Rattle.txn_history.specs.OneHistory.{IsOneHistory}
use Rattle.txn_machine.specs.Machine.{State, opening, RunsOrLacks}
use Rattle.txn_client_journals.specs.declared.rows.Step.{Step}
use Rattle.txn_client_journals.specs.declared.rows.JournalRow.{JournalRow}
use Rattle.txn_client_journals.specs.Parts.{Part}
use Rattle.txn_client_journals.specs.Numbers.{count}
use Rattle.txn_client_journals.specs.Merged.{Merged, begins_of, views_of}
use Rattle.txn_client_journals.specs.Traces.{loose_of, failed_of, trace_of}
use Rattle.txn_client_journals.proofs.Taken.{taken_of}
use Rattle.txn_client_journals.proofs.Ties.{TiedTo}
use Rattle.txn_client_journals.proofs.Lefts.{AllLeft}

module _ {T : Type 0} (page : ℕ) (encode : T → List ℕ) (decode : List ℕ → Option T) (get_epoch : T → ℕ) (set_epoch : T → ℕ → T) where
  -- what every run has
  abbrev pub History : Type 0
  History = (clients page : ℕ) (taken : List (Event T × Told T)) (state : State T) → 1 ≤ page → RunsOrLacks encode decode get_epoch set_epoch (opening clients page) taken state → IsOneHistory decode get_epoch set_epoch state.failed state.trace

  pub record Stage (clients : ℕ) (m : Merged T) (parts : ℕ → Part T) (store : StoreState) (s : State T) : Type 0 where
    pub runs : RunsOrLacks encode decode get_epoch set_epoch (opening clients page) (taken_of m) s
    pub clients_is : s.clients ≡ clients
    pub page_is : s.page ≡ page
    pub trace : s.trace ≡ trace_of m
    pub failed : s.failed ≡ failed_of m
    pub loose : s.loose ≡ loose_of m
    pub lefts : AllLeft m
    pub store_is : s.store ≡ store
    pub all_operations : length s.operations ≡ length (begins_of m)
    pub all_views : length s.views ≡ length (views_of m)
    pub above : (client : ℕ) → 1 ≤ count client (begins_of m) → 1 ≤ client
    pub tied : (client : ℕ) → TiedTo decode get_epoch s client (parts client) (begins_of m) (views_of m)

  abbrev pub row_of : Step T → Option (Answer T) → JournalRow T
  row_of step answer = record { step = step; answer = answer }

  -- a client's own, and others
  pub both : (P : ℕ → Type 0) (client : ℕ) → P client → ((d : ℕ) → client ≢ d → P d) → (d : ℕ) → P d
  both P client own other d = elim (cases_eq client d) [ inl same ↦ subst P same own | inr ne ↦ other d ne ]
