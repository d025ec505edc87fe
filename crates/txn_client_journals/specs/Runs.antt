-- A merged list as a run of one world.
use Rattle.std.specs.Prelude.{◌≡◌, ◌≤◌, ℕ, List, Option, Some, length}
use Rattle.std.specs.Option.{option_map}
use Rattle.txn_store.specs.Store.{State as StoreState}
use Rattle.txn_history.specs.Lists.{numbered}
use Rattle.txn_history.specs.Trace.{Event, Told}
use Rattle.txn_machine.specs.views.Layer.{Used}
use Rattle.txn_machine.specs.declared.doing.Operation.{Operation}
use Rattle.txn_machine.specs.Machine.{State, opening, RunsOrLacks}
use Rattle.txn_client_journals.specs.Parts.{Part}
use Rattle.txn_client_journals.specs.Numbers.{number}
use Rattle.txn_client_journals.specs.Merged.{Merged, begins_of, views_of}
use Rattle.txn_client_journals.specs.Traces.{trace_of, loose_of, failed_of}

module _ {T : Type 0} where
  -- an operation of a client, by the numbers of all
  abbrev pub operation_in : Merged T → ℕ → Operation T → Operation T
  operation_in m client operation = record { client = operation.client; view = option_map (number (views_of m) client) operation.view; claims = operation.claims; doing = operation.doing }

  -- a view of a client, by the numbers of all
  abbrev pub used_in : Merged T → ℕ → Used T → Used T
  used_in m client used = record { view = used.view; busy = option_map (number (begins_of m) client) used.busy }

module _ {T : Type 0} (page : ℕ) (encode : T → List ℕ) (decode : List ℕ → Option T) (get_epoch : T → ℕ) (set_epoch : T → ℕ → T) where
  -- The list is a run of a world of so many clients: some events lead there from its opening, where a serve may lack memory. It ends with the list's trace, failures and loose requests, with this store, and with what each client keeps: its caches, its operations and its views, and no others.
  pub record IsRun (clients : ℕ) (m : Merged T) (parts : ℕ → Part T) (store : StoreState) : Type 0 where
    pub taken : List (Event T × Told T)
    pub state : State T
    pub runs : RunsOrLacks encode decode get_epoch set_epoch (opening clients page) taken state
    pub trace : state.trace ≡ trace_of m
    pub failed : state.failed ≡ failed_of m
    pub loose : state.loose ≡ loose_of m
    pub store_is : state.store ≡ store
    pub caches : (client : ℕ) → 1 ≤ client → client ≤ clients → numbered state.caches client ≡ Some (parts client).caches
    pub all_operations : length state.operations ≡ length (begins_of m)
    pub operations : (client k : ℕ) (operation : Operation T) → numbered (parts client).operations k ≡ Some operation → numbered state.operations (number (begins_of m) client k) ≡ Some (operation_in m client operation)
    pub all_views : length state.views ≡ length (views_of m)
    pub views : (client k : ℕ) (used : Option (Used T)) → numbered (parts client).views k ≡ Some used → numbered state.views (number (views_of m) client k) ≡ Some (option_map (used_in m client) used)
