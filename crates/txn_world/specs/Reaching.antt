-- That the request of an operation reached the store.
use Rattle.std.specs.Prelude.{◌≡◌, ℕ, List, ◌++◌, Some}
use Rattle.txn_store.specs.Store.{State as StoreState}
use Rattle.txn_store.specs.Requests.{Serves}
use Rattle.txn_store.specs.declared.request.Request.{Request}
use Rattle.txn_store.specs.declared.request.Reply.{Reply}
use Rattle.txn_history.specs.Added.{effect_rows}
use Rattle.txn_history.specs.Seen.{Store}
use Rattle.txn_history.specs.Trace.{Row}
use Rattle.txn_machine.specs.declared.doing.Operation.{Operation}
use Rattle.txn_machine.specs.plain.Machine.{effect_of}
use Rattle.txn_client_journals.specs.tables.Operations.{asked_by}

-- The store served what the operation asks for, and has its row where it changed the store.
pub record IsServed {T : Type 0} (operations : List (Operation T)) (op : ℕ) (old : StoreState) (rows : List (Row T)) (reply : Reply) (new : StoreState) (after : List (Row T)) : Type 0 where
  pub request : Request
  pub asks : asked_by operations op ≡ Some (Store request)
  pub serves : Serves request old reply new
  pub added : after ≡ rows ++ effect_rows op (effect_of old.files request reply)
