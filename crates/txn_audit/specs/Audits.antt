-- What an audit of clients with diaries says. All lists have the oldest first.
use Rattle.std.specs.Prelude.{◌≡◌, ◌≤◌, ℕ, List, Option, Result, Ok, reverse}
use Rattle.txn_store.specs.Store.{State as StoreState}
use Rattle.txn_client_journals.specs.declared.rows.LogRow.{LogRow}
use Rattle.txn_client_journals.specs.declared.fault.AuditFault.{AuditFault}
use Rattle.txn_client_journals.specs.Logs.{IsLog}
use Rattle.txn_client_journals.specs.Verdict.{AuditedDiary, IsDue, clients_in}
use Rattle.txn_client_journals.specs.Shares.{AreDiaries, ShareOnlyTheStore}

module _ {T : Type 0} (page : ℕ) (encode : T → List ℕ) (decode : List ℕ → Option T) (get_epoch : T → ℕ) (set_epoch : T → ℕ → T) where
  -- The log is that of some store, each diary keeps what its journal leads to, and the verdict is the one that is due on them. So where it agrees, the clients shared only the store, in a world of any number of clients that has room for them.
  pub record AuditsDiaries (log : List LogRow) (ds : List (AuditedDiary T)) (verdict : Result (Unit {0}) AuditFault) : Type 0 where
    pub store : StoreState
    pub leads : IsLog (reverse log) store
    pub replay : AreDiaries page encode decode get_epoch set_epoch ds
    pub due : IsDue log ds verdict
    pub shared : verdict ≡ Ok tt → (clients : ℕ) → clients_in ds ≤ clients → ShareOnlyTheStore page encode decode get_epoch set_epoch clients log ds store
