-- How the history of clients that shared only a store ends: how many entries it has, and where its boundary stands.
use Rattle.std.specs.Prelude.{◌≡◌, ◌≤◌, ℕ, List, [], ◌∷◌, ◌+◌, ◌||◌, nat_eq, reverse, if◌then◌else◌, Option, None, Ok}
use Rattle.std.specs.HashSet.{HashSet, contains, hash_set_len}
use Rattle.txn_store.specs.Store.{State as StoreState}
use Rattle.txn_store.specs.declared.request.Request.{Request}
use Rattle.txn_store.specs.declared.request.Request.TheVariants as requests
use Rattle.txn_store.specs.declared.request.Reply.{Reply}
use Rattle.txn_store.specs.declared.request.Reply.TheVariants as replies
use Rattle.txn_history.specs.History as history
use Rattle.txn_history.specs.History.{Version, is_id, created, with_version}
use Rattle.txn_history.specs.Trace.{Row}
use Rattle.txn_machine.specs.plain.Machine.{took}
use Rattle.txn_machine.specs.traces.Beside.{boundary_after, is_among}
use Rattle.txn_client_journals.specs.declared.rows.LogRow.{LogRow}
use Rattle.txn_client_journals.specs.Logs.{IsLog}
use Rattle.txn_client_journals.specs.Merged.{Merged}
use Rattle.txn_client_journals.specs.Traces.{trace_of}
use Rattle.txn_client_journals.specs.Verdict.{AuditedDiary}
use Rattle.txn_client_journals.specs.Shares.{Merges, ShareOnlyTheStore}

module _ {T : Type 0} where
  -- the history of a trace has so many entries, and its boundary stands there
  pub record EndsAt (rows : List (Row T)) (entries boundary : ℕ) : Type 0 where
    pub newest : history.newest rows ≡ entries
    pub stands : history.boundary rows ≡ boundary

-- Where clients of such values shared only the store of this log, each list that merges their diaries in the order of the log has a history that ends there.
abbrev pub HistoriesEndAt : Type 0 → List LogRow → ℕ → ℕ → Type 0
HistoriesEndAt T log entries boundary =
    (page clients : ℕ) (encode : T → List ℕ) (decode : List ℕ → Option T) (get_epoch : T → ℕ) (set_epoch : T → ℕ → T) (ds : List (AuditedDiary T)) (store : StoreState) → 1 ≤ page → IsLog (reverse log) store → ShareOnlyTheStore page encode decode get_epoch set_epoch clients log ds store →
    (m : Merged T) → Merges log ds m → EndsAt (trace_of (reverse m)) entries boundary

-- Words of private contracts. Here the newest row of a log stands first.

-- An id, where there is one, is among those of a set, whose length is their number.
pub record IsEntered {S : Type 0} (old new : HashSet ℕ S) (id : Option ℕ) : Type 0 where
  pub has : (n : ℕ) → contains nat_eq new n ≡ (contains nat_eq old n || is_id n id)
  pub counted : hash_set_len new ≡ hash_set_len old + (if is_among (contains nat_eq old) id then 0 else 1)

-- the version that a row creates
abbrev pub created_by : LogRow → Option Version
created_by row = if took row.reply then created row.request else None

-- the versions that a log creates, each by its first create
abbrev pub versions_in : List LogRow → List Version
versions_in [] = []
versions_in (row ∷ log) = with_version (versions_in log) (created_by row)

-- the boundary after a request and its reply
abbrev pub boundary_by : ℕ → Request → Reply → ℕ
boundary_by before (requests.Put path bytes mode) (replies.Put (Ok token)) = boundary_after before (requests.Put path bytes mode)
boundary_by before (requests.Delete path) (replies.Delete (Ok done)) = boundary_after before (requests.Delete path)
boundary_by before request reply = before

-- where a log leaves the boundary
abbrev pub boundary_in : List LogRow → ℕ
boundary_in [] = 0
boundary_in (row ∷ log) = boundary_by (boundary_in log) row.request row.reply
