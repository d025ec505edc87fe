-- The log of a store: whose calls it served, and what it replied. Rows stand newest first.
use Rattle.std.specs.Prelude.{◌≡◌, List, [], ◌∷◌, Ok}
use Rattle.std.specs.FinMap.{empty, insert, remove}
use Rattle.txn_store.specs.Store.{Files, State as StoreState}
use Rattle.txn_store.specs.Requests.{Serves}
use Rattle.txn_store.specs.declared.request.Request.{Request}
use Rattle.txn_store.specs.declared.request.Request.TheVariants as requests
use Rattle.txn_store.specs.declared.request.Reply.{Reply}
use Rattle.txn_store.specs.declared.request.Reply.TheVariants as replies
use Rattle.txn_machine.specs.plain.Machine.{empty_store}
use Rattle.txn_client_journals.specs.declared.rows.LogRow.{LogRow}

-- The log leads from the empty store to this one: each reply is one that the store may give at its point, and none is a failure.
abbrev pub IsLog : List LogRow → StoreState → Type 0
IsLog [] store = store ≡ empty_store
IsLog (row ∷ log) store = (before : StoreState) × IsLog log before × Serves row.request before row.reply store × (store.failures ≡ 0)

-- the files after a request and its reply
abbrev pub files_after : Files → Request → Reply → Files
files_after files (requests.Put path bytes mode) (replies.Put (Ok token)) = insert files path (record { bytes = bytes; token = token })
files_after files (requests.Delete path) (replies.Delete (Ok done)) = remove files path
files_after files _ _ = files

-- the files after a log
abbrev pub files_of : List LogRow → Files
files_of [] = empty
files_of (row ∷ log) = files_after (files_of log) row.request row.reply
