-- A store that its log leads to, and what it is to be served by it.
use Rattle.std.specs.Prelude.{◌≡◌, None, ℕ, List, [], ◌∷◌, ◌++◌, length, reverse}
use Rattle.txn_store.specs.Store.{State as StoreState, Kept}
use Rattle.txn_store.specs.declared.request.Request.{Request}
use Rattle.txn_store.specs.declared.request.Request.TheVariants as requests
use Rattle.txn_store.specs.declared.request.Reply.{Reply}
use Rattle.txn_store.specs.declared.request.Reply.TheVariants as replies
use Rattle.txn_client_journals.specs.declared.rows.LogRow.{LogRow}
use Rattle.txn_client_journals.specs.declared.rows.Receipt.{Receipt}
use Rattle.txn_client_journals.specs.Logs.{IsLog}

-- a reply is of the request's kind
abbrev pub IsOfKind : Request → Reply → Type 0
IsOfKind (requests.Put path bytes mode) (replies.Put answer) = Unit {0}
IsOfKind (requests.Get path known) (replies.Get answer) = Unit {0}
IsOfKind (requests.List prefix after limit) (replies.List answer) = Unit {0}
IsOfKind (requests.Delete path) (replies.Delete answer) = Unit {0}
IsOfKind _ _ = ⊥

-- The log, the oldest row first, leads from the empty store to this one, its counts of calls aside.
pub record IsLogged (log : List LogRow) (now : StoreState) : Type 0 where
  pub store : StoreState
  pub leads : IsLog (reverse log) store
  pub kept : Kept store now

-- a receipt of this request, with a reply of its kind
pub record IsReceiptOf (request : Request) (receipt : Receipt) : Type 0 where
  pub request_is : receipt.request ≡ request
  pub kind : IsOfKind request receipt.reply

-- A client's request was served: the receipt is of it, and the log has one row more, of this client, the request and the reply, which the client took.
pub record ServedLogged (old : List LogRow) (client : ℕ) (request : Request) (receipt : Receipt) (new : List LogRow) : Type 0 where
  pub place : receipt.place ≡ length old
  pub request_is : receipt.request ≡ request
  pub kind : IsOfKind request receipt.reply
  pub log : new ≡ old ++ record { client = client; request = request; reply = receipt.reply; landed = None } ∷ []

-- A word of private contracts: the reply of a call that leaves the files.
abbrev pub LeavesFiles : Reply → Type 0
LeavesFiles (replies.Get answer) = Unit {0}
LeavesFiles (replies.List answer) = Unit {0}
LeavesFiles _ = ⊥
