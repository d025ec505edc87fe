-- A request, and the reply that a store may give to it.
use Rattle.std.specs.Prelude.{◌≤◌}
use Rattle.txn_store.specs.Store.{State, Puts, Gets, Lists, Deletes}
use Rattle.txn_store.specs.declared.request.Request.{Request}
use Rattle.txn_store.specs.declared.request.Request.TheVariants.{Put, Get, List, Delete}
use Rattle.txn_store.specs.declared.request.Reply.{Reply}
use Rattle.txn_store.specs.declared.request.Reply.TheVariants.{Put as PutReply, Get as GetReply, List as ListReply, Delete as DeleteReply}

-- a listing's page has room for one file at least
abbrev pub HasLimit : Request → Type 0
HasLimit (Put path bytes mode) = Unit {0}
HasLimit (Get path known) = Unit {0}
HasLimit (List prefix after limit) = 1 ≤ limit
HasLimit (Delete path) = Unit {0}

-- the reply is of the request's kind, and one that the call may give
abbrev pub Serves : Request → State → Reply → State → Type 0
Serves (Put path bytes mode) old (PutReply result) new = Puts path bytes mode old result new
Serves (Get path known) old (GetReply result) new = Gets path known old result new
Serves (List prefix after limit) old (ListReply result) new = Lists prefix after limit old result new
Serves (Delete path) old (DeleteReply result) new = Deletes path old result new
Serves _ old _ new = ⊥
