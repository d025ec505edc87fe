-- What a store does of what an operation asks for.
use Rattle.std.specs.Prelude.{◌≡◌, Option, Some, None}
use Rattle.txn_store.specs.Store.{State}
use Rattle.txn_store.specs.Requests.{HasLimit, Serves}
use Rattle.txn_store.specs.declared.request.Request.{Request}
use Rattle.txn_store.specs.declared.request.Reply.{Reply}

-- a page that is asked for has room for one file at least
abbrev pub CanServe : Option Request → Type 0
CanServe None = Unit {0}
CanServe (Some request) = HasLimit request

-- a request is served, and a look leaves the store
abbrev pub Replies : Option Request → State → Option Reply → State → Type 0
Replies None old None new = new ≡ old
Replies (Some request) old (Some reply) new = Serves request old reply new
Replies None old (Some reply) new = ⊥
Replies (Some request) old None new = ⊥
