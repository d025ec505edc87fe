-- What a world shows beside its rows, since rows do not show it: its clients, each operation's client and what it asks
-- for, the loose requests, the operations whose store call failed, and the views as they stand.
-- Give-ups, crashes, failures and landings without effect add no rows.
use Rattle.std.specs.Prelude.{ℕ, List, Option, Some, None}
use Rattle.txn_store.specs.declared.request.Request.{Request}
use Rattle.txn_history.specs.Lists.{numbered}
use Rattle.txn_history.specs.Views.{View}

-- what an operation asks for: a store call, or a look at its client's caches
pub data Ask : Type 0 where
  Store : (request : Request) → Ask
  Look : Ask

-- an operation's client, and what it asks for: nothing where it has ended
pub record Operation : Type 0 where
  pub client : ℕ
  pub asks : Option Ask

-- Each list is in the order of the numbers, from 1 on. A loose request stands with its operation.
pub record Seen : Type 0 where
  pub clients : ℕ
  pub operations : List Operation
  pub loose : List (ℕ × Request)
  pub failed : List ℕ

-- what it asks for, if it is there
abbrev pub asks_in : Option Operation → Option Ask
asks_in None = None
asks_in (Some operation) = operation.asks

-- what an operation asks for: nothing where there is none, or it has ended
abbrev pub asks_of : Seen → ℕ → Option Ask
asks_of seen op = asks_in (numbered seen.operations op)

-- The views are in the order of their numbers, from 1 on. An ended view is none.
pub record AllSeen (T : Type 0) : Type 0 where
  pub calls : Seen
  pub views : List (Option (View T))

-- the view, if it is there
abbrev pub view_in : {T : Type 0} → Option (Option (View T)) → Option (View T)
view_in None = None
view_in (Some view) = view

-- the view of this number: none where there is none, or it has ended
abbrev pub view_of : {T : Type 0} → AllSeen T → ℕ → Option (View T)
view_of seen number = view_in (numbered seen.views number)
