-- How what stands beside the rows goes on with an event: which operations run, what is loose, and which views are made, move and end.
use Rattle.std.specs.Prelude.{◌≡◌, ℕ, List, [], ◌∷◌, ◌++◌, ◌+◌, ◌==◌, ◌&&◌, not, Bool, false, if◌then◌else◌, Option, Some, None, is_some, map}
use Rattle.txn_store.specs.declared.request.Request.{Request}
use Rattle.txn_store.specs.declared.request.Request.TheVariants as requests
use Rattle.txn_history.specs.declared.event.EventOf.{EventOf}
use Rattle.txn_history.specs.declared.event.EventOf.TheVariants as events
use Rattle.txn_history.specs.declared.event.Failure.TheVariants as failures
use Rattle.txn_history.specs.declared.event.ToldOf.{ToldOf}
use Rattle.txn_history.specs.declared.event.ToldOf.TheVariants as told
use Rattle.txn_history.specs.Seen.{Ask, Store, Operation, Seen, asks_of, AllSeen, view_of}
use Rattle.std.specs.List.{list_any}
use Rattle.std.specs.Option.{option_map}
use Rattle.txn_history.specs.declared.trace.RowOf.TheVariants.{Begun}
use Rattle.txn_history.specs.Lists.{numbered}
use Rattle.txn_history.specs.declared.event.ViewCall.TheVariants as view_calls
use Rattle.txn_history.specs.declared.event.Call.TheVariants as calls
use Rattle.txn_history.specs.declared.event.Answer.{Answer}
use Rattle.txn_history.specs.declared.event.Answer.TheVariants as answers
use Rattle.txn_history.specs.Trace.{Row, Event, Told}
use Rattle.txn_history.specs.Views.{View, ViewsGoOn, id_shown}

-- a put or a delete: the requests that may become loose
abbrev pub may_be_loose : Ask → Option Request
may_be_loose (Store (requests.Put path bytes mode)) = Some (requests.Put path bytes mode)
may_be_loose (Store (requests.Delete path)) = Some (requests.Delete path)
may_be_loose _ = None

-- a request of an operation as a loose one, if there is one
abbrev pub as_loose : ℕ → Option Request → List (ℕ × Request)
as_loose op None = []
as_loose op (Some request) = (op, request) ∷ []

-- the request that an operation leaves loose where it ends
abbrev pub left_loose : ℕ → Option Ask → List (ℕ × Request)
left_loose op None = []
left_loose op (Some ask) = as_loose op (may_be_loose ask)

-- the client of an operation, and whether it runs
abbrev pub state_of : Operation → ℕ × Bool
state_of operation = (operation.client, is_some operation.asks)

-- the requests that the operations of a client leave loose, in the order of their numbers, the first of them being this
abbrev pub all_left_loose : ℕ → ℕ → List Operation → List (ℕ × Request)
all_left_loose client op [] = []
all_left_loose client op (operation ∷ rest) = (if operation.client == client then left_loose op operation.asks else []) ++ all_left_loose client (op + 1) rest

module _ {C : Type 0} where
  -- the loose requests after an event
  abbrev pub loose_after : Seen → EventOf C → List (ℕ × Request)
  loose_after seen (events.Fail op failures.Loose) = seen.loose ++ left_loose op (asks_of seen op)
  loose_after seen (events.GiveUp op) = seen.loose ++ left_loose op (asks_of seen op)
  loose_after seen (events.Crash client) = seen.loose ++ all_left_loose client 1 seen.operations
  loose_after seen _ = seen.loose

  -- the operations whose store call failed, after an event
  abbrev pub failed_after : Seen → EventOf C → List ℕ
  failed_after seen (events.Fail op failure) = seen.failed ++ op ∷ []
  failed_after seen _ = seen.failed

  -- the client of an event's new operation
  abbrev pub begins_for : EventOf C → Option ℕ
  begins_for (events.Begin client call) = Some client
  begins_for _ = None

module _ {A : Type 0} where
  -- what is told ends an operation of this client
  abbrev pub ends_operation : ToldOf A → ℕ → ℕ → Bool
  ends_operation (told.Answered o answer) client op = o == op
  ends_operation (told.GaveUp o) client op = o == op
  ends_operation (told.Crashed c) client op = c == client
  ends_operation _ client op = false

  -- the same of an operation of this number, after what is told
  abbrev pub state_after : ToldOf A → ℕ → Operation → ℕ × Bool
  state_after t op operation = (operation.client, is_some operation.asks && not (ends_operation t operation.client op))

  -- the operations after what is told, by their states, the first of them being this
  abbrev pub states_after : ToldOf A → ℕ → List Operation → Option ℕ → List (ℕ × Bool)
  states_after t op [] None = []
  states_after t op [] (Some client) = (client, not (ends_operation t client op)) ∷ []
  states_after t op (operation ∷ rest) begun = state_after t op operation ∷ states_after t (op + 1) rest begun

module _ {C A : Type 0} where
  -- What stands beside the rows goes on with an event that told this.
  pub record OperationsGoOn (seen : Seen) (event : EventOf C) (t : ToldOf A) (new : Seen) : Type 0 where
    pub clients : new.clients ≡ seen.clients
    pub operations : map state_of new.operations ≡ states_after t 1 seen.operations (begins_for event)
    pub loose : new.loose ≡ loose_after seen event
    pub failed : new.failed ≡ failed_after seen event

module _ {T : Type 0} where
  -- the operation began as a claim on this view
  abbrev pub is_claim_on : ℕ → ℕ → Row T → Bool
  is_claim_on number op (Begun o (calls.View (view_calls.Claim view))) = (o == op) && (view == number)
  is_claim_on number op (Begun o (calls.View (view_calls.ClaimAt view epoch))) = (o == op) && (view == number)
  is_claim_on number op _ = false

  -- what is told ends this view of this client: a crash, or a claim on it that ends and is not held
  abbrev pub ends_view : List (Row T) → Told T → ℕ → ℕ → Bool
  ends_view rows (told.Answered op (answers.Held view id value epoch)) client number = false
  ends_view rows (told.Answered op answer) client number = list_any (is_claim_on number op) rows
  ends_view rows (told.GaveUp op) client number = list_any (is_claim_on number op) rows
  ends_view rows (told.Crashed c) client number = c == client
  ends_view rows _ client number = false

  -- The view that an answer shows stands at that id, and is the client's whose operation was answered.
  pub record IsShown (new : AllSeen T) (op number id : ℕ) : Type 0 where
    pub view : View T
    pub stands : view_of new number ≡ Some view
    pub same : view.id ≡ id
    pub client : option_map (λ operation. operation.client) (numbered new.calls.operations op) ≡ Some view.client

  -- What stands beside the rows goes on with an event that told this; the rows are those after it.
  pub record GoesOn (seen : AllSeen T) (event : Event T) (t : Told T) (rows : List (Row T)) (new : AllSeen T) : Type 0 where
    pub calls : OperationsGoOn seen.calls event t new.calls
    pub views : ViewsGoOn seen.views new.views
    pub ended : (number : ℕ) (view : View T) → view_of seen number ≡ Some view → is_some (view_of new number) ≡ not (ends_view rows t view.client number)
    pub shown : (op number id : ℕ) (answer : Answer T) → t ≡ told.Answered op answer → id_shown number answer ≡ Some id → IsShown new op number id
