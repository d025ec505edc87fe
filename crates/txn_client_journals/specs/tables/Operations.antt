-- What an operation of a client asks for, and how it takes its turn, or ends.
use Rattle.std.specs.Prelude.{◌≡◌, ℕ, List, Option, Some, None}
use Rattle.txn_store.specs.declared.request.Request.{Request}
use Rattle.txn_store.specs.declared.request.Reply.{Reply}
use Rattle.txn_steps.specs.declared.boundary.caches.Caches.{Caches}
use Rattle.txn_history.specs.Lists.{numbered}
use Rattle.txn_history.specs.Seen.{Ask, Store, Look}
use Rattle.txn_history.specs.GoesOn.{may_be_loose}
use Rattle.txn_machine.specs.declared.doing.Operation.{Operation}
use Rattle.txn_machine.specs.declared.doing.Ending.{Ending}
use Rattle.txn_machine.specs.Doing.{Next, IsReply, InRange, Turns, asked, caches_after, ended}
use Rattle.txn_machine.specs.Machine.{with_doing}
use Rattle.txn_client_journals.specs.declared.tables.operations.Usage.{Usage}

-- the request of an ask for a store call
abbrev pub request_of : Option Ask → Option Request
request_of None = None
request_of (Some (Store request)) = Some request
request_of (Some Look) = None

-- the put or the delete of an ask, where there is one
abbrev pub loose_of : Option Ask → Option Request
loose_of None = None
loose_of (Some ask) = may_be_loose ask

module _ {T : Type 0} where
  -- what it asks for, if it is there
  abbrev pub asked_of : Option (Operation T) → Option Ask
  asked_of None = None
  asked_of (Some operation) = asked operation.doing

  -- what an operation asks for: nothing where there is none, or it has ended
  abbrev pub asked_by : List (Operation T) → ℕ → Option Ask
  asked_by operations op = asked_of (numbered operations op)

  -- whose an operation is, and the view that it uses
  abbrev pub usage_of : Operation T → Usage
  usage_of operation = record { client = operation.client; view = operation.view; claims = operation.claims }

  -- The operation is there, and takes this: a reply of the kind that it asks for, or none where it asks for a look.
  pub record TakesReply (operations : List (Operation T)) (op : ℕ) (reply : Option Reply) : Type 0 where
    pub operation : Operation T
    pub found : numbered operations op ≡ Some operation
    pub kind : IsReply operation.doing reply
    pub range : InRange operation.doing

  -- The operation ends without an answer.
  pub record Ends (old : List (Operation T)) (op : ℕ) (new : List (Operation T)) : Type 0 where
    pub operation : Operation T
    pub found : numbered old op ≡ Some operation
    pub operations : new ≡ with_doing old op operation ended

module _ {T : Type 0} (page : ℕ) (encode : T → List ℕ) (decode : List ℕ → Option T) (get_epoch : T → ℕ) (set_epoch : T → ℕ → T) where
  -- The operation takes a look or a reply, perhaps with a growth refused, and leaves its client's caches so.
  pub record TakesTurn (old : List (Operation T)) (caches : Caches) (op : ℕ) (reply : Option Reply) (new : List (Operation T)) (left : Caches) (ending : Option (Ending T)) : Type 0 where
    pub operation : Operation T
    pub found : numbered old op ≡ Some operation
    pub next : Next T
    pub turns : Turns page encode decode get_epoch set_epoch operation.doing caches reply next
    pub ends : ending ≡ next.1
    pub operations : new ≡ with_doing old op operation next.0
    pub leaves : left ≡ caches_after operation.doing caches next.1
