-- How an operation takes its turn, or ends, among those of all clients.
use Rattle.std.specs.Prelude.{◌≡◌, ◌-◌, ℕ, List, Option, Some, slice_set}
use Rattle.txn_store.specs.declared.request.Reply.{Reply}
use Rattle.txn_steps.specs.declared.boundary.caches.Caches.{Caches}
use Rattle.txn_history.specs.Lists.{numbered}
use Rattle.txn_machine.specs.declared.doing.Operation.{Operation}
use Rattle.txn_machine.specs.declared.doing.Ending.{Ending}
use Rattle.txn_client_journals.specs.tables.Operations.{Ends, TakesTurn}

module _ {T : Type 0} where
  -- The operation ends, and its client's caches stay.
  pub record EndsAmong (old : List (Operation T)) (caches : List Caches) (op : ℕ) (new : List (Operation T)) : Type 0 where
    pub ends : Ends old op new
    pub keeps : Caches
    pub kept : numbered caches ends.operation.client ≡ Some keeps

module _ {T : Type 0} (page : ℕ) (encode : T → List ℕ) (decode : List ℕ → Option T) (get_epoch : T → ℕ) (set_epoch : T → ℕ → T) where
  -- The operation takes its turn with its client's caches; those of the others stay.
  pub record TurnsAmong (old : List (Operation T)) (caches : List Caches) (op : ℕ) (reply : Option Reply) (new : List (Operation T)) (left : List Caches) (ending : Option (Ending T)) : Type 0 where
    pub keeps : Caches
    pub rest : Caches
    pub turn : TakesTurn page encode decode get_epoch set_epoch old keeps op reply new rest ending
    pub kept : numbered caches turn.operation.client ≡ Some keeps
    pub leaves : left ≡ slice_set caches (turn.operation.client - 1) rest
