-- What a kill does, place by place.
use Rattle.std.specs.Prelude.{◌≡◌, ℕ, List, Option, Some, None, if◌then◌else◌, slice_set, slice_get, ◌==◌}
use Rattle.txn_store.specs.declared.request.Request.{Request}
use Rattle.txn_machine.specs.declared.doing.Operation.{Operation}
use Rattle.txn_machine.specs.Doing.{asked}
use Rattle.txn_machine.specs.Machine.{ended_by}
use Rattle.txn_client_journals.specs.tables.Operations.{loose_of}

module _ {T : Type 0} where
  -- what an operation leaves, where it is this client's
  abbrev pub left_here : ℕ → Operation T → Option Request
  left_here client operation = if operation.client == client then loose_of (asked operation.doing) else None

  -- The operation at this place has ended, where it is this client's.
  pub record EndsAt (client place : ℕ) (old new : List (Operation T)) : Type 0 where
    pub operation : Operation T
    pub found : slice_get old place ≡ Some operation
    pub ended : new ≡ slice_set old place (ended_by client operation)
