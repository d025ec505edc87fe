-- Which operations run, by client.
use Rattle.std.specs.Prelude.{ℕ, List, [], ◌∷◌, ◌++◌, ◌==◌, ◌&&◌, Bool, false, if◌then◌else◌, Option, Some, None, is_some}
use Rattle.txn_store.specs.declared.request.Request.{Request}
use Rattle.txn_history.specs.Lists.{numbered}
use Rattle.txn_history.specs.GoesOn.{left_loose}
use Rattle.txn_machine.specs.declared.doing.Operation.{Operation}
use Rattle.txn_machine.specs.Doing.{asked, ended}
use Rattle.txn_machine.specs.Machine.{doing_next}
use Rattle.txn_client_journals.specs.tables.Operations.{asked_by}

module _ {T : Type 0} where
  -- it is there, is this client's, and has not ended
  abbrev pub runs_as : ℕ → Option (Operation T) → Bool
  runs_as client None = false
  runs_as client (Some operation) = operation.client == client && is_some (asked operation.doing)

  -- the operation runs, and is this client's
  abbrev pub runs_for : List (Operation T) → ℕ → ℕ → Bool
  runs_for operations client op = runs_as client (numbered operations op)

  -- the requests that these operations leave loose, in this order
  abbrev pub requests_left : List (Operation T) → List ℕ → List (ℕ × Request)
  requests_left operations [] = []
  requests_left operations (op ∷ ops) = left_loose op (asked_by operations op) ++ requests_left operations ops

  -- an operation, ended where this is so
  abbrev pub ended_where : Bool → Option (Operation T) → Option (Operation T)
  ended_where ends None = None
  ended_where ends (Some operation) = Some (if ends then doing_next operation ended else operation)
