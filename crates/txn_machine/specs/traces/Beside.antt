-- What stands beside a trace, so that it is looked up and not searched for.
use Rattle.std.specs.Prelude.{◌≡◌, ◌⊎◌, ℕ, List, length, map, if◌then◌else◌, Bool, true, Option, Some, None}
use Rattle.txn_store.specs.declared.request.Request.{Request}
use Rattle.txn_store.specs.declared.request.Request.TheVariants as requests
use Rattle.txn_history.specs.declared.event.PlainAnswer.{PlainAnswer}
use Rattle.txn_history.specs.declared.event.PlainAnswer.TheVariants as plain_answers
use Rattle.txn_history.specs.declared.event.Answer.{Answer}
use Rattle.txn_history.specs.declared.event.Answer.TheVariants as answers
use Rattle.txn_machine.specs.declared.doing.Ending.{Ending}
use Rattle.txn_machine.specs.declared.doing.Ending.TheVariants as endings
use Rattle.txn_history.specs.History.{Version, is_boundary, boundary_said, epoch_in}

-- the boundary after a request that changed the store, by the boundary before it
abbrev pub boundary_after : ℕ → Request → ℕ
boundary_after before (requests.Put path bytes mode) = if is_boundary path then boundary_said (Some bytes) else before
boundary_after before (requests.Get path known) = before
boundary_after before (requests.List prefix after limit) = before
boundary_after before (requests.Delete path) = if is_boundary path then 0 else before

-- an id, where there is one, passes the test
abbrev pub is_among : (ℕ → Bool) → Option ℕ → Bool
is_among has None = true
is_among has (Some id) = has id

module _ {T : Type 0} (decode : List ℕ → Option T) (get_epoch : T → ℕ) where
  -- the epoch of the value that bytes are read as, 0 where they are not read
  abbrev pub epoch_read : List ℕ → ℕ
  epoch_read bytes = epoch_in get_epoch (Some (decode bytes))

  -- the epoch of each version
  abbrev pub epochs_of : List Version → List ℕ
  epochs_of versions = map (λ version. epoch_read version.1) versions

  -- the epoch of a version that is created, 0 where none is
  abbrev pub epoch_made : Option Version → ℕ
  epoch_made None = 0
  epoch_made (Some version) = epoch_read version.1

module _ {T : Type 0} where
  -- how many ids an answer of a call without a view tells
  abbrev pub plain_count : PlainAnswer T → ℕ
  plain_count (plain_answers.Wrote id) = 1
  plain_count (plain_answers.Read None) = 0
  plain_count (plain_answers.Read (Some found)) = 1
  plain_count (plain_answers.Ids ids) = length ids
  plain_count (plain_answers.Value value) = 0
  plain_count plain_answers.Done = 0
  plain_count (plain_answers.Refused number) = 0

  -- how many ids an answer tells
  abbrev pub told_count : Answer T → ℕ
  told_count (answers.Plain answer) = plain_count answer
  told_count (answers.View view id value) = 1
  told_count (answers.Held view id value epoch) = 1

  -- how many ids an answer tells at most, by how its operation ends
  abbrev pub ending_count : Ending T → ℕ
  ending_count (endings.Answers answer) = plain_count answer
  ending_count (endings.Comes outcome) = 1

  -- a list of ids is answered
  abbrev pub AreIds : Option (Ending T) → Type 0
  AreIds (Some (endings.Answers (plain_answers.Ids ids))) = Unit {0}
  AreIds ending = ⊥

  -- an ending stays, or a growth for the ids of a list was refused
  abbrev pub IsAfforded : Option (Ending T) → Option (Ending T) → Type 0
  IsAfforded ending new = (new ≡ ending) ⊎ ((new ≡ Some (endings.Answers (plain_answers.Refused 9))) × AreIds ending)
